use Rattle.std.proofs.Common.{◌≡◌, sym, subst}
use Rattle.std.specs.Prelude.{IfOk}
use Rattle.redo_view.specs.Private.Viewing.{WroteEvents, nested_log, own_events}
use Rattle.redo_view.proofs.viewer.Viewer.show_entry.Goals as goal

pub returns-in-Mention-clause-own_events : goal.returns-in-Mention-clause-own_events
returns-in-Mention-clause-own_events g c =
    subst (λ entry. WroteEvents g.F.Form.bytes g.F.Form.after g.W.Sink.written c.args.self.now c.show_mention.new.self
    (own_events c.args.self.now c.args.depth entry) c.show_mention.result) (sym c.in-Mention.is) c.show_mention.ensures.own_events

pub returns-in-Mention-clause-nested_log : goal.returns-in-Mention-clause-nested_log
returns-in-Mention-clause-nested_log g c =
    subst (λ entry. IfOk c.show_mention.result (λ inner. inner ≡ nested_log c.args.self.now entry))
    (sym c.in-Mention.is) c.show_mention.ensures.nested_log
