use Rattle.std.proofs.Common.{◌≡◌, ◌↔◌, true, sym, ap, subst, ◌∙◌}
use Rattle.std.specs.List.{list_all}
use Rattle.redo_wire.specs.Mailbox.{AreAllMet, TakeEndState}
use Rattle.redo_wire.specs.Private.Ends.{collector_of}
use Rattle.redo_wire.proofs.Flags.{all_are_met}
use Rattle.redo_wire.proofs.mailbox.TakeEnd.all_met.Goals as goal

pub returns : goal.returns
returns c =
    let is = c.are_all_set.ensures ∙ ap (list_all (λ flag. flag)) c.deref.ensures.value in
    subst (λ (collector : TakeEndState). c.are_all_set.result ≡ true ↔ AreAllMet collector) c.self.view_is
    (subst (λ b. b ≡ true ↔ AreAllMet (collector_of c.self.inside.pass)) (sym is)
    (all_are_met _ c.self.inside.met.items _ c.self.invariant.count c.self.invariant.flags_are))
