use Rattle.std.proofs.Common.{sym, ap, rules, ◌∙◌}
use Rattle.redo_wire.proofs.Knowing.{puts_at}
use Rattle.redo_wire.proofs.mailbox.PostEnd.post.Goals as goal

pub send_as-requires-clause-rule : goal.send_as-requires-clause-rule
send_as-requires-clause-rule g c = puts_at _ _ _ _ _ _ _ c.self.invariant.view_is (c.requires ∙ sym (ap (λ end. end.number) c.self.view_is))

pub returns-clause-posted : goal.returns-clause-posted
returns-clause-posted g c = search rules

pub returns-clause-returned : goal.returns-clause-returned
returns-clause-returned g c = search rules
