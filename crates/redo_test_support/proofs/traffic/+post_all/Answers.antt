use Rattle.std.proofs.Common.{ap, ◌∙◌}
use Rattle.redo_wire.specs.Mailbox.{TakeEndState}
use Rattle.redo_test_support.proofs.traffic.+post_all.Goals as goal

pub returns : goal.returns
returns g t c = ap (λ (m : TakeEndState). m.mailbox) c.meet.ensures.met ∙ c.post_all.ensures

pub returns-in_default : goal.returns-in_default
returns-in_default g t c = c.take.ensures

pub returns-in_default-start : goal.returns-in_default-start
returns-in_default-start g t c = c.take-in_default-start.ensures
