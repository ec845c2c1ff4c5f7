use Rattle.std.proofs.Common.{[], ◌∷◌}
use Rattle.redo_line.specs.Record.{minus}
use Rattle.redo_line.proofs.StatusLemmas.{negative_status, no_negative_status, plain_status, no_plain_status}
use Rattle.redo_line.proofs.Stripping.{strips, strips_not}
use Rattle.redo_line.proofs.record.read_status.Goals as goal

pub returns-in-Some-read_number : goal.returns-in-Some-read_number
returns-in-Some-read_number c =
    negative_status c.args.status.now c.in-Some.digits.now
    (strips (minus ∷ []) c.args.status.now c.in-Some.digits.now c.in-Some.ensures.cases.0 c.in-Some.ensures.cases.1)
    c.in-Some-read_number.value c.in-Some-read_number.ensures.value c.in-Some-read_number.ensures.below

pub returns-in-None-read_number : goal.returns-in-None-read_number
returns-in-None-read_number c =
    no_negative_status c.args.status.now c.in-Some.digits.now
    (strips (minus ∷ []) c.args.status.now c.in-Some.digits.now c.in-Some.ensures.cases.0 c.in-Some.ensures.cases.1)
    c.in-None-read_number.ensures.value

pub returns-in-Some-read_number-2 : goal.returns-in-Some-read_number-2
returns-in-Some-read_number-2 c =
    plain_status c.args.status.now (strips_not (minus ∷ []) c.args.status.now c.in-None.ensures.cases) c.in-Some-read_number-2.value
    c.in-Some-read_number-2.ensures.value
    c.in-Some-read_number-2.ensures.below

pub returns-in-None-read_number-2 : goal.returns-in-None-read_number-2
returns-in-None-read_number-2 c =
    no_plain_status c.args.status.now (strips_not (minus ∷ []) c.args.status.now c.in-None.ensures.cases)
    c.in-None-read_number-2.ensures.value
