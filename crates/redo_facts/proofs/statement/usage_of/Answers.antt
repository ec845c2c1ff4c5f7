use Rattle.std.proofs.Common.{refl, ◌∙◌}
use Rattle.redo_facts.specs.Statement.{usage_from}
use Rattle.redo_facts.proofs.statement.usage_of.Goals as goal

pub returns-in_default : goal.returns-in_default
returns-in_default c = rw c.in_default.ensures.none refl

pub returns-in_default-split_at_first : goal.returns-in_default-split_at_first
returns-in_default-split_at_first c = rw c.in-Some.ensures.some (rw c.in_default-split_at_first.ensures.none refl)

pub returns : goal.returns
returns c = rw c.in-Some.ensures.some (rw c.in-Some-split_at_first.ensures.some
    (c.usage_from.ensures
    ∙ (λ i. usage_from (c.read_number.ensures.value i) (c.read_number-2.ensures.value i) (c.read_number-3.ensures.value i))))
