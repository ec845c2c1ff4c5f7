use Rattle.std.proofs.Common.{refl, sym}
use Rattle.redo_facts.specs.Statement.{statement_from, statement_of}
use Rattle.redo_facts.proofs.statement.read_statement.Goals as goal

pub returns-in_default-clause-none : goal.returns-in_default-clause-none
unfolding statement_of
returns-in_default-clause-none c = rw c.in_default.ensures.none refl

pub returns-in_default-split_at_first-clause-none : goal.returns-in_default-split_at_first-clause-none
unfolding statement_of
returns-in_default-split_at_first-clause-none c = rw c.in-Some.ensures.some (rw c.in_default-split_at_first.ensures.none refl)

pub returns-in_default-parse_number-clause-none : goal.returns-in_default-parse_number-clause-none
unfolding statement_of
returns-in_default-parse_number-clause-none c =
    rw c.in-Some.ensures.some (rw c.in-Some-split_at_first.ensures.some (rw (sym c.in_default-parse_number.ensures) refl))

pub returns-in_default-form_of-clause-none : goal.returns-in_default-form_of-clause-none
unfolding statement_of
returns-in_default-form_of-clause-none c =
    rw c.in-Some.ensures.some (rw c.in-Some-split_at_first.ensures.some
    (λ i. statement_from (sym c.in-Some-parse_number.ensures i) (sym c.in_default-form_of.ensures i) c.in-Some-split_at_first.text.now))

pub returns-clause-some : goal.returns-clause-some
unfolding statement_of
returns-clause-some c =
    rw c.in-Some.ensures.some (rw c.in-Some-split_at_first.ensures.some
    (λ i. statement_from (sym c.in-Some-parse_number.ensures i) (sym c.in-Some-form_of.ensures i) c.in-Some-split_at_first.text.now))
