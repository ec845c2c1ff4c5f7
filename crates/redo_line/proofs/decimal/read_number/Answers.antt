use Rattle.std.proofs.Common.{sym, ◌∙◌}
use Rattle.redo_line.proofs.Numbers.{fewer, few_digits}
use Rattle.redo_line.proofs.decimal.read_number.Goals as goal

pub returns-then-are_digits-clause-below : goal.returns-then-are_digits-clause-below
returns-then-are_digits-clause-below c =
    let digits = c.args.digits.now in
    fewer digits c.args.max_digits c.number.result c.number.ensures.below
    (few_digits c.args.max_digits digits (sym c.are_digits.ensures ∙ c.if-are_digits.true))
