use Rattle.std.proofs.Common.{◌+◌, ◌*◌, get_or, sym, subst, arith}
use Rattle.redo_line.proofs.Numbers.{Read, none_yet, digit_at, digit_is, still_fits, one_more}
use Rattle.redo_line.proofs.decimal.number.Goals as goal

pub loop-digit-init : goal.loop-digit-init
loop-digit-init c = none_yet c.args.digits.now

pub overflow_mul-number : goal.overflow_mul-number
overflow_mul-number c =
    let small = still_fits _ _ _ c.loop-digit.invariant c.requires.at_most c.loop-digit-test.true in omega (arith, small)

pub overflow_add-number : goal.overflow_add-number
overflow_add-number c =
    let small = still_fits _ _ _ c.loop-digit.invariant c.requires.at_most c.loop-digit-test.true in
    let low = digit_is (get_or c.args.digits.now c.loop-digit.digit-index 0)
    (digit_at c.args.digits.now c.loop-digit.digit-index c.requires.all c.loop-digit-test.true) in
    omega (arith, small, low.0, low.1, c.from.ensures)

pub loop-digit-preserved : goal.loop-digit-preserved
loop-digit-preserved c =
    subst (λ d. Read c.args.digits.now (c.loop-digit.digit-index + 1) (c.loop-digit.number * 10 + d)) (sym c.from.ensures)
    (one_more _ _ _ c.loop-digit.invariant c.requires.all c.loop-digit-test.true)
