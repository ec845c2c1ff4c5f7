use Rattle.std.proofs.Common.{ℕ, ◌<◌, sym, subst, arith}
use Rattle.redo_units.proofs.TickLemmas.{no_step_found, step_found, step_is_positive, step_passed}
use Rattle.redo_units.proofs.ticks.tick_step.Goals as goal

pub loop-step-preserved : goal.loop-step-preserved
loop-step-preserved c = step_passed c.args.width c.loop-step.step-index _ _ c.loop-step-test.true c.saturating_mul.ensures
    c.if-width-saturating_mul.false (omega (arith, c.ranges.width)) c.loop-step.invariant

pub returns-then-width-saturating_mul-clause-step : goal.returns-then-width-saturating_mul-clause-step
returns-then-width-saturating_mul-clause-step c =
    step_found c.args.width c.loop-step.step-index _ _ c.loop-step-test.true c.saturating_mul.ensures c.if-width-saturating_mul.true
    c.loop-step.invariant

pub returns-then-width-saturating_mul-clause-positive : goal.returns-then-width-saturating_mul-clause-positive
returns-then-width-saturating_mul-clause-positive c =
    let is = step_found c.args.width c.loop-step.step-index _ _ c.loop-step-test.true c.saturating_mul.ensures
    c.if-width-saturating_mul.true c.loop-step.invariant in
    subst (λ (n : ℕ). 0 < n) (sym is) (step_is_positive c.args.width)

pub returns-clause-step : goal.returns-clause-step
returns-clause-step c = no_step_found c.args.width c.loop-step.step-index c.loop-step-test.false c.loop-step.invariant
