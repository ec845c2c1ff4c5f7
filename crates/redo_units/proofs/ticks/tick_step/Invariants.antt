use Rattle.std.proofs.Common.{◌≡◌, ◌*◌, drop}
use Rattle.std.specs.Prelude.{nat_le}
use Rattle.std.specs.List.{find}
use Rattle.redo_units.specs.Ticks.{axis_steps}
use Rattle.redo_units.proofs.ticks.tick_step.Given as goal

-- None of the steps before suffices.
abbrev pub invariant-loop-step : goal.invariant-loop-step
invariant-loop-step l = find (λ step. nat_le l.width (step * 10)) (drop l.step-index axis_steps)
    ≡ find (λ step. nat_le l.width (step * 10)) axis_steps
