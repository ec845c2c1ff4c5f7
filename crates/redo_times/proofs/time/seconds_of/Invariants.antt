use Rattle.std.proofs.Common.{◌≡◌, ◌≤◌, take}
use Rattle.redo_line.specs.Decimal.{number}
use Rattle.redo_times.specs.Time.{max_seconds}
use Rattle.redo_times.proofs.time.seconds_of.Given as goal

-- The value of the digits so far, which is not too large.
abbrev pub invariant-loop-digit : goal.invariant-loop-digit
invariant-loop-digit l = (l.seconds ≡ number (take l.digit-index l.digits)) × (l.seconds ≤ max_seconds)
