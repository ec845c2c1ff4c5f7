use Rattle.std.proofs.Common.{◌≡◌, ◌≤◌, length, drop}
use Rattle.redo_line.specs.Lines.{ended, rest}
use Rattle.redo_logs.proofs.lines.skip_lines.Given as goal

-- `counter` lines are skipped.
abbrev pub invariant-loop : goal.invariant-loop
invariant-loop l = (l.upto ≤ length l.bytes) × (ended (drop l.upto l.bytes) ≡ drop l.counter (ended l.bytes))
    × (rest (drop l.upto l.bytes) ≡ rest l.bytes)
