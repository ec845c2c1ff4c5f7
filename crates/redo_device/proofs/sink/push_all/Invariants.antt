use Rattle.std.proofs.Common.{◌≡◌, ◌-◌, ◌≤◌, length, take}
use Rattle.redo_device.specs.Sink.{append_output}
use Rattle.redo_device.proofs.sink.push_all.Given as goal

-- A prefix was taken, and nothing failed.
abbrev pub invariant-loop-done : goal.invariant-loop-done
invariant-loop-done g l = (l.done ≤ length l.bytes)
    × (g.W.Sink.written l.out ≡ append_output (g.W.Sink.written l.initial.out) (take l.done l.bytes) 0)

abbrev pub decreases-loop-done : goal.decreases-loop-done
decreases-loop-done g l = length l.bytes - l.done
