use Rattle.std.proofs.Common.{◌≤◌, ◌-◌, length}
use Rattle.redo_html.specs.Private.Writing.{IsVerbatim}
use Rattle.redo_html.proofs.stride.strides_len.Given as goal

-- The bytes so far are code points that are written as they are.
abbrev pub invariant-loop-end : goal.invariant-loop-end
invariant-loop-end l = (l.at ≤ l.end) × IsVerbatim l.bytes l.end

abbrev pub decreases-loop-end : goal.decreases-loop-end
decreases-loop-end l = length l.bytes - l.end
