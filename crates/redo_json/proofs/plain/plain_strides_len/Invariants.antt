use Rattle.std.proofs.Common.{◌-◌, length}
use Rattle.redo_json.specs.Private.Writing.{ArePlain}
use Rattle.redo_json.proofs.plain.plain_strides_len.Given as goal

-- The bytes so far are plain.
abbrev pub invariant-loop-len : goal.invariant-loop-len
invariant-loop-len l = ArePlain l.bytes l.len

abbrev pub decreases-loop-len : goal.decreases-loop-len
decreases-loop-len l = length l.bytes - l.len
