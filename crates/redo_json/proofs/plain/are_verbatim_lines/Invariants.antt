use Rattle.std.proofs.Common.{◌≡◌, ◌-◌, ◌≤◌, true, length, take}
use Rattle.std.specs.List.{list_all}
use Rattle.redo_json.specs.Private.Writing.{is_verbatim_or_feed}
use Rattle.redo_json.proofs.plain.are_verbatim_lines.Given as goal

-- The bytes so far pass.
abbrev pub invariant-loop-len : goal.invariant-loop-len
invariant-loop-len l = (l.len ≤ length l.bytes) × (list_all is_verbatim_or_feed (take l.len l.bytes) ≡ true)

abbrev pub decreases-loop-len : goal.decreases-loop-len
decreases-loop-len l = length l.bytes - l.len
