use Rattle.std.proofs.Common.{◌-◌, ◌≤◌, length}
use Rattle.redo_diagnostics.specs.Private.Words.{EndAfter}
use Rattle.redo_diagnostics.proofs.word.find_later_word.Given as goal

-- Each word ends after `from`.
abbrev pub invariant-colons : goal.invariant-colons
invariant-colons l = (l.from ≤ length l.plain) × EndAfter l.plain l.from

abbrev pub decreases-colons : goal.decreases-colons
decreases-colons l = length l.plain - l.from
