use Rattle.std.proofs.Common.{◌-◌, ◌≤◌, length}
use Rattle.std.specs.Prelude.{codes}
use Rattle.memchr.specs.Find.{Nowhere, OccursAt}
use Rattle.redo_outline.proofs.facts.find_warning.Given as goal

-- No warning is before `from`.
abbrev pub invariant-letters : goal.invariant-letters
invariant-letters l = (l.from ≤ length l.bytes) × Nowhere (OccursAt l.bytes (codes "warning:")) 0 l.from

abbrev pub decreases-letters : goal.decreases-letters
decreases-letters l = length l.bytes - l.from
