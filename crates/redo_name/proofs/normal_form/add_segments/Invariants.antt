use Rattle.std.proofs.Common.{ℕ, List, length}
use Rattle.redo_name.specs.Names.{segments}
use Rattle.redo_name.specs.Private.Path.{Represents}
use Rattle.redo_name.proofs.PathLemmas.{Halfway}
use Rattle.redo_name.proofs.normal_form.add_segments.Given as goal

-- The path represents the segments so far, and the segments of `left` remain.
abbrev pub invariant-segments : goal.invariant-segments
invariant-segments l =
    (parts : List (List ℕ)) → Represents l.absolute l.fn.path.items parts
    → Halfway l.absolute parts (segments l.fn.name) (segments l.left) l.path.items

abbrev pub decreases-segments : goal.decreases-segments
decreases-segments l = length l.left
