-- The results of a cutter for a chunk.
use Rattle.std.specs.Prelude.{ℕ, Bool, true, false, List}
use Rattle.redo_line.specs.declared.cutter.Cut.{Cut}
use Rattle.redo_line.specs.declared.cutter.Cut.TheVariants.{Line, More}

-- If a line was found, `P` holds of it and of the offset after its line feed.
abbrev pub IfLine : Cut → (List ℕ → ℕ → Type 0) → Type 0
IfLine (Line line upto) P = P line upto
IfLine More P = Unit {0}

-- If no line ends, `P` holds.
abbrev pub IfMore : Cut → Type 0 → Type 0
IfMore (Line line upto) P = Unit {0}
IfMore More P = P

abbrev pub is_line : Cut → Bool
is_line (Line line upto) = true
is_line More = false
