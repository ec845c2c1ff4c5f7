-- An excerpt, line by line.
use Rattle.std.specs.Prelude.{ℕ, suc, ◌+◌, Bool, true, false, List, [], ◌∷◌, ◌++◌, Option, None, Some, if◌then◌else◌}
use Rattle.redo_html.specs.declared.markup.Markup.TheVariants.{Pre, EndPre}
use Rattle.redo_html.specs.Parts.{Part}
use Rattle.redo_html.specs.Parts.Part.{MarkupPart}
use Rattle.redo_page.specs.declared.excerpt.OpenStretch.{OpenStretch}
use Rattle.redo_page.specs.declared.excerpt.OpenStretch.TheVariants.{Nothing, Shown, LeftOut}
use Rattle.redo_page.specs.Errors.{is_error}
use Rattle.redo_page.specs.Excerpt.{excerpt_line_parts, left_out_parts}

-- The position of the first line that reports an error, after one more line.
abbrev pub first_error : Option ℕ → ℕ → List ℕ → Option ℕ
first_error (Some error) at line = Some error
first_error None at line = if is_error line then Some at else None

-- The stretch that is open after one more line.
abbrev pub open_after : OpenStretch → Bool → OpenStretch
open_after current true = Shown
open_after Nothing false = LeftOut 1
open_after Shown false = LeftOut 1
open_after (LeftOut count) false = LeftOut (count + 1)

-- The parts before a line.
abbrev pub change_parts : ℕ → OpenStretch → Bool → List Part
change_parts position Nothing true = MarkupPart Pre ∷ []
change_parts position Nothing false = []
change_parts position Shown true = []
change_parts position Shown false = MarkupPart EndPre ∷ []
change_parts position (LeftOut count) true = left_out_parts position count ++ MarkupPart Pre ∷ []
change_parts position (LeftOut count) false = []

abbrev pub end_parts : ℕ → OpenStretch → List Part
end_parts position Nothing = []
end_parts position Shown = MarkupPart EndPre ∷ []
end_parts position (LeftOut count) = left_out_parts position count

abbrev pub kept_parts : Bool → List ℕ → List Part
kept_parts kept line = if kept then excerpt_line_parts line else []

abbrev pub step_parts : ℕ → OpenStretch → Bool → List ℕ → List Part
step_parts position current kept line = change_parts position current kept ++ kept_parts kept line

-- The parts from the line at position `at` on.
abbrev pub parts_from : ℕ → (ℕ → Bool) → OpenStretch → ℕ → List (List ℕ) → List Part
parts_from position kept current at [] = end_parts position current
parts_from position kept current at (line ∷ lines) = step_parts position current (kept at) line ++ parts_from position kept (open_after current (kept at)) (suc at) lines

-- The number of lines of an open gap.
abbrev pub open_count : OpenStretch → ℕ
open_count Nothing = 0
open_count Shown = 0
open_count (LeftOut count) = count
