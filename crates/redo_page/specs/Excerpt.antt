-- Excerpts of long outputs, and how a long line is cut.
use Rattle.std.specs.Prelude.{ℕ, suc, ◌-◌, ◌||◌, ◌&&◌, nat_le, nat_lt, Bool, List, [], ◌∷◌, ◌++◌, length, take, codes, if◌then◌else◌}
use Rattle.std.specs.List.{flat_map, position_or_len}
use Rattle.redo_html.specs.Cut.{last_where, may_cut}
use Rattle.redo_html.specs.declared.markup.Markup.TheVariants as markup
use Rattle.redo_html.specs.Parts.{Part}
use Rattle.redo_html.specs.Parts.Part.{MarkupPart, LogPart, TextPart, NumberPart}
use Rattle.redo_html.specs.Style.{plain_style}
use Rattle.redo_page.specs.declared.labels.TheConstants.{IN_ITS_LOG, MORE_LINE, MORE_LINES}
use Rattle.redo_page.specs.Errors.{is_error}
use Rattle.redo_page.specs.Targets.{plural}

-- ---- cutting

-- The beginning of a text, at most `limit` bytes of it. No character and no sequence is cut in two.
unfoldable pub cut_to : ℕ → List ℕ → List ℕ
cut_to limit bytes = if nat_le (length bytes) limit then bytes else take (last_where (may_cut bytes) limit) bytes

-- ---- lines

abbrev pub emphasized_if : Bool → List Part → List Part
emphasized_if condition parts = if condition then MarkupPart markup.Emphasis ∷ (parts ++ MarkupPart markup.EndEmphasis ∷ []) else parts

abbrev pub max_excerpt_line : ℕ
max_excerpt_line = 1000

-- The end of a line of an excerpt. The log has the rest of a cut line.
unfoldable pub excerpt_line_end : List ℕ → List ℕ
excerpt_line_end line = if nat_le (length line) max_excerpt_line then codes "\n" else codes " ...\n"

-- A line of an excerpt. It is emphasized if it reports an error, even if only what is cut says so.
unfoldable pub excerpt_line_parts : List ℕ → List Part
excerpt_line_parts line =
    emphasized_if (is_error line) (LogPart plain_style (cut_to max_excerpt_line line) ∷ TextPart (excerpt_line_end line) ∷ [])

-- ---- stretches

-- The lines of an excerpt, by their positions among `count` lines: ten at the start, the first one that reports an error, with five before it and
-- some after it, and sixty at the end.
abbrev pub is_kept : ℕ → ℕ → ℕ → Bool
is_kept count error at = nat_lt at 10 || ((nat_le (error - 5) at && nat_lt (at - error) 25) || nat_le (count - 60) at)

-- Consecutive lines: they are shown, or left out.
pub data Stretch : Type 0 where
  Shown : List (List ℕ) → Stretch
  LeftOut : ℕ → Stretch

abbrev pub with_shown : List ℕ → List Stretch → List Stretch
with_shown line [] = Shown (line ∷ []) ∷ []
with_shown line (Shown lines ∷ stretches) = Shown (line ∷ lines) ∷ stretches
with_shown line (LeftOut count ∷ stretches) = Shown (line ∷ []) ∷ LeftOut count ∷ stretches

abbrev pub with_left_out : List Stretch → List Stretch
with_left_out [] = LeftOut 1 ∷ []
with_left_out (Shown lines ∷ stretches) = LeftOut 1 ∷ Shown lines ∷ stretches
with_left_out (LeftOut count ∷ stretches) = LeftOut (suc count) ∷ stretches

-- The stretches of lines. The first line is at position `at`.
abbrev pub stretches_from : (ℕ → Bool) → ℕ → List (List ℕ) → List Stretch
stretches_from kept at [] = []
stretches_from kept at (line ∷ lines) =
    if kept at then with_shown line (stretches_from kept (suc at) lines) else with_left_out (stretches_from kept (suc at) lines)

-- ---- parts

unfoldable pub in_tree_parts : ℕ → List ℕ → List Part
in_tree_parts position text = MarkupPart (markup.TargetLink position) ∷ TextPart text ∷ MarkupPart markup.EndLink ∷ []

-- How many lines are left out. They are in the log of the target, which may be cut in the tree.
unfoldable pub left_out_parts : ℕ → ℕ → List Part
left_out_parts position count =
    MarkupPart markup.CutParagraph ∷ NumberPart count ∷ TextPart (plural count MORE_LINE.now MORE_LINES.now)
    ∷ (in_tree_parts position IN_ITS_LOG.now ++ MarkupPart markup.EndParagraph ∷ [])

abbrev pub stretch_parts : ℕ → Stretch → List Part
stretch_parts position (Shown lines) = MarkupPart markup.Pre ∷ (flat_map excerpt_line_parts lines ++ MarkupPart markup.EndPre ∷ [])
stretch_parts position (LeftOut count) = left_out_parts position count

-- The position of the first line that reports an error; the number of lines if there is none.
abbrev pub error_position : List (List ℕ) → ℕ
error_position lines = position_or_len is_error lines

-- The excerpt of the output of the target at a position.
unfoldable pub excerpt_parts : ℕ → List (List ℕ) → List Part
excerpt_parts position lines = flat_map (stretch_parts position) (stretches_from (is_kept (length lines) (error_position lines)) 0 lines)
