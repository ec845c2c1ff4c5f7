-- The strings of a log's lines, in parts that begin at the quote before a string.
use Rattle.std.specs.Prelude.{◌≡◌, ◌<◌, ℕ, Bool, true, false, List, [], ◌∷◌, ◌++◌, length}
use Rattle.json.specs.Print.{escape}
use Rattle.redo_line.specs.Lines.{ended}
use Rattle.redo_json.specs.Private.Parts.{items_text}
use Rattle.redo_json.specs.Text.{text_of}

-- What precedes a string: a quote before the first one; else also the end of the string before it, and a comma.
abbrev pub before_line : Bool → List ℕ
before_line true = 34 ∷ []
before_line false = 34 ∷ 44 ∷ 34 ∷ []

-- The strings of lines, up to the last byte of the last line.
abbrev pub lines_text : Bool → List (List ℕ) → List ℕ
lines_text is_first [] = []
lines_text is_first (line ∷ lines) = before_line is_first ++ (escape (text_of line) ++ lines_text false lines)

-- The strings of lines, with the quote that ends the string before them.
abbrev pub lines_left : Bool → List (List ℕ) → List ℕ
lines_left true lines = items_text true lines
lines_left false lines = 34 ∷ items_text false lines

-- Bytes are a line with its line feed, and then others.
pub record BeginsWithLine (bytes line others : List ℕ) : Type 0 where
  pub lines : ended bytes ≡ line ∷ ended others
  pub fewer : length others < length bytes
