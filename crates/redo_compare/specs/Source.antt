-- The source line that a compiler shows below a diagnostic.
use Rattle.std.specs.Prelude.{ℕ, ◌==◌, Bool, List, [], ◌∷◌, Option, None, Some, codes, if◌then◌else◌}
use Rattle.std.specs.Char.{is_ascii_digit}
use Rattle.std.specs.List.{list_all}
use Rattle.redo_line.specs.Parts.{after_prefix}
use Rattle.redo_line.specs.Record.{space}
use Rattle.redo_diagnostics.specs.Plain.{plain_line}

abbrev pub is_space : ℕ → Bool
is_space byte = byte == space

-- Bytes without the ones with which they begin that pass a test.
abbrev pub after_those : (ℕ → Bool) → List ℕ → List ℕ
after_those passes [] = []
after_those passes (byte ∷ bytes) = if passes byte then after_those passes bytes else byte ∷ bytes

-- Bytes without the spaces at their end.
abbrev pub before_spaces : List ℕ → List ℕ
before_spaces [] = []
before_spaces (byte ∷ bytes) = if list_all is_space (byte ∷ bytes) then [] else byte ∷ before_spaces bytes

-- Bytes without the spaces at both ends.
abbrev pub trimmed : List ℕ → List ℕ
trimmed bytes = before_spaces (after_those is_space bytes)

abbrev pub trimmed_if_some : Option (List ℕ) → List ℕ
trimmed_if_some None = []
trimmed_if_some (Some text) = trimmed text

-- `TEXT` of ` |TEXT`, without the spaces at its ends; otherwise nothing.
abbrev pub text_after_bar : List ℕ → List ℕ
text_after_bar bytes = trimmed_if_some (after_prefix (codes " |") bytes)

-- `TEXT` of `DIGITS |TEXT`, without the spaces at its ends; otherwise nothing.
abbrev pub text_after_row : List ℕ → List ℕ
text_after_row [] = []
text_after_row (byte ∷ bytes) = if is_ascii_digit byte then text_after_bar (after_those is_ascii_digit bytes) else []

-- The source line that a line shows, without the spaces at its ends: `TEXT` of `DIGITS |TEXT` after spaces. It is empty if the line has
-- another form. Colours and links don't count.
unfoldable pub source_of : List ℕ → List ℕ
source_of line = text_after_row (after_those is_space (plain_line line))
