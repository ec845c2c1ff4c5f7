-- Definitions that state the laws about diagnostics.
use Rattle.std.specs.Prelude.{◌≡◌, ◌≢◌, ◌⊎◌, ℕ, true, List, [], ◌∷◌, ◌++◌, Option, None, Some}
use Rattle.std.specs.List.{AllByRecursion, list_all}
use Rattle.redo_html.specs.Symbols.{is_parameter}
use Rattle.redo_line.specs.Decimal.{AreDigits}
use Rattle.redo_line.specs.Record.{colon, space}
use Rattle.redo_diagnostics.specs.declared.severity.Severity.{Severity}
use Rattle.redo_diagnostics.specs.Diagnostic.{PartsValue, masked, max_digits, origin_of, text_of, word_of}
use Rattle.redo_diagnostics.specs.Plain.{plain_line}

-- A place as a compiler writes it: `F:R: ` or `F:R:C: `.
abbrev pub written_place : List ℕ → List ℕ → Option (List ℕ) → List ℕ
written_place file row None = file ++ colon ∷ row ++ colon ∷ space ∷ []
written_place file row (Some column) = file ++ colon ∷ row ++ colon ∷ column ++ colon ∷ space ∷ []

-- Whether a line, without colours and links, is a place in this file, a word, a space and this message.
pub record IsAt (file : List ℕ) (severity : Severity) (message line : List ℕ) : Type 0 where
  pub row : List ℕ
  pub column : Option (List ℕ)
  pub row_digits : AreDigits max_digits row
  pub column_digits : (digits : List ℕ) → column ≡ Some digits → AreDigits max_digits digits
  pub file_no_colon : AllByRecursion (λ byte. byte ≢ colon) file
  pub whole : plain_line line ≡ written_place file row column ++ word_of severity ++ space ∷ message

-- A colour: `ESC [`, digits and semicolons, and `m` or `K`.
pub record IsColour (colour : List ℕ) : Type 0 where
  pub parameters : List ℕ
  pub end : ℕ
  pub are_parameters : list_all is_parameter parameters ≡ true
  pub ends : (end ≡ 109) ⊎ (end ≡ 75)
  pub whole : colour ≡ 27 ∷ 91 ∷ parameters ++ end ∷ []

-- Whether both name the same file or program, and have the same word and the same text after it, except the random parts of names.
pub record SaySame (one other : PartsValue) : Type 0 where
  pub origin : masked (origin_of one.head) ≡ masked (origin_of other.head)
  pub severity : one.severity ≡ other.severity
  pub text : masked (text_of one) ≡ masked (text_of other)
