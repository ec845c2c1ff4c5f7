-- How durations are written.
use Rattle.std.specs.Prelude.{◌≡◌, ℕ, ◌+◌, ◌*◌, ◌/◌, ◌%◌, ◌<◌, ◌≤◌, nat_lt, List, [], ◌∷◌, ◌++◌, codes, if◌then◌else◌}
use Rattle.redo_units.specs.Words.{WordValue, no_word, two_digits, words_text}
use Rattle.redo_units.specs.Words.WordValue.{NumberWord, TextWord}

-- A duration of this many milliseconds.
unfoldable pub duration_words : ℕ → List WordValue
duration_words ms =
    if nat_lt ms 10000 then NumberWord (ms / 1000) ∷ TextWord (codes ".") ∷ two_digits (ms / 10 % 100) ++ TextWord (codes " s") ∷ []
    else if nat_lt ms 60000 then NumberWord (ms / 1000) ∷ TextWord (codes ".") ∷ NumberWord (ms / 100 % 10) ∷ TextWord (codes " s") ∷ no_word ∷ []
    else if nat_lt ms 3600000 then NumberWord (ms / 60000) ∷ TextWord (codes " min ") ∷ two_digits (ms / 1000 % 60) ++ TextWord (codes " s") ∷ []
    else NumberWord (ms / 3600000) ∷ TextWord (codes " h ") ∷ two_digits (ms / 60000 % 60) ++ TextWord (codes " min") ∷ []

abbrev pub duration_text : ℕ → List ℕ
duration_text ms = words_text (duration_words ms)

-- A duration is `whole` large units and `part` small ones, and less than one small unit more. `part` small units are less than a large one.
pub record IsIn (ms large small whole part : ℕ) : Type 0 where
  pub least : whole * large + part * small ≤ ms
  pub most : ms < whole * large + (part + 1) * small
  pub fits : part * small < large

-- These words are a duration in two units. The number of small ones has two digits.
pub record AreUnits (ms large small : ℕ) (between after : List ℕ) (words : List WordValue) : Type 0 where
  pub whole : ℕ
  pub part : ℕ
  pub is : IsIn ms large small whole part
  pub words_are : words ≡ NumberWord whole ∷ TextWord between ∷ NumberWord (part / 10) ∷ NumberWord (part % 10) ∷ TextWord after ∷ []

-- These words are a duration in seconds, with one digit for tenths.
pub record AreTenths (ms : ℕ) (words : List WordValue) : Type 0 where
  pub whole : ℕ
  pub part : ℕ
  pub is : IsIn ms 1000 100 whole part
  pub words_are : words ≡ NumberWord whole ∷ TextWord (codes ".") ∷ NumberWord part ∷ TextWord (codes " s") ∷ no_word ∷ []
