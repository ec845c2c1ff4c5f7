-- The words and the first colon of a plain line.
use Rattle.std.specs.Prelude.{◌≡◌, ◌≢◌, ℕ, ◌+◌, ◌<◌, ◌≤◌, true, List, Option, length, MatchOption}
use Rattle.std.specs.List.{AllByRecursion}
use Rattle.memchr.specs.Find.{NoneBefore, Passes, is_byte}
use Rattle.redo_line.specs.Record.{colon}
use Rattle.redo_diagnostics.specs.declared.severity.Severity.{Severity}
use Rattle.redo_diagnostics.specs.Diagnostic.{is_word_at, word_of}

-- The word of this severity is at this place, and ends before this byte.
abbrev pub IsWordBefore : List ℕ → ℕ → Severity → ℕ → Type 0
IsWordBefore plain end severity place = (is_word_at plain severity place ≡ true) × (place + length (word_of severity) ≡ end)

-- This is the place of the word of this severity that ends before this byte; none if there is none.
abbrev pub IsPlaceBefore : List ℕ → ℕ → Severity → Option ℕ → Type 0
IsPlaceBefore plain end severity found =
    MatchOption found ((place : ℕ) → ¬ IsWordBefore plain end severity place) (λ place. IsWordBefore plain end severity place)

-- This is the first word of those that end before this byte; none if there is none.
abbrev pub IsFirstBefore : List ℕ → ℕ → Option (ℕ × Severity) → Type 0
IsFirstBefore plain end found = MatchOption found
    ((severity : Severity) (place : ℕ) → ¬ IsWordBefore plain end severity place)
    (λ one. IsWordBefore plain end one.1 one.0
    × ((severity : Severity) (place : ℕ) → IsWordBefore plain end severity place → one.0 ≤ place))

-- Each word ends after this byte.
abbrev pub EndAfter : List ℕ → ℕ → Type 0
EndAfter plain from = (severity : Severity) (place : ℕ) → is_word_at plain severity place ≡ true
    → from < place + length (word_of severity)

-- The first colon is at this place.
abbrev pub IsFirstColon : List ℕ → ℕ → Type 0
IsFirstColon bytes at = NoneBefore (Passes (is_byte colon) bytes) 0 (length bytes) at × Passes (is_byte colon) bytes at

-- The first colon is at this place, or there is none.
pub record IsColonOf (bytes : List ℕ) (at : ℕ) : Type 0 where
  pub within : at < length bytes → IsFirstColon bytes at
  pub none : length bytes ≤ at → AllByRecursion (λ byte. byte ≢ colon) bytes
