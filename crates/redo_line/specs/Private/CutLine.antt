-- The bytes of a line that was found, and how bytes continue an unended line.
use Rattle.std.specs.Prelude.{◌≡◌, ⊤, ℕ, false, List, [], ◌++◌, length, nat_eq}
use Rattle.std.specs.List.{AllByRecursion, starts_with}
use Rattle.redo_line.specs.declared.partial_line.Line.{Line}
use Rattle.redo_line.specs.declared.partial_line.Line.TheVariants.{Borrowed, Owned}
use Rattle.redo_line.specs.Lines.{ended, rest}
use Rattle.redo_line.specs.Record.{record_prefix}

abbrev pub line_bytes : Line → List ℕ
line_bytes (Borrowed bytes) = bytes.now
line_bytes (Owned bytes) = bytes.items

abbrev pub IsBorrowed : Line → Type 0
IsBorrowed (Borrowed bytes) = ⊤
IsBorrowed (Owned bytes) = ⊥

-- For all earlier bytes with the remainder `before`: `bytes` add exactly `lines` to the ended lines, and the remainder is then
-- `after`.
abbrev pub Cuts : List ℕ → List ℕ → List (List ℕ) → List ℕ → Type 0
Cuts before bytes lines after = (taken : List ℕ) → rest taken ≡ before → (ended (taken ++ bytes) ≡ ended taken ++ lines) × (rest (taken ++ bytes) ≡ after)

-- The bytes are `count` lines, no byte follows the last line feed, and no line begins with the record prefix.
pub record AreTextLines (bytes : List ℕ) (count : ℕ) : Type 0 where
  pub count_is : length (ended bytes) ≡ count
  pub no_rest : rest bytes ≡ []
  pub texts : AllByRecursion (λ line. starts_with nat_eq line record_prefix ≡ false) (ended bytes)
