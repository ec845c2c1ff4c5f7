-- The first line of some bytes.
use Rattle.std.proofs.Common.{◌≡◌, ℕ, ◌+◌, ◌<◌, List, [], ◌∷◌, ◌++◌, length, take, drop, sym, ◌∙◌, ap, arith}
use Rattle.std.proofs.lemmas.List.{append_assoc, take-append-drop}
use Rattle.memchr.specs.Find.{Passes, NoneBefore, Nowhere, is_byte}
use Rattle.redo_line.specs.Lines.{HasNoLineFeed, line_feed, ended, rest}
use Rattle.redo_line.proofs.CutLemmas.{free_before, holds_none, upto_feed}
use Rattle.redo_line.proofs.LineLemmas.{ended-free, ended-line, rest-line}
use Rattle.redo_logs.proofs.Shifting.{drop_twice}

module _ (bytes : List ℕ) (at : ℕ) (found : NoneBefore (Passes (is_byte line_feed) bytes) 0 (length bytes) at
    × Passes (is_byte line_feed) bytes at) where
  free : HasNoLineFeed (take at bytes)
  free = free_before bytes at found.0.before

  parts : bytes ≡ take at bytes ++ line_feed ∷ drop (at + 1) bytes
  parts =
      sym (take-append-drop (at + 1) bytes) ∙ ap (λ (b : List ℕ). b ++ drop (at + 1) bytes) (upto_feed bytes at found.0.high found.1)
      ∙ append_assoc (take at bytes) (line_feed ∷ []) (drop (at + 1) bytes)

  -- The lines are the bytes before the first line feed, and the lines after it.
  pub first_ended : ended bytes ≡ take at bytes ∷ ended (drop (at + 1) bytes)
  first_ended = ap ended parts ∙ ended-line (take at bytes) (drop (at + 1) bytes) free

  pub rest_behind : rest bytes ≡ rest (drop (at + 1) bytes)
  rest_behind = ap rest parts ∙ rest-line (take at bytes) (drop (at + 1) bytes) free

-- Without a line feed there is no line.
pub no_line : (bytes : List ℕ) → Nowhere (Passes (is_byte line_feed) bytes) 0 (length bytes) → 0 < length (ended bytes) → ⊥
no_line bytes nowhere some = let none = ap length (ended-free bytes (holds_none bytes nowhere)) in omega (arith, none, some)

-- The lines that are left after one more line was skipped.
module _ (bytes left : List ℕ) (upto at : ℕ) (counter : ℕ) (left_is : left ≡ drop upto bytes)
    (found : NoneBefore (Passes (is_byte line_feed) left) 0 (length left) at × Passes (is_byte line_feed) left at) where
  behind_is : drop (upto + (at + 1)) bytes ≡ drop (at + 1) left
  behind_is = drop_twice upto bytes (at + 1) ∙ ap (drop (at + 1)) (sym left_is)

  pub next_ended : ended (drop upto bytes) ≡ drop counter (ended bytes)
      → ended (drop (upto + (at + 1)) bytes) ≡ drop (counter + 1) (ended bytes)
  next_ended so_far =
      ap ended behind_is ∙ ap (drop 1) (sym (first_ended left at found) ∙ ap ended left_is ∙ so_far)
      ∙ sym (drop_twice counter (ended bytes) 1)

pub next_rest : (bytes left : List ℕ) (upto at : ℕ) → left ≡ drop upto bytes
    → NoneBefore (Passes (is_byte line_feed) left) 0 (length left) at × Passes (is_byte line_feed) left at
    → rest (drop (upto + (at + 1)) bytes) ≡ rest (drop upto bytes)
next_rest bytes left upto at left_is found =
    ap rest (behind_is bytes left upto at 0 left_is found) ∙ sym (rest_behind left at found) ∙ ap rest left_is
