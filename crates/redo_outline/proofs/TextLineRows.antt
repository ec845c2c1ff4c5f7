-- Stretches of lines, and bytes that are none.
use Rattle.std.proofs.Common.{◌≡◌, ℕ, List, [], ◌∷◌, get_or, length, refl, sym, ap, ◌∙◌, arith}
use Rattle.std.proofs.lemmas.List.{length-append}
use Rattle.redo_line.specs.Lines.{HasNoLineFeed, ended, rest, split_lines, with_line_feed}
use Rattle.redo_outline.specs.TextLines.{AreNextLines, IsStretch, IsWholeLine, LinesLeft}

abbrev first_of : List ℕ → ℕ
first_of bytes = get_or bytes 0 0

not_whole : IsWholeLine (97 ∷ []) → ⊥
not_whole is = by is.line is.bytes_are
  where
    by : (line : List ℕ) → 97 ∷ [] ≡ with_line_feed line → ⊥
    by [] same = let first = ap first_of same in omega (arith, first)
    by (byte ∷ line) same = let size = ap length same in omega (arith, size, length-append line (10 ∷ []))

two_lines : IsWholeLine (10 ∷ 10 ∷ []) → ⊥
two_lines is = by is.line is.bytes_are is.no_line_feed
  where
    by : (line : List ℕ) → 10 ∷ 10 ∷ [] ≡ with_line_feed line → HasNoLineFeed line → ⊥
    by [] same free = let size = ap length same in omega (arith, size)
    by (byte ∷ line) same free = free.0 (sym (ap first_of same))

-- How some bytes are split into lines and a rest.
record Splits : Type 0 where
  one : ended (10 ∷ []) ≡ [] ∷ []
  before_rest : ended (10 ∷ 97 ∷ []) ≡ [] ∷ []
  none : ended [] ≡ []
  with_rest : rest (10 ∷ 97 ∷ []) ≡ 97 ∷ []
  no_rest : rest [] ≡ []

splits : Splits
unfolding split_lines ended rest
splits = record { one = refl; before_rest = refl; none = refl; with_rest = refl; no_rest = refl }

open_stretch : IsStretch (10 ∷ 97 ∷ []) → ⊥
open_stretch is = let size = ap length (sym splits.with_rest ∙ is.complete) in omega (arith, size)

empty_stretch : IsStretch [] → ⊥
empty_stretch is = let some = is.some in let size = ap length splits.none in omega (arith, some, size)

abbrev left_after : ℕ → List (List ℕ) → LinesLeft
left_after done lines = record { left = lines; stretch = []; done = done }

other_lines : AreNextLines (10 ∷ []) (left_after 3 []) (left_after 4 []) → ⊥
other_lines are =
    let size = ap length are.lines in
    let one = ap length splits.one in
    omega (arith, size, one, length-append (ended (10 ∷ [])) [])

other_count : AreNextLines (10 ∷ []) (left_after 3 ([] ∷ [])) (left_after 5 []) → ⊥
other_count are = let done = are.done in let one = ap length splits.one in omega (arith, done, one)
