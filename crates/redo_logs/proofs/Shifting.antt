-- Entries whose texts follow others in a block.
use Rattle.std.proofs.Common.{◌≡◌, ℕ, zero, suc, ◌+◌, ◌-◌, List, [], ◌∷◌, Result, Ok, Err, IfOk, take, drop, slice_get, slice_range, refl, sym, ap, ◌∙◌, arith}
use Rattle.redo_line.specs.declared.entry.Entry.{Entry}
use Rattle.redo_logs.specs.declared.store.PackedEntries.{PackedEntries}
use Rattle.redo_logs.specs.Private.Store.{Parts, denotes}

module _ (shift : ℕ) where
  -- The element at a position, counted from `shift`.
  pub get_shifted : {A : Type 0} (whole : List A) (at : ℕ) → slice_get whole (shift + at) ≡ slice_get (drop shift whole) at
  get_shifted {A} whole at = by shift whole
    where
      by : (count : ℕ) (xs : List A) → slice_get xs (count + at) ≡ slice_get (drop count xs) at
      by zero xs = let none : 0 + at ≡ at = omega arith in ap (slice_get xs) none
      by (suc count) [] = refl
      by (suc count) (x ∷ xs) = let next : suc count + at ≡ suc (count + at) = omega arith in ap (slice_get (x ∷ xs)) next ∙ by count xs

  pub drop_twice : {A : Type 0} (whole : List A) (start : ℕ) → drop (shift + start) whole ≡ drop start (drop shift whole)
  drop_twice {A} whole start = by shift whole
    where
      none : (count : ℕ) → drop {A = A} count [] ≡ []
      none zero = refl
      none (suc count) = refl

      by : (count : ℕ) (xs : List A) → drop (count + start) xs ≡ drop start (drop count xs)
      by zero xs = let same : 0 + start ≡ start = omega arith in ap (λ n. drop n xs) same
      by (suc count) [] = none (suc count + start) ∙ sym (none start)
      by (suc count) (x ∷ xs) = let next : suc count + start ≡ suc (count + start) = omega arith in
          ap (λ n. drop n (x ∷ xs)) next ∙ by count xs

  -- A range, counted from `shift`.
  pub range_shifted : (whole : List ℕ) (start end : ℕ)
      → slice_range whole (shift + start) (shift + end) ≡ slice_range (drop shift whole) start end
  range_shifted whole start end =
      let count : shift + end - (shift + start) ≡ end - start = omega arith in
      ap (λ n. take n (drop (shift + start) whole)) count ∙ ap (take (end - start)) (drop_twice whole start)

-- A `PackedEntries` denotes the same entries.
pub note_then : {E : Type 0} (result : Result PackedEntries E) (parts : Parts) (first second : List Entry)
    → IfOk result (λ kept. denotes parts kept ≡ first) → first ≡ second → IfOk result (λ kept. denotes parts kept ≡ second)
note_then (Ok kept) parts first second is same = is ∙ same
note_then (Err fault) parts first second is same = is
