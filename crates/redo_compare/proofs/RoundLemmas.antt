-- How many diagnostics a round leaves.
use Rattle.std.proofs.Common.{◌≡◌, ℕ, ◌+◌, ◌-◌, Bool, true, false, cond, List, [], ◌∷◌, length, refl, sym, ap, ◌∙◌, arith}
use Rattle.std.specs.Prelude.{◌||◌, filter}
use Rattle.std.proofs.lemmas.Bool.{both_ways, false≢true, or_parts}
use Rattle.redo_compare.specs.Occurrences.{OccurrenceValue}
use Rattle.redo_compare.specs.Private.Remaining.{one_if}
use Rattle.redo_compare.specs.Rounds.{left_after, occurs, unknown_in, without}

pub filter-cons : (test : OccurrenceValue → Bool) (one : OccurrenceValue) (others : List OccurrenceValue)
    → length (filter test (one ∷ others)) ≡ one_if (test one) + length (filter test others)
filter-cons test one others = by (test one)
  where
    by : (is : Bool) → length (cond is (one ∷ filter test others) (filter test others)) ≡ one_if is + length (filter test others)
    by true = omega arith
    by false = omega arith

pub without-absent : (same : OccurrenceValue → OccurrenceValue → Bool) (one : OccurrenceValue) (left : List OccurrenceValue)
    → occurs same one left ≡ false → without same one left ≡ left
without-absent same one [] none = refl
without-absent same one (other ∷ left) none =
    let parts = or_parts (same one other) (occurs same one left) none in
    ap (λ (is : Bool). cond is left (other ∷ without same one left)) parts.0
    ∙ ap (λ (l : List OccurrenceValue). other ∷ l) (without-absent same one left parts.1)

-- Diagnostics that pass a test. If two are the same, both or none of them pass it.
module _ (same : OccurrenceValue → OccurrenceValue → Bool) (test : OccurrenceValue → Bool)
    (agree : (one other : OccurrenceValue) → same one other ≡ true → test one ≡ test other) where
  abbrev pub count : List OccurrenceValue → ℕ
  count occurrences = length (filter test occurrences)

  pub count-without : (one : OccurrenceValue) (left : List OccurrenceValue) → occurs same one left ≡ true
      → count left ≡ one_if (test one) + count (without same one left)
  count-without one [] is = absurd (false≢true is)
  count-without one (other ∷ left) is = by (same one other) refl is (count-without one left)
    where
      by : (b : Bool) → same one other ≡ b → (b || occurs same one left) ≡ true
          → (occurs same one left ≡ true → count left ≡ one_if (test one) + count (without same one left))
          → count (other ∷ left) ≡ one_if (test one) + count (cond b left (other ∷ without same one left))
      by true is some later =
          filter-cons test other left ∙ ap (λ (b : Bool). one_if b + count left) (sym (agree one other is))
      by false is some later =
          let left_of = later some in
          let before = filter-cons test other left in
          let after = filter-cons test other (without same one left) in
          omega (arith, left_of, before, after)

  -- A round removes as many from what is left as it knows.
  pub conserved : (left now : List OccurrenceValue)
      → count now + count (left_after same left now) ≡ count left + count (unknown_in same left now)
  conserved left [] = omega arith
  conserved left (one ∷ others) = by (occurs same one left) refl (conserved (without same one left) others)
    where
      by : (b : Bool) → occurs same one left ≡ b
          → count others + count (left_after same (without same one left) others)
          ≡ count (without same one left) + count (unknown_in same (without same one left) others)
          → count (one ∷ others) + count (left_after same (without same one left) others)
          ≡ count left + count (cond b (unknown_in same (without same one left) others) (one ∷ unknown_in same left others))
      by true is rest =
          let first = filter-cons test one others in
          let removed = count-without one left is in
          omega (arith, rest, first, removed)
      by false is rest =
          let unchanged = without-absent same one left is in
          let first = filter-cons test one others in
          let as_left = ap count unchanged in
          let as_unknown = ap (λ (l : List OccurrenceValue). count (unknown_in same l others)) unchanged in
          let last = filter-cons test one (unknown_in same left others) in
          omega (arith, rest, first, as_left, as_unknown, last)

  -- If all that pass the test are the same, a round knows as many as it can.
  module _ (alike : (one other : OccurrenceValue) → test one ≡ true → test other ≡ true → same one other ≡ true) where
    pub none-left : (one : OccurrenceValue) (left : List OccurrenceValue) → occurs same one left ≡ false → test one ≡ true
        → count left ≡ 0
    none-left one [] none passes = refl
    none-left one (other ∷ left) none passes =
        let parts = or_parts (same one other) (occurs same one left) none in
        by (test other) refl parts.0 (none-left one left parts.1 passes)
      where
        by : (b : Bool) → test other ≡ b → same one other ≡ false → count left ≡ 0 → count (other ∷ left) ≡ 0
        by true is differ rest = absurd (both_ways (same one other) differ (alike one other passes is))
        by false is differ rest =
            let first = filter-cons test other left in
            let no : one_if (test other) ≡ 0 = ap one_if is in
            omega (arith, rest, first, no)

    pub unknown-count : (left now : List OccurrenceValue) → count (unknown_in same left now) ≡ count now - count left
    unknown-count left [] = omega arith
    unknown-count left (one ∷ others) =
        by (occurs same one left) refl (unknown-count (without same one left) others) (unknown-count left others)
      where
        unknown : (b : Bool) → test one ≡ b → occurs same one left ≡ false
            → count (unknown_in same left others) ≡ count others - count left
            → count (one ∷ unknown_in same left others) ≡ count (one ∷ others) - count left
        unknown true is none rest =
            let first = filter-cons test one others in
            let last = filter-cons test one (unknown_in same left others) in
            let yes : one_if (test one) ≡ 1 = ap one_if is in
            let no_left = none-left one left none is in
            omega (arith, rest, first, last, yes, no_left)
        unknown false is none rest =
            let first = filter-cons test one others in
            let last = filter-cons test one (unknown_in same left others) in
            let no : one_if (test one) ≡ 0 = ap one_if is in
            omega (arith, rest, first, last, no)

        by : (b : Bool) → occurs same one left ≡ b
            → count (unknown_in same (without same one left) others) ≡ count others - count (without same one left)
            → count (unknown_in same left others) ≡ count others - count left
            → count (cond b (unknown_in same (without same one left) others) (one ∷ unknown_in same left others))
            ≡ count (one ∷ others) - count left
        by true is rest other =
            let first = filter-cons test one others in
            let removed = count-without one left is in
            omega (arith, rest, first, removed)
        by false is rest other = unknown (test one) refl is other

    -- What is left without a diagnostic.
    pub count-taken : (one : OccurrenceValue) (left : List OccurrenceValue)
        → count (without same one left) ≡ count left - one_if (test one)
    count-taken one left = by (occurs same one left) refl
      where
        kept : (b : Bool) → test one ≡ b → occurs same one left ≡ false → count left ≡ count left - one_if (test one)
        kept true is none = let no_left = none-left one left none is in omega (arith, no_left)
        kept false is none = let no : one_if (test one) ≡ 0 = ap one_if is in omega (arith, no)

        by : (b : Bool) → occurs same one left ≡ b → count (without same one left) ≡ count left - one_if (test one)
        by true is = let removed = count-without one left is in omega (arith, removed)
        by false is = ap count (without-absent same one left is) ∙ kept (test one) refl is
