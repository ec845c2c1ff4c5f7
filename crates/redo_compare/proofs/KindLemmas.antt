-- Keys and kinds, and the laws about what is new.
use Rattle.std.proofs.Common.{◌≡◌, ℕ, ◌-◌, ◌≤◌, Bool, true, List, [], ◌∷◌, refl, ap, ◌∙◌, arith}
use Rattle.std.specs.Prelude.{◌&&◌, Some, None}
use Rattle.std.specs.Str.{bytes_eq}
use Rattle.std.proofs.lemmas.Bool.{and_from, and_parts}
use Rattle.std.proofs.lemmas.Cmp.{nat_list_eq_equiv}
use Rattle.redo_compare.specs.Changes.{new_in_target}
use Rattle.redo_compare.specs.Laws.{key_count, kind_count}
use Rattle.redo_compare.specs.Occurrences.{OccurrenceValue}
use Rattle.redo_compare.specs.Private.Remaining.{one_if}
use Rattle.redo_compare.specs.Rounds.{left_after, new_since, same_key, same_source, unknown_in}
use Rattle.redo_compare.proofs.PartLemmas.{new-of-unknown, part-low}
use Rattle.redo_compare.proofs.RoundLemmas.{conserved, filter-cons, unknown-count}

abbrev pub has_key : List ℕ → OccurrenceValue → Bool
has_key key one = bytes_eq one.key key

abbrev pub has_kind : List ℕ → List ℕ → OccurrenceValue → Bool
has_kind key source one = bytes_eq one.key key && bytes_eq one.source source

-- ---- texts

join : (a b c : List ℕ) → bytes_eq a c ≡ true → bytes_eq b c ≡ true → bytes_eq a b ≡ true
join a b c one other = nat_list_eq_equiv.congr a c b one ∙ nat_list_eq_equiv.symm c b ∙ other

both_same : (a b c d : Bool) → a ≡ c → b ≡ d → (a && b) ≡ (c && d)
both_same a b c d one other = λ i. one i && other i

-- ---- keys

pub key-agrees : (key : List ℕ) (one other : OccurrenceValue) → same_key one other ≡ true → has_key key one ≡ has_key key other
key-agrees key one other same = nat_list_eq_equiv.congr one.key other.key key same

pub source-agrees : (key : List ℕ) (one other : OccurrenceValue) → same_source one other ≡ true → has_key key one ≡ has_key key other
source-agrees key one other same =
    key-agrees key one other (and_parts (bytes_eq one.key other.key) (bytes_eq one.source other.source) same).0

pub key-alike : (key : List ℕ) (one other : OccurrenceValue) → has_key key one ≡ true → has_key key other ≡ true
    → same_key one other ≡ true
key-alike key one other = join one.key other.key key

-- ---- kinds

pub kind-agrees : (key source : List ℕ) (one other : OccurrenceValue) → same_source one other ≡ true
    → has_kind key source one ≡ has_kind key source other
kind-agrees key source one other same =
    let parts = and_parts (bytes_eq one.key other.key) (bytes_eq one.source other.source) same in
    both_same _ _ _ _ (nat_list_eq_equiv.congr one.key other.key key parts.0)
    (nat_list_eq_equiv.congr one.source other.source source parts.1)

pub kind-alike : (key source : List ℕ) (one other : OccurrenceValue) → has_kind key source one ≡ true
    → has_kind key source other ≡ true → same_source one other ≡ true
kind-alike key source one other first second =
    let a = and_parts (bytes_eq one.key key) (bytes_eq one.source source) first in
    let b = and_parts (bytes_eq other.key key) (bytes_eq other.source source) second in
    and_from (bytes_eq one.key other.key) (bytes_eq one.source other.source) (join one.key other.key key a.0 b.0)
    (join one.source other.source source a.1 b.1)

-- ---- the laws

pub new-count : (earlier now : List OccurrenceValue) (key : List ℕ)
    → key_count key (new_since earlier now) ≡ key_count key now - key_count key earlier
new-count earlier now key =
    let first = conserved same_source (has_key key) (source-agrees key) earlier now in
    let second = unknown-count same_key (has_key key) (key-agrees key) (key-alike key) (left_after same_source earlier now)
    (unknown_in same_source earlier now) in
    omega (arith, first, second)

pub none-new : (earlier now : List OccurrenceValue) → ((key : List ℕ) → key_count key now ≤ key_count key earlier)
    → new_since earlier now ≡ []
none-new earlier now few = by (new_since earlier now) refl
  where
    by : (new : List OccurrenceValue) → new_since earlier now ≡ new → new ≡ []
    by [] is = refl
    by (one ∷ others) is =
        let number = new-count earlier now one.key in
        let same = ap (key_count one.key) is in
        let low = few one.key in
        let first = filter-cons (has_key one.key) one others in
        let counted : one_if (has_key one.key one) ≡ 1 = ap one_if (nat_list_eq_equiv.refl one.key) in
        absurd (omega (arith, number, same, low, first, counted))

pub few-new : (earlier now : List OccurrenceValue) → new_since earlier now ≡ [] → (key : List ℕ)
    → key_count key now ≤ key_count key earlier
few-new earlier now none key =
    let number = new-count earlier now key in
    let no = ap (key_count key) none in
    omega (arith, number, no)

pub none-since-same : (now : List OccurrenceValue) → new_since now now ≡ []
none-since-same now = none-new now now (λ key. omega arith)

pub known-kinds : (earlier now : List OccurrenceValue) (key source : List ℕ) → kind_count key source now ≤ kind_count key source earlier
    → kind_count key source (new_since earlier now) ≡ 0
known-kinds earlier now key source few =
    let first = unknown-count same_source (has_kind key source) (kind-agrees key source) (kind-alike key source) earlier now in
    let low = part-low (has_kind key source) (new-of-unknown earlier now) in
    omega (arith, first, low, few)

module _ (same : OccurrenceValue → OccurrenceValue → Bool) where
  unknown-all : (now : List OccurrenceValue) → unknown_in same [] now ≡ now
  unknown-all [] = refl
  unknown-all (one ∷ others) = ap (λ (l : List OccurrenceValue). one ∷ l) (unknown-all others)

  left-none : (now : List OccurrenceValue) → left_after same [] now ≡ []
  left-none [] = refl
  left-none (one ∷ others) = left-none others

pub all-new : (now : List OccurrenceValue) → new_in_target None (Some now) ≡ now
all-new now =
    ap (λ (l : List OccurrenceValue). unknown_in same_key l (unknown_in same_source [] now)) (left-none same_source now)
    ∙ unknown-all same_key (unknown_in same_source [] now) ∙ unknown-all same_source now
