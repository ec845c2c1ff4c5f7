-- Keys with their numbers.
use Rattle.std.proofs.Common.{◌≡◌, ℕ, zero, suc, ◌+◌, ◌<◌, ◌≤◌, Bool, true, false, cond, List, [], ◌∷◌, ◌++◌, Option, Some, length, slice_get, refl, sym, ap, ◌∙◌, arith, subst, le_refl}
use Rattle.std.specs.Prelude.{filter, min}
use Rattle.std.specs.Cmp.Lexicographic.{same_text}
use Rattle.std.specs.Map.{lookup}
use Rattle.std.specs.Option.{unwrap_or}
use Rattle.std.specs.Str.{bytes_eq}
use Rattle.std.proofs.lemmas.Cmp.{nat_list_eq_equiv}
use Rattle.std.proofs.lemmas.List.{length-append}
use Rattle.std.proofs.lemmas.List.Elements.{filter-append}
use Rattle.std.proofs.lemmas.Option.{same_Some}
use Rattle.redo_diagnostics.specs.Counts.{AreCounts, count_in, max_count, numbered_after, stored, times_of}

pub times-push : (key other : List ℕ) (keys : List (List ℕ))
    → times_of key (keys ++ other ∷ []) ≡ times_of key keys + length (cond (bytes_eq other key) (other ∷ []) [])
times-push key other keys = ap length (filter-append (λ one. bytes_eq one key) keys (other ∷ []))
    ∙ length-append (filter (λ one. bytes_eq one key) keys) (cond (bytes_eq other key) (other ∷ []) [])

-- A later key has a number of at least the times that it occurred before.
late : (before keys : List (List ℕ)) (i : ℕ) (key : List ℕ) (number : ℕ) → slice_get (numbered_after before keys) i ≡ Some (key, number)
    → times_of key before ≤ number
late before [] i key number is = absurd (cc)
late before (first ∷ keys) zero key number is =
    let same = same_Some (first, times_of first before) (key, number) is in
    subst (λ (pair : List ℕ × ℕ). times_of pair.0 before ≤ pair.1) same (le_refl (times_of first before))
late before (first ∷ keys) (suc i) key number is =
    let after = late (before ++ first ∷ []) keys i key number is in
    omega (arith, after, times-push key first before)

once_more : (key : List ℕ) (keys : List (List ℕ)) → times_of key (keys ++ key ∷ []) ≡ times_of key keys + 1
once_more key keys = times-push key key keys
    ∙ ap (λ (same : Bool). times_of key keys + length (cond same (key ∷ []) [])) (nat_list_eq_equiv.refl key)

pub distinct : (before keys : List (List ℕ)) (i j : ℕ) → i < j → j < length keys
    → slice_get (numbered_after before keys) i ≡ slice_get (numbered_after before keys) j → ⊥
distinct before [] i j order below same = omega (arith, below)
distinct before (first ∷ keys) i zero order below same = omega (arith, order)
distinct before (first ∷ keys) zero (suc j) order below same =
    let after = late (before ++ first ∷ []) keys j first (times_of first before) (sym same) in
    omega (arith, after, once_more first before)
distinct before (first ∷ keys) (suc i) (suc j) order below same =
    distinct (before ++ first ∷ []) keys i j (omega (arith, order)) (omega (arith, below)) same

-- ---- counts in a map

abbrev added_by : Bool → List ℕ → ℕ
added_by is key = length (cond is (key ∷ []) [])

-- One more occurrence of a key.
pub counted : (old new : List (List ℕ × ℕ)) (keys : List (List ℕ)) (key : List ℕ) (before more : ℕ) → AreCounts old keys
    → before ≡ count_in key old → more ≡ min (before + 1) max_count
    → ((other : List ℕ) → lookup (bytes_eq other) new ≡ cond (bytes_eq key other) (Some more) (lookup (bytes_eq other) old))
    → AreCounts new (keys ++ key ∷ [])
counted old new keys key before more are before_is more_is updated other =
    ap (λ (found : Option ℕ). unwrap_or found 0) (updated other) ∙ by (bytes_eq key other) refl
    ∙ sym (ap stored (times-push other key keys))
  where
    by : (is : Bool) → bytes_eq key other ≡ is
        → unwrap_or (cond is (Some more) (lookup (bytes_eq other) old)) 0 ≡ stored (times_of other keys + added_by is key)
    by true is =
        let same = same_text key other (sym is) in
        let times : before ≡ stored (times_of other keys) = before_is ∙ are key ∙ ap (λ (one : List ℕ). stored (times_of one keys)) same in
        more_is ∙ ap (λ (n : ℕ). min (n + 1) max_count) times ∙ one_more (times_of other keys)
      where
        one_more : (times : ℕ) → min (min times max_count + 1) max_count ≡ min (times + 1) max_count
        one_more times = omega arith
    by false is = are other ∙ ap stored (let same : times_of other keys ≡ times_of other keys + 0 = omega arith in same)
