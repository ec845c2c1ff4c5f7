-- Numbers of diagnostics that are left, when one is added or taken.
use Rattle.std.proofs.Common.{◌≡◌, ℕ, ◌+◌, ◌-◌, ◌≤◌, Bool, true, false, not, List, [], ◌∷◌, ◌++◌, length, refl, sym, ap, ◌∙◌, subst, arith, append-nil}
use Rattle.std.specs.Prelude.{◌&&◌, filter, nat_lt}
use Rattle.std.specs.Str.{bytes_eq}
use Rattle.std.proofs.lemmas.Bool.{and_from, lt-ltb}
use Rattle.std.proofs.lemmas.Cmp.{nat_list_eq_equiv}
use Rattle.std.proofs.lemmas.List.{length-append}
use Rattle.redo_compare.specs.Occurrences.{OccurrenceValue}
use Rattle.redo_compare.specs.Private.Remaining.{CountByKey, CountBySource, count_in, one_if, same_kind}
use Rattle.redo_compare.specs.Private.Rounding.{RanFirst, RanSecond}
use Rattle.redo_compare.specs.Rounds.{left_after, occurs, picked, same_key, same_source, unknown_in, without}
use Rattle.redo_compare.proofs.KindLemmas.{has_key, has_kind, key-agrees, key-alike, kind-agrees, kind-alike, source-agrees}
use Rattle.redo_compare.proofs.PickedLemmas.{item_if, left-push, picked-push, unknown-push}
use Rattle.redo_compare.proofs.RoundLemmas.{count-taken, count-without, filter-cons, none-left, without-absent}

abbrev pub Counts : Type 0
Counts = List ((List ℕ × List ℕ) × ℕ)

and-true : (is : Bool) → (is && true) ≡ is
and-true true = refl
and-true false = refl

filter-push : (test : OccurrenceValue → Bool) (occurrences : List OccurrenceValue) (one : OccurrenceValue)
    → length (filter test (occurrences ++ one ∷ [])) ≡ length (filter test occurrences) + one_if (test one)
filter-push test [] one = let first = filter-cons test one [] in omega (arith, first)
filter-push test (other ∷ occurrences) one =
    let rest = filter-push test occurrences one in
    omega (arith, rest, filter-cons test other occurrences, filter-cons test other (occurrences ++ one ∷ []))

pub filter-low : (test : OccurrenceValue → Bool) (occurrences : List OccurrenceValue)
    → length (filter test occurrences) ≤ length occurrences
filter-low test [] = omega arith
filter-low test (one ∷ occurrences) = by (test one) refl (filter-low test occurrences)
  where
    by : (is : Bool) → test one ≡ is → length (filter test occurrences) ≤ length occurrences
        → length (filter test (one ∷ occurrences)) ≤ length (one ∷ occurrences)
    by true is low = let yes : one_if (test one) ≡ 1 = ap one_if is in omega (arith, low, yes, filter-cons test one occurrences)
    by false is low = let no : one_if (test one) ≡ 0 = ap one_if is in omega (arith, low, no, filter-cons test one occurrences)

-- ---- one more

pub add-source : (old new : Counts) (before : List OccurrenceValue) (one : OccurrenceValue) → CountBySource old before
    → ((kind : List ℕ × List ℕ) → count_in kind new ≡ count_in kind old + one_if (same_kind (one.key, one.source) kind))
    → CountBySource new (before ++ one ∷ [])
add-source old new before one counted added key source =
    let now = added (key, source) in
    let was = counted key source in
    let more = filter-push (has_kind key source) before one in
    now ∙ ap (λ (n : ℕ). n + one_if (has_kind key source one)) was ∙ sym more

pub add-key : (old new : Counts) (before : List OccurrenceValue) (one : OccurrenceValue) → CountByKey old before
    → ((kind : List ℕ × List ℕ) → count_in kind new ≡ count_in kind old + one_if (same_kind (one.key, []) kind))
    → CountByKey new (before ++ one ∷ [])
add-key old new before one counted added key =
    added (key, []) ∙ ap (λ (is : Bool). count_in (key, []) old + one_if is) (and-true (has_key key one))
    ∙ ap (λ (n : ℕ). n + one_if (has_key key one)) (counted key) ∙ sym (filter-push (has_key key) before one)

-- ---- one less

pub take-source : (old new : Counts) (left : List OccurrenceValue) (one : OccurrenceValue) → CountBySource old left
    → ((kind : List ℕ × List ℕ) → count_in kind new ≡ count_in kind old - one_if (same_kind (one.key, one.source) kind))
    → CountBySource new (without same_source one left)
take-source old new left one counted taken key source =
    taken (key, source) ∙ ap (λ (n : ℕ). n - one_if (has_kind key source one)) (counted key source)
    ∙ sym (count-taken same_source (has_kind key source) (kind-agrees key source) (kind-alike key source) one left)

pub take-key : (old new : Counts) (left : List OccurrenceValue) (one : OccurrenceValue) → CountByKey old left
    → ((kind : List ℕ × List ℕ) → count_in kind new ≡ count_in kind old - one_if (same_kind (one.key, []) kind))
    → CountByKey new (without same_key one left)
take-key old new left one counted taken key =
    taken (key, []) ∙ ap (λ (is : Bool). count_in (key, []) old - one_if is) (and-true (has_key key one))
    ∙ ap (λ (n : ℕ). n - one_if (has_key key one)) (counted key)
    ∙ sym (count-taken same_key (has_key key) (key-agrees key) (key-alike key) one left)

-- A diagnostic that is known by its source line is removed from the counts of keys, too.
pub take-known : (old new : Counts) (left : List OccurrenceValue) (one : OccurrenceValue) → occurs same_source one left ≡ true
    → CountByKey old left
    → ((kind : List ℕ × List ℕ) → count_in kind new ≡ count_in kind old - one_if (same_kind (one.key, []) kind))
    → CountByKey new (without same_source one left)
take-known old new left one known counted taken key =
    let removed = count-without same_source (has_key key) (source-agrees key) one left known in
    taken (key, []) ∙ ap (λ (is : Bool). count_in (key, []) old - one_if is) (and-true (has_key key one))
    ∙ ap (λ (n : ℕ). n - one_if (has_key key one)) (counted key) ∙ omega (arith, removed)

pub keep-unknown : (counts : Counts) (left : List OccurrenceValue) (one : OccurrenceValue) → occurs same_source one left ≡ false
    → CountByKey counts left → CountByKey counts (without same_source one left)
keep-unknown counts left one unknown counted =
    subst (λ (l : List OccurrenceValue). CountByKey counts l) (sym (without-absent same_source one left unknown)) counted

-- ---- whether one is left

module _ (same : OccurrenceValue → OccurrenceValue → Bool) (test : OccurrenceValue → Bool)
    (agree : (one other : OccurrenceValue) → same one other ≡ true → test one ≡ test other)
    (alike : (one other : OccurrenceValue) → test one ≡ true → test other ≡ true → same one other ≡ true) where
  occurs-count : (one : OccurrenceValue) (left : List OccurrenceValue) → test one ≡ true
      → nat_lt 0 (length (filter test left)) ≡ occurs same one left
  occurs-count one left passes = by (occurs same one left) refl
    where
      by : (b : Bool) → occurs same one left ≡ b → nat_lt 0 (length (filter test left)) ≡ b
      by true is =
          let removed = count-without same test agree one left is in
          let yes : one_if (test one) ≡ 1 = ap one_if passes in
          lt-ltb 0 (length (filter test left)) (omega (arith, removed, yes))
      by false is = ap (nat_lt 0) (none-left same test agree alike one left is passes)

pub is-known-source : (counts : Counts) (left : List OccurrenceValue) (one : OccurrenceValue) (is : Bool)
    → is ≡ nat_lt 0 (count_in (one.key, one.source) counts) → CountBySource counts left → is ≡ occurs same_source one left
is-known-source counts left one is known counted =
    known ∙ ap (nat_lt 0) (counted one.key one.source)
    ∙ occurs-count same_source (has_kind one.key one.source) (kind-agrees one.key one.source) (kind-alike one.key one.source) one left
    (and_from (bytes_eq one.key one.key) (bytes_eq one.source one.source) (nat_list_eq_equiv.refl one.key)
    (nat_list_eq_equiv.refl one.source))

pub is-known-key : (counts : Counts) (left : List OccurrenceValue) (one : OccurrenceValue) (is : Bool)
    → is ≡ nat_lt 0 (count_in (one.key, []) counts) → CountByKey counts left → is ≡ occurs same_key one left
is-known-key counts left one is known counted =
    known ∙ ap (nat_lt 0) (counted one.key)
    ∙ occurs-count same_key (has_key one.key) (key-agrees one.key) (key-alike one.key) one left (nat_list_eq_equiv.refl one.key)

-- ---- rounds

-- One more diagnostic in a round over these, with its flag.
pub round-step : (same : OccurrenceValue → OccurrenceValue → Bool) (left done : List OccurrenceValue) (one : OccurrenceValue)
    (flags : List Bool) (is_known : Bool) → length flags ≡ length done → picked flags done ≡ unknown_in same left done
    → is_known ≡ occurs same one (left_after same left done)
    → picked (flags ++ not is_known ∷ []) (done ++ one ∷ []) ≡ unknown_in same left (done ++ one ∷ [])
round-step same left done one flags is_known count so_far known =
    picked-push flags (not is_known) done one count
    ∙ (λ i. so_far i ++ item_if (not (known i)) one)
    ∙ sym (unknown-push same left done one)

-- The first round of no diagnostics.
pub first-begins : (source key : Counts) → RanFirst source source key key [] []
first-begins source key = record {
  count = refl;
  unknown = λ earlier counted. refl;
  source_left = λ earlier counted. counted;
  key_left = λ earlier counted by_key. by_key;
}

module _ (old_source source new_source old_key key new_key : Counts) (done : List OccurrenceValue) (flags : List Bool)
    (one : OccurrenceValue) (is_known : Bool) (so_far : RanFirst old_source source old_key key done flags)
    (known : is_known ≡ nat_lt 0 (count_in (one.key, one.source) source))
    (taken : (kind : List ℕ × List ℕ) → count_in kind new_source
    ≡ count_in kind source - one_if (same_kind (one.key, one.source) kind)) where
  -- Whether it is known, by what is left.
  known-left : (earlier : List OccurrenceValue) → CountBySource old_source earlier
      → is_known ≡ occurs same_source one (left_after same_source earlier done)
  known-left earlier counted =
      is-known-source source (left_after same_source earlier done) one is_known known (so_far.source_left earlier counted)

  first-step : ((left : List OccurrenceValue) → is_known ≡ occurs same_source one left → CountByKey key left
      → CountByKey new_key (without same_source one left))
      → RanFirst old_source new_source old_key new_key (done ++ one ∷ []) (flags ++ not is_known ∷ [])
  first-step by_key = record {
    count =
        let count = so_far.count in
        omega (arith, count, length-append flags (not is_known ∷ []), length-append done (one ∷ []));
    unknown = λ earlier counted. round-step same_source earlier done one flags is_known so_far.count (so_far.unknown earlier counted)
        (known-left earlier counted);
    source_left = λ earlier counted. subst (λ (l : List OccurrenceValue). CountBySource new_source l)
        (sym (left-push same_source earlier done one))
        (take-source source new_source (left_after same_source earlier done) one (so_far.source_left earlier counted) taken);
    key_left = λ earlier counted by_keys. subst (λ (l : List OccurrenceValue). CountByKey new_key l)
        (sym (left-push same_source earlier done one))
        (by_key (left_after same_source earlier done) (known-left earlier counted) (so_far.key_left earlier counted by_keys));
  }

  pub first-known : is_known ≡ true
      → ((kind : List ℕ × List ℕ) → count_in kind new_key ≡ count_in kind key - one_if (same_kind (one.key, []) kind))
      → RanFirst old_source new_source old_key new_key (done ++ one ∷ []) (flags ++ not is_known ∷ [])
  first-known is removed =
      first-step (λ left by_left counted. take-known key new_key left one (sym by_left ∙ is) counted removed)

  pub first-unknown : is_known ≡ false → new_key ≡ key
      → RanFirst old_source new_source old_key new_key (done ++ one ∷ []) (flags ++ not is_known ∷ [])
  first-unknown is same =
      first-step (λ left by_left counted. keep-unknown new_key left one (sym by_left ∙ is)
      (subst (λ (l : Counts). CountByKey l left) (sym same) counted))

-- The second round of no diagnostics.
pub second-begins : (key : Counts) → RanSecond key key [] [] []
second-begins key = record {
  count = refl;
  new = λ left counted. refl;
  key_left = λ left counted. counted;
}

module _ (old_key key new_key : Counts) (done : List OccurrenceValue) (unknown flags : List Bool) (one : OccurrenceValue)
    (so_far : RanSecond old_key key done unknown flags) (same_length : length unknown ≡ length done) where
  -- A diagnostic that was known is skipped.
  pub second-known : new_key ≡ key → RanSecond old_key new_key (done ++ one ∷ []) (unknown ++ false ∷ []) (flags ++ false ∷ [])
  second-known same = record {
    count =
        let count = so_far.count in
        omega (arith, count, length-append flags (false ∷ []), length-append done (one ∷ []));
    new = λ left counted. picked-push flags false done one so_far.count ∙ append-nil (picked flags done) ∙ so_far.new left counted
        ∙ ap (unknown_in same_key left) (sym (skipped left));
    key_left = λ left counted. subst (λ (l : Counts). CountByKey l (left_after same_key left
        (picked (unknown ++ false ∷ []) (done ++ one ∷ []))))
        (sym same) (subst (λ (l : List OccurrenceValue). CountByKey key (left_after same_key left l)) (sym (skipped left))
        (so_far.key_left left counted));
  }
    where
      skipped : (left : List OccurrenceValue) → picked (unknown ++ false ∷ []) (done ++ one ∷ []) ≡ picked unknown done
      skipped left = picked-push unknown false done one same_length ∙ append-nil (picked unknown done)

  pub second-unknown : (is_known : Bool) → is_known ≡ nat_lt 0 (count_in (one.key, []) key)
      → ((kind : List ℕ × List ℕ) → count_in kind new_key ≡ count_in kind key - one_if (same_kind (one.key, []) kind))
      → RanSecond old_key new_key (done ++ one ∷ []) (unknown ++ true ∷ []) (flags ++ not is_known ∷ [])
  second-unknown is_known known taken = record {
    count =
        let count = so_far.count in
        omega (arith, count, length-append flags (not is_known ∷ []), length-append done (one ∷ []));
    new = λ left counted. picked-push flags (not is_known) done one so_far.count
        ∙ (λ i. so_far.new left counted i ++ item_if (not (known-left left counted i)) one)
        ∙ sym (unknown-push same_key left (picked unknown done) one) ∙ ap (unknown_in same_key left) (sym taken_in);
    key_left = λ left counted. subst (λ (l : List OccurrenceValue). CountByKey new_key (left_after same_key left l)) (sym taken_in)
        (subst (λ (l : List OccurrenceValue). CountByKey new_key l) (sym (left-push same_key left (picked unknown done) one))
        (take-key key new_key (left_after same_key left (picked unknown done)) one (so_far.key_left left counted) taken));
  }
    where
      taken_in : picked (unknown ++ true ∷ []) (done ++ one ∷ []) ≡ picked unknown done ++ one ∷ []
      taken_in = picked-push unknown true done one same_length

      known-left : (left : List OccurrenceValue) → CountByKey old_key left
          → is_known ≡ occurs same_key one (left_after same_key left (picked unknown done))
      known-left left counted =
          is-known-key key (left_after same_key left (picked unknown done)) one is_known known (so_far.key_left left counted)

-- Lists may be written differently.
pub second-as : (old_key key : Counts) {done now : List OccurrenceValue} {unknown before flags after : List Bool} → now ≡ done
    → before ≡ unknown → after ≡ flags → RanSecond old_key key done unknown flags → RanSecond old_key key now before after
second-as old_key key {done} {now} {unknown} {before} {flags} {after} same_now same_before same_after ran =
    subst (λ (l : List OccurrenceValue). RanSecond old_key key l before after) (sym same_now)
    (subst (λ (l : List Bool). RanSecond old_key key done l after) (sym same_before)
    (subst (λ (l : List Bool). RanSecond old_key key done unknown l) (sym same_after) ran))
