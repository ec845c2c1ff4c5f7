-- Lines that are warnings, found in all lines at once.
use Rattle.std.proofs.Common.{◌≡◌, ◌≢◌, ℕ, zero, suc, ◌+◌, ◌-◌, ◌<◌, ◌≤◌, Bool, true, false, List, [], ◌∷◌, ◌++◌, Option, None, Some, is_some, length, drop, refl, sym, ap, subst, ◌∙◌, nat_eq, arith, add-one, append_assoc, length-append, length-drop, drop-cons, ◌⊎◌, inl, inr}
use Rattle.std.specs.Prelude.{◌&&◌, ◌==◌, if◌then◌else◌, codes, count_by, take, slice_index}
use Rattle.std.specs.List.{AllByRecursion, flat_map, starts_with}
use Rattle.std.proofs.lemmas.Bool.{cases_lt, eqb-true, eq-eqb, false≢true, true≢false}
use Rattle.std.proofs.lemmas.Bool.Decides.{eqb_tells}
use Rattle.std.proofs.lemmas.List.{append-nil, get_or-drop, take_all}
use Rattle.std.proofs.lemmas.List.Sums.{sum_by-cons}
use Rattle.std.proofs.lemmas.Option.{none-some, same_Some}
use Rattle.memchr.specs.Find.{NoneBefore, Nowhere, OccursAt, Passes, is_byte}
use Rattle.redo_line.specs.Lines.{HasNoLineFeed, ended, line_feed, rest, with_line_feed}
use Rattle.redo_line.proofs.LineLemmas.{are_lines}
use Rattle.redo_outline.specs.Facts.{contains, is_warning}
use Rattle.redo_outline.specs.Private.LogFacts.{after_line}

differs : (a b : ℕ) → a ≢ b → nat_eq a b ≡ false
differs a b other = elim (eqb_tells a b) [ inl same ↦ absurd (other same.1) | inr differ ↦ differ.0 ]

-- ---- the bytes after the first line feed

after_line_is : (bytes : List ℕ) (end : ℕ) → NoneBefore (Passes (is_byte line_feed) bytes) 0 (length bytes) end
    → Passes (is_byte line_feed) bytes end → drop (end + 1) bytes ≡ after_line bytes
after_line_is [] end before passes = absurd (omega (arith, before.high))
after_line_is (byte ∷ bytes) zero before passes = ap (λ (b : Bool). if b then bytes else after_line bytes) (sym passes)
after_line_is (byte ∷ bytes) (suc end) before passes =
    ap (λ (n : ℕ). drop n (byte ∷ bytes)) (add-one (suc end)) ∙ ap (λ (n : ℕ). drop n bytes) (sym (add-one end))
    ∙ after_line_is bytes end (record {
      low = omega arith;
      high = omega (arith, before.high);
      before = λ k low high. before.before (suc k) (omega arith) (omega (arith, high));
    }) passes
    ∙ ap (λ (b : Bool). if b then bytes else after_line bytes) (sym (by (byte == line_feed) refl))
  where
    by : (b : Bool) → (byte == line_feed) ≡ b → (byte == line_feed) ≡ false
    by true is = absurd (before.before 0 (omega arith) (omega arith) is)
    by false is = is

no_line_after : (bytes : List ℕ) → Nowhere (Passes (is_byte line_feed) bytes) 0 (length bytes) → after_line bytes ≡ []
no_line_after [] nowhere = refl
no_line_after (byte ∷ bytes) nowhere =
    ap (λ (b : Bool). if b then bytes else after_line bytes) (by (byte == line_feed) refl)
    ∙ no_line_after bytes (λ k low high. nowhere (suc k) (omega arith) (omega (arith, high)))
  where
    by : (b : Bool) → (byte == line_feed) ≡ b → (byte == line_feed) ≡ false
    by true is = absurd (nowhere 0 (omega arith) (omega arith) is)
    by false is = is

pub after_found : (bytes : List ℕ) (end : ℕ)
    → NoneBefore (Passes (is_byte line_feed) bytes) 0 (length bytes) end × Passes (is_byte line_feed) bytes end
    → drop (end + 1) bytes ≡ after_line bytes
after_found bytes end found = after_line_is bytes end found.0 found.1

pub after_none : (bytes : List ℕ) → Nowhere (Passes (is_byte line_feed) bytes) 0 (length bytes) → [] ≡ after_line bytes
after_none bytes nowhere = sym (no_line_after bytes nowhere)

-- ---- where a part begins

-- Whether bytes begin with a part.
abbrev begins : List ℕ → List ℕ → Bool
begins [] bytes = true
begins (p ∷ ps) [] = false
begins (p ∷ ps) (byte ∷ bytes) = nat_eq p byte && begins ps bytes

starts-begins : (part bytes : List ℕ) → starts_with nat_eq bytes part ≡ begins part bytes
starts-begins [] bytes = refl
starts-begins (p ∷ ps) [] = refl
starts-begins (p ∷ ps) (byte ∷ bytes) = ap (λ (b : Bool). nat_eq p byte && b) (starts-begins ps bytes)

-- A part without line feeds is in one line.
begins-line : (part text more : List ℕ) → HasNoLineFeed part → HasNoLineFeed text
    → begins part (text ++ line_feed ∷ more) ≡ begins part text
begins-line [] text more free free_text = refl
begins-line (p ∷ ps) [] more free free_text = ap (λ (b : Bool). b && begins ps more) (differs p line_feed free.0)
begins-line (p ∷ ps) (byte ∷ text) more free free_text = ap (λ (b : Bool). nat_eq p byte && b) (begins-line ps text more free.1 free_text.1)

-- The bytes of a part are at an index.
abbrev Reads : List ℕ → List ℕ → Type 0
Reads part bytes = (length part ≤ length bytes) × ((j : ℕ) → j < length part → slice_index bytes j ≡ slice_index part j)

and_true : (a b : Bool) → (a && b) ≡ true → (a ≡ true) × (b ≡ true)
and_true true b is = (refl, is)
and_true false b is = absurd (false≢true is)

reads-begins : (part bytes : List ℕ) → Reads part bytes → begins part bytes ≡ true
reads-begins [] bytes reads = refl
reads-begins (p ∷ ps) [] reads = absurd (omega (arith, reads.0))
reads-begins (p ∷ ps) (byte ∷ bytes) reads =
    ap (λ (b : Bool). b && begins ps bytes) (eq-eqb p byte (sym (reads.1 0 (omega arith))))
    ∙ reads-begins ps bytes (omega (arith, reads.0), λ j low. reads.1 (suc j) (omega (arith, low)))

begins-reads : (part bytes : List ℕ) → begins part bytes ≡ true → Reads part bytes
begins-reads [] bytes is = (omega arith, λ j low. absurd (omega (arith, low)))
begins-reads (p ∷ ps) [] is = absurd (false≢true is)
begins-reads (p ∷ ps) (byte ∷ bytes) is =
    let both = and_true (nat_eq p byte) (begins ps bytes) is in
    let later = begins-reads ps bytes both.1 in
    (omega (arith, later.0), by (eqb-true p byte both.0) later.1)
  where
    by : p ≡ byte → ((j : ℕ) → j < length ps → slice_index bytes j ≡ slice_index ps j) → (j : ℕ) → j < length (p ∷ ps)
        → slice_index (byte ∷ bytes) j ≡ slice_index (p ∷ ps) j
    by first later zero low = sym first
    by first later (suc j) low = later j (omega (arith, low))

occurs-begins : (bytes part : List ℕ) (k : ℕ) → OccursAt bytes part k → begins part (drop k bytes) ≡ true
occurs-begins bytes part k occurs =
    reads-begins part (drop k bytes) (
      omega (arith, length-drop k bytes, occurs.fits),
      λ j low. get_or-drop k bytes j 0
          ∙ occurs.reads j low,
    )

begins-occurs : (bytes part : List ℕ) (k : ℕ) → 0 < length part → begins part (drop k bytes) ≡ true → OccursAt bytes part k
begins-occurs bytes part k some is =
    let reads = begins-reads part (drop k bytes) is in
    record { fits = omega (arith, length-drop k bytes, reads.0, some); reads = λ j low. sym (get_or-drop k bytes j 0) ∙ reads.1 j low }

same_at : (k at : ℕ) → k ≤ at → (k < at → ⊥) → k ≡ at
same_at k at low not_below = elim (cases_lt k at) [ inl below ↦ absurd (not_below below) | inr past ↦ omega arith ]

below_at : (k at : ℕ) → k ≤ at → (k ≡ at → ⊥) → suc k ≤ at
below_at k at low differ = elim (cases_lt k at) [ inl below ↦ omega arith | inr past ↦ absurd (differ (omega arith)) ]

-- A line feed that follows bytes without one.
after_free : (bytes more : List ℕ) → HasNoLineFeed bytes → after_line (bytes ++ line_feed ∷ more) ≡ more
after_free [] more free = refl
after_free (byte ∷ bytes) more free =
    ap (λ (b : Bool). if b then bytes ++ line_feed ∷ more else after_line (bytes ++ line_feed ∷ more)) (differs byte line_feed free.0)
    ∙ after_free bytes more free.1

-- The tail of a suffix.
next_suffix : (bytes : List ℕ) (k : ℕ) (byte : ℕ) (later : List ℕ) → byte ∷ later ≡ drop k bytes → later ≡ drop (suc k) bytes
next_suffix bytes k byte later is = by (cases_lt k (length bytes))
  where
    by : (k < length bytes) ⊎ (length bytes ≤ k) → later ≡ drop (suc k) bytes
    by (inl below) = let whole = is ∙ drop-cons bytes k 0 below in cc
    by (inr past) = let same = ap length is in absurd (omega (arith, same, length-drop k bytes))

module _ (p : ℕ) (ps : List ℕ) where
  abbrev part : List ℕ
  part = p ∷ ps

  -- The bytes from the first occurrence of the part on.
  abbrev from_part : List ℕ → Option (List ℕ)
  from_part [] = None
  from_part (byte ∷ bytes) = if begins part (byte ∷ bytes) then Some (byte ∷ bytes) else from_part bytes

  contains-is : (bytes : List ℕ) → contains part bytes ≡ is_some (from_part bytes)
  contains-is [] = refl
  contains-is (byte ∷ bytes) = ap (λ (b : Bool). if b then true else contains part bytes) (starts-begins part (byte ∷ bytes))
      ∙ by (begins part (byte ∷ bytes)) (contains-is bytes)
    where
      by : (b : Bool) → contains part bytes ≡ is_some (from_part bytes)
          → (if b then true else contains part bytes) ≡ is_some (if b then Some (byte ∷ bytes) else from_part bytes)
      by true later = refl
      by false later = later

  found_from : (hay : List ℕ) (k at : ℕ) (bytes : List ℕ) → bytes ≡ drop k hay → k ≤ at → ((j : ℕ) → k ≤ j → j < at → ¬ OccursAt hay part j)
      → OccursAt hay part at → from_part bytes ≡ Some (drop at hay)
  found_from hay k at [] is low before occurs = let none = ap length is in absurd (omega (arith, none, length-drop k hay, occurs.fits))
  found_from hay k at (byte ∷ bytes) is low before occurs =
      by (begins part (byte ∷ bytes)) refl
      (λ further. found_from hay (suc k) at bytes (next_suffix hay k byte bytes is) further
      (λ j high below. before j (omega arith) below) occurs)
    where
      here : begins part (byte ∷ bytes) ≡ true → k < at → ⊥
      here is_here below = before k (omega arith) below (begins-occurs hay part k (omega arith) (ap (begins part) (sym is) ∙ is_here))

      later : begins part (byte ∷ bytes) ≡ false → k ≡ at → ⊥
      later is_not same = true≢false (sym (occurs-begins hay part at occurs) ∙ ap (λ (n : ℕ). begins part (drop n hay)) (sym same)
          ∙ ap (begins part) (sym is) ∙ is_not)

      by : (b : Bool) → begins part (byte ∷ bytes) ≡ b → (suc k ≤ at → from_part bytes ≡ Some (drop at hay))
          → (if b then Some (byte ∷ bytes) else from_part bytes) ≡ Some (drop at hay)
      by true is_here further = ap Some (is ∙ ap (λ (n : ℕ). drop n hay) (same_at k at low (here is_here)))
      by false is_not further = further (below_at k at low (later is_not))

  none_from : (hay : List ℕ) (k : ℕ) (bytes : List ℕ) → bytes ≡ drop k hay → ((j : ℕ) → k ≤ j → j < length hay + 1 → ¬ OccursAt hay part j)
      → from_part bytes ≡ None
  none_from hay k [] is nowhere = refl
  none_from hay k (byte ∷ bytes) is nowhere =
      by (begins part (byte ∷ bytes)) refl
      (none_from hay (suc k) bytes (next_suffix hay k byte bytes is) (λ j low high. nowhere j (omega arith) high))
    where
      within : k < length hay + 1
      within = let some = ap length is in omega (arith, some, length-drop k hay)

      by : (b : Bool) → begins part (byte ∷ bytes) ≡ b → from_part bytes ≡ None
          → (if b then Some (byte ∷ bytes) else from_part bytes) ≡ None
      by true is_here later = absurd (nowhere k (omega arith) within
          (begins-occurs hay part k (omega arith) (ap (begins part) (sym is) ∙ is_here)))
      by false is_not later = later

  -- ---- lines

  -- The bytes from the part found in a line on, or else from the part found after it.
  abbrev or_after : Option (List ℕ) → List ℕ → Option (List ℕ)
  or_after None more = from_part more
  or_after (Some suffix) more = Some (suffix ++ line_feed ∷ more)

  module _ (free : HasNoLineFeed part) where
    from_line : (text more : List ℕ) → HasNoLineFeed text → from_part (text ++ line_feed ∷ more) ≡ or_after (from_part text) more
    from_line [] more free_text = ap (λ (b : Bool). if b then Some (line_feed ∷ more) else from_part more)
        (begins-line part [] more free free_text)
    from_line (byte ∷ text) more free_text =
        ap (λ (b : Bool). if b then Some (byte ∷ (text ++ line_feed ∷ more)) else from_part (text ++ line_feed ∷ more))
        (begins-line part (byte ∷ text) more free free_text)
        ∙ by (begins part (byte ∷ text)) (from_line text more free_text.1)
      where
        by : (b : Bool) → from_part (text ++ line_feed ∷ more) ≡ or_after (from_part text) more
            → (if b then Some (byte ∷ (text ++ line_feed ∷ more)) else from_part (text ++ line_feed ∷ more))
            ≡ or_after (if b then Some (byte ∷ text) else from_part text) more
        by true later = refl
        by false later = later

    counted : (text : List ℕ) (texts : List (List ℕ)) (found : Bool) → is_some (from_part text) ≡ found
        → count_by (contains part) (text ∷ texts) ≡ (if found then 1 else 0) + count_by (contains part) texts
    counted text texts found is = sum_by-cons (λ line. if contains part line then 1 else 0) text texts
        ∙ ap (λ (b : Bool). (if b then 1 else 0) + count_by (contains part) texts) (contains-is text ∙ is)

    -- The rest of the line in which it is found.
    after_suffix : (text : List ℕ) (more suffix : List ℕ) → HasNoLineFeed text → from_part text ≡ Some suffix
        → after_line (suffix ++ line_feed ∷ more) ≡ more
    after_suffix [] more suffix free_text is = absurd (none-some suffix is)
    after_suffix (byte ∷ text) more suffix free_text is =
        by (begins part (byte ∷ text)) is (λ later. after_suffix text more suffix free_text.1 later)
      where
        by : (b : Bool) → (if b then Some (byte ∷ text) else from_part text) ≡ Some suffix
            → (from_part text ≡ Some suffix → after_line (suffix ++ line_feed ∷ more) ≡ more)
            → after_line (suffix ++ line_feed ∷ more) ≡ more
        by true here later = ap (λ (bytes : List ℕ). after_line (bytes ++ line_feed ∷ more)) (sym (same_Some (byte ∷ text) suffix here))
            ∙ after_free (byte ∷ text) more free_text
        by false there later = later there

    abbrev has_part : List ℕ → Bool
    has_part = contains part

    record NextLine (texts : List (List ℕ)) (suffix : List ℕ) : Type 0 where
      pub more : List (List ℕ)
      pub more_free : AllByRecursion HasNoLineFeed more
      pub after : after_line suffix ≡ flat_map with_line_feed more
      pub count_is : count_by has_part texts ≡ suc (count_by has_part more)
      pub shorter : length (flat_map with_line_feed more) < length (flat_map with_line_feed texts)

    lines-cons : (text : List ℕ) (texts : List (List ℕ))
        → flat_map with_line_feed (text ∷ texts) ≡ text ++ line_feed ∷ flat_map with_line_feed texts
    lines-cons text texts = append_assoc text (line_feed ∷ []) (flat_map with_line_feed texts)

    longer : (text : List ℕ) (texts : List (List ℕ))
        → length (flat_map with_line_feed texts) < length (flat_map with_line_feed (text ∷ texts))
    longer text texts = let whole = ap length (lines-cons text texts) in
        omega (arith, whole, length-append text (line_feed ∷ flat_map with_line_feed texts))

    next_line : (texts : List (List ℕ)) (suffix : List ℕ) → AllByRecursion HasNoLineFeed texts
        → from_part (flat_map with_line_feed texts) ≡ Some suffix → NextLine texts suffix
    next_line [] suffix free_texts is = absurd (none-some suffix is)
    next_line (text ∷ texts) suffix free_texts is =
        by (from_part text) refl (sym (from_line text (flat_map with_line_feed texts) free_texts.0)
        ∙ ap from_part (sym (lines-cons text texts)) ∙ is) (λ later. next_line texts suffix free_texts.1 later)
      where
        by : (found : Option (List ℕ)) → from_part text ≡ found → or_after found (flat_map with_line_feed texts) ≡ Some suffix
            → (from_part (flat_map with_line_feed texts) ≡ Some suffix → NextLine texts suffix) → NextLine (text ∷ texts) suffix
        by None none there later =
            let next = later there in record {
              more = next.more;
              more_free = next.more_free;
              after = next.after;
              count_is = counted text texts false (ap is_some none) ∙ omega (arith, next.count_is);
              shorter = omega (arith, next.shorter, longer text texts);
            }
        by (Some end) found here later = record {
          more = texts;
          more_free = free_texts.1;
          after = ap after_line (sym (same_Some (end ++ line_feed ∷ flat_map with_line_feed texts) suffix here))
              ∙ after_suffix text (flat_map with_line_feed texts) end free_texts.0 found;
          count_is = counted text texts true (ap is_some found) ∙ omega arith;
          shorter = longer text texts;
        }

    no_line : (texts : List (List ℕ)) → AllByRecursion HasNoLineFeed texts → from_part (flat_map with_line_feed texts) ≡ None
        → count_by has_part texts ≡ 0
    no_line [] free_texts is = refl
    no_line (text ∷ texts) free_texts is =
        by (from_part text) refl (sym (from_line text (flat_map with_line_feed texts) free_texts.0)
        ∙ ap from_part (sym (lines-cons text texts)) ∙ is) (λ later. no_line texts free_texts.1 later)
      where
        by : (found : Option (List ℕ)) → from_part text ≡ found → or_after found (flat_map with_line_feed texts) ≡ None
            → (from_part (flat_map with_line_feed texts) ≡ None → count_by has_part texts ≡ 0) → count_by has_part (text ∷ texts) ≡ 0
        by None none there later = let rest = later there in counted text texts false (ap is_some none) ∙ omega (arith, rest)
        by (Some end) found here later = absurd (none-some (end ++ line_feed ∷ flat_map with_line_feed texts) (sym here))

-- ---- the first occurrence

-- No occurrence of the part is before the bytes that are left.
module _ (p : ℕ) (ps : List ℕ) (bytes left : List ℕ) (from : ℕ) (left_is : left ≡ drop from bytes) (few : from ≤ length bytes)
    (nowhere : Nowhere (OccursAt bytes (p ∷ ps)) 0 from) where
  size : length left + from ≡ length bytes
  size = let same = ap length left_is ∙ length-drop from bytes in omega (arith, same, few)

  byte_is : (k : ℕ) → slice_index left k ≡ slice_index bytes (from + k)
  byte_is k = ap (λ (bytes : List ℕ). slice_index bytes k) left_is ∙ get_or-drop from bytes k 0

  -- The part begins with its first byte.
  has_first : (k : ℕ) → from ≤ k → OccursAt bytes (p ∷ ps) k → Passes (is_byte p) left (k - from)
  has_first k low occurs =
      let same : from + (k - from) ≡ k + 0 = omega (arith, low) in
      eq-eqb (slice_index left (k - from)) p (byte_is (k - from) ∙ ap (slice_index bytes) same ∙ occurs.reads 0 (omega arith))

  in_left : (k : ℕ) → from ≤ k → OccursAt bytes (p ∷ ps) k → k - from < length left
  in_left k low occurs = let fits = occurs.fits in omega (arith, fits, low, size)

  pub occurs_nowhere : Nowhere (Passes (is_byte p) left) 0 (length left) → Nowhere (OccursAt bytes (p ∷ ps)) 0 (length bytes + 1)
  occurs_nowhere none k low high occurs = elim (cases_lt k from) [
    | inl sooner ↦ nowhere k low sooner occurs
    | inr later ↦ none (k - from) (omega arith) (in_left k later occurs) (has_first k later occurs)
  ]

  -- The next place of the first byte.
  module _ (at : ℕ) (found : NoneBefore (Passes (is_byte p) left) 0 (length left) at × Passes (is_byte p) left at) where
    pub place_fits : from + at < length bytes
    place_fits = let below = found.0.high in omega (arith, below, size)

    none_before : Nowhere (OccursAt bytes (p ∷ ps)) 0 (from + at)
    none_before k low high occurs = elim (cases_lt k from) [
      | inl sooner ↦ nowhere k low sooner occurs
      | inr later ↦ found.0.before (k - from) (omega arith) (omega (arith, later, high)) (has_first k later occurs)
    ]

    module _ (here : List ℕ) (here_is : here ≡ drop (from + at) bytes) where
      begins_here : begins (p ∷ ps) (drop (from + at) bytes) ≡ starts_with nat_eq here (p ∷ ps)
      begins_here = ap (begins (p ∷ ps)) (sym here_is) ∙ sym (starts-begins (p ∷ ps) here)

      pub occurs_here : starts_with nat_eq here (p ∷ ps) ≡ true
          → NoneBefore (OccursAt bytes (p ∷ ps)) 0 (length bytes + 1) (from + at) × OccursAt bytes (p ∷ ps) (from + at)
      occurs_here is = (
        record { low = omega arith; high = omega (arith, place_fits); before = none_before },
        begins-occurs bytes (p ∷ ps) (from + at) (omega arith) (begins_here ∙ is),
      )

      pub not_here : starts_with nat_eq here (p ∷ ps) ≡ false → Nowhere (OccursAt bytes (p ∷ ps)) 0 (from + at + 1)
      not_here is_not k low high occurs = elim (cases_lt k (from + at)) [
        | inl sooner ↦ none_before k low sooner occurs
        | inr later ↦
            let same : k ≡ from + at = omega (arith, later, high) in
            true≢false (sym (occurs-begins bytes (p ∷ ps) (from + at) (subst (OccursAt bytes (p ∷ ps)) same occurs)) ∙ begins_here ∙ is_not)
      ]

-- ---- warnings

-- `warning:` without its first byte.
abbrev pub arning : List ℕ
arning = codes "arning:"

no_line_feed : HasNoLineFeed (119 ∷ arning)
no_line_feed = (omega arith, (omega arith, (omega arith, (omega arith, (omega arith, (omega arith, (omega arith, (omega arith, tt))))))))

-- Lines left to count: they have the rest of the warnings.
pub record Counts (bytes left : List ℕ) (count : ℕ) : Type 0 where
  pub texts : List (List ℕ)
  pub free : AllByRecursion HasNoLineFeed texts
  pub left_is : left ≡ flat_map with_line_feed texts
  pub total : count + count_by is_warning texts ≡ count_by is_warning (ended bytes)
  pub small : count + length left ≤ length bytes

pub counts_init : (bytes : List ℕ) → rest bytes ≡ [] → Counts bytes bytes 0
counts_init bytes none =
    let lines = are_lines bytes in record {
      texts = ended bytes;
      free = lines.lines_hold_none;
      left_is = lines.whole ∙ ap (λ last. flat_map with_line_feed (ended bytes) ++ last) none
          ∙ append-nil (flat_map with_line_feed (ended bytes));
      total = omega arith;
      small = omega arith;
    }

module _ (bytes left : List ℕ) (count : ℕ) (so_far : Counts bytes left count) where
  module _ (at : ℕ) (found : NoneBefore (OccursAt left (codes "warning:")) 0 (length left + 1) at
      × OccursAt left (codes "warning:") at) where
    next : NextLine 119 arning no_line_feed so_far.texts (drop at left)
    next =
        next_line 119 arning no_line_feed so_far.texts (drop at left) so_far.free
        (ap (from_part 119 arning) (sym so_far.left_is) ∙ found_from 119 arning left 0 at left refl (omega arith) found.0.before found.1)

    pub counts_smaller : length (after_line (drop at left)) < length left
    counts_smaller = let after = ap length next.after in let whole = ap length so_far.left_is in omega (arith, next.shorter, after, whole)

    pub counts_next : Counts bytes (after_line (drop at left)) (count + 1)
    counts_next = record {
      texts = next.more;
      free = next.more_free;
      left_is = next.after;
      total = omega (arith, next.count_is, so_far.total);
      small = omega (arith, counts_smaller, so_far.small);
    }

    pub one_more : count + 1 ≤ length bytes
    one_more = omega (arith, counts_smaller, so_far.small)

  pub counts_all : Nowhere (OccursAt left (codes "warning:")) 0 (length left + 1) → count ≡ count_by is_warning (ended bytes)
  counts_all nowhere =
      let none = no_line 119 arning no_line_feed so_far.texts so_far.free
      (ap (from_part 119 arning) (sym so_far.left_is) ∙ none_from 119 arning left 0 left refl nowhere) in
      omega (arith, none, so_far.total)

-- A slice up to the end.
pub to_end : (bytes result : List ℕ) (at : ℕ) → result ≡ after_line (take (length bytes - at) (drop at bytes))
    → after_line (drop at bytes) ≡ result
to_end bytes result at is = ap after_line (sym (take_all (length bytes - at) (drop at bytes) (omega (arith, length-drop at bytes))))
    ∙ sym is
