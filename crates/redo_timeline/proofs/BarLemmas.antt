-- Which bars a lane has.
use Rattle.std.proofs.Common.{◌≡◌, ℕ, suc, ◌+◌, ◌<◌, ◌≤◌, Bool, true, false, not, cond, List, [], ◌∷◌, ◌++◌, length, map, get_or, drop, refl, sym, ap, ◌∙◌, subst, arith, drop-cons, append_assoc, length-append}
use Rattle.std.specs.Prelude.{◌&&◌, ◌||◌}
use Rattle.std.specs.List.{list_all, list_any}
use Rattle.std.proofs.lemmas.List.{drop_all}
use Rattle.redo_timeline.specs.declared.bar.Bar.{Bar}
use Rattle.redo_timeline.specs.declared.draft.Draft.{Draft}
use Rattle.redo_timeline.specs.declared.span.Span.{Span}
use Rattle.redo_timeline.specs.declared.span.Window.{Window}
use Rattle.redo_timeline.specs.Bars.{bar_of, bars_from, bars_in, has_failed, is_narrow, joins}
use Rattle.redo_timeline.specs.Lanes.{ended_of}
use Rattle.redo_timeline.specs.Private.Drafting.{draft_of, drawn_draft, joined_draft, joins_draft}
use Rattle.redo_timeline.proofs.LaneLemmas.{ended-last}

-- ---- tests

pub and_left : (a b : Bool) → a && b ≡ true → a ≡ true
and_left true b h = refl
and_left false b h = absurd (cc)

pub and_right : (a b : Bool) → a && b ≡ true → b ≡ true
and_right true b h = h
and_right false b h = absurd (cc)

not_true : (a : Bool) → not a ≡ true → a ≡ false
not_true true h = absurd (cc)
not_true false h = refl

pub all-last : {A : Type 0} (p : A → Bool) (xs : List A) (x : A) → p x ≡ true → list_all p (xs ++ x ∷ []) ≡ list_all p xs
all-last p [] x passes = ap (λ (b : Bool). b && true) passes
all-last p (y ∷ ys) x passes = ap (λ (b : Bool). p y && b) (all-last p ys x passes)

any-last : {A : Type 0} (p : A → Bool) (xs : List A) (x : A) → p x ≡ false → list_any p (xs ++ x ∷ []) ≡ list_any p xs
any-last p [] x fails = ap (λ (b : Bool). b || false) fails
any-last p (y ∷ ys) x fails = ap (λ (b : Bool). p y || b) (any-last p ys x fails)

module _ (window : Window) where
  -- Facts about a span that joins a bar.
  pub joins_narrow : (bar : List Span) (span : Span) → joins window bar span ≡ true → is_narrow window span ≡ true
  joins_narrow bar span h = and_left _ _ (and_left _ _ (and_left _ _ h))

  pub narrow_not_failed : (span : Span) → is_narrow window span ≡ true → span.failed ≡ false
  narrow_not_failed span h = not_true span.failed (and_left _ _ h)

  -- ---- one more span

  draft-joined : (bar : List Span) (span : Span) → 0 < length bar → joins window bar span ≡ true
      → joined_draft span (draft_of window bar) ≡ draft_of window (bar ++ span ∷ [])
  draft-joined [] span some h = absurd (omega (arith, some))
  draft-joined (first ∷ rest) span some h =
      let bar : List Span = first ∷ rest in
      let narrow = joins_narrow bar span h in
      let made : ℕ → ℕ → Bool → Bool → Draft =
      λ (ended count : ℕ) (narrow failed : Bool).
      record { began = first.began; ended = ended; position = first.position; count = count; narrow = narrow; failed = failed } in
      let count : length bar + 1 ≡ length (bar ++ span ∷ []) = sym (length-append bar (span ∷ [])) in
      ap (λ (n : ℕ). made n (length bar + 1) (list_all (is_narrow window) bar) (has_failed bar)) (sym (ended-last bar span))
      ∙ ap (λ (n : ℕ). made (ended_of (bar ++ span ∷ [])) n (list_all (is_narrow window) bar) (has_failed bar)) count
      ∙ ap (λ (b : Bool). made (ended_of (bar ++ span ∷ [])) (length (bar ++ span ∷ [])) b (has_failed bar))
      (sym (all-last (is_narrow window) bar span narrow))
      ∙ ap (λ (b : Bool). made (ended_of (bar ++ span ∷ [])) (length (bar ++ span ∷ [])) (list_all (is_narrow window) (bar ++ span ∷ [])) b)
      (sym (any-last (λ (span : Span). span.failed) bar span (narrow_not_failed span narrow)))

  module _ (lane : ℕ) where
    -- A draft of the spans of the last bar so far, the bars before it, and the spans that are left.
    pub record Drafted (old_bars : List Bar) (all rest : List Span) (bars : List Bar) (draft : Draft) : Type 0 where
      pub bar : List Span
      pub some : 0 < length bar
      pub count : length bar + length rest ≤ length all
      pub draft_is : draft ≡ draft_of window bar
      pub bars_are : bars ++ map (bar_of window lane) (bars_from window bar rest)
          ≡ old_bars ++ map (bar_of window lane) (bars_in window all)

    pub drafted_first : (bars : List Bar) (all : List Span) (first : Span) (rest : List Span) (draft : Draft) → all ≡ first ∷ rest
        → draft ≡ draft_of window (first ∷ []) → Drafted bars all rest bars draft
    drafted_first bars all first rest draft split is = record {
      bar = first ∷ [];
      some = omega arith;
      count = let n = ap length split in omega (arith, n);
      draft_is = is;
      bars_are = ap (λ (spans : List Span). bars ++ map (bar_of window lane) (bars_in window spans)) (sym split);
    }

    pub drafted_is : (old_bars : List Bar) (all rest : List Span) (bars new_bars : List Bar) (draft new_draft : Draft) → new_bars ≡ bars
        → new_draft ≡ draft → Drafted old_bars all rest bars draft → Drafted old_bars all rest new_bars new_draft
    drafted_is old_bars all rest bars new_bars draft new_draft bars_same draft_same drafted =
        subst (λ (bars : List Bar). Drafted old_bars all rest bars new_draft) (sym bars_same)
        (subst (λ (draft : Draft). Drafted old_bars all rest bars draft) (sym draft_same) drafted)

    joined : (old_bars : List Bar) (all : List Span) (span : Span) (rest : List Span) (bars : List Bar) (draft : Draft)
        → joins_draft window draft span ≡ true → Drafted old_bars all (span ∷ rest) bars draft
        → Drafted old_bars all rest bars (joined_draft span draft)
    joined old_bars all span rest bars draft passes drafted =
        let bar = drafted.bar in
        let joins_bar : joins window bar span ≡ true =
        sym (ap (λ (draft : Draft). joins_draft window draft span) drafted.draft_is) ∙ passes in
        let more = length-append bar (span ∷ []) in
        record {
          bar = bar ++ span ∷ [];
          some = omega (arith, more);
          count = let le = drafted.count in omega (arith, more, le);
          draft_is = ap (joined_draft span) drafted.draft_is ∙ draft-joined bar span drafted.some joins_bar;
          bars_are =
              sym (ap (λ (b : Bool). bars ++ map (bar_of window lane)
              (cond b (bars_from window (bar ++ span ∷ []) rest) (bar ∷ bars_from window (span ∷ []) rest))) joins_bar) ∙ drafted.bars_are;
        }

    next : (old_bars : List Bar) (all : List Span) (span : Span) (rest : List Span) (bars : List Bar) (draft : Draft)
        → joins_draft window draft span ≡ false → Drafted old_bars all (span ∷ rest) bars draft
        → Drafted old_bars all rest (bars ++ drawn_draft window lane draft ∷ []) (draft_of window (span ∷ []))
    next old_bars all span rest bars draft fails drafted =
        let bar = drafted.bar in
        let apart : joins window bar span ≡ false = sym (ap (λ (draft : Draft). joins_draft window draft span) drafted.draft_is) ∙ fails in
        record {
          bar = span ∷ [];
          some = omega arith;
          count = let le = drafted.count in let some = drafted.some in omega (arith, le, some);
          draft_is = refl;
          bars_are =
              append_assoc bars (drawn_draft window lane draft ∷ []) (map (bar_of window lane) (bars_from window (span ∷ []) rest))
              ∙ ap (λ (draft : Draft). bars ++ drawn_draft window lane draft ∷ map (bar_of window lane) (bars_from window (span ∷ []) rest))
              drafted.draft_is
              ∙ sym (ap (λ (b : Bool). bars ++ map (bar_of window lane)
              (cond b (bars_from window (bar ++ span ∷ []) rest) (bar ∷ bars_from window (span ∷ []) rest))) apart) ∙ drafted.bars_are;
        }

    -- ---- at an index

    module _ (old_bars : List Bar) (all rest : List Span) (i : ℕ) (d : Span) (bars : List Bar) (draft : Draft) where
      left : i < length rest → drop i rest ≡ get_or rest i d ∷ drop (i + 1) rest
      left below = let next : suc i ≡ i + 1 = omega arith in drop-cons rest i d below ∙ ap (λ (n : ℕ). get_or rest i d ∷ drop n rest) next

      pub drafted_joined : i < length rest → joins_draft window draft (get_or rest i d) ≡ true
          → Drafted old_bars all (drop i rest) bars draft
          → Drafted old_bars all (drop (i + 1) rest) bars (joined_draft (get_or rest i d) draft)
      drafted_joined below passes drafted =
          joined old_bars all (get_or rest i d) (drop (i + 1) rest) bars draft passes
          (subst (λ (rest : List Span). Drafted old_bars all rest bars draft) (left below) drafted)

      pub drafted_next : i < length rest → joins_draft window draft (get_or rest i d) ≡ false
          → Drafted old_bars all (drop i rest) bars draft
          → Drafted old_bars all (drop (i + 1) rest) (bars ++ drawn_draft window lane draft ∷ []) (draft_of window (get_or rest i d ∷ []))
      drafted_next below fails drafted =
          next old_bars all (get_or rest i d) (drop (i + 1) rest) bars draft fails
          (subst (λ (rest : List Span). Drafted old_bars all rest bars draft) (left below) drafted)

      pub drafted_all : length rest ≤ i → Drafted old_bars all (drop i rest) bars draft
          → bars ++ drawn_draft window lane draft ∷ [] ≡ old_bars ++ map (bar_of window lane) (bars_in window all)
      drafted_all done drafted =
          ap (λ (draft : Draft). bars ++ drawn_draft window lane draft ∷ []) drafted.draft_is
          ∙ sym (ap (λ (rest : List Span). bars ++ map (bar_of window lane) (bars_from window drafted.bar rest)) (drop_all i rest done))
          ∙ drafted.bars_are

      pub draft_count : i < length rest → Drafted old_bars all (drop i rest) bars draft → draft.count < length all
      draft_count below drafted = let n = ap (λ (draft : Draft). draft.count) drafted.draft_is in let m = ap length (left below) in let le =
          drafted.count in omega (arith, n, m, le)
