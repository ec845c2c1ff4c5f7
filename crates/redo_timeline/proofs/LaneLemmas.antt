-- Which lane a span takes.
use Rattle.std.proofs.Common.{◌≡◌, ℕ, zero, suc, ◌+◌, ◌-◌, ◌<◌, ◌≤◌, max, leb, Bool, true, false, cond, List, [], ◌∷◌, ◌++◌, length, map, get_or, set, drop, refl, sym, ap, ◌∙◌, arith, drop-cons}
use Rattle.std.proofs.lemmas.Bool.{le-leb, lt-leb}
use Rattle.std.proofs.lemmas.List.{drop_all}
use Rattle.std.specs.Prelude.{◌||◌}
use Rattle.redo_timeline.specs.declared.span.Span.{Span}
use Rattle.redo_timeline.specs.Lanes.{ended_of, is_free, take_lane, take_lanes}
use Rattle.redo_timeline.specs.Private.Placing.{ends_of, lane_for, put_end, put_in_lane}

-- The span of a position past the end.
abbrev pub no_span : Span
no_span = record { began = 0; position = 0; ended = 0; failed = false }

-- ---- the lane of a span

pub lane_is : (max_lanes : ℕ) (span : Span) (lanes : List (List Span))
    → take_lane max_lanes span lanes ≡ put_in_lane (lane_for max_lanes span.began (ends_of lanes)) span lanes
lane_is max_lanes span [] = refl
lane_is max_lanes span (lane ∷ lanes) = by (is_free span lane || leb max_lanes 1) (lane_is (max_lanes - 1) span lanes)
  where
    by : (b : Bool) → take_lane (max_lanes - 1) span lanes ≡ put_in_lane (lane_for (max_lanes - 1) span.began (ends_of lanes)) span lanes
        → cond b ((lane ++ span ∷ []) ∷ lanes) (lane ∷ take_lane (max_lanes - 1) span lanes)
        ≡ put_in_lane (cond b 0 (suc (lane_for (max_lanes - 1) span.began (ends_of lanes)))) span (lane ∷ lanes)
    by true more = refl
    by false more = ap (λ (lanes : List (List Span)). lane ∷ lanes) more

max_assoc : (a b c : ℕ) → max a (max b c) ≡ max (max a b) c
max_assoc a b c = omega arith

max_zero : (a b : ℕ) → max a 0 ≡ max 0 a
max_zero a b = omega arith

pub ended-last : (spans : List Span) (span : Span) → ended_of (spans ++ span ∷ []) ≡ max (ended_of spans) span.ended
ended-last [] span = max_zero span.ended 0
ended-last (first ∷ rest) span = ap (max first.ended) (ended-last rest span) ∙ max_assoc first.ended (ended_of rest) span.ended

pub ends-put : (lane : ℕ) (span : Span) (lanes : List (List Span))
    → ends_of (put_in_lane lane span lanes) ≡ put_end lane span.ended (ends_of lanes)
ends-put lane span [] = ap (λ (n : ℕ). n ∷ []) (max_is span.ended)
  where
    max_is : (a : ℕ) → max a 0 ≡ a
    max_is a = omega arith
ends-put zero span (spans ∷ lanes) = ap (λ (end : ℕ). end ∷ ends_of lanes) (ended-last spans span)
ends-put (suc lane) span (spans ∷ lanes) = ap (λ (ends : List ℕ). ended_of spans ∷ ends) (ends-put lane span lanes)

-- ---- at an index

pub put_in_is_set : (lane : ℕ) (span : Span) (lanes : List (List Span)) (spans : List Span) → lane < length lanes
    → spans ≡ get_or lanes lane spans → put_in_lane lane span lanes ≡ set lanes lane (spans ++ span ∷ [])
put_in_is_set lane span [] spans below is = absurd (omega (arith, below))
put_in_is_set zero span (first ∷ lanes) spans below is = ap (λ (spans : List Span). (spans ++ span ∷ []) ∷ lanes) (sym is)
put_in_is_set (suc lane) span (first ∷ lanes) spans below is =
    ap (λ (lanes : List (List Span)). first ∷ lanes) (put_in_is_set lane span lanes spans (omega (arith, below)) is)

pub put_in_new : (lane : ℕ) (span : Span) (lanes : List (List Span)) → length lanes ≤ lane
    → put_in_lane lane span lanes ≡ lanes ++ (span ∷ []) ∷ []
put_in_new lane span [] above = refl
put_in_new zero span (first ∷ lanes) above = absurd (omega (arith, above))
put_in_new (suc lane) span (first ∷ lanes) above =
    ap (λ (lanes : List (List Span)). first ∷ lanes) (put_in_new lane span lanes (omega (arith, above)))

pub end_is_set : (lane ended : ℕ) (ends : List ℕ) (old : ℕ) → lane < length ends → old ≡ get_or ends lane old → old < ended
    → put_end lane ended ends ≡ set ends lane ended
end_is_set lane ended [] old below is lt = absurd (omega (arith, below))
end_is_set zero ended (end ∷ ends) old below is lt = let greater : max end ended ≡ ended = omega (arith, is, lt) in
    ap (λ (end : ℕ). end ∷ ends) greater
end_is_set (suc lane) ended (end ∷ ends) old below is lt =
    ap (λ (ends : List ℕ). end ∷ ends) (end_is_set lane ended ends old (omega (arith, below)) is lt)

pub end_stays : (lane ended : ℕ) (ends : List ℕ) (old : ℕ) → lane < length ends → old ≡ get_or ends lane old → ended ≤ old
    → put_end lane ended ends ≡ ends
end_stays lane ended [] old below is le = absurd (omega (arith, below))
end_stays zero ended (end ∷ ends) old below is le = let same : max end ended ≡ end = omega (arith, is, le) in
    ap (λ (end : ℕ). end ∷ ends) same
end_stays (suc lane) ended (end ∷ ends) old below is le =
    ap (λ (ends : List ℕ). end ∷ ends) (end_stays lane ended ends old (omega (arith, below)) is le)

pub end_is_new : (lane ended : ℕ) (ends : List ℕ) → length ends ≤ lane → put_end lane ended ends ≡ ends ++ ended ∷ []
end_is_new lane ended [] above = refl
end_is_new zero ended (end ∷ ends) above = absurd (omega (arith, above))
end_is_new (suc lane) ended (end ∷ ends) above = ap (λ (ends : List ℕ). end ∷ ends) (end_is_new lane ended ends (omega (arith, above)))

-- ---- in lists of items with spans

module _ {A : Type 0} (spans_in : A → List Span) where
  pub put_at : (lane : ℕ) (span : Span) (lanes : List A) (old new : A) → lane < length lanes → old ≡ get_or lanes lane old
      → spans_in new ≡ spans_in old ++ span ∷ [] → map spans_in (set lanes lane new) ≡ put_in_lane lane span (map spans_in lanes)
  put_at lane span [] old new below is more = absurd (omega (arith, below))
  put_at zero span (first ∷ lanes) old new below is more =
      ap (λ (spans : List Span). spans ∷ map spans_in lanes) (more ∙ ap (λ (lane : A). spans_in lane ++ span ∷ []) is)
  put_at (suc lane) span (first ∷ lanes) old new below is more =
      ap (λ (lanes : List (List Span)). spans_in first ∷ lanes) (put_at lane span lanes old new (omega (arith, below)) is more)

  pub put_last : (lane : ℕ) (span : Span) (lanes : List A) (new : A) → length lanes ≤ lane → spans_in new ≡ span ∷ []
      → map spans_in (lanes ++ new ∷ []) ≡ put_in_lane lane span (map spans_in lanes)
  put_last lane span [] new above is = ap (λ (spans : List Span). spans ∷ []) is
  put_last zero span (first ∷ lanes) new above is = absurd (omega (arith, above))
  put_last (suc lane) span (first ∷ lanes) new above is =
      ap (λ (lanes : List (List Span)). spans_in first ∷ lanes) (put_last lane span lanes new (omega (arith, above)) is)

-- ---- the search for a lane

-- The lanes before this one are not taken.
pub record NoneBefore (max_lanes began lane : ℕ) (ends : List ℕ) : Type 0 where
  pub later : lane + lane_for (max_lanes - lane) began (drop lane ends) ≡ lane_for max_lanes began ends

pub none_before_first : (max_lanes began : ℕ) (ends : List ℕ) → NoneBefore max_lanes began 0 ends
none_before_first max_lanes began ends =
    record {
      later = let same : max_lanes - 0 ≡ max_lanes = omega arith in
          let all : 0 + lane_for (max_lanes - 0) began ends ≡ lane_for (max_lanes - 0) began ends = omega arith in
          all ∙ ap (λ (n : ℕ). lane_for n began ends) same;
    }

module _ (max_lanes began lane : ℕ) (ends : List ℕ) (below : lane < length ends) where
  later_is : lane_for (max_lanes - lane) began (drop lane ends)
      ≡ cond (leb (get_or ends lane 0) began || leb (max_lanes - lane) 1) 0
      (suc (lane_for (max_lanes - (lane + 1)) began (drop (lane + 1) ends)))
  later_is =
      let less : max_lanes - lane - 1 ≡ max_lanes - (lane + 1) = omega arith in
      let next : suc lane ≡ lane + 1 = omega arith in
      ap (lane_for (max_lanes - lane) began) (drop-cons ends lane 0 below)
      ∙ ap (λ (n : ℕ). cond (leb (get_or ends lane 0) began || leb (max_lanes - lane) 1) 0
      (suc (lane_for n began (drop (suc lane) ends)))) less
      ∙ ap (λ (n : ℕ). cond (leb (get_or ends lane 0) began || leb (max_lanes - lane) 1) 0
      (suc (lane_for (max_lanes - (lane + 1)) began (drop n ends)))) next

  pub taken_if_free : NoneBefore max_lanes began lane ends → get_or ends lane 0 ≤ began → lane ≡ lane_for max_lanes began ends
  taken_if_free none free =
      let zero_is : lane_for (max_lanes - lane) began (drop lane ends) ≡ 0 =
      later_is ∙ ap (λ (b : Bool). cond (b || leb (max_lanes - lane) 1) 0
      (suc (lane_for (max_lanes - (lane + 1)) began (drop (lane + 1) ends)))) (le-leb _ _ free) in
      let e = none.later in omega (arith, e, zero_is)

  pub taken_if_last : NoneBefore max_lanes began lane ends → max_lanes ≤ lane + 1 → lane ≡ lane_for max_lanes began ends
  taken_if_last none last =
      let one : max_lanes - lane ≤ 1 = omega (arith, last) in
      let zero_is : lane_for (max_lanes - lane) began (drop lane ends) ≡ 0 =
      later_is ∙ ap (λ (b : Bool). cond (leb (get_or ends lane 0) began || b) 0
      (suc (lane_for (max_lanes - (lane + 1)) began (drop (lane + 1) ends)))) (le-leb _ _ one)
      ∙ ap (λ (b : Bool). cond b 0 (suc (lane_for (max_lanes - (lane + 1)) began (drop (lane + 1) ends))))
      (or_true (leb (get_or ends lane 0) began)) in
      let e = none.later in omega (arith, e, zero_is)
    where
      or_true : (b : Bool) → b || true ≡ true
      or_true true = refl
      or_true false = refl

  pub none_before_next : NoneBefore max_lanes began lane ends → began < get_or ends lane 0 → lane + 1 < max_lanes
      → NoneBefore max_lanes began (lane + 1) ends
  none_before_next none busy more =
      let two : 1 < max_lanes - lane = omega (arith, more) in
      let next : lane_for (max_lanes - lane) began (drop lane ends) ≡ suc (lane_for (max_lanes - (lane + 1)) began (drop (lane + 1) ends)) =
      later_is ∙ ap (λ (b : Bool). cond (b || leb (max_lanes - lane) 1) 0
      (suc (lane_for (max_lanes - (lane + 1)) began (drop (lane + 1) ends)))) (lt-leb _ _ busy)
      ∙ ap (λ (b : Bool). cond b 0 (suc (lane_for (max_lanes - (lane + 1)) began (drop (lane + 1) ends)))) (lt-leb _ _ two) in
      let e = none.later in record { later = omega (arith, e, next) }

pub none_taken : (max_lanes began lane : ℕ) (ends : List ℕ) → NoneBefore max_lanes began lane ends → length ends ≤ lane
    → lane ≡ lane_for max_lanes began ends
none_taken max_lanes began lane ends none all =
    let e = none.later in
    let nothing : lane_for (max_lanes - lane) began (drop lane ends) ≡ 0 =
    ap (lane_for (max_lanes - lane) began) (drop_all lane ends all) in omega (arith, e, nothing)

-- ---- all spans

-- The lanes so far, when the last span in each of them ended, and the spans that are left.
pub record Positioned (max_lanes : ℕ) (all rest : List Span) (lanes : List (List Span)) (ends : List ℕ) : Type 0 where
  pub lanes_are : take_lanes max_lanes lanes rest ≡ take_lanes max_lanes [] all
  pub ends_are : ends ≡ ends_of lanes

pub positioned_next :
    (max_lanes : ℕ) (all : List Span) (i : ℕ) (d : Span) (lanes new_lanes : List (List Span)) (ends new_ends : List ℕ) (lane : ℕ)
    → i < length all → Positioned max_lanes all (drop i all) lanes ends
    → lane ≡ lane_for max_lanes (get_or all i d).began ends → new_lanes ≡ put_in_lane lane (get_or all i d) lanes
    → new_ends ≡ put_end lane (get_or all i d).ended ends → Positioned max_lanes all (drop (i + 1) all) new_lanes new_ends
positioned_next max_lanes all i d lanes new_lanes ends new_ends lane below positioned lane_found put ended =
    let span = get_or all i d in
    let next : suc i ≡ i + 1 = omega arith in
    let left : drop i all ≡ span ∷ drop (i + 1) all = drop-cons all i d below ∙ ap (λ (n : ℕ). span ∷ drop n all) next in
    let lane_same : lane ≡ lane_for max_lanes span.began (ends_of lanes) =
    lane_found ∙ ap (lane_for max_lanes span.began) positioned.ends_are in
    let taken : new_lanes ≡ take_lane max_lanes span lanes =
    put ∙ ap (λ (n : ℕ). put_in_lane n span lanes) lane_same ∙ sym (lane_is max_lanes span lanes) in
    record {
      lanes_are = ap (λ (lanes : List (List Span)). take_lanes max_lanes lanes (drop (i + 1) all)) taken
          ∙ sym (ap (take_lanes max_lanes lanes) left) ∙ positioned.lanes_are;
      ends_are = ended ∙ ap (put_end lane span.ended) positioned.ends_are ∙ sym (ends-put lane span lanes) ∙ ap ends_of (sym put);
    }

pub positioned_all : (max_lanes : ℕ) (all : List Span) (i : ℕ) (lanes : List (List Span)) (ends : List ℕ) → length all ≤ i
    → Positioned max_lanes all (drop i all) lanes ends → lanes ≡ take_lanes max_lanes [] all
positioned_all max_lanes all i lanes ends done positioned =
    ap (take_lanes max_lanes lanes) (sym (drop_all i all done)) ∙ positioned.lanes_are
