-- The laws about times.
use Rattle.std.proofs.Common.{◌≡◌, ℕ, ◌<◌, ◌≤◌, ◌⊎◌, inl, inr, ◌&&◌, Bool, true, false, List, Option, None, Some, IfSome, IfNone, refl, ap, ◌∙◌, arith, leb, ltb}
use Rattle.std.specs.Prelude.{IsSomeAnd, if◌then◌else◌}
use Rattle.std.specs.List.{Contains, list_any}
use Rattle.std.specs.List.Sorted.{IsPermutation}
use Rattle.std.specs.Option.{option_or}
use Rattle.std.proofs.lemmas.Bool.{and_parts, le-leb, leb-true, leb-false, lt-ltb, ltb-true}
use Rattle.std.proofs.lemmas.List.Folds.{Any-from_list_any, list_any-from_Any}
use Rattle.std.proofs.lemmas.List.Sorted.{Contains-permutation, IsPermutation-sym}
use Rattle.redo_times.specs.declared.report.Stage.{Stage}
use Rattle.redo_times.specs.declared.report.Stage.TheVariants.{BeganInOwnLog, BeganInOtherLog, EndedInOwnLog, EndedInOtherLog, RunsOther}
use Rattle.redo_times.specs.Laws.{BeginsAfter, BeginsInOwnLog, IsBeginning, IsEnd, IsFirst, IsLast, IsReported, Never, NeverBegins, RanOthers}
use Rattle.redo_times.specs.Report.{TimedLog, reports_of}
use Rattle.redo_times.specs.Times.{before_end, begin_in, end_in, first_time, is_within, last_time, times_at, times_of, unless_begun}
use Rattle.redo_times.proofs.ReportedLemmas.{first-none, first-some, last-none, last-some, listed, reported}

if_some : {X : Type 0} (found : Option X) (P : X → Type 0) → ((x : X) → found ≡ Some x → P x) → IfSome found P
if_some None P holds = tt
if_some (Some x) P holds = holds x refl

if_none : {X : Type 0} (found : Option X) (P : Type 0) → (found ≡ None → P) → IfNone found P
if_none None P holds = holds refl
if_none (Some x) P holds = tt

-- ---- a beginning and an end

kept : (began ended : Option ℕ) (time : ℕ) → before_end began ended ≡ Some time → (began ≡ Some time) × IfSome ended (λ end. time ≤ end)
kept None ended time is = absurd (cc)
kept (Some began) None time is = (is, tt)
kept (Some began) (Some ended) time is = by (leb began ended) refl is
  where
    by : (order : Bool) → leb began ended ≡ order → (if order then Some began else None) ≡ Some time
        → (Some began ≡ Some time) × (time ≤ ended)
    by true order is = (is, (let same : began ≡ time = cc in let bound = leb-true began ended order in omega (arith, same, bound)))
    by false order is = absurd (cc)

-- Why a beginning is unknown.
abbrev IsLost : Option ℕ → Option ℕ → Type 0
IsLost began ended = (began ≡ None) ⊎ ((first : ℕ) × (end : ℕ) × (began ≡ Some first) × (ended ≡ Some end) × (end < first))

lost : (began ended : Option ℕ) → before_end began ended ≡ None → IsLost began ended
lost None ended is = inl refl
lost (Some began) None is = absurd (cc)
lost (Some began) (Some ended) is = by (leb began ended) refl is
  where
    by : (order : Bool) → leb began ended ≡ order → (if order then Some began else None) ≡ None → IsLost (Some began) (Some ended)
    by true order is = absurd (cc)
    by false order is = inr (began, ended, refl, refl, leb-false began ended order)

chosen : (own other : Option ℕ) (time : ℕ) → option_or own other ≡ Some time → (own ≡ Some time) ⊎ ((own ≡ None) × (other ≡ Some time))
chosen None other time is = inr (refl, is)
chosen (Some own) other time is = inl is

neither : (own other : Option ℕ) → option_or own other ≡ None → (own ≡ None) × (other ≡ None)
neither None other is = (refl, is)
neither (Some own) other is = absurd (cc)

counts : (began ended : Option ℕ) (time : ℕ) → unless_begun began ended ≡ Some time → (began ≡ None) × (ended ≡ Some time)
counts None ended time is = (refl, is)
counts (Some began) ended time is = absurd (cc)

ignored : (began ended : Option ℕ) → unless_begun began ended ≡ None → ((time : ℕ) × (began ≡ Some time)) ⊎ (ended ≡ None)
ignored None ended is = inr is
ignored (Some began) ended is = inl (began, refl)

-- ---- the laws

module _ (max_bytes : ℕ) (logs : List TimedLog) (target : List ℕ) where
  abbrev at : Stage → List ℕ
  at stage = times_at stage target (reports_of max_bytes logs)

  abbrev end : Option ℕ
  end = end_in (reports_of max_bytes logs) target

  abbrev begin : Option ℕ
  begin = begin_in (reports_of max_bytes logs) target

  first-reported : (stage : Stage) (time : ℕ) → first_time (at stage) ≡ Some time → IsFirst (IsReported max_bytes logs stage target) time
  first-reported stage time is =
      let found = first-some (at stage) time is in record {
        is = reported stage target time max_bytes logs found.is;
        none_earlier = λ other from. found.none_earlier other (listed stage target other max_bytes logs from);
      }

  last-reported : (stage : Stage) (time : ℕ) → last_time (at stage) ≡ Some time → IsLast (IsReported max_bytes logs stage target) time
  last-reported stage time is =
      let found = last-some (at stage) time is in record {
        is = reported stage target time max_bytes logs found.is;
        none_later = λ other from. found.none_later other (listed stage target other max_bytes logs from);
      }

  never-first : (stage : Stage) → first_time (at stage) ≡ None → Never (IsReported max_bytes logs stage target)
  never-first stage none time from = first-none (at stage) none time (listed stage target time max_bytes logs from)

  never-last : (stage : Stage) → last_time (at stage) ≡ None → Never (IsReported max_bytes logs stage target)
  never-last stage none time from = last-none (at stage) none time (listed stage target time max_bytes logs from)

  beginning-is : (time : ℕ) → begin ≡ Some time → IsBeginning max_bytes logs target time
  beginning-is time is = elim (chosen (first_time (at BeganInOwnLog)) (first_time (at BeganInOtherLog)) time is) [
    | inl own ↦ inl (first-reported BeganInOwnLog time own)
    | inr (none, other) ↦ inr (never-first BeganInOwnLog none, first-reported BeganInOtherLog time other)
  ]

  pub beginning-first : IfSome (times_of max_bytes logs target).began (IsBeginning max_bytes logs target)
  beginning-first = if_some (before_end begin end) (IsBeginning max_bytes logs target)
      (λ time is. beginning-is time (kept begin end time is).0)

  pub beginning-before : IfSome (times_of max_bytes logs target).began
      (λ began. IfSome (times_of max_bytes logs target).ended (λ ended. began ≤ ended))
  beginning-before = if_some (before_end begin end) (λ began. IfSome end (λ ended. began ≤ ended)) (λ time is. (kept begin end time is).1)

  pub beginning-unknown : IfNone (times_of max_bytes logs target).began
      (NeverBegins max_bytes logs target ⊎ BeginsAfter max_bytes logs target (times_of max_bytes logs target).ended)
  beginning-unknown =
      if_none (before_end begin end) (NeverBegins max_bytes logs target ⊎ BeginsAfter max_bytes logs target end) (λ is.
      elim (lost begin end is) [
        | inl none ↦ inl (let both = neither (first_time (at BeganInOwnLog)) (first_time (at BeganInOtherLog)) none in
            (never-first BeganInOwnLog both.0, never-first BeganInOtherLog both.1))
        | inr (first, ended, first_is, end_is, order) ↦ inr (ended, first, end_is, beginning-is first first_is, order)
      ])

  abbrev others : Option ℕ
  others = unless_begun (first_time (at BeganInOwnLog)) (last_time (at EndedInOtherLog))

  pub end-last : IfSome (times_of max_bytes logs target).ended (IsEnd max_bytes logs target)
  end-last =
      if_some end (IsEnd max_bytes logs target) (λ time is.
      elim (chosen (last_time (at EndedInOwnLog)) others time is) [
        | inl own ↦ inl (last-reported EndedInOwnLog time own)
        | inr (none, other) ↦ inr (let both = counts (first_time (at BeganInOwnLog)) (last_time (at EndedInOtherLog)) time other in
            (never-last EndedInOwnLog none, never-first BeganInOwnLog both.0, last-reported EndedInOtherLog time both.1))
      ])

  pub own-unknown : IfNone (times_of max_bytes logs target).ended (Never (IsReported max_bytes logs EndedInOwnLog target))
  own-unknown = if_none end (Never (IsReported max_bytes logs EndedInOwnLog target))
      (λ is. never-last EndedInOwnLog (neither (last_time (at EndedInOwnLog)) others is).0)

  pub other-unknown : IfNone (times_of max_bytes logs target).ended
      (BeginsInOwnLog max_bytes logs target ⊎ Never (IsReported max_bytes logs EndedInOtherLog target))
  other-unknown = if_none end (BeginsInOwnLog max_bytes logs target ⊎ Never (IsReported max_bytes logs EndedInOtherLog target)) (λ is.
      elim (ignored (first_time (at BeganInOwnLog)) (last_time (at EndedInOtherLog)) (neither (last_time (at EndedInOwnLog)) others is).1) [
        | inl (time, own) ↦ inl (time, (first-reported BeganInOwnLog time own).is)
        | inr none ↦ inr (never-last EndedInOtherLog none)
      ])

-- ---- which targets ran others

within-parts : (began ended : Option ℕ) (time : ℕ) → is_within began ended time ≡ true
    → IsSomeAnd (before_end began ended) (λ first. first < time) × IsSomeAnd ended (λ last. time ≤ last)
within-parts None ended time is = absurd (cc)
within-parts (Some began) None time is = absurd (cc)
within-parts (Some began) (Some ended) time is =
    let both = and_parts (ltb began time) (leb time ended) is in
    let after = ltb-true began time both.0 in
    let until = leb-true time ended both.1 in
    (rw (le-leb began ended (omega (arith, after, until))) after, until)

within-from : (began ended : Option ℕ) (time : ℕ) → IsSomeAnd (before_end began ended) (λ first. first < time)
    → IsSomeAnd ended (λ last. time ≤ last) → is_within began ended time ≡ true
within-from None ended time after until = absurd after
within-from (Some began) None time after until = absurd until
within-from (Some began) (Some ended) time after until = by (leb began ended) refl after
  where
    by : (order : Bool) → leb began ended ≡ order → IsSomeAnd (if order then Some began else None) (λ first. first < time)
        → (ltb began time && leb time ended) ≡ true
    by true order after = rw (lt-ltb began time after, le-leb time ended until) refl
    by false order after = absurd after

module _ (max_bytes : ℕ) (logs : List TimedLog) (target : List ℕ) where
  abbrev ends : List ℕ
  ends = times_at RunsOther target (reports_of max_bytes logs)

  abbrev first : Option ℕ
  first = begin_in (reports_of max_bytes logs) target

  abbrev last : Option ℕ
  last = end_in (reports_of max_bytes logs) target

  pub ran-one : (times_of max_bytes logs target).ran_others ≡ true
      → (time : ℕ) × RanOthers max_bytes logs target (times_of max_bytes logs target) time
  ran-one is =
      let found = Any-from_list_any (is_within first last) ends is in
      let parts = within-parts first last found.1 found.4 in (
        found.1,
        record {
          is_reported = reported RunsOther target found.1 max_bytes logs (found.0, found.2, found.3);
          after = parts.0;
          until = parts.1;
        },
      )

  pub ran-none : (times_of max_bytes logs target).ran_others ≡ false
      → Never (RanOthers max_bytes logs target (times_of max_bytes logs target))
  ran-none none time ran =
      let here = listed RunsOther target time max_bytes logs ran.is_reported in
      let is = list_any-from_Any (is_within first last) ends
      (here.0, time, here.1, here.2, within-from first last time ran.after ran.until) in
      absurd (cc)

-- ---- the order of the logs

same-any : (test : ℕ → Bool) (times others : List ℕ) → ((time : ℕ) → Contains times time → Contains others time)
    → ((time : ℕ) → Contains others time → Contains times time) → list_any test times ≡ list_any test others
same-any test times others to from = by (list_any test times) (list_any test others) refl refl
  where
    by : (is other : Bool) → list_any test times ≡ is → list_any test others ≡ other → is ≡ other
    by true true is other_is = refl
    by false false is other_is = refl
    by true false is other_is =
        let found = Any-from_list_any test times is in
        let there = to found.1 (found.0, found.2, found.3) in
        let too = list_any-from_Any test others (there.0, found.1, there.1, there.2, found.4) in absurd (cc)
    by false true is other_is =
        let found = Any-from_list_any test others other_is in
        let there = from found.1 (found.0, found.2, found.3) in
        let too = list_any-from_Any test times (there.0, found.1, there.1, there.2, found.4) in absurd (cc)

same-first : (times others : List ℕ) → ((time : ℕ) → Contains times time → Contains others time)
    → ((time : ℕ) → Contains others time → Contains times time) → first_time times ≡ first_time others
same-first times others to from = by (first_time times) (first_time others) refl refl
  where
    by : (first other : Option ℕ) → first_time times ≡ first → first_time others ≡ other → first ≡ other
    by None None is other_is = refl
    by None (Some other) is other_is = absurd (first-none times is other (from other (first-some others other other_is).is))
    by (Some first) None is other_is = absurd (first-none others other_is first (to first (first-some times first is).is))
    by (Some first) (Some other) is other_is =
        let here = first-some times first is in
        let there = first-some others other other_is in
        let up = here.none_earlier other (from other there.is) in
        let down = there.none_earlier first (to first here.is) in
        let same : first ≡ other = omega (arith, up, down) in ap Some same

same-last : (times others : List ℕ) → ((time : ℕ) → Contains times time → Contains others time)
    → ((time : ℕ) → Contains others time → Contains times time) → last_time times ≡ last_time others
same-last times others to from = by (last_time times) (last_time others) refl refl
  where
    by : (last other : Option ℕ) → last_time times ≡ last → last_time others ≡ other → last ≡ other
    by None None is other_is = refl
    by None (Some other) is other_is = absurd (last-none times is other (from other (last-some others other other_is).is))
    by (Some last) None is other_is = absurd (last-none others other_is last (to last (last-some times last is).is))
    by (Some last) (Some other) is other_is =
        let here = last-some times last is in
        let there = last-some others other other_is in
        let up = here.none_later other (from other there.is) in
        let down = there.none_later last (to last here.is) in
        let same : last ≡ other = omega (arith, up, down) in ap Some same

-- A record of the logs is a record of the same logs in another order.
moved : (max_bytes : ℕ) (logs others : List TimedLog) → IsPermutation logs others → (stage : Stage) (target : List ℕ) (time : ℕ)
    → IsReported max_bytes logs stage target time → IsReported max_bytes others stage target time
moved max_bytes logs others order stage target time from =
    record {
      log = from.log;
      is_log = Contains-permutation logs others from.log order from.is_log;
      line = from.line;
      is_line = from.is_line;
      says = from.says;
      at = from.at;
    }

listed-moved : (max_bytes : ℕ) (logs others : List TimedLog) → IsPermutation logs others → (stage : Stage) (target : List ℕ) (time : ℕ)
    → Contains (times_at stage target (reports_of max_bytes logs)) time
    → Contains (times_at stage target (reports_of max_bytes others)) time
listed-moved max_bytes logs others order stage target time here =
    listed stage target time max_bytes others
    (moved max_bytes logs others order stage target time (reported stage target time max_bytes logs here))

pub order-irrelevant : (max_bytes : ℕ) (logs others : List TimedLog) (target : List ℕ) → IsPermutation logs others
    → times_of max_bytes logs target ≡ times_of max_bytes others target
order-irrelevant max_bytes logs others target order =
    let back = IsPermutation-sym logs others order in
    let begun = same-first _ _ (listed-moved max_bytes logs others order BeganInOwnLog target)
    (listed-moved max_bytes others logs back BeganInOwnLog target) in
    let first = same-first _ _ (listed-moved max_bytes logs others order BeganInOtherLog target)
    (listed-moved max_bytes others logs back BeganInOtherLog target) in
    let own = same-last _ _ (listed-moved max_bytes logs others order EndedInOwnLog target)
    (listed-moved max_bytes others logs back EndedInOwnLog target) in
    let other = same-last _ _ (listed-moved max_bytes logs others order EndedInOtherLog target)
    (listed-moved max_bytes others logs back EndedInOtherLog target) in
    let any = λ (test : ℕ → Bool). same-any test _ _ (listed-moved max_bytes logs others order RunsOther target)
    (listed-moved max_bytes others logs back RunsOther target) in
    λ i. record {
      began = before_end (option_or (begun i) (first i)) (option_or (own i) (unless_begun (begun i) (other i)));
      ended = option_or (own i) (unless_begun (begun i) (other i));
      ran_others = (ap (λ (test : ℕ → Bool). list_any test (times_at RunsOther target (reports_of max_bytes logs)))
          (λ j. is_within (option_or (begun j) (first j)) (option_or (own j) (unless_begun (begun j) (other j))))
          ∙ any (is_within (begin_in (reports_of max_bytes others) target) (end_in (reports_of max_bytes others) target))) i;
    }
