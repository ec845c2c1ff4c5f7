-- The tallies of targets, with one more report.
use Rattle.std.proofs.Common.{◌≡◌, ℕ, zero, suc, ◌<◌, Bool, true, false, ◌&&◌, ◌||◌, List, [], ◌∷◌, ◌++◌, Option, None, Some, is_some, length, map, replicate, get_or, refl, sym, ap, ◌∙◌, subst, arith}
use Rattle.std.specs.Prelude.{min, max, nat_eq, position, slice_get, if◌then◌else◌}
use Rattle.std.specs.Cmp.Lexicographic.{pointwise, same_text}
use Rattle.std.specs.List.{AllByRecursion, IsDistinct, list_any}
use Rattle.std.specs.Str.{bytes_eq}
use Rattle.std.proofs.lemmas.Cmp.{nat_list_eq_equiv}
use Rattle.std.proofs.lemmas.List.{append-nil, append_assoc, get_or-map}
use Rattle.std.proofs.lemmas.List.Elements.{filter_map-append}
use Rattle.std.proofs.lemmas.List.Quantifiers.{position-Some}
use Rattle.std.proofs.lemmas.Map.Keys.{apart_from_distinct}
use Rattle.std.proofs.lemmas.Option.{get_or_from_slice_get, slice_get_within}
use Rattle.std.proofs.Math.ListN.{set}
use Rattle.redo_line.proofs.PlaceLemmas.{some_place}
use Rattle.redo_times.specs.declared.report.Report.{Report}
use Rattle.redo_times.specs.declared.report.Stage.{Stage}
use Rattle.redo_times.specs.declared.report.Stage.TheVariants.{BeganInOwnLog, BeganInOtherLog, EndedInOwnLog, EndedInOtherLog, RunsOther}
use Rattle.redo_times.specs.Times.{earlier, first_time, is_same_stage, last_time, later, time_if, times_at}
use Rattle.redo_times.specs.Private.Reporting.{named_reports, owner_reports, with_owner}
use Rattle.redo_times.specs.Private.Tally.{AreTallies, TallyValue, tally_of, with_time}

-- ---- one more time

earlier-swap : (a b : ℕ) (times : Option ℕ) → min a (earlier b times) ≡ min b (earlier a times)
earlier-swap a b None = omega arith
earlier-swap a b (Some c) = omega arith

later-swap : (a b : ℕ) (times : Option ℕ) → max a (later b times) ≡ max b (later a times)
later-swap a b None = omega arith
later-swap a b (Some c) = omega arith

first-push : (times : List ℕ) (time : ℕ) → first_time (times ++ time ∷ []) ≡ Some (earlier time (first_time times))
first-push [] time = refl
first-push (other ∷ times) time = ap (λ first. Some (earlier other first)) (first-push times time)
    ∙ ap Some (earlier-swap other time (first_time times))

last-push : (times : List ℕ) (time : ℕ) → last_time (times ++ time ∷ []) ≡ Some (later time (last_time times))
last-push [] time = refl
last-push (other ∷ times) time = ap (λ last. Some (later other last)) (last-push times time)
    ∙ ap Some (later-swap other time (last_time times))

-- ---- one more report

abbrev report : Stage → List ℕ → ℕ → Report
report stage name time = record { stage = stage; target = name; time = time }

-- A report changes no times of another stage, or of another target.
kept : (stage : Stage) (target : List ℕ) (reports : List Report) (one : Report) → time_if stage target one ≡ None
    → times_at stage target (reports ++ one ∷ []) ≡ times_at stage target reports
kept stage target reports one none =
    filter_map-append (time_if stage target) reports (one ∷ []) ∙ rw none (append-nil (times_at stage target reports))

pushed : (stage : Stage) (target : List ℕ) (reports : List Report) (one : Report) (time : ℕ) → time_if stage target one ≡ Some time
    → times_at stage target (reports ++ one ∷ []) ≡ times_at stage target reports ++ time ∷ []
pushed stage target reports one time some = filter_map-append (time_if stage target) reports (one ∷ []) ∙ rw some refl

module _ (name target : List ℕ) (time : ℕ) (reports : List Report) where
  abbrev more : Stage → List Report
  more stage = reports ++ report stage name time ∷ []

  -- A report about the target.
  tally-pushed : bytes_eq name target ≡ true → (stage : Stage)
      → tally_of (more stage) target ≡ with_time stage time (tally_of reports target)
  tally-pushed same BeganInOwnLog = λ i. record {
    began_in_own_log = (ap first_time (pushed BeganInOwnLog target reports (report BeganInOwnLog name time) time (rw same refl))
        ∙ first-push (times_at BeganInOwnLog target reports) time) i;
    began_in_other_log = first_time (kept BeganInOtherLog target reports (report BeganInOwnLog name time) refl i);
    ended_in_own_log = last_time (kept EndedInOwnLog target reports (report BeganInOwnLog name time) refl i);
    ended_in_other_log = last_time (kept EndedInOtherLog target reports (report BeganInOwnLog name time) refl i);
    ran_others_at = kept RunsOther target reports (report BeganInOwnLog name time) refl i;
  }
  tally-pushed same BeganInOtherLog = λ i. record {
    began_in_own_log = first_time (kept BeganInOwnLog target reports (report BeganInOtherLog name time) refl i);
    began_in_other_log = (ap first_time (pushed BeganInOtherLog target reports (report BeganInOtherLog name time) time (rw same refl))
        ∙ first-push (times_at BeganInOtherLog target reports) time) i;
    ended_in_own_log = last_time (kept EndedInOwnLog target reports (report BeganInOtherLog name time) refl i);
    ended_in_other_log = last_time (kept EndedInOtherLog target reports (report BeganInOtherLog name time) refl i);
    ran_others_at = kept RunsOther target reports (report BeganInOtherLog name time) refl i;
  }
  tally-pushed same EndedInOwnLog = λ i. record {
    began_in_own_log = first_time (kept BeganInOwnLog target reports (report EndedInOwnLog name time) refl i);
    began_in_other_log = first_time (kept BeganInOtherLog target reports (report EndedInOwnLog name time) refl i);
    ended_in_own_log = (ap last_time (pushed EndedInOwnLog target reports (report EndedInOwnLog name time) time (rw same refl))
        ∙ last-push (times_at EndedInOwnLog target reports) time) i;
    ended_in_other_log = last_time (kept EndedInOtherLog target reports (report EndedInOwnLog name time) refl i);
    ran_others_at = kept RunsOther target reports (report EndedInOwnLog name time) refl i;
  }
  tally-pushed same EndedInOtherLog = λ i. record {
    began_in_own_log = first_time (kept BeganInOwnLog target reports (report EndedInOtherLog name time) refl i);
    began_in_other_log = first_time (kept BeganInOtherLog target reports (report EndedInOtherLog name time) refl i);
    ended_in_own_log = last_time (kept EndedInOwnLog target reports (report EndedInOtherLog name time) refl i);
    ended_in_other_log = (ap last_time (pushed EndedInOtherLog target reports (report EndedInOtherLog name time) time (rw same refl))
        ∙ last-push (times_at EndedInOtherLog target reports) time) i;
    ran_others_at = kept RunsOther target reports (report EndedInOtherLog name time) refl i;
  }
  tally-pushed same RunsOther = λ i. record {
    began_in_own_log = first_time (kept BeganInOwnLog target reports (report RunsOther name time) refl i);
    began_in_other_log = first_time (kept BeganInOtherLog target reports (report RunsOther name time) refl i);
    ended_in_own_log = last_time (kept EndedInOwnLog target reports (report RunsOther name time) refl i);
    ended_in_other_log = last_time (kept EndedInOtherLog target reports (report RunsOther name time) refl i);
    ran_others_at = pushed RunsOther target reports (report RunsOther name time) time (rw same refl) i;
  }

  -- A report about another target.
  tally-kept : bytes_eq name target ≡ false → (stage : Stage) → tally_of (more stage) target ≡ tally_of reports target
  tally-kept other stage = λ i. record {
    began_in_own_log = first_time (kept BeganInOwnLog target reports (report stage name time) (unsaid BeganInOwnLog stage) i);
    began_in_other_log = first_time (kept BeganInOtherLog target reports (report stage name time) (unsaid BeganInOtherLog stage) i);
    ended_in_own_log = last_time (kept EndedInOwnLog target reports (report stage name time) (unsaid EndedInOwnLog stage) i);
    ended_in_other_log = last_time (kept EndedInOtherLog target reports (report stage name time) (unsaid EndedInOtherLog stage) i);
    ran_others_at = kept RunsOther target reports (report stage name time) (unsaid RunsOther stage) i;
  }
    where
      nothing : (same : Bool) → (if same && false then Some time else None) ≡ None
      nothing true = refl
      nothing false = refl

      unsaid : (wanted stage : Stage) → time_if wanted target (report stage name time) ≡ None
      unsaid wanted stage = rw other (nothing (is_same_stage stage wanted))

-- ---- the tallies of all targets

-- If no element passes, each one fails.
each_fails : {X : Type 0} (test : X → Bool) (xs : List X) → list_any test xs ≡ false → AllByRecursion (λ x. test x ≡ false) xs
each_fails test [] none = tt
each_fails test (x ∷ xs) none = by (test x) refl none (each_fails test xs)
  where
    by : (passes : Bool) → test x ≡ passes → (passes || list_any test xs) ≡ false
        → (list_any test xs ≡ false → AllByRecursion (λ x. test x ≡ false) xs) → AllByRecursion (λ x. test x ≡ false) (x ∷ xs)
    by true is none others = absurd (cc)
    by false is none others = (is, others none)

module _ (stage : Stage) (name : List ℕ) (time : ℕ) (reports : List Report) where
  abbrev before : List ℕ → TallyValue
  before = tally_of reports

  abbrev after : List ℕ → TallyValue
  after = tally_of (reports ++ report stage name time ∷ [])

  -- No target is this one.
  others_kept : (targets : List (List ℕ)) → AllByRecursion (λ target. pointwise nat_eq name target ≡ false) targets
      → map before targets ≡ map after targets
  others_kept [] none = refl
  others_kept (target ∷ targets) none = λ i. sym (tally-kept name target time reports none.0 stage) i ∷ others_kept targets none.1 i

  -- The target at this position is this one, and no other is.
  at_place : (targets : List (List ℕ)) (place : ℕ) → place < length targets → pointwise nat_eq name (get_or targets place []) ≡ true
      → IsDistinct (pointwise nat_eq) targets
      → set (map before targets) place (with_time stage time (before (get_or targets place []))) ≡ map after targets
  unfolding IsDistinct
  at_place [] place below is distinct = absurd (omega (arith, below))
  at_place (target ∷ targets) zero below is distinct =
      let same : name ≡ target = same_text name target (sym is) in
      λ i. sym (tally-pushed name target time reports is stage) i
      ∷ others_kept targets (subst (λ (n : List ℕ). AllByRecursion (λ other. pointwise nat_eq n other ≡ false) targets)
      (sym same) distinct.0) i
  at_place (target ∷ targets) (suc place) below is distinct =
      let same : name ≡ get_or targets place [] = same_text name (get_or targets place []) (sym is) in
      let apart : pointwise nat_eq name target ≡ false =
      subst (λ (n : List ℕ). pointwise nat_eq n target ≡ false) (sym same)
      (sym (nat_list_eq_equiv.symm target (get_or targets place []))
      ∙ apart_from_distinct (pointwise nat_eq) (target ∷ targets) 0 (suc place) [] distinct (omega arith) below) in
      λ i. sym (tally-kept name target time reports apart stage) i ∷ at_place targets place (omega (arith, below)) is distinct.1 i

  -- The tallies after the report, if the target was found at this position, is known to be there, or was not found.
  module _ (targets : List (List ℕ)) (tallies : List TallyValue) (are : AreTallies targets reports tallies) where
    set_at : (place : ℕ) (empty : TallyValue) → place < length targets → pointwise nat_eq name (get_or targets place []) ≡ true
        → IsDistinct (pointwise nat_eq) targets → AreTallies targets (reports ++ report stage name time ∷ [])
        (set tallies place (with_time stage time (get_or tallies place empty)))
    set_at place empty below is distinct =
        let old : get_or tallies place empty ≡ before (get_or targets place []) =
        ap (λ (ts : List TallyValue). get_or ts place empty) are ∙ get_or-map before targets place [] empty below in
        (λ i. set (are i) place (with_time stage time (old i))) ∙ at_place targets place below is distinct

    pub found : (place : ℕ) (empty : TallyValue) → position (pointwise nat_eq name) targets ≡ Some place
        → IsDistinct (pointwise nat_eq) targets → AreTallies targets (reports ++ report stage name time ∷ [])
        (set tallies place (with_time stage time (get_or tallies place empty)))
    found place empty is = let at = position-Some (pointwise nat_eq name) targets place [] is in set_at place empty at.0 at.1

    pub known : (place : ℕ) (empty : TallyValue) → slice_get targets place ≡ Some name
        → IsDistinct (pointwise nat_eq) targets → AreTallies targets (reports ++ report stage name time ∷ [])
        (set tallies place (with_time stage time (get_or tallies place empty)))
    known place empty is =
        set_at place empty (slice_get_within targets place name is)
        (ap (pointwise nat_eq name) (get_or_from_slice_get targets place name [] is) ∙ nat_list_eq_equiv.refl name)

    pub missing : position (pointwise nat_eq name) targets ≡ None → AreTallies targets (reports ++ report stage name time ∷ []) tallies
    missing none = are ∙ others_kept targets
        (each_fails (pointwise nat_eq name) targets (sym (some_place (pointwise nat_eq name) targets) ∙ ap is_some none))

-- Tallies without any report.
pub all_empty : (targets : List (List ℕ)) → AreTallies targets [] (replicate (length targets) (tally_of [] []))
all_empty [] = refl
all_empty (target ∷ targets) = ap (λ tallies. tally_of [] [] ∷ tallies) (all_empty targets)

-- ---- a report in a log, and what it says of the log's own target

pub with_own : (log : List ℕ) (reports : List Report) (report : Report)
    → (reports ++ named_reports report report.stage) ++ owner_reports log report.time report.stage ≡ reports ++ with_owner log report
with_own log reports report = append_assoc reports (named_reports report report.stage) (owner_reports log report.time report.stage)

-- A report of any other stage is about the target that it names.
pub names_target : (report : Report) (stage : Stage) → ¬ (stage ≡ RunsOther) → named_reports report stage ≡ report ∷ []
names_target report BeganInOwnLog differs = refl
names_target report BeganInOtherLog differs = refl
names_target report EndedInOwnLog differs = refl
names_target report EndedInOtherLog differs = refl
names_target report RunsOther differs = absurd (differs refl)
