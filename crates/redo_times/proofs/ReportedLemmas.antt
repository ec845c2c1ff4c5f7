-- The times of a target, from the reports of logs.
use Rattle.std.proofs.Common.{◌≡◌, ℕ, ◌&&◌, ◌⊎◌, inl, inr, Bool, true, false, List, [], ◌∷◌, Option, None, Some, refl, sym, ap, ◌∙◌, subst, arith, leb}
use Rattle.std.specs.Prelude.{map, min, max, take}
use Rattle.std.specs.Cmp.Lexicographic.{same_text}
use Rattle.std.specs.List.{Contains, cons_option, filter_map, flat_map}
use Rattle.std.specs.Str.{bytes_eq}
use Rattle.std.proofs.lemmas.Bool.{and_parts, leb-true, leb-false}
use Rattle.std.proofs.lemmas.Cmp.{nat_list_eq_equiv}
use Rattle.std.proofs.lemmas.List.Elements.{Contains-append_cases, Contains-append_left, Contains-append_right, Contains-push_cases}
use Rattle.std.proofs.lemmas.Option.{cond_some}
use Rattle.redo_line.specs.Lines.{ended}
use Rattle.redo_times.specs.declared.report.Report.{Report}
use Rattle.redo_times.specs.declared.report.Stage.{Stage}
use Rattle.redo_times.specs.declared.report.Stage.TheVariants.{BeganInOwnLog, BeganInOtherLog, EndedInOwnLog, EndedInOtherLog, RunsOther}
use Rattle.redo_times.specs.Laws.{IsFirst, IsLast, IsReported}
use Rattle.redo_times.specs.Report.{TimedLog, line_reports, line_stages, line_time, log_reports, report_at, reports_at, reports_of}
use Rattle.redo_times.specs.Times.{earlier, first_time, is_same_stage, last_time, later, time_if, times_at}

min_cases : (a b : ℕ) → (min a b ≡ a) ⊎ (min a b ≡ b)
min_cases a b = by (leb a b) refl
  where
    by : (below : Bool) → leb a b ≡ below → (min a b ≡ a) ⊎ (min a b ≡ b)
    by true is = let le = leb-true a b is in inl (omega (arith, le))
    by false is = let lt = leb-false a b is in inr (omega (arith, lt))

max_cases : (a b : ℕ) → (max a b ≡ a) ⊎ (max a b ≡ b)
max_cases a b = by (leb a b) refl
  where
    by : (below : Bool) → leb a b ≡ below → (max a b ≡ a) ⊎ (max a b ≡ b)
    by true is = let le = leb-true a b is in inr (omega (arith, le))
    by false is = let lt = leb-false a b is in inl (omega (arith, lt))

-- ---- elements of lists

nothing : {X : Type 0} (x : X) → Contains [] x → ⊥
nothing x here = omega (arith, here.1)

head : {X : Type 0} (x : X) (xs : List X) → Contains (x ∷ xs) x
head x xs = (0, omega arith, refl)

tail : {X : Type 0} (x y : X) (xs : List X) → Contains xs y → Contains (x ∷ xs) y
tail x y xs there = Contains-append_right (x ∷ []) xs y there

first_or_later : {X : Type 0} (x y : X) (xs : List X) → Contains (x ∷ xs) y → (x ≡ y) ⊎ Contains xs y
first_or_later x y xs here =
    elim (Contains-append_cases (x ∷ []) xs y here) [
      | inl one ↦ elim (Contains-push_cases [] x y one) [ inl none ↦ absurd (nothing y none) | inr same ↦ inl same ]
      | inr there ↦ inr there
    ]

-- Each result comes from an element.
mapped_from : {X Y : Type 0} (h : X → Option Y) (xs : List X) (y : Y) → Contains (filter_map h xs) y
    → (x : X) × Contains xs x × (h x ≡ Some y)
mapped_from h [] y here = absurd (nothing y here)
mapped_from {X} {Y} h (x ∷ xs) y here = by (h x) refl here (mapped_from h xs y)
  where
    by : (result : Option Y) → h x ≡ result → Contains (cons_option result (filter_map h xs)) y
        → (Contains (filter_map h xs) y → (z : X) × Contains xs z × (h z ≡ Some y)) → (z : X) × Contains (x ∷ xs) z × (h z ≡ Some y)
    by None is here behind = let found = behind here in (found.0, tail x found.0 xs found.1, found.2)
    by (Some one) is here behind =
        elim (first_or_later one y (filter_map h xs) here) [
          | inl same ↦ (x, head x xs, is ∙ ap Some same)
          | inr there ↦ let found = behind there in (found.0, tail x found.0 xs found.1, found.2)
        ]

mapped_to : {X Y : Type 0} (h : X → Option Y) (xs : List X) (x : X) (y : Y) → Contains xs x → h x ≡ Some y → Contains (filter_map h xs) y
mapped_to h [] x y here is = absurd (nothing x here)
mapped_to {X} {Y} h (first ∷ xs) x y here is =
    elim (first_or_later first x xs here) [
      | inl same ↦ subst (λ (result : Option Y). Contains (cons_option result (filter_map h xs)) y) (sym (ap h same ∙ is))
          (head y (filter_map h xs))
      | inr there ↦ behind (h first) (mapped_to h xs x y there is)
    ]
  where
    behind : (result : Option Y) → Contains (filter_map h xs) y → Contains (cons_option result (filter_map h xs)) y
    behind None there = there
    behind (Some one) there = tail one y (filter_map h xs) there

joined_from : {X Y : Type 0} (f : X → List Y) (xs : List X) (y : Y) → Contains (flat_map f xs) y
    → (x : X) × Contains xs x × Contains (f x) y
joined_from f [] y here = absurd (nothing y here)
joined_from f (x ∷ xs) y here =
    elim (Contains-append_cases (f x) (flat_map f xs) y here) [
      | inl one ↦ (x, head x xs, one)
      | inr there ↦ let found = joined_from f xs y there in (found.0, tail x found.0 xs found.1, found.2)
    ]

joined_to : {X Y : Type 0} (f : X → List Y) (xs : List X) (x : X) (y : Y) → Contains xs x → Contains (f x) y → Contains (flat_map f xs) y
joined_to f [] x y here one = absurd (nothing x here)
joined_to {X} {Y} f (first ∷ xs) x y here one =
    elim (first_or_later first x xs here) [
      | inl same ↦ Contains-append_left (f first) (flat_map f xs) y (subst (λ (z : X). Contains (f z) y) (sym same) one)
      | inr there ↦ Contains-append_right (f first) (flat_map f xs) y (joined_to f xs x y there one)
    ]

-- ---- reports

same_stage : (one other : Stage) → is_same_stage one other ≡ true → one ≡ other
same_stage BeganInOwnLog BeganInOwnLog is = refl
same_stage BeganInOtherLog BeganInOtherLog is = refl
same_stage EndedInOwnLog EndedInOwnLog is = refl
same_stage EndedInOtherLog EndedInOtherLog is = refl
same_stage RunsOther RunsOther is = refl
same_stage one other is = absurd (cc)

own_stage : (stage : Stage) → is_same_stage stage stage ≡ true
own_stage BeganInOwnLog = refl
own_stage BeganInOtherLog = refl
own_stage EndedInOwnLog = refl
own_stage EndedInOtherLog = refl
own_stage RunsOther = refl

abbrev Said : Type 0
Said = Stage × List ℕ

report_parts : (time : Option ℕ) (said : List Said) (report : Report) → Contains (reports_at time said) report
    → (time ≡ Some report.time) × Contains said (report.stage, report.target)
report_parts None said report here = absurd (nothing report here)
report_parts (Some time) [] report here = absurd (nothing report here)
report_parts (Some time) (one ∷ said) report here =
    elim (first_or_later (report_at time one) report (map (report_at time) said) here) [
      | inl same ↦ (
        ap (λ (r : Report). Some r.time) same,
        subst (Contains (one ∷ said)) (ap (λ (r : Report). (r.stage, r.target)) same) (head one said),
      )
      | inr there ↦ let found = report_parts (Some time) said report there in
          (found.0, tail one (report.stage, report.target) said found.1)
    ]

line_parts : (target line : List ℕ) (report : Report) → Contains (line_reports target line) report
    → (line_time line ≡ Some report.time) × Contains (line_stages target line) (report.stage, report.target)
unfolding line_reports
line_parts target line report here = report_parts (line_time line) (line_stages target line) report here

said_report : (said : List Said) (one : Said) (time : ℕ) → Contains said one → Contains (map (report_at time) said) (report_at time one)
said_report [] one time here = absurd (nothing one here)
said_report (first ∷ said) one time here =
    elim (first_or_later first one said here) [
      | inl same ↦ subst (Contains (map (report_at time) (first ∷ said))) (ap (report_at time) same)
          (head (report_at time first) (map (report_at time) said))
      | inr there ↦ tail (report_at time first) (report_at time one) (map (report_at time) said) (said_report said one time there)
    ]

line_report : (log line target : List ℕ) (stage : Stage) (time : ℕ) → line_time line ≡ Some time
    → Contains (line_stages log line) (stage, target) → Contains (line_reports log line) (report_at time (stage, target))
unfolding line_reports
line_report log line target stage time at says =
    subst (λ (found : Option ℕ). Contains (reports_at found (line_stages log line)) (report_at time (stage, target))) (sym at)
    (said_report (line_stages log line) (stage, target) time says)

module _ (stage : Stage) (target : List ℕ) (time : ℕ) where
  timed : (report : Report) → time_if stage target report ≡ Some time
      → (report.stage ≡ stage) × (report.target ≡ target) × (report.time ≡ time)
  timed report is =
      let passed = cond_some (is_same_stage report.stage stage && bytes_eq report.target target) report.time time is in
      let both = and_parts (is_same_stage report.stage stage) (bytes_eq report.target target) passed.0 in
      (same_stage report.stage stage both.0, same_text report.target target (sym both.1), passed.1)

  own_time : time_if stage target (record { stage = stage; target = target; time = time }) ≡ Some time
  own_time = rw (own_stage stage, nat_list_eq_equiv.refl target) refl

  -- The times at which a target reached a stage are the times that records report.
  module _ (max_bytes : ℕ) (logs : List TimedLog) where
    pub reported : Contains (times_at stage target (reports_of max_bytes logs)) time → IsReported max_bytes logs stage target time
    reported here =
        let one = mapped_from (time_if stage target) (reports_of max_bytes logs) time here in
        let is = timed one.0 one.2 in
        let from = joined_from (log_reports max_bytes) logs one.0 one.1 in
        let within = joined_from (line_reports from.0.target) (ended (take max_bytes from.0.bytes)) one.0 from.2 in
        let parts = line_parts from.0.target within.0 one.0 within.2 in
        record {
          log = from.0;
          is_log = from.1;
          line = within.0;
          is_line = within.1;
          says = subst (Contains (line_stages from.0.target within.0)) (λ i. (is.0 i, is.1 i)) parts.1;
          at = parts.0 ∙ ap Some is.2;
        }

    pub listed : IsReported max_bytes logs stage target time → Contains (times_at stage target (reports_of max_bytes logs)) time
    listed from =
        let report : Report = record { stage = stage; target = target; time = time } in
        mapped_to (time_if stage target) (reports_of max_bytes logs) report time
        (joined_to (log_reports max_bytes) logs from.log report from.is_log
        (joined_to (line_reports from.log.target) (ended (take max_bytes from.log.bytes)) from.line report from.is_line
        (line_report from.log.target from.line target stage time from.at from.says)))
        own_time

-- ---- the first and the last time

pub first-none : (times : List ℕ) → first_time times ≡ None → (time : ℕ) → Contains times time → ⊥
first-none [] none time here = nothing time here
first-none (one ∷ times) none time here = absurd (cc)

pub last-none : (times : List ℕ) → last_time times ≡ None → (time : ℕ) → Contains times time → ⊥
last-none [] none time here = nothing time here
last-none (one ∷ times) none time here = absurd (cc)

pub first-some : (times : List ℕ) (time : ℕ) → first_time times ≡ Some time → IsFirst (Contains times) time
first-some [] time is = absurd (cc)
first-some (one ∷ times) time is = by (first_time times) refl is (first-some times)
  where
    by : (others : Option ℕ) → first_time times ≡ others → Some (earlier one others) ≡ Some time
        → ((other : ℕ) → first_time times ≡ Some other → IsFirst (Contains times) other) → IsFirst (Contains (one ∷ times)) time
    by None none is behind =
        let same : one ≡ time = cc in
        record {
          is = subst (Contains (one ∷ times)) same (head one times);
          none_earlier = λ other here. elim
              (first_or_later one other times here)
              [ inl own ↦ omega (arith, same, own) | inr there ↦ absurd (first-none times none other there) ];
        }
    by (Some other) some is behind =
        let same : min one other ≡ time = cc in
        let found = behind other some in
        record {
          is =
              elim (min_cases one other) [
                | inl own ↦ subst (Contains (one ∷ times)) (sym own ∙ same) (head one times)
                | inr others ↦ subst (Contains (one ∷ times)) (sym others ∙ same) (tail one other times found.is)
              ];
          none_earlier = λ next here. elim (first_or_later one next times here) [
            | inl own ↦ omega (arith, same, own)
            | inr there ↦
                (let bound = found.none_earlier next there in omega (arith, same, bound))
          ];
        }

pub last-some : (times : List ℕ) (time : ℕ) → last_time times ≡ Some time → IsLast (Contains times) time
last-some [] time is = absurd (cc)
last-some (one ∷ times) time is = by (last_time times) refl is (last-some times)
  where
    by : (others : Option ℕ) → last_time times ≡ others → Some (later one others) ≡ Some time
        → ((other : ℕ) → last_time times ≡ Some other → IsLast (Contains times) other) → IsLast (Contains (one ∷ times)) time
    by None none is behind =
        let same : one ≡ time = cc in
        record {
          is = subst (Contains (one ∷ times)) same (head one times);
          none_later = λ other here. elim (first_or_later one other times here)
              [ inl own ↦ omega (arith, same, own) | inr there ↦ absurd (last-none times none other there) ];
        }
    by (Some other) some is behind =
        let same : max one other ≡ time = cc in
        let found = behind other some in
        record {
          is =
              elim (max_cases one other) [
                | inl own ↦ subst (Contains (one ∷ times)) (sym own ∙ same) (head one times)
                | inr others ↦ subst (Contains (one ∷ times)) (sym others ∙ same) (tail one other times found.is)
              ];
          none_later = λ next here. elim (first_or_later one next times here)
              [ inl own ↦ omega (arith, same, own) | inr there ↦ (let bound = found.none_later next there in omega (arith, same, bound)) ];
        }
