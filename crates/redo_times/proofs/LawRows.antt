-- Records of logs, as the laws see them.
use Rattle.std.proofs.Common.{◌≡◌, ◌⊎◌, ℕ, zero, suc, true, inl, inr, List, [], ◌∷◌, ◌++◌, Option, None, Some, length, arith, refl, ap, subst, sym}
use Rattle.std.specs.Prelude.{codes, take}
use Rattle.std.specs.List.{Contains}
use Rattle.std.specs.List.Sorted.{IsPermutation}
use Rattle.redo_line.specs.Decimal.{number}
use Rattle.redo_line.specs.Entry.{entry_of, record_entry}
use Rattle.redo_line.specs.Lines.{ended, split_lines, with_line_feed}
use Rattle.redo_line.specs.Parts.{after_prefix, split_once}
use Rattle.redo_line.specs.Record.{fields_of, record_fields, status_of}
use Rattle.redo_name.specs.Names.{normal, reduce_suffix}
use Rattle.redo_times.specs.declared.report.Stage.{Stage}
use Rattle.redo_times.specs.declared.report.Stage.TheVariants.{BeganInOwnLog, BeganInOtherLog, EndedInOwnLog, EndedInOtherLog, RunsOther}
use Rattle.redo_times.specs.Laws.{BeginsAfter, BeginsInOwnLog, IsBeginning, IsEnd, IsFirst, IsLast, IsReported, Never, NeverBegins, RanOthers}
use Rattle.redo_times.specs.Report.{TimedLog, line_reports, line_stages, line_time}
use Rattle.redo_times.specs.Time.{time_value}
use Rattle.redo_times.specs.Times.{times_of}

abbrev a : List ℕ
a = codes "a"

abbrev log : List ℕ → List ℕ → TimedLog
log target bytes = record { target = target; bytes = bytes }

abbrev begins : List ℕ → List ℕ
begins seconds = codes "@@REDO:do:7:" ++ seconds ++ codes "@@ a"

abbrev is_done : List ℕ → List ℕ
is_done seconds = codes "@@REDO:done:7:" ++ seconds ++ codes "@@ 0 a"

-- Logs that say that `a` began twice; that it ended twice, by its own log; that it ended before it began.
abbrev begun : List TimedLog
begun = log (codes "all") (with_line_feed (begins (codes "1700000003")) ++ with_line_feed (begins (codes "1700000001"))) ∷ []

abbrev closed : List TimedLog
closed = log a (with_line_feed (is_done (codes "1700000012")) ++ with_line_feed (is_done (codes "1700000011"))) ∷ []

abbrev clock_set : List TimedLog
clock_set = log (codes "all") (with_line_feed (begins (codes "1700000002.001")) ++ with_line_feed (is_done (codes "1700000002"))) ∷ []

-- A log that says that `a` ended, and a later one of another target.
abbrev done_in_all : TimedLog
done_in_all = log (codes "all") (with_line_feed (is_done (codes "1700000020")))

abbrev done_in_b : TimedLog
done_in_b = log (codes "b") (with_line_feed (is_done (codes "1700000021")))

begun_at_1 : IsReported 1000 begun BeganInOtherLog a 1700000001000
unfolding split_lines ended record_fields fields_of status_of split_once after_prefix normal reduce_suffix number time_value entry_of record_entry line_reports
begun_at_1 = record {
  log = log (codes "all")
      (with_line_feed (begins (codes "1700000003")) ++ with_line_feed (begins (codes "1700000001")));
  is_log = (0, omega arith, refl);
  line = begins (codes "1700000001");
  is_line = (1, omega arith, refl);
  says = (0, omega arith, refl);
  at = refl;
}

closed_at_12 : IsReported 1000 closed EndedInOwnLog a 1700000012000
unfolding split_lines ended record_fields fields_of status_of split_once after_prefix normal reduce_suffix number time_value entry_of record_entry line_reports
closed_at_12 = record {
  log = log a (with_line_feed (is_done (codes "1700000012")) ++ with_line_feed (is_done (codes "1700000011")));
  is_log = (0, omega arith, refl);
  line = is_done (codes "1700000012");
  is_line = (0, omega arith, refl);
  says = (0, omega arith, refl);
  at = refl;
}

done_at_20 : IsReported 1000 (done_in_all ∷ []) EndedInOtherLog a 1700000020000
unfolding split_lines ended record_fields fields_of status_of split_once after_prefix normal reduce_suffix number time_value entry_of record_entry line_reports
done_at_20 = record {
  log = done_in_all;
  is_log = (0, omega arith, refl);
  line = is_done (codes "1700000020");
  is_line = (0, omega arith, refl);
  says = (0, omega arith, refl);
  at = refl;
}

swapped : IsPermutation (done_in_all ∷ done_in_b ∷ []) (done_in_b ∷ done_in_all ∷ [])
swapped = record { moves = (0, 1) ∷ []; below = (omega arith, omega arith, tt); is = refl }

-- ---- first and last times

abbrev IsOneOrThree : ℕ → Type 0
IsOneOrThree time = (time ≡ 1) ⊎ (time ≡ 3)

-- 1 is the first one, and 3 the last one.
is_first : IsFirst IsOneOrThree 1
is_first = record { is = inl refl; none_earlier = λ other is. elim is [ inl one ↦ omega (arith, one) | inr three ↦ omega (arith, three) ] }

not_first : ¬ IsFirst IsOneOrThree 3 × ¬ IsFirst IsOneOrThree 0
not_first = (
  λ first. let low = first.none_earlier 1 (inl refl) in omega (arith, low),
  λ first. elim first.is [ inl one ↦ omega (arith, one) | inr three ↦ omega (arith, three) ],
)

is_last : IsLast IsOneOrThree 3
is_last = record { is = inr refl; none_later = λ other is. elim is [ inl one ↦ omega (arith, one) | inr three ↦ omega (arith, three) ] }

not_last : ¬ IsLast IsOneOrThree 1 × ¬ IsLast IsOneOrThree 4
not_last = (
  λ last. let high = last.none_later 3 (inr refl) in omega (arith, high),
  λ last. elim last.is [ inl one ↦ omega (arith, one) | inr three ↦ omega (arith, three) ],
)

not_never : ¬ Never IsOneOrThree
not_never = λ never. never 3 (inr refl)

-- ---- the reports of logs

only : {A : Type 0} (x y : A) → Contains (x ∷ []) y → x ≡ y
only x y (zero, below, is) = is
only x y (suc k, below, is) = absurd (omega (arith, below))

one_of_two : {A : Type 0} (x y z : A) → Contains (x ∷ y ∷ []) z → (x ≡ z) ⊎ (y ≡ z)
one_of_two x y z (zero, below, is) = inl is
one_of_two x y z (suc zero, below, is) = inr is
one_of_two x y z (suc (suc k), below, is) = absurd (omega (arith, below))

abbrev Said : Type 0
Said = Stage × List ℕ

-- What a line says that reports one stage.
one_said : (own other : Stage) (target name : List ℕ) → Contains {X = Said} ((own, target) ∷ []) (other, name)
    → (own ≡ other) × (target ≡ name)
one_said own other target name here =
    let same = only {A = Said} (own, target) (other, name) here in (ap (λ (said : Said). said.0) same, ap (λ (said : Said). said.1) same)

-- What a record of `a` says in the log of `all`.
abbrev SaysInAll : Stage → Stage → List ℕ → Type 0
SaysInAll own stage target = ((own ≡ stage) × (a ≡ target)) ⊎ ((RunsOther ≡ stage) × (codes "all" ≡ target))

said_in_all : (own stage : Stage) (target : List ℕ) → Contains {X = Said} ((own, a) ∷ (RunsOther, codes "all") ∷ []) (stage, target)
    → SaysInAll own stage target
said_in_all own stage target here =
    elim (one_of_two {A = Said} (own, a) (RunsOther, codes "all") (stage, target) here) [
      | inl same ↦ inl (ap (λ (said : Said). said.0) same, ap (λ (said : Said). said.1) same)
      | inr same ↦ inr (ap (λ (said : Said). said.0) same, ap (λ (said : Said). said.1) same)
    ]

of_a : (own stage : Stage) → SaysInAll own stage a → own ≡ stage
of_a own stage says = elim says [ inl same ↦ same.0 | inr other ↦ (let sizes = ap length other.1 in absurd (omega (arith, sizes))) ]

same_time : (time other : ℕ) → Some time ≡ Some other → time ≡ other
same_time time other same = cc

-- The report of a log with one line.
says_line : (logs : List TimedLog) (log : TimedLog) (line : List ℕ) (stage : Stage) (target : List ℕ) (time : ℕ)
    → ended (take 1000 log.bytes) ≡ line ∷ []
    → (report : IsReported 1000 logs stage target time) → log ≡ report.log
    → Contains (line_stages log.target line) (stage, target) × (line_time line ≡ Some time)
says_line logs log line stage target time one report log_is =
    let lines = subst (λ (l : TimedLog). Contains (ended (take 1000 l.bytes)) report.line) (sym log_is) report.is_line in
    let line_is = only line report.line (subst (λ (ls : List (List ℕ)). Contains ls report.line) one lines) in
    let says = subst (λ (l : TimedLog). Contains (line_stages l.target report.line) (stage, target)) (sym log_is) report.says in (
      subst (λ (l : List ℕ). Contains (line_stages log.target l) (stage, target)) (sym line_is) says,
      subst (λ (l : List ℕ). line_time l ≡ Some time) (sym line_is) report.at,
    )

reported_in_all : (stage : Stage) (target : List ℕ) (time : ℕ) → IsReported 1000 (done_in_all ∷ []) stage target time
    → SaysInAll EndedInOtherLog stage target × (Some 1700000020000 ≡ Some time)
unfolding split_lines ended record_fields fields_of status_of split_once after_prefix normal reduce_suffix number time_value entry_of record_entry line_reports
reported_in_all stage target time report =
    let facts = says_line (done_in_all ∷ []) done_in_all (is_done (codes "1700000020")) stage target time refl report
    (only done_in_all report.log report.is_log) in (said_in_all EndedInOtherLog stage target facts.0, facts.1)

-- Another stage, another target, another time.
not_reported :
    ¬ IsReported 1000 (done_in_all ∷ []) EndedInOwnLog a 1700000020000
    × ¬ IsReported 1000 (done_in_all ∷ []) EndedInOtherLog (codes "b") 1700000020000
    × ¬ IsReported 1000 (done_in_all ∷ []) EndedInOtherLog a 1700000021000
unfolding split_lines ended record_fields fields_of status_of split_once after_prefix normal reduce_suffix number time_value entry_of record_entry line_reports
not_reported = (
  λ report. let stages = of_a EndedInOtherLog EndedInOwnLog (reported_in_all EndedInOwnLog a 1700000020000 report).0 in absurd (cc),
  λ report. elim (reported_in_all EndedInOtherLog (codes "b") 1700000020000 report).0 [
    | inl same ↦ (let names = same.1 in let letters : ◌≡◌ {A = ℕ} 97 98 = cc in omega (arith, letters))
    | inr same ↦ (let stages = same.0 in absurd (cc))
  ],
  λ report. let times = same_time 1700000020000 1700000021000 (reported_in_all EndedInOtherLog a 1700000021000 report).1 in
      omega (arith, times),
)

-- A record that is in none of these logs.
not_in_logs : ¬ IsReported 1000 [] EndedInOtherLog a 1700000020000
unfolding split_lines ended record_fields fields_of status_of split_once after_prefix normal reduce_suffix number time_value entry_of record_entry line_reports
not_in_logs = λ report. let below = report.is_log.1 in omega (arith, below)

-- The record has 31 bytes with its line feed. Within 30 it is unended.
not_within : ¬ IsReported 30 (done_in_all ∷ []) EndedInOtherLog a 1700000020000
unfolding split_lines ended record_fields fields_of status_of split_once after_prefix normal reduce_suffix number time_value entry_of record_entry line_reports
not_within = λ report.
    let log_is = only done_in_all report.log report.is_log in
    let lines : Contains [] report.line =
    subst (λ (l : TimedLog). Contains (ended (take 30 l.bytes)) report.line) (sym log_is) report.is_line in
    let below = lines.1 in omega (arith, below)

-- ---- when a target ended

-- The log of `all` says that `a` ended at 20, and its own log says that it ended at 30.
abbrev closed_at_30 : TimedLog
closed_at_30 = log a (with_line_feed (is_done (codes "1700000030")))

abbrev both : List TimedLog
both = done_in_all ∷ closed_at_30 ∷ []

own_at_30 : IsReported 1000 both EndedInOwnLog a 1700000030000
unfolding split_lines ended record_fields fields_of status_of split_once after_prefix normal reduce_suffix number time_value entry_of record_entry line_reports
own_at_30 = record {
  log = closed_at_30;
  is_log = (1, omega arith, refl);
  line = is_done (codes "1700000030");
  is_line = (0, omega arith, refl);
  says = (0, omega arith, refl);
  at = refl;
}

other_at_20 : IsReported 1000 both EndedInOtherLog a 1700000020000
unfolding split_lines ended record_fields fields_of status_of split_once after_prefix normal reduce_suffix number time_value entry_of record_entry line_reports
other_at_20 = record {
  log = done_in_all;
  is_log = (0, omega arith, refl);
  line = is_done (codes "1700000020");
  is_line = (0, omega arith, refl);
  says = (0, omega arith, refl);
  at = refl;
}

reported_in_both : (stage : Stage) (time : ℕ) → IsReported 1000 both stage a time
    → ((stage ≡ EndedInOtherLog) × (time ≡ 1700000020000)) ⊎ ((stage ≡ EndedInOwnLog) × (time ≡ 1700000030000))
unfolding split_lines ended record_fields fields_of status_of split_once after_prefix normal reduce_suffix number time_value entry_of record_entry line_reports
reported_in_both stage time report =
    elim (one_of_two done_in_all closed_at_30 report.log report.is_log) [
      | inl first ↦
          let facts = says_line both done_in_all (is_done (codes "1700000020")) stage a time refl report first in
          inl (sym (of_a EndedInOtherLog stage (said_in_all EndedInOtherLog stage a facts.0)), sym (same_time 1700000020000 time facts.1))
      | inr second ↦
          let facts = says_line both closed_at_30 (is_done (codes "1700000030")) stage a time refl report second in
          inr (sym (one_said EndedInOwnLog stage a a facts.0).0, sym (same_time 1700000030000 time facts.1))
    ]

-- Its own log decides.
is_end : IsEnd 1000 both a 1700000030000
is_end = inl (record {
  is = own_at_30;
  none_later = λ time report. elim (reported_in_both EndedInOwnLog time report)
      [ inl other ↦ let stages = other.0 in absurd (cc) | inr own ↦ let same = own.1 in omega (arith, same) ];
})

not_end : ¬ IsEnd 1000 both a 1700000020000
not_end = λ end. elim end [
  | inl last ↦
      (let high = last.none_later 1700000030000 own_at_30 in omega (arith, high))
  | inr other ↦ other.0 1700000030000 own_at_30
]

closed_at_11 : IsReported 1000 closed EndedInOwnLog a 1700000011000
unfolding split_lines ended record_fields fields_of status_of split_once after_prefix normal reduce_suffix number time_value entry_of record_entry line_reports
closed_at_11 = record {
  log = log a (with_line_feed (is_done (codes "1700000012")) ++ with_line_feed (is_done (codes "1700000011")));
  is_log = (0, omega arith, refl);
  line = is_done (codes "1700000011");
  is_line = (1, omega arith, refl);
  says = (0, omega arith, refl);
  at = refl;
}

-- Its last record has an earlier time than the first one.
not_latest : ¬ IsEnd 1000 closed a 1700000011000
not_latest = λ end. elim end [
  | inl last ↦
      (let high = last.none_later 1700000012000 closed_at_12 in omega (arith, high))
  | inr other ↦ other.0 1700000012000 closed_at_12
]

-- ---- beginnings after the end

abbrev begun_once : TimedLog
begun_once = log (codes "all") (with_line_feed (begins (codes "1700000001")))

begun_once_at_1 : IsReported 1000 (begun_once ∷ []) BeganInOtherLog a 1700000001000
unfolding split_lines ended record_fields fields_of status_of split_once after_prefix normal reduce_suffix number time_value entry_of record_entry line_reports
begun_once_at_1 = record {
  log = begun_once;
  is_log = (0, omega arith, refl);
  line = begins (codes "1700000001");
  is_line = (0, omega arith, refl);
  says = (0, omega arith, refl);
  at = refl;
}

only_at_1 : (time : ℕ) → IsReported 1000 (begun_once ∷ []) BeganInOtherLog a time → time ≡ 1700000001000
unfolding split_lines ended record_fields fields_of status_of split_once after_prefix normal reduce_suffix number time_value entry_of record_entry line_reports
only_at_1 time report =
    let facts = says_line (begun_once ∷ []) begun_once (begins (codes "1700000001")) BeganInOtherLog a time refl report
    (only begun_once report.log report.is_log) in
    sym (same_time 1700000001000 time facts.1)

never_in_own : Never (IsReported 1000 (begun_once ∷ []) BeganInOwnLog a)
unfolding split_lines ended record_fields fields_of status_of split_once after_prefix normal reduce_suffix number time_value entry_of record_entry line_reports
never_in_own time report =
    let facts = says_line (begun_once ∷ []) begun_once (begins (codes "1700000001")) BeganInOwnLog a time refl report
    (only begun_once report.log report.is_log) in
    let stages = of_a BeganInOtherLog BeganInOwnLog (said_in_all BeganInOtherLog BeganInOwnLog a facts.0) in absurd (cc)

is_beginning : IsBeginning 1000 (begun_once ∷ []) a 1700000001000
is_beginning = inr (
  never_in_own,
  record { is = begun_once_at_1; none_earlier = λ time report. let same = only_at_1 time report in omega (arith, same) },
)

begins_after : BeginsAfter 1000 (begun_once ∷ []) a (Some 1700000000999)
begins_after = (1700000000999, 1700000001000, refl, is_beginning, omega arith)

-- A beginning at the end is not after it. Nothing is after an end that is unknown.
not_begins_after : ¬ BeginsAfter 1000 (begun_once ∷ []) a (Some 1700000001000) × ¬ BeginsAfter 1000 [] a None
not_begins_after = (
  λ after. let same : 1700000001000 ≡ after.0 = (let is = after.2 in cc) in let late = after.4 in
      elim after.3 [
        | inl own ↦ absurd (never_in_own after.1 own.is)
        | inr other ↦ (let at = only_at_1 after.1 other.1.is in absurd (omega (arith, same, late, at)))
      ],
  λ after. let none = after.2 in absurd (cc),
)

-- ---- its own log decides

-- The own log of `a` says that it began at 5. Another log says that it ended at 3, and another one that it began at 7.
abbrev begun_at_5 : TimedLog
begun_at_5 = log a (with_line_feed (begins (codes "1700000005")))

abbrev made_before : TimedLog
made_before = log (codes "all") (with_line_feed (is_done (codes "1700000003")))

abbrev begun_at_7 : TimedLog
begun_at_7 = log (codes "all") (with_line_feed (begins (codes "1700000007")))

own_beginning : (other : TimedLog) → IsReported 1000 (other ∷ begun_at_5 ∷ []) BeganInOwnLog a 1700000005000
unfolding split_lines ended record_fields fields_of status_of split_once after_prefix normal reduce_suffix number time_value entry_of record_entry line_reports
own_beginning other = record {
  log = begun_at_5;
  is_log = (1, omega arith, refl);
  line = begins (codes "1700000005");
  is_line = (0, omega arith, refl);
  says = (0, omega arith, refl);
  at = refl;
}

other_end : IsReported 1000 (made_before ∷ begun_at_5 ∷ []) EndedInOtherLog a 1700000003000
unfolding split_lines ended record_fields fields_of status_of split_once after_prefix normal reduce_suffix number time_value entry_of record_entry line_reports
other_end = record {
  log = made_before;
  is_log = (0, omega arith, refl);
  line = is_done (codes "1700000003");
  is_line = (0, omega arith, refl);
  says = (0, omega arith, refl);
  at = refl;
}

reported_in_builds : (stage : Stage) (time : ℕ) → IsReported 1000 (made_before ∷ begun_at_5 ∷ []) stage a time
    → ((stage ≡ EndedInOtherLog) × (time ≡ 1700000003000)) ⊎ ((stage ≡ BeganInOwnLog) × (time ≡ 1700000005000))
unfolding split_lines ended record_fields fields_of status_of split_once after_prefix normal reduce_suffix number time_value entry_of record_entry line_reports
reported_in_builds stage time report =
    elim (one_of_two made_before begun_at_5 report.log report.is_log) [
      | inl first ↦
          let facts = says_line (made_before ∷ begun_at_5 ∷ []) made_before (is_done (codes "1700000003")) stage a time refl report first in
          inl (sym (of_a EndedInOtherLog stage (said_in_all EndedInOtherLog stage a facts.0)), sym (same_time 1700000003000 time facts.1))
      | inr second ↦
          let facts = says_line (made_before ∷ begun_at_5 ∷ []) begun_at_5 (begins (codes "1700000005")) stage a time refl report second in
          inr (sym (one_said BeganInOwnLog stage a a facts.0).0, sym (same_time 1700000005000 time facts.1))
    ]

begins_in_own : BeginsInOwnLog 1000 (made_before ∷ begun_at_5 ∷ []) a
begins_in_own = (1700000005000, own_beginning made_before)

not_begins_in_own : ¬ BeginsInOwnLog 1000 (begun_once ∷ []) a
not_begins_in_own = λ begins. never_in_own begins.0 begins.1

not_never_begins : ¬ NeverBegins 1000 (made_before ∷ begun_at_5 ∷ []) a × ¬ NeverBegins 1000 (begun_once ∷ []) a
not_never_begins = (
  λ never. never.0 1700000005000 (own_beginning made_before),
  λ never. never.1 1700000001000 begun_once_at_1,
)

other_beginning : IsReported 1000 (begun_at_7 ∷ begun_at_5 ∷ []) BeganInOtherLog a 1700000007000
unfolding split_lines ended record_fields fields_of status_of split_once after_prefix normal reduce_suffix number time_value entry_of record_entry line_reports
other_beginning = record {
  log = begun_at_7;
  is_log = (0, omega arith, refl);
  line = begins (codes "1700000007");
  is_line = (0, omega arith, refl);
  says = (0, omega arith, refl);
  at = refl;
}

-- The own log of `a` says that it began at 3 and at 1.
abbrev begun_in_own : List TimedLog
begun_in_own = log a (with_line_feed (begins (codes "1700000003")) ++ with_line_feed (begins (codes "1700000001"))) ∷ []

begun_in_own_at_1 : IsReported 1000 begun_in_own BeganInOwnLog a 1700000001000
unfolding split_lines ended record_fields fields_of status_of split_once after_prefix normal reduce_suffix number time_value entry_of record_entry line_reports
begun_in_own_at_1 = record {
  log = log a (with_line_feed (begins (codes "1700000003")) ++ with_line_feed (begins (codes "1700000001")));
  is_log = (0, omega arith, refl);
  line = begins (codes "1700000001");
  is_line = (1, omega arith, refl);
  says = (0, omega arith, refl);
  at = refl;
}

not_beginning : ¬ IsBeginning 1000 (begun_at_7 ∷ begun_at_5 ∷ []) a 1700000007000
not_beginning = λ beginning. elim beginning [
  | inl own ↦ (let low = own.none_earlier 1700000005000 (own_beginning begun_at_7) in omega (arith, low))
  | inr other ↦ other.0 1700000005000 (own_beginning begun_at_7)
]

-- What another log says is of an earlier build.
not_end_before : ¬ IsEnd 1000 (made_before ∷ begun_at_5 ∷ []) a 1700000003000
not_end_before = λ end. elim end [
  | inl last ↦ elim (reported_in_builds EndedInOwnLog 1700000003000 last.is)
      [ inl other ↦ (let stages = other.0 in absurd (cc)) | inr own ↦ (let stages = own.0 in absurd (cc)) ]
  | inr other ↦ other.1 1700000005000 (own_beginning made_before)
]

-- ---- which targets ran others

-- The log of `all` says that `a` ended at 20. `all` began at 19.999 or 20, and ended at 20 or 19.999.
other_ended_at_20 : IsReported 1000 (done_in_all ∷ []) RunsOther (codes "all") 1700000020000
unfolding split_lines ended record_fields fields_of status_of split_once after_prefix normal reduce_suffix number time_value entry_of record_entry line_reports
other_ended_at_20 = record {
  log = done_in_all;
  is_log = (0, omega arith, refl);
  line = is_done (codes "1700000020");
  is_line = (0, omega arith, refl);
  says = (1, omega arith, refl);
  at = refl;
}

abbrev RanAt20 : Option ℕ → Option ℕ → Type 0
RanAt20 began ended =
    RanOthers 1000 (done_in_all ∷ []) (codes "all") (record { began = began; ended = ended; ran_others = true }) 1700000020000

ran_at_20 : RanAt20 (Some 1700000019999) (Some 1700000020000)
ran_at_20 = record { is_reported = other_ended_at_20; after = omega arith; until = omega arith }

not_ran_at_20 :
    ¬ RanAt20 (Some 1700000020000) (Some 1700000020000) × ¬ RanAt20 (Some 1700000019999) (Some 1700000019999)
    × ¬ RanAt20 None (Some 1700000020000) × ¬ RanAt20 (Some 1700000019999) None
not_ran_at_20 = (
  λ ran. let late = ran.after in omega (arith, late),
  λ ran. let early = ran.until in omega (arith, early),
  λ ran. ran.after,
  λ ran. ran.until,
)

-- `a` ran no other target.
not_of_a : ¬ IsReported 1000 (done_in_all ∷ []) RunsOther a 1700000020000
not_of_a = λ report. let stages = of_a EndedInOtherLog RunsOther (reported_in_all RunsOther a 1700000020000 report).0 in absurd (cc)

-- No log reports anything.
not_ran_unreported :
    ¬ RanOthers 1000 [] a (record { began = Some 1700000005000; ended = Some 1700000009000; ran_others = true }) 1700000006000
not_ran_unreported = λ ran. let below = ran.is_reported.is_log.1 in omega (arith, below)

-- The log of `a` says that `a` began at 5, that another target ended at 6, and that `a` ended at 9.
abbrev around_at_6 : TimedLog
around_at_6 = log a (with_line_feed (begins (codes "1700000005")) ++ with_line_feed (codes "@@REDO:done:7:1700000006@@ 0 b")
    ++ with_line_feed (is_done (codes "1700000009")))

ran_at_6 : RanOthers 1000 (around_at_6 ∷ []) a (times_of 1000 (around_at_6 ∷ []) a) 1700000006000
unfolding split_lines ended record_fields fields_of status_of split_once after_prefix normal reduce_suffix number time_value entry_of record_entry line_reports
ran_at_6 = record {
  is_reported = record {
    log = around_at_6;
    is_log = (0, omega arith, refl);
    line = codes "@@REDO:done:7:1700000006@@ 0 b";
    is_line = (1, omega arith, refl);
    says = (1, omega arith, refl);
    at = refl;
  };
  after = omega arith;
  until = omega arith;
}
