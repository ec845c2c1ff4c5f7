-- Rows of logs and the times of one target.
use Rattle.std.proofs.Common.{◌≡◌, ℕ, true, false, List, [], ◌∷◌, ◌++◌, Option, None, Some, map, arith, refl}
use Rattle.std.specs.Prelude.{codes}
use Rattle.std.specs.List.{AllByRecursion}
use Rattle.redo_line.specs.declared.entry.Entry.TheVariants.{Note, Text}
use Rattle.redo_line.specs.Decimal.{number}
use Rattle.redo_line.specs.Entry.{entry_of, record_entry}
use Rattle.redo_line.specs.Lines.{ended, split_lines, with_line_feed}
use Rattle.redo_line.specs.Parts.{after_prefix, split_once}
use Rattle.redo_line.specs.Record.{fields_of, record_fields, status_of}
use Rattle.redo_name.specs.Names.{normal, reduce_suffix}
use Rattle.redo_times.specs.Report.{TimedLog, line_reports, stages_of}
use Rattle.redo_times.specs.Time.{time_value}
use Rattle.redo_times.specs.Times.{AreInRange, times_of}

abbrev log : List ℕ → List ℕ → TimedLog
log target bytes = record { target = target; bytes = bytes }

abbrev line : List ℕ → List ℕ
line text = with_line_feed text

-- A record at `seconds` that a target is begun, and one that it is done.
abbrev begins : List ℕ → List ℕ → List ℕ
begins seconds name = line (codes "@@REDO:do:7:" ++ seconds ++ codes "@@ " ++ name)

abbrev is_done : List ℕ → List ℕ → List ℕ
is_done seconds text = line (codes "@@REDO:done:7:" ++ seconds ++ codes "@@ " ++ text)

record Row : Type 0 where
  logs : List TimedLog
  target : List ℕ
  began : Option ℕ
  ended : Option ℕ

abbrev from : List TimedLog → List ℕ → Option ℕ → Option ℕ → Row
from logs target began ended = record { logs = logs; target = target; began = began; ended = ended }

-- The times of the target, if at most `max_bytes` bytes of each stream count.
abbrev HasTimes : ℕ → Row → Type 0
HasTimes max_bytes row = times_of max_bytes row.logs row.target ≡ record { began = row.began; ended = row.ended; ran_others = false }

abbrev a : List ℕ
a = codes "a"

abbrev all : List ℕ
all = codes "all"

-- When targets begin: by their own log, by another log, and by several.
abbrev beginnings : List Row
beginnings =
    from [] a None None ∷
    from (log a ([]) ∷ []) a None None ∷
    from (log a (begins (codes "1700000001") (codes "a")) ∷ []) a (Some 1700000001000) None ∷
    from (log all (begins (codes "1700000002.25") (codes "a")) ∷ log a ([]) ∷ []) a (Some 1700000002250) None ∷
    from (log all (begins (codes "1700000005") (codes "a") ++ begins (codes "1700000003") (codes "a")
    ++ begins (codes "1700000007") (codes "a")) ∷ log ((codes "b")) (begins (codes "1700000004") (codes "a")) ∷ []) a
    (Some 1700000003000) None ∷
    from (log all (begins (codes "1700000005") (codes "b")) ∷ []) a None None ∷
    from (log all (begins (codes "5") (codes "a") ++ begins (codes "1700000006") (codes "a")) ∷ []) a (Some 1700000006000) None ∷
    from (log all (begins (codes "1700000001") (codes "a")) ∷ log a (begins (codes "1700000008") (codes "a")) ∷ []) a
    (Some 1700000008000) None ∷
    from (log a (begins (codes "1700000008") (codes "a") ++ begins (codes "1700000009") (codes "a"))
    ∷ log all (begins (codes "1700000010") (codes "a")) ∷ []) a (Some 1700000008000) None ∷
    from (log a (begins (codes "5") (codes "a")) ∷ log all (begins (codes "1700000010") (codes "a")) ∷ []) a (Some 1700000010000) None ∷
    []

these_beginnings : AllByRecursion (HasTimes 1000) beginnings
unfolding split_lines ended record_fields fields_of status_of split_once after_prefix normal reduce_suffix number time_value entry_of record_entry line_reports
these_beginnings = (refl, (refl, (refl, (refl, (refl, (refl, (refl, (refl, (refl, (refl, tt))))))))))

-- When targets end: by their own log, which other logs don't change, and by other logs.
abbrev ends : List Row
ends =
    from (log a (is_done (codes "1700000010") (codes "0 a")) ∷ []) a None (Some 1700000010000) ∷
    from (log all (is_done (codes "1700000020") (codes "0 a")) ∷ log a (is_done (codes "1700000010") (codes "2 a")) ∷ []) a None
    (Some 1700000010000) ∷
    from (log a (is_done (codes "1700000012") (codes "0 a") ++ is_done (codes "1700000011") (codes "0 a")) ∷ []) a None
    (Some 1700000012000) ∷
    from (log a (is_done (codes "1700000011") (codes "0 a") ++ is_done (codes "1700000012") (codes "-1 a")) ∷ []) a None
    (Some 1700000012000) ∷
    from (log all (is_done (codes "1700000020") (codes "0 a")) ∷ log ((codes "b")) (is_done (codes "1700000021.5") (codes "0 a")) ∷ []) a
    None (Some 1700000021500) ∷
    from (log a (is_done (codes "5") (codes "0 a")) ∷ log all (is_done (codes "1700000020") (codes "0 a")) ∷ []) a None
    (Some 1700000020000) ∷
    from (log all (is_done (codes "1700000020") (codes "0 b")) ∷ []) a None None ∷
    from (log all (is_done (codes "1700000020") (codes "0 a")) ∷ log a (begins (codes "1700000010") (codes "b")) ∷ []) a None
    (Some 1700000020000) ∷
    []

these_ends : AllByRecursion (HasTimes 1000) ends
unfolding split_lines ended record_fields fields_of status_of split_once after_prefix normal reduce_suffix number time_value entry_of record_entry line_reports
these_ends = (refl, (refl, (refl, (refl, (refl, (refl, (refl, (refl, tt))))))))

-- Targets that begin and end. A beginning after the end is unknown.
abbrev pairs : List Row
pairs =
    from (log all (begins (codes "1700000001") (codes "a") ++ is_done (codes "1700000002") (codes "0 a")) ∷ []) a (Some 1700000001000)
    (Some 1700000002000) ∷
    from (log all (begins (codes "1700000002") (codes "a") ++ is_done (codes "1700000002") (codes "0 a")) ∷ []) a (Some 1700000002000)
    (Some 1700000002000) ∷
    from (log all (begins (codes "1700000002.001") (codes "a") ++ is_done (codes "1700000002") (codes "0 a")) ∷ []) a None
    (Some 1700000002000) ∷
    from (log all (begins (codes "1700000001") (codes "a") ++ is_done (codes "1700000009") (codes "0 a"))
    ∷ log a (line (codes "cc a.c") ++ is_done (codes "1700000003") (codes "0 a") ++ line (codes "after")) ∷ []) a (Some 1700000001000)
    (Some 1700000003000) ∷
    []

these_pairs : AllByRecursion (HasTimes 1000) pairs
unfolding split_lines ended record_fields fields_of status_of split_once after_prefix normal reduce_suffix number time_value entry_of record_entry line_reports
these_pairs = (refl, (refl, (refl, (refl, tt))))

-- A log of `all` that is of an earlier build, in which `a` was made. Since then, `a` failed; succeeded; is being made.
abbrev earlier_build : TimedLog
earlier_build = log all (begins (codes "1700000001") (codes "a") ++ is_done (codes "1700000002") (codes "0 a"))

abbrev later_builds : List Row
later_builds =
    from (earlier_build ∷ log a (begins (codes "1700000008") (codes "a") ++ is_done (codes "1700000009") (codes "2 a")) ∷ []) a
    (Some 1700000008000) (Some 1700000009000) ∷
    from (log a (begins (codes "1700000008") (codes "a") ++ is_done (codes "1700000009") (codes "0 a")) ∷ earlier_build ∷ []) a
    (Some 1700000008000) (Some 1700000009000) ∷
    from (earlier_build ∷ log a (begins (codes "1700000008") (codes "a")) ∷ []) a (Some 1700000008000) None ∷
    []

these_later_builds : AllByRecursion (HasTimes 1000) later_builds
unfolding split_lines ended record_fields fields_of status_of split_once after_prefix normal reduce_suffix number time_value entry_of record_entry line_reports
these_later_builds = (refl, (refl, (refl, tt)))

-- Names are relative to the directory of the log's target.
abbrev names : List Row
names =
    from (log ((codes "d/a")) (begins (codes "1700000001") (codes "../x")) ∷ []) (codes "x") (Some 1700000001000) None ∷
    from (log ((codes "d/a")) (begins (codes "1700000001") (codes "../x")) ∷ []) (codes "../x") None None ∷
    from (log ((codes "d/a")) (begins (codes "1700000001") (codes "x")) ∷ []) (codes "d/x") (Some 1700000001000) None ∷
    from (log ((codes "d/a")) (is_done (codes "1700000001") (codes "0 ./a")) ∷ []) (codes "d/a") None (Some 1700000001000) ∷
    from (log ((codes "d/a")) (is_done (codes "1700000001") (codes "0 ../d/a")) ∷ log all (is_done (codes "1700000002") (codes "0 d/a"))
    ∷ []) (codes "d/a") None (Some 1700000001000) ∷
    []

these_names : AllByRecursion (HasTimes 1000) names
unfolding split_lines ended record_fields fields_of status_of split_once after_prefix normal reduce_suffix number time_value entry_of record_entry line_reports
these_names = (refl, (refl, (refl, (refl, (refl, tt)))))

-- Lines that report nothing: text, other kinds, and records that are not valid.
abbrev others : List Row
others =
    from (log all (line (codes "x @@REDO:do:7:1700000001@@ a") ++ line (codes "@@REDO") ++ line (codes "")) ∷ []) a None None ∷
    from (log all (line (codes "@@REDO:waiting:7:1700000001@@ a") ++ line (codes "@@REDO:locked:7:1700000001@@ a")
    ++ line (codes "@@REDO:unlocked:7:1700000001@@ a") ++ line (codes "@@REDO:unchanged:7:1700000001@@ a")
    ++ line (codes "@@REDO:check:7:1700000001@@ a")) ∷ []) a None None ∷
    from (log all (line (codes "@@REDO:do:x:1700000001@@ a") ++ line (codes "@@REDO:do:7:17000000x1@@ a")
    ++ line (codes "@@REDO:do:7:1700000001@@a") ++ line (codes "@@REDO:DO:7:1700000001@@ a")) ∷ []) a None None ∷
    from (log all (line (codes "@@REDO:do:7:1700000001@@ ") ++ line (codes "@@REDO:done:7:1700000001@@ 0 ")
    ++ line (codes "@@REDO:done:7:1700000001@@ a") ++ line (codes "@@REDO:done:7:1700000001@@ x a")
    ++ line (codes "@@REDO:done:7:1700000001@@ 0a")) ∷ []) a None None ∷
    from (log all (line (codes "@@REDO:bad") ++ begins (codes "1700000004") (codes "a")) ∷ []) a (Some 1700000004000) None ∷
    from (log all (codes "@@REDO:do:7:1700000001@@ a") ∷ []) a None None ∷
    []

these_others : AllByRecursion (HasTimes 1000) others
unfolding split_lines ended record_fields fields_of status_of split_once after_prefix normal reduce_suffix number time_value entry_of record_entry line_reports
these_others = (refl, (refl, (refl, (refl, (refl, (refl, tt))))))

-- The first record has 27 bytes with its line feed.
-- Only the first 27 bytes count: the first record, and not the earlier second one.
abbrev prefixes : List Row
prefixes =
    from (log all (begins (codes "1700000005") (codes "a") ++ begins (codes "1700000001") (codes "a")) ∷ []) a (Some 1700000005000) None ∷
    from (log all (begins (codes "1700000005") (codes "a")) ∷ log a (line (codes "") ++ begins (codes "1700000001") (codes "a")) ∷ []) a
    (Some 1700000005000) None ∷
    []

these_prefixes : AllByRecursion (HasTimes 27) prefixes
unfolding split_lines ended record_fields fields_of status_of split_once after_prefix normal reduce_suffix number time_value entry_of record_entry line_reports
these_prefixes = (refl, (refl, tt))

-- If only 26 bytes count, the first record is unended.
abbrev cut_records : List Row
cut_records =
    from (log all (begins (codes "1700000005") (codes "a")) ∷ []) a None None ∷
    []

these_cut_records : AllByRecursion (HasTimes 26) cut_records
unfolding split_lines ended record_fields fields_of status_of split_once after_prefix normal reduce_suffix number time_value entry_of record_entry line_reports
these_cut_records = (refl, tt)

-- Text lines and notes report nothing.
other_entries : (stages_of all (Text a) ≡ []) × (stages_of all (Note 7 (codes "x") a) ≡ [])
other_entries = (refl, refl)

not_in_range : (AreInRange (record { began = Some 5; ended = None; ran_others = false }) → ⊥)
    × (AreInRange (record { began = None; ended = Some 5; ran_others = false }) → ⊥)
not_in_range = ((λ are. omega (arith, are.0.0)), (λ are. omega (arith, are.1.0)))

-- ---- which targets ran others

-- The log of `a` says that `a` began at 5, that `b` ended at this time, and that `a` ended at 9.
abbrev around : List ℕ → TimedLog
around time = log a (begins (codes "1700000005") (codes "a") ++ is_done time (codes "0 b") ++ is_done (codes "1700000009") (codes "0 a"))

-- `b` ended before `a` began, when it began, right after that, when `a` ended, and after that.
ran_others : map (λ time. (times_of 1000 (around time ∷ []) a).ran_others)
    (codes "1700000004" ∷ codes "1700000005" ∷ codes "1700000005.001" ∷ codes "1700000009" ∷ codes "1700000009.001" ∷ [])
    ≡ false ∷ false ∷ true ∷ true ∷ false ∷ []
unfolding split_lines ended record_fields fields_of status_of split_once after_prefix normal reduce_suffix number time_value entry_of record_entry line_reports
ran_others = refl

-- The first one ended before `a` began, the last one after it ended, and another one while it ran.
abbrev others_around : TimedLog
others_around = log a
    (begins (codes "1700000005") (codes "a") ++ is_done (codes "1700000004") (codes "0 b") ++ is_done (codes "1700000006") (codes "2 c")
    ++ is_done (codes "1700000010") (codes "0 d") ++ is_done (codes "1700000009") (codes "0 a"))

one_while_it_ran : times_of 1000 (others_around ∷ []) a
    ≡ record { began = Some 1700000005000; ended = Some 1700000009000; ran_others = true }
unfolding split_lines ended record_fields fields_of status_of split_once after_prefix normal reduce_suffix number time_value entry_of record_entry line_reports
one_while_it_ran = refl

-- Logs by redo. The log of `all` says when `a` began and ended, and the log of `a` says that `b` ran meanwhile.
abbrev redo_logs : List TimedLog
redo_logs = log all (begins (codes "1700000005") (codes "a") ++ is_done (codes "1700000009") (codes "0 a"))
    ∷ log a (begins (codes "1700000006") (codes "b") ++ is_done (codes "1700000007") (codes "0 b")) ∷ log (codes "b") [] ∷ []

these_redo_logs : map (λ target. (times_of 1000 redo_logs target).ran_others) (a ∷ codes "b" ∷ all ∷ []) ≡ true ∷ false ∷ false ∷ []
unfolding split_lines ended record_fields fields_of status_of split_once after_prefix normal reduce_suffix number time_value entry_of record_entry line_reports
these_redo_logs = refl

-- Another log says that `b` ended; the end of `a` is unknown, or its beginning.
abbrev others_unknown : List (List TimedLog)
others_unknown =
    (around (codes "1700000004") ∷ log all (is_done (codes "1700000006") (codes "0 b")) ∷ []) ∷
    (log a (begins (codes "1700000005") (codes "a") ++ is_done (codes "1700000006") (codes "0 b")) ∷ []) ∷
    (log a (is_done (codes "1700000006") (codes "0 b") ++ is_done (codes "1700000009") (codes "0 a")) ∷ []) ∷
    []

these_others_unknown : map (λ logs. (times_of 1000 logs a).ran_others) others_unknown ≡ false ∷ false ∷ false ∷ []
unfolding split_lines ended record_fields fields_of status_of split_once after_prefix normal reduce_suffix number time_value entry_of record_entry line_reports
these_others_unknown = refl

-- The log of `a` has a record of this kind of a target at 6. `a` ran from 5 to 9.
abbrev mentions_at_6 : List ℕ → List ℕ → TimedLog
mentions_at_6 kind name = log a
    (begins (codes "1700000005") (codes "a") ++ line (codes "@@REDO:" ++ kind ++ codes ":7:1700000006@@ " ++ name)
    ++ is_done (codes "1700000009") (codes "0 a"))

-- What is unchanged is not run, and `a` doesn't wait for itself.
mentioned : map (λ kind. (times_of 1000 (mentions_at_6 kind (codes "b") ∷ []) a).ran_others)
    (codes "do" ∷ codes "waiting" ∷ codes "locked" ∷ codes "unlocked" ∷ codes "unchanged" ∷ codes "check" ∷ [])
    ≡ true ∷ true ∷ true ∷ true ∷ false ∷ false ∷ []
unfolding split_lines ended record_fields fields_of status_of split_once after_prefix normal reduce_suffix number time_value entry_of record_entry line_reports
mentioned = refl

mentioned_itself : map (λ kind. (times_of 1000 (mentions_at_6 kind (codes "./a") ∷ []) a).ran_others)
    (codes "do" ∷ codes "waiting" ∷ codes "locked" ∷ codes "unlocked" ∷ [])
    ≡ false ∷ false ∷ false ∷ false ∷ []
unfolding split_lines ended record_fields fields_of status_of split_once after_prefix normal reduce_suffix number time_value entry_of record_entry line_reports
mentioned_itself = refl
