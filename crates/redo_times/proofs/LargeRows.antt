-- Rows of long names, late times and equal times, and properties of streams of any length.
use Rattle.std.proofs.Common.{◌≡◌, ℕ, Bool, false, List, [], ◌∷◌, ◌++◌, None, Some, pos, negsuc, length, map, replicate, refl}
use Rattle.std.specs.Prelude.{codes, slice_get}
use Rattle.redo_device.specs.Feed.{Stream}
use Rattle.redo_line.specs.Decimal.{number}
use Rattle.redo_line.specs.Entry.{entry_of, record_entry}
use Rattle.redo_line.specs.Lines.{ended, split_lines, with_line_feed}
use Rattle.redo_line.specs.Parts.{after_prefix, split_once}
use Rattle.redo_line.specs.Record.{fields_of, record_fields, status_of}
use Rattle.redo_name.specs.Names.{normal, reduce_suffix}
use Rattle.redo_line.specs.declared.entry.Entry.TheVariants.{Closing, Done, Mention}
use Rattle.redo_line.specs.declared.entry.How.TheVariants.{Made, Waiting, Locked, Unlocked, Unchanged}
use Rattle.redo_times.specs.declared.report.Report.{Report}
use Rattle.redo_times.specs.declared.report.Stage.TheVariants.{BeganInOtherLog, EndedInOtherLog, EndedInOwnLog, RunsOther}
use Rattle.redo_times.specs.Readers.{logs_of, times_of_all}
use Rattle.redo_times.specs.Report.{line_reports, reports_in, stages_of}
use Rattle.redo_times.specs.Time.{time_value}
use Rattle.redo_times.specs.Times.{before_end, first_time, last_time, times_at}

-- Names of 500 bytes that differ in the last one.
abbrev long : List ℕ → List ℕ
long end = replicate 499 97 ++ end

abbrev report : List ℕ → ℕ → Report
report target time = record { stage = BeganInOtherLog; target = target; time = time }

long_names : times_at BeganInOtherLog (long (codes "x"))
    (report (long (codes "y")) 1000000000000 ∷ report (long (codes "x")) 1000000000001 ∷ report (codes "x") 1000000000002 ∷ [])
    ≡ 1000000000001 ∷ []
long_names = refl

-- The first and the last of times from 2001 to 2286.
first_and_last :
    (first_time (5000000000001 ∷ 1000000000000 ∷ 9999999999999 ∷ 2000000000001 ∷ 2000000000000 ∷ []) ≡ Some 1000000000000)
    × (last_time (5000000000001 ∷ 1000000000000 ∷ 9999999999999 ∷ 2000000000001 ∷ 2000000000000 ∷ []) ≡ Some 9999999999999)
    × (last_time (2000000000001 ∷ 2000000000000 ∷ 2000000000001 ∷ []) ≡ Some 2000000000001)
    × (first_time (2000000000001 ∷ 2000000000000 ∷ 2000000000001 ∷ []) ≡ Some 2000000000000)
first_and_last = (refl, refl, refl, refl)

-- A target may end in the millisecond in which it began.
equal_times : (before_end (Some 1600000000000) (Some 1600000000000) ≡ Some 1600000000000)
    × (before_end (Some 1600000000001) (Some 1600000000000) ≡ None)
equal_times = (refl, refl)

-- Or a week and three months later.
late_ends : map (before_end (Some 1600000000000)) (Some 1600604800000 ∷ Some 1607776000000 ∷ []) ≡ replicate 2 (Some 1600000000000)
late_ends = refl

-- Decimals after the third are dropped.
fractions : map time_value (codes "1600000000.0009" ∷ codes "1600000000.9995" ∷ codes "1600000000.12345" ∷ codes "1600000000.4567" ∷ [])
    ≡ Some 1600000000000 ∷ Some 1600000000999 ∷ Some 1600000000123 ∷ Some 1600000000456 ∷ []
unfolding time_value split_once number
fractions = refl

-- Only the mention `do` says that a target began.
mentions : map (λ how. stages_of (codes "a") (Mention 7 how (codes "b"))) (Waiting ∷ Locked ∷ Unlocked ∷ Unchanged ∷ [])
    ≡ replicate 3 ((RunsOther, codes "a") ∷ []) ++ [] ∷ []
mentions = refl

-- A log has all bytes of its stream, however many they are, even if a failed read ends it.
whole_streams : (target bytes : List ℕ) (fails : Bool)
    → logs_of (target ∷ []) (record { bytes = bytes; fails = fails } ∷ []) ≡ record { target = target; bytes = bytes } ∷ []
whole_streams target bytes fails = refl

-- A `done` record with any status says that a target ended.
done_records : map (λ status. stages_of (codes "a") (Done 7 status (codes "b")))
    (pos 0 ∷ pos 1 ∷ pos 2 ∷ pos 130 ∷ negsuc 0 ∷ negsuc 8 ∷ []) ≡ replicate 6 ((EndedInOtherLog, codes "b") ∷ (RunsOther, codes "a") ∷ [])
done_records = refl

closing_records : map (λ status. stages_of (codes "a") (Closing 7 status)) (pos 0 ∷ pos 1 ∷ pos 2 ∷ pos 130 ∷ negsuc 0 ∷ negsuc 8 ∷ [])
    ≡ replicate 6 ((EndedInOwnLog, codes "a") ∷ [])
closing_records = refl

-- A `do` record of any process says that a target began.
do_records : map (λ pid. stages_of (codes "a") (Mention pid Made (codes "b"))) (0 ∷ 1 ∷ 7 ∷ 32768 ∷ 4194304 ∷ [])
    ≡ replicate 5 ((BeganInOtherLog, codes "b") ∷ (RunsOther, codes "a") ∷ [])
do_records = refl

-- The log of the last of 151 targets says when it ended.
abbrev stream : List ℕ → Stream
stream bytes = record { bytes = bytes; fails = false }

many_logs :
    slice_get
    (times_of_all 1000 (replicate 150 (codes "b") ++ codes "a" ∷ [])
    (replicate 150 (stream []) ++ stream (with_line_feed (codes "@@REDO:done:7:1700000004@@ 2 a")) ∷ []))
    150
    ≡ Some (record { began = None; ended = Some 1700000004000; ran_others = false })
unfolding split_lines ended record_fields fields_of status_of split_once after_prefix normal reduce_suffix number time_value entry_of record_entry line_reports
many_logs = refl

many_lines : length (reports_in (codes "a") (replicate 1500 [] ++ codes "@@REDO:done:7:1700000004@@ 0 a" ∷ [])) ≡ 1
unfolding split_lines ended record_fields fields_of status_of split_once after_prefix normal reduce_suffix number time_value entry_of record_entry line_reports
many_lines = refl
