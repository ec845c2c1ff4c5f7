-- Rows of the times of all targets, by the streams of their readers, and of records, as the laws define them.
use Rattle.std.proofs.Common.{◌≡◌, ℕ, false, true, List, [], ◌∷◌, ◌++◌, Option, None, Some, refl}
use Rattle.std.specs.Prelude.{codes}
use Rattle.std.specs.List.{flat_map}
use Rattle.redo_device.specs.Feed.{Stream}
use Rattle.redo_line.specs.Decimal.{number}
use Rattle.redo_line.specs.Entry.{entry_of, record_entry}
use Rattle.redo_line.specs.Lines.{ended, split_lines, with_line_feed}
use Rattle.redo_line.specs.Parts.{after_prefix, split_once}
use Rattle.redo_line.specs.Record.{fields_of, record_fields, status_of}
use Rattle.redo_name.specs.Names.{normal, reduce_suffix}
use Rattle.redo_times.specs.declared.times.Times.{Times}
use Rattle.redo_times.specs.Readers.{AreTimesOfReaders, logs_of, times_of_all}
use Rattle.redo_times.specs.Report.{line_reports}
use Rattle.redo_times.specs.Time.{time_value}

abbrev stream : List ℕ → Stream
stream bytes = record { bytes = bytes; fails = false }

abbrev a : List ℕ
a = codes "a"

abbrev all : List ℕ
all = codes "all"

-- The log of `all`, in which `a` begins and ends, and the log of `a`, which says that it ended before.
abbrev of_all : List ℕ
of_all = with_line_feed (codes "@@REDO:do:7:1700000001@@ a") ++ with_line_feed (codes "@@REDO:done:7:1700000006@@ 0 a")
    ++ with_line_feed (codes "@@REDO:done:7:1700000005@@ 0 all")

abbrev of_a : List ℕ
of_a = with_line_feed (codes "@@REDO:done:7:1700000004@@ 0 a")

-- A failed read ends the second stream.
abbrev streams : List Stream
streams = stream of_all ∷ record { bytes = of_a; fails = true } ∷ []

abbrev times : Option ℕ → Option ℕ → Times
times began ended = record { began = began; ended = ended; ran_others = false }

abbrev both : List Times
both = times None (Some 1700000005000) ∷ times (Some 1700000001000) (Some 1700000004000) ∷ []

these_logs : logs_of (all ∷ a ∷ []) streams ≡ record { target = all; bytes = of_all } ∷ record { target = a; bytes = of_a } ∷ []
these_logs = refl

no_logs : (logs_of [] streams ≡ []) × (logs_of (all ∷ a ∷ []) [] ≡ [])
no_logs = (refl, refl)

these_times : times_of_all 1000 (all ∷ a ∷ []) streams ≡ both
unfolding split_lines ended record_fields fields_of status_of split_once after_prefix normal reduce_suffix number time_value entry_of record_entry line_reports
these_times = refl

-- The last closing record counts, and lines after it do too. Programs reject such a log.
after_its_end : times_of_all 1000 (a ∷ codes "b" ∷ []) (
    stream (flat_map with_line_feed (
    codes "@@REDO:done:7:1700000002@@ 0 a" ∷ codes "@@REDO:done:7:1700000009@@ 0 a" ∷ codes "@@REDO:do:7:1700000001@@ b"
    ∷ codes "@@REDO:done:7:1700000004@@ 0 a" ∷ [])
    )
    ∷ stream (with_line_feed (codes "@@REDO:done:7:1700000030@@ 0 a"))
    ∷ [])
    ≡ times None (Some 1700000009000) ∷ times (Some 1700000001000) None ∷ []
unfolding split_lines ended record_fields fields_of status_of split_once after_prefix normal reduce_suffix number time_value entry_of record_entry line_reports
after_its_end = refl

-- Records that are not valid are skipped, and so is the last line, which is unended. Programs reject such a log.
bad_records : times_of_all 1000 (a ∷ []) (
    stream (flat_map with_line_feed (
    codes "@@REDO:do:x:1700000001@@ a" ∷ codes "@@REDO:do:7:1700000002@@a" ∷ codes "@@REDO:do:7:1700000003.@@ a"
    ∷ codes "@@REDO:done:7:1700000004@@ a" ∷ codes "@@REDO:done:7:1700000005@@ - a" ∷ codes "@@REDO:done:7:1700000006@@ 0 "
    ∷ codes "@@REDO:do:7:1700000007@@ " ∷ codes " @@REDO:do:7:1700000008@@ a" ∷ codes "@@REDO:"
    ∷ codes "@@REDO:do:7:1700000009@@ a" ∷ [])
    ++ codes "@@REDO:do:7:1700000001@@ a")
    ∷ [])
    ≡ times (Some 1700000009000) None ∷ []
unfolding split_lines ended record_fields fields_of status_of split_once after_prefix normal reduce_suffix number time_value entry_of record_entry line_reports
bad_records = refl

-- Each record has 27 bytes with its line feed.
abbrev first : List ℕ
first = with_line_feed (codes "@@REDO:do:7:1700000005@@ a")

abbrev both_records : List ℕ
both_records = first ++ with_line_feed (codes "@@REDO:do:7:1700000001@@ a")

these_prefixes : (times_of_all 53 (a ∷ []) (stream both_records ∷ []) ≡ times (Some 1700000005000) None ∷ [])
    × (times_of_all 54 (a ∷ []) (stream both_records ∷ []) ≡ times (Some 1700000001000) None ∷ [])
    × (times_of_all 26 (a ∷ []) (stream first ∷ []) ≡ times None None ∷ [])
    × (times_of_all 0 (a ∷ []) (stream first ∷ []) ≡ times None None ∷ [])
unfolding split_lines ended record_fields fields_of status_of split_once after_prefix normal reduce_suffix number time_value entry_of record_entry line_reports
these_prefixes = (refl, refl, refl, refl)

-- A failed read ends each stream, and the bytes before it count.
after_failed_reads : times_of_all 1000 (a ∷ codes "b" ∷ []) (
    record {
      bytes = with_line_feed (codes "@@REDO:do:7:1700000005@@ b") ++ codes "@@REDO:do:7:1700000001@@ b";
      fails = true;
    }
    ∷ record {
      bytes = with_line_feed [] ++ with_line_feed [] ++ with_line_feed (codes "@@REDO:done:7:1700000006@@ -3 b");
      fails = true;
    }
    ∷ [])
    ≡ times None None ∷ times (Some 1700000005000) (Some 1700000006000) ∷ []
unfolding split_lines ended record_fields fields_of status_of split_once after_prefix normal reduce_suffix number time_value entry_of record_entry line_reports
after_failed_reads = refl

-- Readers whose streams are known have the times of these streams, and no others.
of_known : AreTimesOfReaders 1000 (all ∷ a ∷ []) (Some (stream of_all) ∷ Some (stream of_a) ∷ []) both
unfolding split_lines ended record_fields fields_of status_of split_once after_prefix normal reduce_suffix number time_value entry_of record_entry line_reports
of_known = refl

of_none : AreTimesOfReaders 1000 [] [] []
of_none = refl

not_of_none : AreTimesOfReaders 1000 [] [] (times None None ∷ []) → ⊥
not_of_none is = cc

not_of_known : AreTimesOfReaders 1000 (a ∷ []) (Some (stream []) ∷ []) [] → ⊥
not_of_known is = cc

-- An opaque reader has the times of any stream, such as this one.
of_opaque : AreTimesOfReaders 1000 (all ∷ a ∷ []) (None ∷ Some (stream of_a) ∷ []) both
unfolding split_lines ended record_fields fields_of status_of split_once after_prefix normal reduce_suffix number time_value entry_of record_entry line_reports
of_opaque = (stream of_all, refl)

not_of_opaque : AreTimesOfReaders 1000 (a ∷ []) (None ∷ []) [] → ⊥
not_of_opaque is = let same = is.1 in cc
