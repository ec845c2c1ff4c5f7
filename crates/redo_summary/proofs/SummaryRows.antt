-- Rows of the facts about the times of shown targets. The values are worked out by hand.
use Rattle.std.proofs.Common.{◌≡◌, ℕ, ℤ, pos, negsuc, zero, suc, true, false, List, [], ◌∷◌, Option, None, Some, replicate, refl, ap, arith}
use Rattle.redo_facts.specs.declared.statement.Usage.{Usage}
use Rattle.redo_facts.specs.Facts.{RecipeFacts}
use Rattle.redo_timeline.specs.declared.span.Span.{Span}
use Rattle.redo_times.specs.declared.times.Times.{Times}
use Rattle.redo_outline.specs.declared.node.Node.{Node}
use Rattle.redo_summary.specs.declared.rank.Rank.{Rank}
use Rattle.redo_summary.specs.declared.target.Target.{Target}
use Rattle.redo_timeline.specs.Alone.{alone}
use Rattle.redo_summary.specs.Laws.{HasTimeAlone}
use Rattle.redo_summary.specs.Ranks.{alone_rank, alone_ranks, duration, first_ranks, longest_alone, longest_of, most_warned}
use Rattle.redo_summary.specs.Summary.{Facts, bytes_of, is_timed, sum_of, summary_of, total, warnings_of}
use Rattle.redo_summary.specs.Spans.{callers_of, mark_of, marks_of, recipes_of, span_of, targets_of}
use Rattle.redo_summary.specs.Targets.{duration_of, no_times}
use Rattle.redo_summary.specs.Usage.{known_usages, memory_rank, memory_ranks, most_memory, peak_of, processor_ms, processor_of, usage_at, usage_of, used_by}
use Rattle.redo_summary.specs.Window.{cut, known_times, time_over, window_over}

-- ---- values

abbrev pub ran : ℕ → ℕ → Times
ran began ended = record { began = Some began; ended = Some ended; ran_others = false }

abbrev pub ran_some : ℕ → ℕ → Times
ran_some began ended = record { began = Some began; ended = Some ended; ran_others = true }

abbrev pub began_at : ℕ → Times
began_at time = record { began = Some time; ended = None; ran_others = false }

abbrev pub ended_at : ℕ → Times
ended_at time = record { began = None; ended = Some time; ran_others = false }

-- A node, by the number of its log, the position of its parent, its status, its number of bytes and its number of warnings.
abbrev pub node : ℕ → Option ℕ → Option ℤ → ℕ → ℕ → Node
node number parent status bytes warnings = record {
  number = number;
  parent = parent;
  status = status;
  lines = 9;
  bytes = bytes;
  warnings = warnings;
  below = 9;
  children = 9;
  others = true;
  warnings_below = 9;
  fails_below = true;
  silent = 9;
  took = None;
  ended = None;
}

abbrev pub target : ℕ → Option ℕ → Times → Target
target position parent times = record { position = position; parent = parent; failed = false; times = times }

abbrev pub failed_target : ℕ → Option ℕ → Times → Target
failed_target position parent times = record { position = position; parent = parent; failed = true; times = times }

abbrev pub span : ℕ → ℕ → ℕ → Span
span position began ended = record { began = began; position = position; ended = ended; failed = false }

abbrev pub failed : ℕ → ℕ → ℕ → Span
failed position began ended = record { began = began; position = position; ended = ended; failed = true }

abbrev pub rank : ℕ → ℕ → Rank
rank value position = record { value = value; position = position }

abbrev pub usage : ℕ → ℕ → ℕ → Usage
usage user system peak = record { user_ms = user; system_ms = system; peak_kb = peak }

-- What is known of a recipe that used this.
abbrev pub used : ℕ → ℕ → ℕ → RecipeFacts
used user system peak = record { has_log = true; directory = None; commands = []; usage = Some (usage user system peak) }

abbrev pub unknown : RecipeFacts
unknown = record { has_log = true; directory = None; commands = []; usage = None }

-- ---- targets

-- Both times of a target are needed. A target that ended before it began took no time. The last number is past the end.
abbrev few_times : List Times
few_times = ran 1000 5000 ∷ began_at 7 ∷ ended_at 8 ∷ no_times ∷ ran 7 7 ∷ ran 9 5 ∷ []

durations :
    (duration_of few_times 0 ≡ Some 4000) × (duration_of few_times 1 ≡ None) × (duration_of few_times 2 ≡ None)
    × (duration_of few_times 3 ≡ None) × (duration_of few_times 4 ≡ Some 0)
    × (duration_of few_times 5 ≡ Some 0) × (duration_of few_times 6 ≡ None)
durations = (refl, refl, refl, refl, refl, refl, refl)

-- The number of a log says where its times are. A target failed if its status is known and isn't 0.
these_targets :
    targets_of
    (node 1 None None 0 0 ∷ node 0 (Some 0) (Some (pos 0)) 0 0 ∷ node 2 (Some 1) (Some (pos 2)) 0 0
    ∷ node 7 (Some 0) (Some (negsuc 8)) 0 0 ∷ []) (ran 3 4 ∷ ran 1 9 ∷ ended_at 5 ∷ [])
    ≡ target 0 None (ran 1 9) ∷ target 1 (Some 0) (ran 3 4) ∷ failed_target 2 (Some 1) (ended_at 5)
    ∷ failed_target 3 (Some 0) no_times ∷ []
these_targets = refl

these_spans :
    (span_of (target 3 None (ran 5 9)) ≡ Some (span 3 5 9)) × (span_of (failed_target 3 (Some 1) (ran 9 5)) ≡ Some (failed 3 9 5))
    × (span_of (target 3 (Some 1) (began_at 5)) ≡ None)
    × (span_of (target 3 (Some 1) (ended_at 5)) ≡ None) × (span_of (target 3 None no_times) ≡ None)
these_spans = (refl, refl, refl, refl, refl)

-- Only the end of a requested target is no mark.
these_marks :
    (mark_of (target 3 (Some 1) (began_at 5)) ≡ Some (span 3 5 5)) × (mark_of (failed_target 3 (Some 1) (ended_at 6)) ≡ Some (failed 3 6 6))
    × (mark_of (target 0 None (began_at 5)) ≡ Some (span 0 5 5))
    × (mark_of (target 0 None (ended_at 6)) ≡ None) × (mark_of (target 3 (Some 1) (ran 5 6)) ≡ None)
    × (mark_of (target 3 None (ran 5 6)) ≡ None) × (mark_of (target 3 (Some 1) no_times) ≡ None)
    × (mark_of (target 3 None no_times) ≡ None)
these_marks = (refl, refl, refl, refl, refl, refl, refl, refl)

marks_in_order : marks_of (target 0 None (ran 1 2) ∷ target 1 (Some 0) (ended_at 9) ∷ target 2 (Some 0) no_times
    ∷ target 3 (Some 0) (began_at 4) ∷ []) ≡ span 1 9 9 ∷ span 3 4 4 ∷ []
marks_in_order = refl

-- ---- callers

-- The targets that ran others are callers, and all others whose times are known are recipes.
abbrev several : List Target
several =
    target 0 None (ran_some 10 90) ∷ failed_target 1 (Some 0) (ran 20 80) ∷ failed_target 2 (Some 0) (ran_some 30 40)
    ∷ target 3 (Some 1) (ran 13 19) ∷ target 4 (Some 1) (record { began = Some 13; ended = None; ran_others = true })
    ∷ target 5 None (ended_at 14) ∷ []

split_several :
    (callers_of several ≡ span 0 10 90 ∷ failed 2 30 40 ∷ []) × (recipes_of several ≡ failed 1 20 80 ∷ span 3 13 19 ∷ [])
split_several = (refl, refl)

-- ---- the window

windows :
    (window_over [] ≡ None) × (time_over [] ≡ 0) × (window_over (5 ∷ []) ≡ Some (record { began = 5; width = 1 }))
    × (time_over (5 ∷ []) ≡ 0)
    × (window_over (7 ∷ 3 ∷ 5 ∷ []) ≡ Some (record { began = 3; width = 4 })) × (time_over (7 ∷ 3 ∷ 5 ∷ []) ≡ 4)
    × (time_over (3 ∷ 4 ∷ []) ≡ 1)
windows = (refl, refl, refl, refl, refl, refl, refl)

-- 2^44 - 1 milliseconds are not cut, and one more are.
long_windows :
    (window_over (1 ∷ 17592186044416 ∷ []) ≡ Some (record { began = 1; width = 17592186044415 }))
    × (time_over (1 ∷ 17592186044416 ∷ []) ≡ 17592186044415)
    × (window_over (1 ∷ 17592186044417 ∷ []) ≡ Some (record { began = 1; width = 17592186044415 }))
    × (time_over (1 ∷ 17592186044417 ∷ []) ≡ 17592186044415)
long_windows = (refl, refl, refl, refl)

-- Each beginning and each end counts.
all_times : known_times (target 0 None (ended_at 9) ∷ target 1 (Some 0) (ran 3 4) ∷ target 2 (Some 0) no_times
    ∷ target 3 (Some 0) (began_at 5) ∷ []) ≡ 9 ∷ 3 ∷ 4 ∷ 5 ∷ []
all_times = refl

-- ---- tables

spans_are_cut : (duration (span 0 3 9) ≡ 6) × (duration (span 0 9 3) ≡ 0) × (duration (span 0 0 17592186044415) ≡ 17592186044415)
    × (duration (span 0 0 17592186044416) ≡ 17592186044415)
spans_are_cut = (refl, refl, refl, refl)

-- Larger values are first, and of equal values lower positions.
ranks_in_order :
    (first_ranks (rank 5 0 ∷ rank 9 1 ∷ rank 7 2 ∷ []) ≡ rank 9 1 ∷ rank 7 2 ∷ rank 5 0 ∷ [])
    × (first_ranks (rank 5 0 ∷ rank 5 1 ∷ rank 9 2 ∷ rank 5 3 ∷ []) ≡ rank 9 2 ∷ rank 5 0 ∷ rank 5 1 ∷ rank 5 3 ∷ [])
    × (first_ranks (rank 5 3 ∷ rank 5 1 ∷ []) ≡ rank 5 1 ∷ rank 5 3 ∷ []) × (first_ranks [] ≡ [])
ranks_in_order = (refl, refl, refl, refl)

-- The ten first of twelve.
ten_ranks :
    first_ranks (rank 1 0 ∷ rank 2 1 ∷ rank 3 2 ∷ rank 4 3 ∷ rank 5 4 ∷ rank 6 5 ∷ rank 7 6 ∷ rank 8 7 ∷ rank 9 8 ∷ rank 10 9 ∷ rank 11 10
    ∷ rank 12 11 ∷ [])
    ≡ rank 12 11 ∷ rank 11 10 ∷ rank 10 9 ∷ rank 9 8 ∷ rank 8 7 ∷ rank 7 6 ∷ rank 6 5 ∷ rank 5 4 ∷ rank 4 3 ∷ rank 3 2 ∷ []
ten_ranks = refl

longest : longest_of (span 2 0 5 ∷ failed 4 3 9 ∷ span 6 9 9 ∷ []) ≡ rank 6 4 ∷ rank 5 2 ∷ rank 0 6 ∷ []
longest = refl

-- The first recipe ran alone from 0 to 3 and from 9 to 20, and the last one from 20 to 25. The second one never did.
abbrev overlapping : List Span
overlapping = span 1 0 20 ∷ span 2 3 9 ∷ span 4 18 18 ∷ failed 6 20 25 ∷ []

alone_rows :
    (alone_rank overlapping (span 1 0 20) ≡ rank 14 1) × (alone_rank overlapping (span 2 3 9) ≡ rank 0 2)
    × (alone_ranks overlapping ≡ rank 14 1 ∷ rank 5 6 ∷ [])
    × (longest_alone (failed 6 20 25 ∷ span 1 0 20 ∷ span 2 3 9 ∷ []) ≡ rank 14 1 ∷ rank 5 6 ∷ []) × (longest_alone [] ≡ [])
alone_rows = (refl, refl, refl, refl, refl)

-- Targets without warnings are not in the table.
warned : most_warned (node 5 None None 0 0 ∷ node 3 (Some 0) None 0 2 ∷ node 4 (Some 0) None 0 0 ∷ node 9 (Some 0) None 0 7
    ∷ node 8 (Some 0) None 0 1 ∷ []) ≡ rank 7 3 ∷ rank 2 1 ∷ rank 1 4 ∷ []
warned = refl

-- ---- sums

totals :
    (total (λ (n : ℕ). n) (3 ∷ 4 ∷ []) ≡ 7) × (total (λ (n : ℕ). n) (18446744073709551614 ∷ 1 ∷ []) ≡ 18446744073709551615)
    × (total (λ (n : ℕ). n) (18446744073709551615 ∷ 1 ∷ []) ≡ 18446744073709551615)
    × (total (λ (n : ℕ). n) [] ≡ 0)
totals = (refl, refl, refl, refl)

sums :
    (sum_of (span 0 1 9 ∷ span 1 5 7 ∷ []) ≡ 10) × (warnings_of (node 0 None None 5 2 ∷ node 1 (Some 0) None 7 3 ∷ []) ≡ 5)
    × (bytes_of (node 0 None None 5 2 ∷ node 1 (Some 0) None 7 3 ∷ []) ≡ 12)
sums = (refl, refl, refl)

-- ---- the whole

-- A requested target ran for 90 milliseconds. It ran two others, which failed, one after another. Only the end of the last target is
-- known.
abbrev pub small_build : Facts
small_build = record {
  window = Some (record { began = 1010; width = 90 });
  took = 90;
  callers = span 0 1010 1100 ∷ [];
  recipes = failed 1 1020 1050 ∷ failed 2 1050 1090 ∷ [];
  marks = span 3 1095 1095 ∷ [];
  sum = 70;
  most = 1;
  warnings = 6;
  bytes = 100;
  longest = rank 40 2 ∷ rank 30 1 ∷ [];
  alone = rank 40 2 ∷ rank 30 1 ∷ [];
  warned = rank 4 2 ∷ rank 2 3 ∷ [];
}

whole :
    (summary_of (node 3 None (Some (pos 1)) 10 0 ∷ []) [] ≡ record {
      window = None;
      took = 0;
      callers = [];
      recipes = [];
      marks = [];
      sum = 0;
      most = 0;
      warnings = 0;
      bytes = 10;
      longest = [];
      alone = [];
      warned = [];
    })
    × (summary_of (node 3 None (Some (pos 0)) 10 0 ∷ node 0 (Some 0) (Some (pos 1)) 20 0 ∷ node 2 (Some 0) (Some (pos 2)) 30 4
    ∷ node 1 (Some 0) None 40 2 ∷ []) (ran 1020 1050 ∷ ended_at 1095 ∷ ran 1050 1090 ∷ ran_some 1010 1100 ∷ ran 1 9999 ∷ []) ≡ small_build)
whole = (refl, refl)

-- No target. Then a requested target that failed: it ran two others at once, and one of these failed. Only the end of a third one is
-- known, and no time of a fourth one.
other_builds :
    (summary_of [] [] ≡ record {
      window = None;
      took = 0;
      callers = [];
      recipes = [];
      marks = [];
      sum = 0;
      most = 0;
      warnings = 0;
      bytes = 0;
      longest = [];
      alone = [];
      warned = [];
    })
    × (summary_of (node 3 None (Some (pos 1)) 10 0 ∷ node 0 (Some 0) (Some (pos 0)) 20 0 ∷ node 2 (Some 0) (Some (pos 2)) 30 4
    ∷ node 1 (Some 0) None 40 2 ∷ node 9 (Some 2) None 50 0 ∷ [])
    (ran 1020 1070 ∷ ended_at 1095 ∷ ran 1050 1090 ∷ ran_some 1010 1100 ∷ ran 1 9999 ∷ []) ≡ record {
      window = Some (record { began = 1010; width = 90 });
      took = 90;
      callers = failed 0 1010 1100 ∷ [];
      recipes = span 1 1020 1070 ∷ failed 2 1050 1090 ∷ [];
      marks = span 3 1095 1095 ∷ [];
      sum = 90;
      most = 2;
      warnings = 6;
      bytes = 150;
      longest = rank 50 1 ∷ rank 40 2 ∷ [];
      alone = rank 30 1 ∷ rank 20 2 ∷ [];
      warned = rank 4 2 ∷ rank 2 3 ∷ [];
    })
other_builds = (refl, refl)

-- A requested target ran two others at once: recipes count in `sum` and `most`, and their caller doesn't.
overlap :
    summary_of
    (node 0 None (Some (pos 0)) 10 0 ∷ node 1 (Some 0) (Some (pos 0)) 20 0 ∷ node 2 (Some 0) (Some (pos 0)) 30 0 ∷ [])
    (ran_some 1000 1100 ∷ ran 1010 1050 ∷ ran 1040 1090 ∷ []) ≡ record {
      window = Some (record { began = 1000; width = 100 });
      took = 100;
      callers = span 0 1000 1100 ∷ [];
      recipes = span 1 1010 1050 ∷ span 2 1040 1090 ∷ [];
      marks = [];
      sum = 90;
      most = 2;
      warnings = 0;
      bytes = 60;
      longest = rank 50 2 ∷ rank 40 1 ∷ [];
      alone = rank 40 2 ∷ rank 30 1 ∷ [];
      warned = [];
    }
overlap = refl

abbrev counted : ℕ → ℕ → ℕ → Facts
counted callers recipes marks = record small_build
    { callers = replicate callers (span 0 1 9); recipes = replicate recipes (span 0 1 9); marks = replicate marks (span 0 1 1) }

-- One of ten may be a mark. There must be a span.
timed :
    (is_timed (counted 1 0 0) ≡ true) × (is_timed (counted 0 1 0) ≡ true) × (is_timed (counted 0 0 0) ≡ false)
    × (is_timed (counted 0 0 1) ≡ false) × (is_timed (counted 4 5 1) ≡ true)
    × (is_timed (counted 4 4 1) ≡ false) × (is_timed (counted 3 15 2) ≡ true) × (is_timed (counted 3 14 2) ≡ false)
timed = (refl, refl, refl, refl, refl, refl, refl, refl)

-- ---- what recipes used

-- By the numbers of their logs: the usage of the second one is unknown, and the third one had no memory of its own.
abbrev some_facts : List RecipeFacts
some_facts = used 30 5 2000 ∷ unknown ∷ used 7 1 0 ∷ used 100 50 9000 ∷ used 4 0 9000 ∷ []

-- The first node ran the others. The number of the last log is past the end of the facts.
abbrev some_nodes : List Node
some_nodes =
    node 3 None None 0 0 ∷ node 0 (Some 0) None 0 0 ∷ node 1 (Some 0) None 0 0 ∷ node 2 (Some 0) None 0 0 ∷ node 4 (Some 0) None 0 0
    ∷ node 5 (Some 0) None 0 0 ∷ []

-- All recipes but the first one, which ran them.
abbrev some_recipes : List Span
some_recipes = span 1 10 20 ∷ span 2 10 20 ∷ span 3 10 20 ∷ span 4 10 20 ∷ span 5 10 20 ∷ []

usages_by_number : (usage_at some_facts 0 ≡ Some (usage 30 5 2000)) × (usage_at some_facts 1 ≡ None)
    × (usage_at some_facts 3 ≡ Some (usage 100 50 9000)) × (usage_at some_facts 5 ≡ None)
usages_by_number = (refl, refl, refl, refl)

usages_by_position :
    (used_by some_nodes some_facts (span 0 1 9) ≡ Some (usage 100 50 9000))
    × (used_by some_nodes some_facts (span 1 1 9) ≡ Some (usage 30 5 2000))
    × (used_by some_nodes some_facts (span 2 1 9) ≡ None) × (used_by some_nodes some_facts (span 5 1 9) ≡ None)
    × (used_by some_nodes some_facts (span 6 1 9) ≡ None)
usages_by_position = (refl, refl, refl, refl, refl)

usages_of_recipes : known_usages some_nodes some_facts some_recipes ≡ usage 30 5 2000 ∷ usage 7 1 0 ∷ usage 4 0 9000 ∷ []
usages_of_recipes = refl

-- User and system time. A recipe that took no time is known. 2^64 - 1 milliseconds aren't cut, and one more are.
processor_times :
    (processor_ms (usage 30 5 2000) ≡ 35) × (processor_of [] ≡ None) × (processor_of (usage 0 0 9 ∷ []) ≡ Some 0)
    × (processor_of (usage 30 5 2000 ∷ usage 7 1 0 ∷ usage 4 0 9000 ∷ []) ≡ Some 47)
    × (processor_of (usage 18446744073709551614 1 0 ∷ []) ≡ Some 18446744073709551615)
    × (processor_of (usage 18446744073709551614 1 0 ∷ usage 1 0 0 ∷ []) ≡ Some 18446744073709551615)
processor_times = (refl, refl, refl, refl, refl, refl)

peaks : (peak_of None ≡ 0) × (peak_of (Some (usage 30 5 2000)) ≡ 2000) × (peak_of (Some (usage 1 2 999999999999999)) ≡ 999999999999999)
peaks = (refl, refl, refl)

memory_rows : (memory_rank some_nodes some_facts (span 1 1 9) ≡ rank 2000 1) × (memory_rank some_nodes some_facts (span 2 1 9) ≡ rank 0 2)
memory_rows = (refl, refl)

-- Recipes without memory, and unknown ones, are not in the table. The most memory is first.
memory_tables :
    (memory_ranks some_nodes some_facts some_recipes ≡ rank 2000 1 ∷ rank 9000 4 ∷ [])
    × (most_memory some_nodes some_facts some_recipes ≡ rank 9000 4 ∷ rank 2000 1 ∷ [])
    × (most_memory some_nodes some_facts (span 0 1 9 ∷ span 1 1 9 ∷ span 4 1 9 ∷ []) ≡ rank 9000 0 ∷ rank 9000 4 ∷ rank 2000 1 ∷ [])
memory_tables = (refl, refl, refl)

usages :
    (usage_of some_nodes some_facts some_recipes ≡ record { processor = Some 47; memory = rank 9000 4 ∷ rank 2000 1 ∷ [] })
    × (usage_of some_nodes [] some_recipes ≡ record { processor = None; memory = [] })
    × (usage_of some_nodes some_facts (span 3 10 20 ∷ []) ≡ record { processor = Some 8; memory = [] })
    × (usage_of some_nodes some_facts [] ≡ record { processor = None; memory = [] })
usages = (refl, refl, refl, refl)

-- The first recipe ran for 20 ms, and alone for 14 of them.
pub rejected_time : HasTimeAlone (span 0 0 20 ∷ span 1 3 9 ∷ []) (rank 20 0) → ⊥
rejected_time (one, (zero, below, is), place, value) =
    let alone_for : 14 ≡ cut (alone (span 0 0 20 ∷ span 1 3 9 ∷ []) one) =
    ap (λ (s : Span). cut (alone (span 0 0 20 ∷ span 1 3 9 ∷ []) s)) is in
    omega (arith, alone_for, value)
rejected_time (one, (suc zero, below, is), place, value) =
    let other : 1 ≡ one.position = ap (λ (s : Span). s.position) is in omega (arith, other, place)
rejected_time (one, (suc (suc k), below, is), place, value) = omega (arith, below)
