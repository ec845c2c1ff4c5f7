-- Rows of long builds, of single targets, and of large sums.
use Rattle.std.proofs.Common.{◌≡◌, ℕ, true, false, List, [], ◌∷◌, ◌++◌, Option, None, Some, pos, negsuc, length, map, replicate, refl}
use Rattle.redo_facts.specs.Facts.{RecipeFacts, nothing}
use Rattle.redo_timeline.specs.declared.span.Span.{Span}
use Rattle.redo_timeline.specs.declared.span.Window.{Window}
use Rattle.redo_summary.specs.Spans.{callers_of, only_time, targets_of}
use Rattle.redo_outline.proofs.Nodes.{no_node}
use Rattle.redo_outline.specs.declared.node.Node.{Node}
use Rattle.redo_times.specs.declared.times.Times.{Times}
use Rattle.redo_summary.specs.Ranks.{duration, first_ranks, longest_of, most_warned}
use Rattle.redo_summary.specs.Summary.{bytes_of, facts_of, is_timed, total, warnings_of}
use Rattle.redo_summary.specs.Targets.{no_times, times_of}
use Rattle.redo_summary.specs.Usage.{known_usages, most_memory, processor_of, usage_at}
use Rattle.redo_summary.specs.Window.{known_times, time_over, window_over}
use Rattle.redo_summary.specs.declared.rank.Rank.{Rank}
use Rattle.redo_summary.specs.declared.target.Target.{Target}

abbrev span : ℕ → ℕ → ℕ → Span
span position began ended = record { began = began; position = position; ended = ended; failed = false }

-- A week, a thousand days, the longest time of 2001 to 2286, and times that are too long.
long_times :
    (time_over (1600000000000 ∷ 1600604800000 ∷ []) ≡ 604800000) × (time_over (1600000000000 ∷ 1686400000000 ∷ []) ≡ 86400000000)
    × (time_over (9999999999999 ∷ 1000000000000 ∷ []) ≡ 8999999999999) × (time_over (0 ∷ 0xFFFFFFFFFFF ∷ []) ≡ 0xFFFFFFFFFFF)
    × (time_over (0 ∷ 0x100000000000 ∷ []) ≡ 0xFFFFFFFFFFF)
    × (map duration (span 0 0 604800000 ∷ span 1 1000000000000 9999999999999 ∷ []) ≡ 604800000 ∷ 8999999999999 ∷ [])
long_times = (refl, refl, refl, refl, refl, refl)

abbrev window : ℕ → ℕ → Option Window
window began width = Some (record { began = began; width = width })

-- A window is as wide as its times, but at least one millisecond.
windows :
    (window_over (5 ∷ []) ≡ window 5 1) × (window_over (6 ∷ 5 ∷ []) ≡ window 5 1) × (window_over (5 ∷ 7 ∷ []) ≡ window 5 2)
    × (window_over (1600000000000 ∷ 1600604800000 ∷ []) ≡ window 1600000000000 604800000)
windows = (refl, refl, refl, refl)

sums : map (λ n. total (λ (m : ℕ). m) (n ∷ n ∷ [])) (5 ∷ 0x800000000000 ∷ 0x7FFFFFFFFFFFFFFF ∷ 0x8000000000000000 ∷ [])
    ≡ 10 ∷ 0x1000000000000 ∷ 0xFFFFFFFFFFFFFFFE ∷ 0xFFFFFFFFFFFFFFFF ∷ []
sums = refl

-- ---- single targets

abbrev target : ℕ → Option ℕ → Option ℕ → Option ℕ → Target
target position parent began ended = record {
  position = position;
  parent = parent;
  failed = false;
  times = record { began = began; ended = ended; ran_others = false };
}

-- The same target, which ran others.
abbrev caller : Target → Target
caller one = record one { times = record { began = one.times.began; ended = one.times.ended; ran_others = true } }

abbrev all : Target
all = caller (target 0 None (Some 100) (Some 900))

abbrev lib : Target
lib = caller (target 1 (Some 0) (Some 200) (Some 800))

abbrev object : Target
object = target 2 (Some 1) (Some 300) (Some 400)

-- A target at the first position may run others, and so may one that it ran.
callers : callers_of (all ∷ lib ∷ object ∷ []) ≡ span 0 100 900 ∷ span 1 200 800 ∷ []
callers = refl

-- One recipe is enough for a timeline, and one caller with one recipe. Nothing, or a mark alone, isn't.
timelines : map (λ targets. is_timed (facts_of [] targets))
    ([] ∷ (target 0 None (Some 1) (Some 2) ∷ []) ∷ (all ∷ lib ∷ []) ∷ (target 0 None (Some 1) None ∷ []) ∷ [])
    ≡ false ∷ true ∷ true ∷ false ∷ []
timelines = refl

-- A requested target has a mark if only its start is known, and none if only its end is known.
marks : (only_time None (Some 5) None ≡ Some 5) × (only_time None None (Some 5) ≡ None) × (only_time (Some 0) None (Some 5) ≡ Some 5)
    × (only_time (Some 0) (Some 5) None ≡ Some 5) × (only_time (Some 0) (Some 5) (Some 6) ≡ None)
marks = (refl, refl, refl, refl, refl)

-- Eleven recipes. The shortest one is left out. The position of each row is the recipe's.
abbrev rank : ℕ → ℕ → Rank
rank value position = record { value = value; position = position }

ranks : longest_of (span 0 0 11 ∷ span 1 0 10 ∷ span 2 0 9 ∷ span 3 0 8 ∷ span 4 0 7 ∷ span 5 0 1 ∷ span 6 0 6 ∷ span 7 0 5 ∷ span 8 0 4
    ∷ span 9 0 3 ∷ span 10 0 604800000 ∷ [])
    ≡ rank 604800000 10 ∷ rank 11 0 ∷ rank 10 1 ∷ rank 9 2 ∷ rank 8 3 ∷ rank 7 4 ∷ rank 6 6 ∷ rank 5 7 ∷ rank 4 8 ∷ rank 3 9 ∷ []
ranks = refl

-- Durations of more than 2^32 milliseconds are in order too.
long_ranks : first_ranks (rank 4294967296 0 ∷ rank 4294967297 1 ∷ rank 8589934592 2 ∷ [])
    ≡ rank 8589934592 2 ∷ rank 4294967297 1 ∷ rank 4294967296 0 ∷ []
long_ranks = refl

-- ---- many targets

-- A target that was made, with this number of bytes and of warnings.
abbrev made : ℕ → ℕ → Node
made bytes warnings = record no_node { status = Some (pos 0); bytes = bytes; warnings = warnings }

many_warnings :
    (most_warned (made 0 1000 ∷ made 0 12345 ∷ made 0 0 ∷ []) ≡ rank 12345 1 ∷ rank 1000 0 ∷ [])
    × (warnings_of (made 0 1000 ∷ made 0 12345 ∷ []) ≡ 13345) × (bytes_of (made 4294967296 0 ∷ made 4294967297 0 ∷ []) ≡ 8589934593)
    × (warnings_of (replicate 1500 (made 7 2)) ≡ 3000) × (bytes_of (replicate 1500 (made 7 2)) ≡ 10500)
many_warnings = (refl, refl, refl, refl, refl)

-- 150 recipes at once.
abbrev at_once : List Target
at_once = replicate 150 (target 0 None (Some 100) (Some 120))

many_recipes : ((facts_of [] at_once).sum ≡ 3000) × ((facts_of [] at_once).most ≡ 150)
many_recipes = (refl, refl)

-- A tenth of all spans and marks may be marks, however many these are.
abbrev with_marks : ℕ → ℕ → List Target
with_marks recipes marks = replicate recipes (target 0 None (Some 100) (Some 120)) ++ replicate marks (target 1 (Some 0) (Some 100) None)

many_marks : map (λ targets. is_timed (facts_of [] targets))
    (with_marks 27 3 ∷ with_marks 26 3 ∷ with_marks 108 12 ∷ with_marks 107 12 ∷ []) ≡ true ∷ false ∷ true ∷ false ∷ []
many_marks = refl

-- The log with the number 5000 has its own times.
abbrev ran : ℕ → ℕ → Times
ran began ended = record { began = Some began; ended = Some ended; ran_others = false }

late_log : times_of (replicate 5000 no_times ++ ran 3 4 ∷ ran 5 6 ∷ []) 5000 ≡ ran 3 4
late_log = refl

-- A requested target may have failed, and a signal may have killed one.
abbrev failed_in : Option ℕ → Target
failed_in parent = record { position = 0; parent = parent; failed = true; times = no_times }

failures : map (λ node. targets_of (node ∷ []) [])
    (record no_node { status = Some (pos 1) } ∷ record no_node { status = Some (negsuc 8) }
    ∷ record no_node { parent = Some 7; status = Some (pos 130) } ∷ [])
    ≡ (failed_in None ∷ []) ∷ (failed_in None ∷ []) ∷ (failed_in (Some 7) ∷ []) ∷ []
failures = refl

many_times : length (known_times (replicate 1500 (target 0 None (Some 100) (Some 120)))) ≡ 3000
many_times = refl

-- ---- what many recipes used

abbrev used : ℕ → ℕ → ℕ → RecipeFacts
used user system peak = record nothing { usage = Some (record { user_ms = user; system_ms = system; peak_kb = peak }) }

-- The log with the number 5000 has its own usage.
late_usage : usage_at (replicate 5000 nothing ++ used 999999999999999 0 9 ∷ used 1 2 3 ∷ []) 5000
    ≡ Some (record { user_ms = 999999999999999; system_ms = 0; peak_kb = 9 })
late_usage = refl

abbrev one_node : List Node
one_node = record no_node { number = 0 } ∷ []

many_usages :
    (length (known_usages one_node (used 3 4 5 ∷ []) (replicate 1500 (span 0 0 9))) ≡ 1500)
    × (processor_of (replicate 150 (record { user_ms = 3; system_ms = 4; peak_kb = 5 })) ≡ Some 1050)
    × (processor_of (replicate 10 (record { user_ms = 999999999999999; system_ms = 999999999999999; peak_kb = 5 }))
    ≡ Some 19999999999999980)
many_usages = (refl, refl, refl)

-- Of eleven recipes, the one with the least memory is left out. One of them had more than 2^32 kilobytes.
abbrev eleven : List ℕ
eleven = 11 ∷ 10 ∷ 9 ∷ 8 ∷ 7 ∷ 1 ∷ 6 ∷ 5 ∷ 4 ∷ 3 ∷ 4294967297 ∷ []

abbrev eleven_nodes : List Node
eleven_nodes = map (λ number. record no_node { number = number }) (0 ∷ 1 ∷ 2 ∷ 3 ∷ 4 ∷ 5 ∷ 6 ∷ 7 ∷ 8 ∷ 9 ∷ 10 ∷ [])

memory_ranks_are :
    most_memory eleven_nodes (map (used 1 2) eleven) (map (λ position. span position 0 9) (0 ∷ 1 ∷ 2 ∷ 3 ∷ 4 ∷ 5 ∷ 6 ∷ 7 ∷ 8 ∷ 9 ∷ 10 ∷ []))
    ≡ rank 4294967297 10 ∷ rank 11 0 ∷ rank 10 1 ∷ rank 9 2 ∷ rank 8 3 ∷ rank 7 4 ∷ rank 6 6 ∷ rank 5 7 ∷ rank 4 8 ∷ rank 3 9 ∷ []
memory_ranks_are = refl
