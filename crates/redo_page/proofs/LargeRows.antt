-- Rows of many targets, of long names, titles and lines, and of large numbers.
use Rattle.std.proofs.Common.{◌≡◌, ℕ, true, false, List, [], ◌∷◌, ◌++◌, None, Some, pos, negsuc, length, map, replicate, refl}
use Rattle.std.specs.Fmt.{digits}
use Rattle.std.specs.List.{filter, flat_map, range_with_len}
use Rattle.std.specs.Prelude.{bytes_eq, codes, not}
use Rattle.redo_html.specs.Cut.{begins_at}
use Rattle.redo_html.specs.declared.markup.Markup.TheVariants as markup
use Rattle.redo_html.specs.Parts.{Part}
use Rattle.redo_html.specs.Parts.Part.{MarkupPart, LogPart, TextPart, NumberPart}
use Rattle.redo_html.specs.Shown.{is_unprintable, number_text}
use Rattle.redo_html.specs.Style.{plain_style}
use Rattle.redo_html.specs.Symbols.{is_sequence, code_point_len, first_code_point, first_symbol, sequence_len, symbol_len, symbols_after}
use Rattle.redo_diagnostics.specs.Plain.{plain_after}
use Rattle.redo_line.specs.declared.entry.Entry.TheVariants.{Text}
use Rattle.redo_logs.specs.declared.log_state.LogState.TheVariants.{Ended}
use Rattle.redo_logs.specs.Logs.{Log}
use Rattle.redo_options.specs.declared.options.Options.{Options}
use Rattle.redo_outline.specs.declared.node.Node.{Node}
use Rattle.redo_page.specs.declared.level.Level.{Level}
use Rattle.redo_page.specs.declared.scope.Rows.TheVariants.{Warned}
use Rattle.redo_page.specs.declared.template.Around.TheVariants.{Each, EachTarget}
use Rattle.redo_page.specs.declared.scope.Count.{Count}
use Rattle.redo_page.specs.declared.scope.Listed.{Listed}
use Rattle.redo_page.specs.declared.scope.Count.TheVariants.{All, Unlisted, Targets, Roots, Dependents, Warnings, Most, Unknown, Known, Value}
use Rattle.redo_page.specs.declared.scope.Listed.TheVariants as listed
use Rattle.redo_page.specs.declared.scope.Listed.TheVariants.{Articles, Others, Unclosed}
use Rattle.redo_page.specs.declared.scope.Measure.TheVariants.{Took, Sum, Processor, Duration, Memory}
use Rattle.redo_page.specs.declared.scope.Test.TheVariants.{HasDependents, HasKnown, HasMarks, HasCallers}
use Rattle.redo_page.specs.declared.verdict.Verdict.TheVariants.{Failed}
use Rattle.redo_page.specs.Command.{command, is_safe}
use Rattle.redo_page.specs.Errors.{begins_with, begins_with_error, cause_of, is_blank, is_error}
use Rattle.redo_page.specs.Excerpt.{cut_to, in_tree_parts, left_out_parts, with_left_out}
use Rattle.redo_page.specs.Excerpt.Stretch.{LeftOut}
use Rattle.redo_page.specs.Article.{article_took, name_of, nothing_parts, output_parts}
use Rattle.redo_page.specs.Failed.{is_unclosed}
use Rattle.redo_page.specs.Article.{whole_parts}
use Rattle.redo_page.specs.NewSection.{no_news}
use Rattle.redo_page.specs.Page.{build_view}
use Rattle.redo_page.specs.Scope.{View, count_of, holds, measure_words}
use Rattle.redo_page.specs.Targets.{below_parts, exit_parts, lines_parts, plural, took_parts, warnings_parts}
use Rattle.redo_page.specs.Template.{around_parts}
use Rattle.redo_page.specs.Tree.{Build, are_group, depth_parts, group_start_of, is_among, no_node, node_at, note_parts, note_prefix}
use Rattle.redo_page.specs.Tree.{opening_position, position_of}
use Rattle.redo_page.specs.Verdict.{share_text, titled, verdict_text}
use Rattle.redo_summary.specs.Summary.{Facts}
use Rattle.redo_summary.specs.declared.rank.Rank.{Rank}
use Rattle.redo_timeline.specs.declared.span.Span.{Span}
use Rattle.redo_view.specs.declared.event.Opening.TheVariants.{OpenedBefore, OpensHere}
use Rattle.redo_units.specs.Durations.{duration_words}
use Rattle.redo_units.specs.Sizes.{size_words}
use Rattle.redo_units.specs.Words.{decimal_text, words_text}

-- ---- the heading

abbrev failed : Node
failed = record no_node { status = Some (pos 1) }

headings :
    (share_text 12345 67890 (codes " x") (codes " y") ≡ codes "12345 of 67890 y")
    × (share_text 1 1001 (codes " x") (codes " y") ≡ codes "1 of 1001 y")
    × (verdict_text Failed (replicate 150 failed) ≡ codes "150 of 150 targets failed")
unfolding number_text digits
headings = (refl, refl, refl)

-- A title of 300 bytes is whole, and ` · ` has four bytes.
long_title : length (titled (replicate 300 97) (codes "h")) ≡ 305
long_title = refl

-- ---- lines with errors

-- None of these words counts, though such lines often have them.
other_words :
    map begins_with_error
    (codes "denied" ∷ codes "abort" ∷ codes "aborted" ∷ codes "killed" ∷ codes "exception" ∷ codes "panic" ∷ codes "undefined symbol"
    ∷ codes "unresolved" ∷ codes "missing" ∷ codes "invalid" ∷ codes "timeout" ∷ codes "err" ∷ codes "could not" ∷ [])
    ≡ replicate 13 false
unfolding begins_with
other_words = refl

-- A word at the end of a line of 6,007 bytes.
long_line : is_error (replicate 6000 46 ++ codes " error:") ≡ true
unfolding begins_with sequence_len
long_line = refl

-- Each byte above 32 is visible, including 127 and the bytes above it.
visible : filter (λ byte. not (is_blank (byte ∷ []))) (range_with_len 0 256) ≡ range_with_len 33 223
unfolding is_sequence plain_after sequence_len
visible = refl

-- The first line that reports an error is the cause, wherever it is.
late_error : cause_of (replicate 300 (codes "a") ++ codes "error 1" ∷ codes "error 2" ∷ codes "b" ∷ []) ≡ Some (codes "error 1")
unfolding begins_with is_sequence plain_after sequence_len
late_error = refl

-- ---- cut lines

long_cut : length (cut_to 10 (replicate 100001 120)) ≡ 10
unfolding cut_to begins_at symbol_len is_sequence sequence_len code_point_len
long_cut = refl

-- Tens of thousands of lines that are left out.
many_left_out : map (λ count. with_left_out (LeftOut count ∷ [])) (9999 ∷ 65535 ∷ []) ≡ (LeftOut 10000 ∷ []) ∷ (LeftOut 65536 ∷ []) ∷ []
many_left_out = refl

-- ---- lists

-- An unfinished target may have printed much.
unclosed : is_unclosed (record no_node { parent = Some 0; lines = 100000; bytes = 10000000 }) ≡ true
unclosed = refl

abbrev long_log : Log
long_log = record { target = replicate 5000 97; entries = []; state = Ended }

long_name : length (name_of (long_log ∷ []) (record no_node { number = 0 })) ≡ 5000
long_name = refl

abbrev numbers_of : Part → List ℕ
numbers_of (NumberPart number) = number ∷ []
numbers_of part = []

-- ---- the command

abbrev options : Options
options = record { recursive = true; unchanged = false; details = true; debug_locks = false; debug_pids = false }

-- `redo-log -r --dir=d` has 19 bytes, and ` a` has two. After `--dir=`, a directory may begin with `-`.
commands :
    (length (command (codes "d") options (replicate 150 (codes "a"))) ≡ 319)
    × (command (codes "-d") options (codes "a" ∷ []) ≡ codes "redo-log -r --dir=-d a")
unfolding is_safe symbols_after first_symbol symbol_len is_sequence first_code_point code_point_len is_unprintable
commands = (refl, refl)

-- ---- numbers

abbrev span : Span
span = record { began = 0; position = 0; ended = 9; failed = false }

-- The facts about times, by the numbers of callers and of marks.
abbrev facts : ℕ → ℕ → Facts
facts callers marks = record {
  window = None;
  took = 604800000;
  callers = replicate callers span;
  recipes = [];
  marks = replicate marks span;
  sum = 90061000;
  most = 300;
  warnings = 123456;
  bytes = 0;
  longest = [];
  alone = [];
  warned = [];
}

abbrev view : Facts → View
view facts = record (build_view [] [] [] [] [] (replicate 12345 no_node) facts no_news) {
  roots = replicate 12346 0;
  dependents = replicate 12347 0;
  unclosed = replicate 12348 0;
  rank = record { value = 86400000; position = 0 };
}

large_counts :
    bytes_eq (map (count_of (view (facts 1000 2000))) (Targets ∷ Roots ∷ Dependents ∷ Warnings ∷ Most ∷ Unknown ∷ Known ∷ Value ∷ []))
    (12345 ∷ 12346 ∷ 12347 ∷ 123456 ∷ 300 ∷ 2000 ∷ 3000 ∷ 86400000 ∷ [])
    ≡ true
large_counts = refl

abbrev each_list : (Listed → Count) → List ℕ
each_list count = map (λ these. count_of (view (facts 0 0)) (count these)) (Articles ∷ Others ∷ listed.Dependents ∷ Unclosed ∷ [])

-- 200 targets of each list are named.
large_lists :
    (bytes_eq (each_list (λ these. All these)) (10 ∷ 12336 ∷ 12347 ∷ 12348 ∷ []) ≡ true)
    × (bytes_eq (each_list (λ these. Unlisted these)) (0 ∷ 12136 ∷ 12147 ∷ 12148 ∷ []) ≡ true)
large_lists = (refl, refl)

-- 2^54 - 1 kilobytes of 1,024 bytes have less than 2^64 bytes. More are cut.
memory_sizes :
    map (λ value. words_text (measure_words (record (view (facts 0 0)) { rank = record { value = value; position = 0 } }) Memory))
    (1 ∷ 9766 ∷ 999999999999999 ∷ 18014398509481983 ∷ 20000000000000000 ∷ [])
    ≡ codes "1.0 kB" ∷ codes "10.0 MB" ∷ codes "1023999999.9 GB" ∷ codes "18446744073.7 GB" ∷ codes "18446744073.7 GB" ∷ []
unfolding size_words decimal_text digits
memory_sizes = refl

-- A week of processor time, and none.
processor_times :
    map
    (λ time. words_text (measure_words (record (view (facts 0 0)) { usage = record { processor = time; memory = [] } }) Processor))
    (Some 604800000 ∷ Some 0 ∷ [])
    ≡ codes "168 h 00 min" ∷ codes "0.00 s" ∷ []
unfolding duration_words decimal_text digits
processor_times = refl

-- A week, a day and an hour, and a day.
long_durations : map (λ measure. words_text (measure_words (view (facts 0 0)) measure)) (Took ∷ Sum ∷ Duration ∷ [])
    ≡ codes "168 h 00 min" ∷ codes "25 h 01 min" ∷ codes "24 h 00 min" ∷ []
unfolding duration_words decimal_text digits
long_durations = refl

-- One is enough.
single :
    (holds (record (view (facts 0 0)) { dependents = 0 ∷ [] }) HasDependents ≡ true) × (holds (view (facts 0 1)) HasKnown ≡ true)
    × (holds (view (facts 1 0)) HasKnown ≡ true) × (holds (view (facts 0 1)) HasMarks ≡ true) × (holds (view (facts 1 0)) HasCallers ≡ true)
single = (refl, refl, refl, refl, refl)

-- ---- beside names

-- Only 1 is singular.
plurals : map (λ number. plural number (codes "a") (codes "b")) (1 ∷ 0 ∷ 2 ∷ 10 ∷ 11 ∷ 21 ∷ 101 ∷ 1001 ∷ 18446744073709551615 ∷ [])
    ≡ codes "a" ∷ replicate 8 (codes "b")
plurals = refl

abbrev numbers : List Part → List ℕ
numbers parts = flat_map numbers_of parts

large_facts :
    (numbers (lines_parts 12345) ≡ 12345 ∷ []) × (numbers (warnings_parts 12345 [] []) ≡ 12345 ∷ [])
    × (numbers (below_parts 12345) ≡ 12345 ∷ []) × (numbers (took_parts (Some 604800000)) ≡ 168 ∷ 0 ∷ 0 ∷ [])
    × (numbers (took_parts (Some 0)) ≡ 0 ∷ 0 ∷ 0 ∷ [])
unfolding duration_words
large_facts = (refl, refl, refl, refl, refl)

abbrev texts_of : Part → List (List ℕ)
texts_of (TextPart text) = text ∷ []
texts_of part = []

statuses :
    (flat_map numbers_of (exit_parts (pos 256)) ≡ 256 ∷ []) × (flat_map numbers_of (exit_parts (pos 2147483647)) ≡ 2147483647 ∷ [])
    × (flat_map numbers_of (exit_parts (negsuc 4)) ≡ 5 ∷ [])
    × (flat_map texts_of (exit_parts (negsuc 4)) ≡ codes " " ∷ codes "exit " ∷ codes "-" ∷ [])
    × (flat_map texts_of (exit_parts (pos 256)) ≡ codes " " ∷ codes "exit " ∷ [] ∷ [])
statuses = (refl, refl, refl, refl, refl)

-- ---- the tree

abbrev many : List Node
many = replicate 6000 (record no_node { number = 1 }) ++ record no_node { number = 7; lines = 3 } ∷ []

positions : (position_of many 7 ≡ Some 6000) × (position_of many 8 ≡ None) × ((node_at many 6000).lines ≡ 3)
    × ((node_at many 6001).lines ≡ 0)
positions = (refl, refl, refl, refl)

abbrev build : Build
build = record { logs = []; options = options; nodes = []; articles = range_with_len 100 10 }

articles : map (is_among build.articles) (99 ∷ 100 ∷ 108 ∷ 109 ∷ 110 ∷ []) ≡ false ∷ true ∷ true ∷ true ∷ false ∷ []
articles = refl

large_numbers : (numbers (group_start_of 1500) ≡ 1500 ∷ []) × (numbers (depth_parts 300) ≡ 300 ∷ [])
large_numbers = (refl, refl)

-- Each kind of note in a log has a prefix.
prefixes : map note_prefix (codes "x" ∷ codes "note" ∷ replicate 17 97 ∷ replicate 300 97 ∷ []) ≡ replicate 4 (codes "redo: ")
prefixes = refl

-- A target that failed and printed one empty line.
abbrev log_of_empty_line : Log
log_of_empty_line = record { target = codes "a"; entries = Text [] ∷ []; state = Ended }

empty_line :
    output_parts (log_of_empty_line ∷ []) 0 (record no_node { number = 0; lines = 1; bytes = 1 })
    ≡ MarkupPart markup.Pre ∷ LogPart plain_style (10 ∷ []) ∷ MarkupPart markup.EndPre ∷ []
unfolding output_parts whole_parts nothing_parts
empty_line = refl

-- A mention of a target that was opened before leads to it, however late it is.
late_mentions :
    map (λ opening. opening_position (record build { nodes = many }) opening) (OpenedBefore 7 ∷ OpensHere 7 ∷ OpenedBefore 8 ∷ [])
    ≡ Some 6000 ∷ Some 6000 ∷ None ∷ []
late_mentions = refl

-- Silent logs are in a group at any depth.
abbrev level : ℕ → Level
level depth = record { position = None; expanded = false; depth = depth }

groups : map (λ depth. are_group build (level depth) 7) (0 ∷ 19 ∷ 20 ∷ 59 ∷ 300 ∷ []) ≡ replicate 5 true
groups = refl

-- Only a note of the kind `check` is in brackets.
notes : map (λ kind. flat_map texts_of (note_parts kind (codes "t"))) (codes "stamp" ∷ codes "Check" ∷ codes "checks" ∷ codes "chec" ∷ [])
    ≡ replicate 4 (codes "redo: " ∷ codes "t" ∷ [])
notes = refl

-- ---- templates

-- A table shows ten rows, and the header each target.
abbrev rank : ℕ → Rank
rank value = record { value = value; position = 0 }

abbrev ten : List Rank
ten = map rank (range_with_len 5 10)

abbrev value_of : ℕ → View → List Part
value_of block row = NumberPart row.rank.value ∷ []

ten_rows : numbers (around_parts value_of (view (record (facts 0 0) { warned = ten })) (Each Warned) 0) ≡ range_with_len 5 10
ten_rows = refl

abbrev number_of : ℕ → View → List Part
number_of block row = NumberPart row.node.number ∷ []

each_target : length (around_parts number_of (record (view (facts 0 0)) { nodes = many }) EachTarget 0) ≡ 6001
each_target = refl

-- ---- articles

no_time : (numbers (article_took (Some 0)) ≡ 0 ∷ 0 ∷ 0 ∷ []) × (numbers (article_took (Some 604800000)) ≡ 168 ∷ 0 ∷ 0 ∷ [])
unfolding duration_words
no_time = (refl, refl)

lines_left_out : numbers (left_out_parts 0 12345) ≡ 12345 ∷ []
unfolding left_out_parts in_tree_parts
lines_left_out = refl
