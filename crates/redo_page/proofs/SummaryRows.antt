-- Rows of the summary, as the parts that are written. The values are worked out by hand.
use Rattle.std.proofs.Common.{◌≡◌, ℕ, Bool, true, false, List, [], drop, ◌∷◌, ◌++◌, Option, None, Some, ℤ, pos, replicate, refl}
use Rattle.std.specs.Fmt.{digits}
use Rattle.std.specs.List.{flat_map, list_any}
use Rattle.std.specs.Prelude.{bytes_eq, codes, take}
use Rattle.redo_html.specs.declared.markup.Markup.{Markup}
use Rattle.redo_html.specs.declared.markup.Markup.TheVariants as markup
use Rattle.redo_html.specs.Parts.{Part}
use Rattle.redo_html.specs.Parts.Part.{MarkupPart, MeterPart, TextPart, NumberPart}
use Rattle.redo_html.specs.Shown.{number_text}
use Rattle.redo_logs.specs.declared.log_state.LogState.TheVariants.{Ended}
use Rattle.redo_logs.specs.Logs.{Log}
use Rattle.redo_outline.specs.declared.node.Node.{Node}
use Rattle.redo_page.specs.Scope.{View, known_count, largest_of, share_of_largest, shown_alone, shown_longest}
use Rattle.redo_page.specs.Laws.{heading_shown, requested_shown, summary_shown}
use Rattle.redo_page.specs.NewSection.{no_news}
use Rattle.redo_page.specs.Page.{build_view}
use Rattle.redo_page.specs.Summary.{summary_parts}
use Rattle.redo_page.specs.Template.{nothing, tile_end, tile_start}
use Rattle.redo_page.specs.Words.{word_part, words_parts}
use Rattle.redo_summary.specs.declared.rank.Rank.{Rank}
use Rattle.redo_summary.specs.declared.target.Target.{Target}
use Rattle.redo_summary.specs.Summary.{Facts}
use Rattle.redo_summary.specs.Usage.{UsageFacts}
use Rattle.redo_timeline.specs.declared.span.Span.{Span}
use Rattle.redo_timeline.specs.declared.span.Window.{Window}
use Rattle.redo_units.specs.Durations.{duration_words}
use Rattle.redo_units.specs.Sizes.{size_words, tenths_words}
use Rattle.redo_units.specs.Words.WordValue.{NumberWord, TextWord}
use Rattle.redo_page.specs.Tree.{no_node, node_at}

abbrev tag : Markup → Part
tag markup = MarkupPart markup

abbrev words : List ℕ → Part
words text = TextPart text

abbrev number : ℕ → Part
number value = NumberPart value

-- ---- values

abbrev log : List ℕ → Log
log target = record { target = target; entries = []; state = Ended }

abbrev node : ℕ → Option ℕ → Option ℤ → Bool → Node
node number parent status fails_below = record no_node { number = number; parent = parent; status = status; fails_below = fails_below }

abbrev logs : List Log
logs = log (codes "a") ∷ log (codes "b") ∷ log (codes "all") ∷ []

-- The third target failed, and the first one with it.
abbrev nodes : List Node
nodes = node 2 None (Some (pos 1)) true ∷ node 0 (Some 0) (Some (pos 0)) false ∷ node 1 (Some 0) (Some (pos 2)) false ∷ []

abbrev span : ℕ → Span
span position = record { began = 0; position = position; ended = 9; failed = false }

abbrev rank : ℕ → ℕ → Rank
rank value position = record { value = value; position = position }

-- No time is known.
abbrev unknown : Facts
unknown = record {
  window = None;
  took = 0;
  callers = [];
  recipes = [];
  marks = [];
  sum = 0;
  most = 0;
  warnings = 4;
  bytes = 46099;
  longest = rank 9 0 ∷ [];
  alone = [];
  warned = [];
}

abbrev window : Window
window = record { began = 1000; width = 90000 }

-- All times are known.
abbrev known : Facts
known = record {
  window = Some window;
  took = 90000;
  callers = span 0 ∷ [];
  recipes = span 1 ∷ span 2 ∷ [];
  marks = [];
  sum = 125000;
  most = 2;
  warnings = 7;
  bytes = 1;
  longest = rank 60000 2 ∷ rank 5000 1 ∷ [];
  alone = [];
  warned = rank 8 1 ∷ [];
}

-- One of three times is unknown.
abbrev few : Facts
few = record known { callers = []; marks = span 0 ∷ [] }

abbrev view : Facts → View
view facts = build_view [] [] [] [] logs nodes facts no_news

abbrev summary : Facts → List Part
summary facts = summary_parts (view facts)

abbrev unused : UsageFacts
unused = record { processor = None; memory = [] }

-- 61 s of processor time. The third target had 61,440,000 bytes of memory, and the second one a quarter of that.
abbrev used : UsageFacts
used = record { processor = Some 61000; memory = rank 60000 2 ∷ rank 15000 1 ∷ [] }

-- The summary of a build whose recipes used this.
abbrev summary_with : Facts → UsageFacts → List Part
summary_with facts usage = summary_parts (record (view facts) { usage = usage })

-- ---- numbers with units

words_are :
    (word_part (NumberWord 5) ≡ number 5 ∷ []) × (word_part (TextWord (codes " s")) ≡ words (codes " s") ∷ [])
    × (words_parts [] ≡ []) × (words_parts (NumberWord 1 ∷ TextWord (codes ".") ∷ NumberWord 0 ∷ [])
    ≡ number 1 ∷ words (codes ".") ∷ number 0 ∷ [])
words_are = (refl, refl, refl, refl)

-- ---- tiles

tile_is :
    (tile_start (codes "t") ≡ tag markup.Div ∷ tag markup.Term ∷ words (codes "t") ∷ tag markup.EndTerm ∷ tag markup.Description ∷ [])
    × (tile_end ≡ tag markup.EndDescription ∷ tag markup.EndDiv ∷ [])
tile_is = (refl, refl)

abbrev tile_of : List ℕ → List Part → List Part → List Part
tile_of term description rest =
    tag markup.Div ∷ tag markup.Term ∷ words term ∷ tag markup.EndTerm ∷ tag markup.Description
    ∷ (description ++ tag markup.EndDescription ∷ tag markup.EndDiv ∷ rest)

abbrev timed : List Part → List Part
timed rest =
    tile_of (codes "Sum of times") (number 2 ∷ words (codes " min ") ∷ number 0 ∷ number 5 ∷ words (codes " s") ∷ [])
    (tile_of (codes "At once") (number 1 ∷ words (codes ".") ∷ number 3 ∷ words (codes ", at most ") ∷ number 2 ∷ []) rest)

abbrev all_tiles : List Part → List Part
all_tiles rest =
    tile_of (codes "Targets") (number 3 ∷ [])
    (tile_of (codes "Failed") (number 1 ∷ words (codes ", and ") ∷ number 1 ∷ words (codes " dependent") ∷ [])
    (tile_of (codes "Lines with warning:") (number 7 ∷ [])
    (tile_of (codes "Logs") (number 1 ∷ words (codes " byte") ∷ words [] ∷ words [] ∷ [])
    (tile_of (codes "Took") (number 1 ∷ words (codes " min ") ∷ number 3 ∷ number 0 ∷ words (codes " s") ∷ []) (timed rest)))))

abbrev processor_tile : List Part → List Part
processor_tile rest =
    tile_of (codes "Processor time") (number 1 ∷ words (codes " min ") ∷ number 0 ∷ number 1 ∷ words (codes " s") ∷ []) rest

-- ---- tables

-- In hundredths of a percent, rounded down. Ten thousand times a value is at most 2^64 - 1.
abbrev width : ℕ → ℕ → ℕ
width value largest = share_of_largest (record (view known) { rank = rank value 0; largest = largest })

widths_are :
    (width 10 10 ≡ 10000) × (width 5 10 ≡ 5000) × (width 1 3 ≡ 3333) × (width 0 0 ≡ 0) × (width 2 0 ≡ 20000) × (width 0 7 ≡ 0)
    × (width 1844674407370955 1 ≡ 18446744073709550000) × (width 1844674407370956 1 ≡ 18446744073709551615)
    × (width 18446744073709551615 18446744073709551615 ≡ 1)
widths_are = (refl, refl, refl, refl, refl, refl, refl, refl, refl)

-- Nothing is shown of how long recipes were the only ones that ran if no others ran at the same time.
abbrev alone : Facts
alone = record known { alone = rank 50000 2 ∷ rank 25000 1 ∷ [] }

alone_are : (shown_alone alone ≡ rank 50000 2 ∷ rank 25000 1 ∷ []) × (shown_alone (record alone { most = 1 }) ≡ [])
    × (shown_alone (record few { alone = rank 9 0 ∷ [] }) ≡ [])
alone_are = (refl, refl, refl)

longest_are : (shown_longest unknown ≡ []) × (shown_longest few ≡ []) × (shown_longest known ≡ rank 60000 2 ∷ rank 5000 1 ∷ [])
longest_are = (refl, refl, refl)

largest_are : (largest_of [] ≡ 0) × (largest_of (rank 9 1 ∷ []) ≡ 9) × (largest_of (rank 60000 2 ∷ rank 5000 1 ∷ []) ≡ 60000)
largest_are = (refl, refl, refl)

-- The second recipe took a twelfth of the time of the first one.
abbrev row_of_a_by_time : List Part → List Part
row_of_a_by_time rest =
    tag markup.TableRow ∷ tag markup.RowHeading ∷ tag (markup.TargetLink 1) ∷ tag markup.Bdi ∷ words (codes "a") ∷ tag markup.EndBdi
    ∷ tag markup.EndLink ∷ tag markup.EndRowHeading
    ∷ tag markup.NumberCell ∷ number 5 ∷ words (codes ".") ∷ number 0 ∷ number 0 ∷ words (codes " s") ∷ tag markup.EndCell
    ∷ tag markup.MeterCell ∷ MeterPart 833 ∷ tag markup.EndCell ∷ tag markup.EndTableRow ∷ rest

abbrev row_of_b_by_time : List Part → List Part
row_of_b_by_time rest =
    tag markup.TableRow ∷ tag markup.RowHeading ∷ tag (markup.TargetLink 2) ∷ tag markup.Bdi ∷ words (codes "b") ∷ tag markup.EndBdi
    ∷ tag markup.EndLink
    ∷ words (codes " ") ∷ tag markup.ExitBadge ∷ words (codes "exit ") ∷ words [] ∷ number 2 ∷ tag markup.EndBadge
    ∷ tag markup.EndRowHeading
    ∷ tag markup.NumberCell ∷ number 1 ∷ words (codes " min ") ∷ number 0 ∷ number 0 ∷ words (codes " s") ∷ tag markup.EndCell
    ∷ tag markup.MeterCell ∷ MeterPart 10000 ∷ tag markup.EndCell ∷ tag markup.EndTableRow ∷ rest

abbrev row_of_a_by_warnings : List Part → List Part
row_of_a_by_warnings rest =
    tag markup.TableRow ∷ tag markup.RowHeading ∷ tag (markup.TargetLink 1) ∷ tag markup.Bdi ∷ words (codes "a") ∷ tag markup.EndBdi
    ∷ tag markup.EndLink ∷ tag markup.EndRowHeading
    ∷ tag markup.NumberCell ∷ number 8 ∷ tag markup.EndCell ∷ tag markup.MeterCell ∷ MeterPart 10000 ∷ tag markup.EndCell
    ∷ tag markup.EndTableRow ∷ rest

abbrev row_of_b_by_memory : List Part → List Part
row_of_b_by_memory rest =
    tag markup.TableRow ∷ tag markup.RowHeading ∷ tag (markup.TargetLink 2) ∷ tag markup.Bdi ∷ words (codes "b") ∷ tag markup.EndBdi
    ∷ tag markup.EndLink
    ∷ words (codes " ") ∷ tag markup.ExitBadge ∷ words (codes "exit ") ∷ words [] ∷ number 2 ∷ tag markup.EndBadge
    ∷ tag markup.EndRowHeading
    ∷ tag markup.NumberCell ∷ number 61 ∷ words (codes ".") ∷ number 4 ∷ words (codes " MB") ∷ tag markup.EndCell
    ∷ tag markup.MeterCell ∷ MeterPart 10000 ∷ tag markup.EndCell ∷ tag markup.EndTableRow ∷ rest

abbrev row_of_a_by_memory : List Part → List Part
row_of_a_by_memory rest =
    tag markup.TableRow ∷ tag markup.RowHeading ∷ tag (markup.TargetLink 1) ∷ tag markup.Bdi ∷ words (codes "a") ∷ tag markup.EndBdi
    ∷ tag markup.EndLink ∷ tag markup.EndRowHeading
    ∷ tag markup.NumberCell ∷ number 15 ∷ words (codes ".") ∷ number 3 ∷ words (codes " MB") ∷ tag markup.EndCell
    ∷ tag markup.MeterCell ∷ MeterPart 2500 ∷ tag markup.EndCell ∷ tag markup.EndTableRow ∷ rest

abbrev table : List ℕ → List Part → List Part
table heading rest =
    tag markup.Div ∷ tag markup.Title3 ∷ words heading ∷ tag markup.EndTitle3 ∷ tag markup.Table ∷ tag markup.TableBody ∷ rest

abbrev table_end : List Part → List Part
table_end rest = tag markup.EndTableBody ∷ tag markup.EndTable ∷ tag markup.EndDiv ∷ rest

abbrev both_tables : List Part → List Part
both_tables rest =
    tag markup.Columns ∷ table (codes "Longest")
    (row_of_b_by_time (row_of_a_by_time (table_end (table (codes "Most warnings") (row_of_a_by_warnings (table_end (tag markup.EndDiv ∷ rest)))))))

abbrev all_tables : List Part → List Part
all_tables rest =
    tag markup.Columns ∷ table (codes "Longest")
    (row_of_b_by_time (row_of_a_by_time (table_end (table (codes "Most memory")
    (row_of_b_by_memory (row_of_a_by_memory (table_end (table (codes "Most warnings") (row_of_a_by_warnings (table_end (tag markup.EndDiv ∷ rest)))))))))))

-- ---- why there is no timeline

counts_are : (known_count unknown ≡ 0) × (known_count known ≡ 3) × (known_count few ≡ 3)
    × (known_count (record known { marks = replicate 4 (span 0) }) ≡ 7)
counts_are = (refl, refl, refl, refl)

abbrev nothing_known : Part
nothing_known = words (codes "There is no timeline: the logs do not say when the targets ran.")

abbrev some_known : ℕ → ℕ → List Part → List Part
some_known unknown targets rest =
    words (codes "There is no timeline: the logs of ") ∷ number unknown ∷ words (codes " of ") ∷ number targets
    ∷ words (codes " targets do not say when they began, or when they ended.") ∷ rest

-- ---- the section

abbrev section : List Part → List Part
section rest =
    tag markup.SummarySection ∷ tag markup.SummaryHeading ∷ words (codes "Summary") ∷ tag markup.EndHeading
    ∷ tag markup.DescriptionList ∷ rest

summary_is :
    (summary known ≡ section (all_tiles (tag markup.EndDescriptionList ∷ both_tables (tag markup.EndSection ∷ []))))
    × (summary unknown
    ≡ section
    (tile_of (codes "Targets") (number 3 ∷ [])
    (tile_of (codes "Failed") (number 1 ∷ words (codes ", and ") ∷ number 1 ∷ words (codes " dependent") ∷ [])
    (tile_of (codes "Lines with warning:") (number 4 ∷ [])
    (tile_of (codes "Logs") (number 46 ∷ words (codes ".") ∷ number 0 ∷ words (codes " kB") ∷ [])
    (tag markup.EndDescriptionList ∷ tag markup.QuietParagraph ∷ nothing_known ∷ tag markup.EndParagraph ∷ tag markup.EndSection ∷ [])))))
    )
unfolding summary_parts duration_words size_words tenths_words
summary_is = (refl, refl)

-- The same with what the recipes used.
summary_with_usage :
    summary_with known used
    ≡ section (all_tiles (processor_tile (tag markup.EndDescriptionList ∷ all_tables (tag markup.EndSection ∷ []))))
unfolding summary_parts duration_words size_words tenths_words
summary_with_usage = refl

-- The section's heading, and the number of targets, of those that failed, and of those above.
summary_begins :
    take 22 (summary unknown)
    ≡ section
    (tile_of (codes "Targets") (number 3 ∷ [])
    (tag markup.Div ∷ tag markup.Term ∷ words (codes "Failed") ∷ tag markup.EndTerm ∷ tag markup.Description ∷ number 1
    ∷ words (codes ", and ") ∷ number 1 ∷ words (codes " dependent") ∷ []))
unfolding summary_parts duration_words size_words tenths_words
summary_begins = refl

-- Where the tables and the reason begin.
abbrev milestone : Part → List Markup
milestone (MarkupPart markup.EndDescriptionList) = markup.EndDescriptionList ∷ []
milestone (MarkupPart markup.Columns) = markup.Columns ∷ []
milestone (MarkupPart markup.Table) = markup.Table ∷ []
milestone (MarkupPart markup.QuietParagraph) = markup.QuietParagraph ∷ []
milestone (MarkupPart markup.EndSection) = markup.EndSection ∷ []
milestone part = []

abbrev milestones : Facts → List Markup
milestones facts = flat_map milestone (summary facts)

milestones_are :
    (milestones known ≡ markup.EndDescriptionList ∷ markup.Columns ∷ markup.Table ∷ markup.Table ∷ markup.EndSection ∷ [])
    × (milestones (record known { longest = [] }) ≡ markup.EndDescriptionList ∷ markup.Columns ∷ markup.Table ∷ markup.EndSection ∷ [])
    × (milestones (record known { warned = [] }) ≡ markup.EndDescriptionList ∷ markup.Columns ∷ markup.Table ∷ markup.EndSection ∷ [])
    × (milestones (record known { longest = []; warned = [] }) ≡ markup.EndDescriptionList ∷ markup.EndSection ∷ [])
    × (milestones few ≡ markup.EndDescriptionList ∷ markup.Columns ∷ markup.Table ∷ markup.QuietParagraph ∷ markup.EndSection ∷ [])
    × (milestones unknown ≡ markup.EndDescriptionList ∷ markup.QuietParagraph ∷ markup.EndSection ∷ [])
unfolding summary_parts duration_words size_words tenths_words
milestones_are = (refl, refl, refl, refl, refl, refl)

abbrev usage_milestones : Facts → UsageFacts → List Markup
usage_milestones facts usage = flat_map milestone (summary_with facts usage)

-- The table of memory needs no other table, and no processor time.
usage_milestones_are :
    (usage_milestones known used
    ≡ markup.EndDescriptionList ∷ markup.Columns ∷ markup.Table ∷ markup.Table ∷ markup.Table ∷ markup.EndSection ∷ [])
    × (usage_milestones (record known { longest = []; warned = [] }) used
    ≡ markup.EndDescriptionList ∷ markup.Columns ∷ markup.Table ∷ markup.EndSection ∷ [])
    × (usage_milestones unknown (record used { processor = None })
    ≡ markup.EndDescriptionList ∷ markup.Columns ∷ markup.Table ∷ markup.QuietParagraph ∷ markup.EndSection ∷ [])
    × (usage_milestones unknown (record used { memory = [] }) ≡ markup.EndDescriptionList ∷ markup.QuietParagraph ∷ markup.EndSection ∷ [])
unfolding summary_parts duration_words size_words tenths_words
usage_milestones_are = (refl, refl, refl, refl)

abbrev words_of : Part → List (List ℕ)
words_of (TextPart text) = text ∷ []
words_of part = []

-- A build of three targets. The times of one are unknown, and no target failed with another one.
few_words_are :
    flat_map words_of (summary_parts (build_view [] [] [] [] (log (codes "a") ∷ []) (node 0 None (Some (pos 1)) false ∷ []) (record few { warned = [] }) no_news))
    ≡ codes "Summary" ∷ codes "Targets" ∷ codes "Failed" ∷ codes "Lines with warning:" ∷ codes "Logs" ∷ codes " byte" ∷ [] ∷ []
    ∷ codes "Took" ∷ codes " min " ∷ codes " s"
    ∷ codes "There is no timeline: the logs of " ∷ codes " of " ∷ codes " targets do not say when they began, or when they ended." ∷ []
unfolding summary_parts duration_words size_words tenths_words
few_words_are = refl

-- A build without known times: 46.0 kB of text.
no_times_words_are :
    flat_map words_of (summary_parts (build_view [] [] [] [] (log (codes "a") ∷ []) (node 0 None (Some (pos 1)) false ∷ []) unknown no_news))
    ≡ codes "Summary" ∷ codes "Targets" ∷ codes "Failed" ∷ codes "Lines with warning:" ∷ codes "Logs" ∷ codes "." ∷ codes " kB"
    ∷ codes "There is no timeline: the logs do not say when the targets ran." ∷ []
unfolding summary_parts duration_words size_words tenths_words
no_times_words_are = refl

-- The values in some parts: numbers, and the widths of meters.
abbrev values_of : Part → List ℕ
values_of (NumberPart value) = value ∷ []
values_of (MeterPart value) = value ∷ []
values_of part = []

-- 1 target failed, 7 lines have warnings, 1 byte, 1 min 30 s, and the logs of 1 of 3 targets say too little.
few_values_are :
    flat_map values_of (summary_parts (build_view [] [] [] [] (log (codes "a") ∷ []) (node 0 None (Some (pos 1)) false ∷ []) (record few { warned = [] }) no_news))
    ≡ 1 ∷ 1 ∷ 7 ∷ 1 ∷ 1 ∷ 3 ∷ 0 ∷ 1 ∷ 3 ∷ []
unfolding summary_parts duration_words size_words tenths_words
few_values_are = refl

-- 3 targets; 1 failed, and 1 with it; 7 lines with warnings, 1 byte, 1 min 30 s, in all 2 min 05 s, 1.3 and 2 at once. Status 2, 1 min
-- 00 s; 5.00 s; and 8 lines with warnings.
known_values_are :
    flat_map values_of (summary known)
    ≡ 3 ∷ 1 ∷ 1 ∷ 7 ∷ 1 ∷ 1 ∷ 3 ∷ 0 ∷ 2 ∷ 0 ∷ 5 ∷ 1 ∷ 3 ∷ 2
    ∷ 2 ∷ 1 ∷ 0 ∷ 0 ∷ 10000 ∷ 5 ∷ 0 ∷ 0 ∷ 833 ∷ 8 ∷ 10000 ∷ []
unfolding summary_parts duration_words size_words tenths_words
known_values_are = refl

-- The targets to which some parts lead.
abbrev links_of : Part → List ℕ
links_of (MarkupPart (markup.TargetLink position)) = position ∷ []
links_of part = []

links_are : flat_map links_of (summary known) ≡ 2 ∷ 1 ∷ 1 ∷ []
unfolding summary_parts duration_words size_words tenths_words
links_are = refl

abbrev warned : Facts
warned = record unknown { warned = rank 8 1 ∷ rank 2 2 ∷ [] }

-- The first target has 8 lines with warnings, and the second one, which failed with status 2, a quarter of that.
warned_are :
    flat_map values_of (summary warned)
    ≡ 3 ∷ 1 ∷ 1 ∷ 4 ∷ 46 ∷ 0 ∷ 8 ∷ 10000 ∷ 2 ∷ 2 ∷ 2500 ∷ []
unfolding summary_parts duration_words size_words tenths_words
warned_are = refl

warned_words_are :
    flat_map words_of (summary warned)
    ≡ codes "Summary" ∷ codes "Targets" ∷ codes "Failed" ∷ codes ", and " ∷ codes " dependent" ∷ codes "Lines with warning:" ∷ codes "Logs"
    ∷ codes "." ∷ codes " kB" ∷ codes "Most warnings" ∷ codes "a" ∷ codes "b" ∷ codes " " ∷ codes "exit " ∷ []
    ∷ codes "There is no timeline: the logs do not say when the targets ran." ∷ []
unfolding summary_parts duration_words size_words tenths_words
warned_words_are = refl

-- As `known_values_are`, and: status 2, 50.0 s, all of the meter; 25.0 s, half of it.
alone_values_are :
    flat_map values_of (summary alone)
    ≡ 3 ∷ 1 ∷ 1 ∷ 7 ∷ 1 ∷ 1 ∷ 3 ∷ 0 ∷ 2 ∷ 0 ∷ 5 ∷ 1 ∷ 3 ∷ 2
    ∷ 2 ∷ 1 ∷ 0 ∷ 0 ∷ 10000 ∷ 5 ∷ 0 ∷ 0 ∷ 833 ∷ 2 ∷ 50 ∷ 0 ∷ 10000 ∷ 25 ∷ 0 ∷ 5000 ∷ 8 ∷ 10000 ∷ []
unfolding summary_parts duration_words size_words tenths_words
alone_values_are = refl

alone_headings_are :
    (list_any (bytes_eq (codes "Longest alone")) (flat_map words_of (summary alone)) ≡ true)
    × (list_any (bytes_eq (codes "Longest alone")) (flat_map words_of (summary known)) ≡ false)
unfolding summary_parts duration_words size_words tenths_words
alone_headings_are = (refl, refl)

-- 1 min 01 s of processor time. Status 2, 61.4 MB; and 15.3 MB.
usage_values_are :
    flat_map values_of (summary_with unknown used)
    ≡ 3 ∷ 1 ∷ 1 ∷ 4 ∷ 46 ∷ 0 ∷ 1 ∷ 0 ∷ 1 ∷ 2 ∷ 61 ∷ 4 ∷ 10000 ∷ 15 ∷ 3 ∷ 2500 ∷ []
unfolding summary_parts duration_words size_words tenths_words
usage_values_are = refl

usage_words_are :
    flat_map words_of (summary_with unknown used)
    ≡ codes "Summary" ∷ codes "Targets" ∷ codes "Failed" ∷ codes ", and " ∷ codes " dependent" ∷ codes "Lines with warning:" ∷ codes "Logs"
    ∷ codes "." ∷ codes " kB" ∷ codes "Processor time" ∷ codes " min " ∷ codes " s"
    ∷ codes "Most memory" ∷ codes "b" ∷ codes " " ∷ codes "exit " ∷ [] ∷ codes "." ∷ codes " MB" ∷ codes "a" ∷ codes "." ∷ codes " MB"
    ∷ codes "There is no timeline: the logs do not say when the targets ran." ∷ []
unfolding summary_parts duration_words size_words tenths_words
usage_words_are = refl

-- The texts of the heading and of the summary. `E2 9C 97` is a ballot cross.
heading_is :
    heading_shown nodes
    ≡ tag markup.Title1 ∷ tag markup.Sign ∷ words (0xE2 ∷ 0x9C ∷ 0x97 ∷ []) ∷ tag markup.EndSign ∷ words (codes " ")
    ∷ words (codes "1 of 3 targets failed") ∷ tag markup.EndTitle1 ∷ []
unfolding number_text digits
heading_is = refl

-- The first log has seven warnings and one byte.
abbrev counted : List Node
counted = record (node_at nodes 0) { warnings = 7; bytes = 1 } ∷ drop 1 nodes

abbrev target : ℕ → ℕ → ℕ → Target
target position began ended = record {
  position = position;
  parent = Some 0;
  failed = false;
  times = record { began = Some began; ended = Some ended; ran_others = false };
}

-- Two recipes, which ran for 60 s and for 65 s.
abbrev targets : List Target
targets = target 1 0 60000 ∷ target 2 25000 90000 ∷ []

tiles_are :
    (summary_shown counted targets None ≡ tag markup.DescriptionList ∷ all_tiles (tag markup.EndDescriptionList ∷ []))
    × (summary_shown counted targets (Some 61000)
    ≡ tag markup.DescriptionList ∷ all_tiles (processor_tile (tag markup.EndDescriptionList ∷ [])))
unfolding duration_words size_words tenths_words
tiles_are = (refl, refl)

-- Only the first target is in no other one.
requested_are :
    flat_map (requested_shown logs) nodes
    ≡ tag markup.Paragraph ∷ tag markup.Bdi ∷ words (codes "all") ∷ tag markup.EndBdi
    ∷ words (codes " ") ∷ tag markup.ExitBadge ∷ words (codes "exit ") ∷ words [] ∷ number 1 ∷ tag markup.EndBadge
    ∷ tag markup.EndParagraph ∷ []
requested_are = refl

nothing_is : nothing (record {}) (view unknown) ≡ []
nothing_is = refl
