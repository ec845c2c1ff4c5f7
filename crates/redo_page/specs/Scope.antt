-- The values for templates: src/scope.rt has the items that show them.
use Rattle.std.specs.Prelude.{ℕ, ◌+◌, ◌-◌, ◌*◌, ◌/◌, max, ◌==◌, ◌&&◌, nat_lt, not, Bool, List, [], ◌∷◌, Option, None, Some, is_none, is_some, length, take, drop, unwrap_or, if◌then◌else◌}
use Rattle.redo_facts.specs.Facts.{RecipeFacts}
use Rattle.redo_html.specs.Parts.{Part}
use Rattle.redo_html.specs.Parts.Part.{TextPart}
use Rattle.redo_logs.specs.Logs.{Log}
use Rattle.redo_outline.specs.declared.node.Node.{Node}
use Rattle.redo_outline.specs.Facts.{saturated, target_at}
use Rattle.redo_page.specs.declared.labels.TheConstants.{LOGS_IN, LOG_IN, MIDDLE_DOT}
use Rattle.redo_page.specs.declared.scope.Count.{Count}
use Rattle.redo_page.specs.declared.scope.Count.TheVariants.{Targets, Roots, Dependents, Warnings, Most, Unknown, Known, Value, All, Unlisted, New, UnlistedNew, Gone}
use Rattle.redo_page.specs.declared.scope.Listed.{Listed}
use Rattle.redo_page.specs.declared.scope.Listed.TheVariants as listed
use Rattle.redo_page.specs.declared.scope.Measure.{Measure}
use Rattle.redo_page.specs.declared.scope.Measure.TheVariants.{Size, Took, Sum, AtOnce, Processor, Duration, Memory}
use Rattle.redo_page.specs.declared.scope.Phrase.{Phrase}
use Rattle.redo_page.specs.declared.scope.Phrase.TheVariants as phrase
use Rattle.redo_page.specs.declared.scope.Rows.{Rows}
use Rattle.redo_page.specs.declared.scope.Rows.TheVariants.{Longest, LongestAlone, MostMemory, Warned}
use Rattle.redo_page.specs.declared.scope.Rows.TheVariants as rows
use Rattle.redo_page.specs.declared.scope.Test.{Test}
use Rattle.redo_page.specs.declared.scope.Test.TheVariants.{HasTitle, IsRequested, HasFailed, HasDependents, HasWindow, IsTimed, HasKnown, HasMarks, HasCallers, HasProcessor, HasTables, HasLongest, HasAlone, HasMemory, HasWarned, HasAny, HasSeveral, HasUnlisted, HasBaseline, HasNew, HasUnlistedNew, HasNews}
use Rattle.redo_page.specs.declared.verdict.Verdict.{Verdict}
use Rattle.redo_page.specs.News.{NewsValue, has_news}
use Rattle.redo_page.specs.Targets.{plural}
use Rattle.redo_page.specs.Verdict.{sign_text}
use Rattle.redo_page.specs.Tree.{max_articles, node_at}
use Rattle.redo_summary.specs.declared.rank.Rank.{Rank}
use Rattle.redo_summary.specs.Summary.{Facts, is_timed}
use Rattle.redo_summary.specs.Usage.{UsageFacts}
use Rattle.redo_timeline.specs.declared.span.Window.{Window}
use Rattle.redo_units.specs.Dates.{date_text_of}
use Rattle.redo_units.specs.Durations.{duration_words}
use Rattle.redo_units.specs.Sizes.{size_words, tenths_words}
use Rattle.redo_units.specs.Words.{WordValue}

-- The title and the capture directory that the page was given, its verdict, heading, title in a tab and command, the targets of the build,
-- what is known of their recipes, the facts about times, what the recipes used, which targets failed or are unfinished, what is new since a
-- baseline, and a row of a table: its value, the largest value and its target.
pub record View : Type 0 where
  pub title : List ℕ
  pub dir : List ℕ
  pub verdict : Verdict
  pub heading : List ℕ
  pub tab : List ℕ
  pub command : List ℕ
  pub logs : List Log
  pub nodes : List Node
  pub recipes : List RecipeFacts
  pub facts : Facts
  pub usage : UsageFacts
  pub roots : List ℕ
  pub dependents : List ℕ
  pub unclosed : List ℕ
  pub news : NewsValue
  pub rank : Rank
  pub largest : ℕ
  pub node : Node

-- The recipes that took longest, unless too little is known.
abbrev pub shown_longest : Facts → List Rank
shown_longest facts = if is_timed facts then facts.longest else []

-- The recipes that ran alone for the longest time, unless too little is known. If there was never another one, these are the recipes
-- that took longest, and not shown again.
abbrev pub shown_alone : Facts → List Rank
shown_alone facts = if is_timed facts && nat_lt 1 facts.most then facts.alone else []

-- The number of targets with at least one known time.
abbrev pub known_count : Facts → ℕ
known_count facts = saturated (length facts.callers + length facts.recipes + length facts.marks)

-- The value of the first rank.
abbrev pub largest_of : List Rank → ℕ
largest_of [] = 0
largest_of (rank ∷ ranks) = rank.value

abbrev pub row_name : View → List ℕ
row_name view = target_at view.logs view.node.number

-- How much of the largest value the row's value is, in hundredths of a percent.
abbrev pub share_of_largest : View → ℕ
share_of_largest view = saturated (view.rank.value * 10000) / max 1 view.largest

-- The positions of the targets that are in a list.
abbrev pub positions_of : View → Listed → List ℕ
positions_of view listed.Articles = take max_articles view.roots
positions_of view listed.Others = drop max_articles view.roots
positions_of view listed.Dependents = view.dependents
positions_of view listed.Unclosed = view.unclosed
positions_of view listed.NewlyFailing = view.news.failing
positions_of view listed.Fixed = view.news.fixed

-- The maximum number of targets that a list names.
abbrev pub max_rows : ℕ
max_rows = 200

abbrev pub count_of : View → Count → ℕ
count_of view Targets = length view.nodes
count_of view Roots = length view.roots
count_of view Dependents = length view.dependents
count_of view Warnings = view.facts.warnings
count_of view Most = view.facts.most
count_of view Unknown = length view.facts.marks
count_of view Known = known_count view.facts
count_of view Value = view.rank.value
count_of view (All these) = length (positions_of view these)
count_of view (Unlisted these) = length (positions_of view these) - max_rows
count_of view New = length view.news.lines
count_of view UnlistedNew = length view.news.lines - max_rows
count_of view Gone = view.news.gone

abbrev pub measure_words : View → Measure → List WordValue
measure_words view Size = size_words view.facts.bytes
measure_words view Took = duration_words view.facts.took
measure_words view Sum = duration_words view.facts.sum
measure_words view AtOnce = tenths_words view.facts.sum view.facts.took
measure_words view Processor = duration_words (unwrap_or view.usage.processor 0)
measure_words view Duration = duration_words view.rank.value
measure_words view Memory = size_words (saturated (view.rank.value * 1024))

abbrev pub phrase_text : View → Phrase → List ℕ
phrase_text view phrase.Title = view.title
phrase_text view phrase.VerdictSign = sign_text view.verdict
phrase_text view phrase.Heading = view.heading
phrase_text view phrase.LogsIn = plural (length view.nodes) LOG_IN.now LOGS_IN.now
phrase_text view phrase.Directory = view.dir
phrase_text view phrase.Command = view.command

abbrev pub date_parts : Option (List ℕ) → List Part
date_parts None = []
date_parts (Some date) = TextPart date ∷ TextPart MIDDLE_DOT.now ∷ []

-- When a build began, if this has a date.
abbrev pub began_parts : Option Window → List Part
began_parts None = []
began_parts (Some window) = date_parts (date_text_of (window.began / 1000))

abbrev pub holds : View → Test → Bool
holds view HasTitle = not (length view.title == 0)
holds view IsRequested = is_none view.node.parent
holds view HasFailed = nat_lt 0 (length view.roots)
holds view HasDependents = not (length view.dependents == 0)
holds view HasWindow = is_some view.facts.window
holds view IsTimed = is_timed view.facts
holds view HasKnown = not (known_count view.facts == 0)
holds view HasMarks = not (length view.facts.marks == 0)
holds view HasCallers = not (length view.facts.callers == 0)
holds view HasProcessor = is_some view.usage.processor
holds view HasTables = not (length (shown_longest view.facts) == 0 && length view.usage.memory == 0 && length view.facts.warned == 0)
holds view HasLongest = not (length (shown_longest view.facts) == 0)
holds view HasAlone = not (length (shown_alone view.facts) == 0)
holds view HasMemory = not (length view.usage.memory == 0)
holds view HasWarned = not (length view.facts.warned == 0)
holds view (HasAny these) = not (length (positions_of view these) == 0)
holds view (HasSeveral these) = nat_lt 1 (length (positions_of view these))
holds view (HasUnlisted these) = nat_lt max_rows (length (positions_of view these))
holds view HasBaseline = view.news.is_compared
holds view HasNew = not (length view.news.lines == 0)
holds view HasUnlistedNew = nat_lt max_rows (length view.news.lines)
holds view HasNews = has_news view.news

abbrev pub rows_of : View → Rows → List Rank
rows_of view Longest = shown_longest view.facts
rows_of view LongestAlone = shown_alone view.facts
rows_of view MostMemory = view.usage.memory
rows_of view Warned = view.facts.warned
rows_of view rows.New = take max_rows view.news.lines

abbrev pub row_view : View → List Rank → Rank → View
row_view view ranks rank = record view { rank = rank; largest = largest_of ranks; node = node_at view.nodes rank.position }

abbrev pub target_view : View → Node → View
target_view view node = record view { node = node }

-- The target at a position, as a row without a value.
abbrev pub position_view : View → ℕ → View
position_view view position = record view { rank = record { value = 0; position = position }; node = node_at view.nodes position }
