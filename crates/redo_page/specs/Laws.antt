-- The statements of the laws.
use Rattle.std.specs.Prelude.{◌≡◌, ◌⊎◌, ℕ, suc, ◌+◌, ◌-◌, ◌*◌, ◌^◌, ◌<◌, ◌≤◌, ◌==◌, ◌||◌, ◌&&◌, nat_le, max, length, Bool, true, not, List, [], ◌∷◌, ◌++◌, map, Option, None, Some, is_none, is_some, codes, false, nat_eq, nat_lt, slice_get, take, drop, unwrap_or, if◌then◌else◌}
use Rattle.std.specs.List.{AllByRecursion, Contains, filter, flat_map, list_any, starts_with}
use Rattle.std.specs.Option.{option_eq}
use Rattle.redo_compare.specs.Baseline.{BaselineValue}
use Rattle.redo_compare.specs.Occurrences.{OccurrenceValue}
use Rattle.redo_diagnostics.specs.Diagnostic.{parts_of}
use Rattle.redo_facts.specs.declared.statement.Usage.{Usage}
use Rattle.redo_facts.specs.Facts.{RecipeCommand, RecipeFacts}
use Rattle.redo_line.specs.declared.entry.Entry.TheVariants.{Text, Done, Note}
use Rattle.redo_line.specs.declared.entry.How.{How}
use Rattle.redo_line.specs.Lines.{with_line_feed}
use Rattle.redo_logs.specs.Logs.{Log, log_number}
use Rattle.redo_view.specs.Event.{Event}
use Rattle.redo_view.specs.Event.Event.{Requested, Mentioned, EntryShown}
use Rattle.redo_html.specs.declared.markup.Markup.{Markup}
use Rattle.redo_html.specs.declared.markup.Markup.TheVariants.{BodyBad, BodyGood, BodyOpen, FailedSection, NewSection, EndSection, SummarySection, TimelineSection, TreeSection, FailedLink, NewLink, SummaryLink, TimelineLink, TreeLink, TargetLink, EndLink, OutputLink, Article, EndArticle, TargetItem, Details, OpenDetails, EndDetails, Summary, Title3, EndTitle3, MetaParagraph, Paragraph, QuietParagraph, EndParagraph, Ordered, OrderedFrom, EndOrdered, Item, EndItem, RowHeading, EndRowHeading, NumberCell, EndCell, Title1, EndTitle1, Sign, EndSign, DescriptionList, EndDescriptionList, Div, EndDiv, Term, EndTerm, Description, EndDescription, Code, EndCode, Pre, EndPre}
use Rattle.redo_html.specs.declared.chart.GroupKind.{GroupKind}
use Rattle.redo_html.specs.declared.text_kind.TextKind.TheVariants.{Monochrome}
use Rattle.redo_html.specs.Chart.{Drawing, drawing_links}
use Rattle.redo_html.specs.Html.{Token, is_one_of, nests_in, read}
use Rattle.redo_html.specs.Html.Token.{Character, Lost, Tag}
use Rattle.redo_html.specs.Laws.{IsChartTag, is_highlight, markup_tag}
use Rattle.redo_html.specs.Parts.{Part}
use Rattle.redo_html.specs.Parts.Part.{MarkupPart, LogPart, TextPart, NumberPart, TitlePart, ChartPart}
use Rattle.redo_html.specs.Passage.{passage_tokens}
use Rattle.redo_html.specs.Shown.{number_text}
use Rattle.redo_html.specs.Style.{plain_style}
use Rattle.redo_html.specs.Tags.{markup_text}
use Rattle.redo_outline.specs.declared.node.Node.{Node}
use Rattle.redo_outline.specs.Contents.{Contents, contents_of}
use Rattle.redo_outline.specs.Contents.Contents.{Nothing, Shown, Opened}
use Rattle.redo_outline.specs.Facts as facts
use Rattle.redo_outline.specs.Facts.{saturated, target_at, target_status, text_size}
use Rattle.redo_outline.specs.Outline.{log_count}
use Rattle.redo_page.specs.declared.labels.TheConstants.{AND_COUNT, AS_ONE_TEXT, AT_MOST, AT_ONCE, BUILD_TOOK, DEPENDENT, DIRECTORY, FAILED, FAILED_SIGN, FIXED, GONE, IN_ITS_LOG, LOGS, LOGS_IN, LOG_IN, MADE_SIGN, NEWLY_FAILING, NEW_LINES, NEW_SINCE, NOTHING_NEW, OF, PLACE_IN_TREE, PROCESSOR_TIME, SENTENCE_END, SHOWN_ABOVE, SUM_OF_TIMES, TARGETS, TARGETS_FAILED, TARGETS_MADE, TARGETS_UNFINISHED, TARGET_FAILED, TARGET_MADE, TARGET_UNFINISHED, TOOK, UNFINISHED_SIGN, WARNED_LINES}
use Rattle.redo_page.specs.Command.{command}
use Rattle.redo_page.specs.Errors.{cause_of}
use Rattle.redo_page.specs.Article.{article_took, cause_parts, path_parts, printed_by}
use Rattle.redo_page.specs.Failed.{is_dependent_failure, is_unclosed}
use Rattle.redo_page.specs.NewSection.{fixed_since, gone_count, new_in, new_lines, newly_failing}
use Rattle.redo_page.specs.Page.{Request, options_of, page_contents, page_events, page_html, page_outline, page_parts}
use Rattle.redo_page.specs.Scope.{began_parts}
use Rattle.redo_chart.specs.Laws.{DrawsAll, shapes_of}
use Rattle.redo_summary.specs.declared.rank.Rank.{Rank}
use Rattle.redo_summary.specs.declared.target.Target.{Target}
use Rattle.redo_summary.specs.Spans.{callers_of, marks_of, recipes_of, targets_of}
use Rattle.redo_summary.specs.Summary.{bytes_of, sum_of, warnings_of}
use Rattle.redo_summary.specs.Targets.{duration_of, times_of}
use Rattle.redo_summary.specs.Usage.{known_usages, processor_of, usage_at}
use Rattle.redo_summary.specs.Window.{cut, known_times, time_over, window_over}
use Rattle.redo_timeline.specs.Alone.{alone}
use Rattle.redo_timeline.specs.Parallelism.{most_of}
use Rattle.redo_timeline.specs.declared.span.Span.{Span}
use Rattle.redo_timeline.specs.declared.span.Window.{Window}
use Rattle.redo_times.specs.declared.times.Times.{Times}
use Rattle.redo_page.specs.Tree.{articles, is_in_article, is_root_failure, max_articles, node_at, root_failures, positions_where}
use Rattle.redo_page.specs.Verdict.{is_unfinished, unfinished_count}
use Rattle.redo_page.specs.Limits.{tree_limits}
use Rattle.redo_page.specs.Targets.{badge_parts, facts_parts, how_parts, name_parts, parts_if, plural}
use Rattle.redo_page.specs.Words.{words_parts}
use Rattle.redo_units.specs.Durations.{duration_words}
use Rattle.redo_units.specs.Sizes.{size_words, tenths_words}
use Rattle.redo_trim.specs.declared.limit.Limit.{Limit}
use Rattle.redo_trim.specs.Trim.{limit_of}

-- ---- the result of a build

-- The start tag of the body.
abbrev pub body_tag : Part → List Markup
body_tag (MarkupPart BodyGood) = BodyGood ∷ []
body_tag (MarkupPart BodyOpen) = BodyOpen ∷ []
body_tag (MarkupPart BodyBad) = BodyBad ∷ []
body_tag part = []

-- The text of the element `title`.
abbrev pub title_in : Part → List (List ℕ)
title_in (TitlePart title) = title ∷ []
title_in part = []

-- The body of a page in the colours of a failed build.
abbrev pub IsRed : List Part → Type 0
IsRed parts = slice_get (flat_map body_tag parts) 0 ≡ Some BodyBad

-- A title that begins with the sign of a failed build, a ballot cross (U+2717) in UTF-8.
abbrev pub says_failed : Option (List ℕ) → Bool
says_failed None = false
says_failed (Some title) = starts_with nat_eq title (0xE2 ∷ 0x9C ∷ 0x97 ∷ [])

-- ---- ids and links

-- The ids of targets, by their numbers.
abbrev pub target_id : Part → List ℕ
target_id (MarkupPart (TargetItem number)) = number ∷ []
target_id (MarkupPart (Details number)) = number ∷ []
target_id (MarkupPart (OpenDetails number)) = number ∷ []
target_id part = []

-- The links to targets, by their numbers.
abbrev pub target_link : Part → List ℕ
target_link (MarkupPart (TargetLink number)) = number ∷ []
target_link (ChartPart drawing) = drawing_links drawing
target_link part = []

-- The ids of articles, by their numbers.
abbrev pub article_id : Part → List ℕ
article_id (MarkupPart (Article number)) = number ∷ []
article_id part = []

-- The links to articles.
abbrev pub article_link : Part → List ℕ
article_link (MarkupPart (OutputLink number)) = number ∷ []
article_link part = []

-- The ids of the sections of a page, and the links to them.
abbrev pub section_id : Part → List (List ℕ)
section_id (MarkupPart FailedSection) = codes "failed" ∷ []
section_id (MarkupPart NewSection) = codes "new" ∷ []
section_id (MarkupPart SummarySection) = codes "summary" ∷ []
section_id (MarkupPart TimelineSection) = codes "timeline" ∷ []
section_id (MarkupPart TreeSection) = codes "tree" ∷ []
section_id part = []

abbrev pub section_link : Part → List (List ℕ)
section_link (MarkupPart FailedLink) = codes "failed" ∷ []
section_link (MarkupPart NewLink) = codes "new" ∷ []
section_link (MarkupPart SummaryLink) = codes "summary" ∷ []
section_link (MarkupPart TimelineLink) = codes "timeline" ∷ []
section_link (MarkupPart TreeLink) = codes "tree" ∷ []
section_link part = []

-- ---- names, statuses and durations

-- Whether a list is in another one, in one piece.
pub record IsPartOf {X : Type 0} (inner whole : List X) : Type 0 where
  pub before : List X
  pub after : List X
  pub splits : before ++ (inner ++ after) ≡ whole

-- Whether parts are what an element of others contains: they are between its tags, and each element that begins in them ends in them.
abbrev pub IsInside : Markup → Markup → List Part → List Part → Type 0
IsInside start end inside whole =
    IsPartOf (MarkupPart start ∷ (inside ++ MarkupPart end ∷ [])) whole × (nests_in [] (flat_map markup_tag inside) ≡ true)

-- Whether some parts begin with others.
abbrev pub BeginWith : List Part → List Part → Type 0
BeginWith beginning parts = (rest : List Part) × (beginning ++ rest ≡ parts)

module _ (logs : List Log) (nodes : List Node) where
  -- The name of the target whose log is at a position.
  abbrev pub target_name : ℕ → List ℕ
  target_name position = target_at logs (node_at nodes position).number

  -- A link has this name, or one of these texts.
  abbrev pub IsLinkText : List (List ℕ) → ℕ → List Part → Type 0
  IsLinkText texts position after =
      BeginWith (name_parts (target_name position) ++ MarkupPart EndLink ∷ []) after
      ⊎ ((text : List ℕ) × (is_one_of text texts ≡ true) × BeginWith (TextPart text ∷ MarkupPart EndLink ∷ []) after)

  -- A log begins with this name, and with the facts of its target: its status, how long it took, and counts. What was done about a lock
  -- may be between them.
  abbrev pub IsLogHeading : List Part → ℕ → List Part → Type 0
  IsLogHeading start position after =
      BeginWith (start ++ (name_parts (target_name position) ++ facts_parts (node_at nodes position))) after
      ⊎ ((how : How)
      × BeginWith (start ++ (name_parts (target_name position) ++ (how_parts true how ++ facts_parts (node_at nodes position)))) after)

  -- An article begins with this name, the status of the target, how long it took, at most four logs around it, and a link to its place.
  abbrev pub IsArticleHeading : ℕ → List Part → Type 0
  IsArticleHeading position after =
      BeginWith (MarkupPart Title3
      ∷ (name_parts (target_name position)
      ++ (badge_parts (node_at nodes position).status
      ++ (MarkupPart EndTitle3 ∷ MarkupPart MetaParagraph
      ∷ (article_took (node_at nodes position).took
      ++ (path_parts logs nodes 4 (node_at nodes position).parent
      ++ MarkupPart (TargetLink position) ∷ TextPart PLACE_IN_TREE.now ∷ MarkupPart EndLink ∷ MarkupPart EndParagraph ∷ []))))))
      after

  -- A link with the name of a target, the status of the target, and what follows them.
  abbrev pub linked_with : Markup → ℕ → List Part → List Part
  linked_with link position rest =
      MarkupPart link
      ∷ (name_parts (target_name position) ++ (MarkupPart EndLink ∷ (badge_parts (node_at nodes position).status ++ rest)))

  -- An item of a list: a link with the name of its target, the status of the target, and a line.
  abbrev pub item_with : List Part → (ℕ → Markup) → ℕ → List Part
  item_with line link position = MarkupPart Item ∷ linked_with (link position) position (line ++ MarkupPart EndItem ∷ [])

  -- A list of these targets, up to its end. `line` is the line of each one.
  abbrev pub target_list : (ℕ → Markup) → (ℕ → List Part) → List ℕ → List Part
  target_list link line positions = flat_map (λ position. item_with (line position) link position) positions ++ MarkupPart EndOrdered ∷ []

  -- A line that says why the target failed.
  abbrev pub cause_at : ℕ → List Part
  cause_at position = cause_parts (cause_of (printed_by logs (node_at nodes position)))

  -- A list of targets, with such lines or without lines.
  abbrev pub IsList : (ℕ → Markup) → List Part → Type 0
  IsList link after =
      (causes : Bool) × (positions : List ℕ) × BeginWith (target_list link (λ position. parts_if causes (cause_at position)) positions) after

  -- Whether parts have a list of these targets, unless there are none. It names at most 200.
  abbrev pub IsListed : (ℕ → List Part) → List Part → List ℕ → Type 0
  IsListed line parts positions =
      0 < length positions → IsPartOf (target_list (λ position. TargetLink position) line (take 200 positions)) parts

  -- The lists of what failed: the targets with articles, if there are several; the other root failures; the dependent failures; and the targets
  -- at the ends of paths that have no record of how they ended. The first two lists say why each target failed.
  pub record ListsFailures (parts : List Part) : Type 0 where
    pub with_articles : 1 < length (articles nodes) → IsPartOf (target_list (λ position. OutputLink position) cause_at (articles nodes)) parts
    pub others : IsListed cause_at parts (drop max_articles (root_failures nodes))
    pub dependents : IsListed (λ position. []) parts (positions_where is_dependent_failure 0 nodes)
    pub unclosed : IsListed (λ position. []) parts (positions_where is_unclosed 0 nodes)

  -- An item of a list of lines: the line is one of the log that the link leads to.
  abbrev pub line_item : Rank → List Part
  line_item rank =
      item_with (cause_parts (slice_get (printed_by logs (node_at nodes rank.position)) rank.value)) (λ position. TargetLink position) rank.position

  -- A list of these lines, up to its end.
  abbrev pub line_list : List Rank → List Part
  line_list ranks = flat_map line_item ranks ++ MarkupPart EndOrdered ∷ []

  -- A row of a table: a link with the name of its target, the status of the target, and a value.
  abbrev pub IsRowWith : List Part → ℕ → List Part → Type 0
  IsRowWith value position after =
      BeginWith
      (linked_with (TargetLink position) position
      (MarkupPart EndRowHeading ∷ MarkupPart NumberCell ∷ (value ++ MarkupPart EndCell ∷ []))) after

  -- `recipes` is what is known of recipes, by the numbers of their logs. `spans` are the spans of recipes that ran no others.
  module _ (recipes : List RecipeFacts) (spans : List Span) where
    -- The value is how long the target took, how many warnings it has, how much memory its recipe had, or how long the recipe was the only
    -- one that ran.
    abbrev pub IsRow : List Part → Type 0
    IsRow after =
        ((position : ℕ) × (took : ℕ) × ((node_at nodes position).took ≡ Some took) × IsRowWith (words_parts (duration_words (cut took))) position after)
        ⊎ (((position : ℕ) × IsRowWith (NumberPart (node_at nodes position).warnings ∷ []) position after)
        ⊎ (((position : ℕ) × (usage : Usage) × (usage_at recipes (node_at nodes position).number ≡ Some usage)
        × IsRowWith (words_parts (size_words (saturated (usage.peak_kb * 1024)))) position after)
        ⊎ ((span : Span) × Contains spans span
        × IsRowWith (words_parts (duration_words (cut (alone spans span)))) span.position after)))

    -- The parts after a link to a target or to its article, after a tag with the id of one of these, and after the start of a list of
    -- targets or of a row.
    abbrev pub TellsItsTarget : Markup → List Part → Type 0
    TellsItsTarget (TargetLink position) after = IsLinkText (PLACE_IN_TREE.now ∷ IN_ITS_LOG.now ∷ []) position after
    TellsItsTarget (OutputLink position) after = IsLinkText (SHOWN_ABOVE.now ∷ []) position after
    TellsItsTarget (TargetItem position) after = IsLogHeading [] position after
    TellsItsTarget (Details position) after = IsLogHeading (MarkupPart Summary ∷ []) position after
    TellsItsTarget (OpenDetails position) after = IsLogHeading (MarkupPart Summary ∷ []) position after
    TellsItsTarget (Article position) after = IsArticleHeading position after
    TellsItsTarget Ordered after =
        (IsList (λ position. OutputLink position) after ⊎ IsList (λ position. TargetLink position) after)
        ⊎ ((lines : List Rank) × BeginWith (line_list lines) after)
    TellsItsTarget (OrderedFrom number) after = IsList (λ position. TargetLink position) after
    TellsItsTarget RowHeading after = IsRow after
    TellsItsTarget tag after = Unit {0}

-- The facts about the target of a node: its log has the node's number, and its status and its times are as the logs say.
pub record IsOfTarget (logs : List Log) (events : List Event) (times : List Times) (node : Node) : Type 0 where
  pub log : log_number (target_at logs node.number) logs ≡ Some node.number
  pub status : node.status ≡ target_status logs events node.number
  pub took : node.took ≡ duration_of times node.number
  pub ended : node.ended ≡ (times_of times node.number).ended

-- ---- numbers

-- A number, and words that depend on it.
abbrev pub number_of : ℕ → List ℕ → List ℕ → List ℕ
number_of number one many = number_text number ++ plural number one many

-- A heading, with a sign before it.
abbrev pub heading_with : List ℕ → List ℕ → List Part
heading_with sign text =
    MarkupPart Title1 ∷ MarkupPart Sign ∷ TextPart sign ∷ MarkupPart EndSign ∷ TextPart (codes " ") ∷ TextPart text ∷ MarkupPart EndTitle1 ∷ []

-- A term, and its description.
abbrev pub tile : List ℕ → List Part → List Part
tile term value =
    MarkupPart Div ∷ MarkupPart Term ∷ TextPart term ∷ MarkupPart EndTerm ∷ MarkupPart Description
    ∷ (value ++ MarkupPart EndDescription ∷ MarkupPart EndDiv ∷ [])

-- The tags that begin a heading of the page, or a list of terms.
abbrev pub heading_tag : Part → List Markup
heading_tag (MarkupPart Title1) = Title1 ∷ []
heading_tag (MarkupPart DescriptionList) = DescriptionList ∷ []
heading_tag part = []

-- Whether the summary has sums of times, and the page a timeline: there is a span, and at most a tenth of the spans and marks are marks.
abbrev pub are_timed : List Target → Bool
are_timed targets =
    nat_lt 0 (length (callers_of targets) + length (recipes_of targets))
    && nat_le (length (marks_of targets) * 10) (length (callers_of targets) + length (recipes_of targets) + length (marks_of targets))

module _ (nodes : List Node) where
  -- The number of targets that failed without a failure below them, and the number of targets that failed with these.
  abbrev pub root_count : ℕ
  root_count = length (root_failures nodes)

  abbrev pub dependent_count : ℕ
  dependent_count = length (positions_where is_dependent_failure 0 nodes)

  -- The heading: how many targets failed; else how many are unfinished, if a requested one is; else how many were made.
  abbrev pub heading_shown : List Part
  heading_shown =
      if nat_lt 0 root_count then heading_with FAILED_SIGN.now (number_text root_count ++ (OF.now ++ number_of (length nodes) TARGET_FAILED.now TARGETS_FAILED.now))
      else if list_any is_unfinished nodes then heading_with UNFINISHED_SIGN.now (number_text (unfinished_count nodes) ++ (OF.now ++ number_of (length nodes) TARGET_UNFINISHED.now TARGETS_UNFINISHED.now))
      else heading_with MADE_SIGN.now (number_of (length nodes) TARGET_MADE.now TARGETS_MADE.now)

  -- The summary. Times that are unknown are left out.
  abbrev pub summary_shown : List Target → Option ℕ → List Part
  summary_shown targets processor =
      let took = time_over (known_times targets) in
      let sum = sum_of (recipes_of targets) in
      MarkupPart DescriptionList
      ∷ ((tile TARGETS.now (NumberPart (length nodes) ∷ [])
      ++ (tile FAILED.now (NumberPart root_count ∷ parts_if (not (dependent_count == 0)) (TextPart AND_COUNT.now ∷ NumberPart dependent_count ∷ TextPart DEPENDENT.now ∷ []))
      ++ (tile WARNED_LINES.now (NumberPart (warnings_of nodes) ∷ [])
      ++ (tile LOGS.now (words_parts (size_words (bytes_of nodes)))
      ++ (parts_if (is_some (window_over (known_times targets))) (tile TOOK.now (words_parts (duration_words took)))
      ++ (parts_if (are_timed targets)
      (tile SUM_OF_TIMES.now (words_parts (duration_words sum))
      ++ tile AT_ONCE.now (words_parts (tenths_words sum took) ++ TextPart AT_MOST.now ∷ NumberPart (most_of (recipes_of targets)) ∷ []))
      ++ parts_if (is_some processor) (tile PROCESSOR_TIME.now (words_parts (duration_words (unwrap_or processor 0))))))))))
      ++ MarkupPart EndDescriptionList ∷ [])

-- When the build began, if this has a date, and how long it took, if any time is known. `times` are the known times.
abbrev pub took_shown : List ℕ → List Part
took_shown times =
    parts_if (is_some (window_over times))
    (MarkupPart MetaParagraph
    ∷ (began_parts (window_over times)
    ++ TextPart BUILD_TOOK.now ∷ (words_parts (duration_words (time_over times)) ++ MarkupPart EndParagraph ∷ [])))

-- The name and the status of a target, if it was requested and its log is in no other one.
abbrev pub requested_shown : List Log → Node → List Part
requested_shown logs node =
    parts_if (is_none node.parent)
    (MarkupPart Paragraph ∷ (name_parts (target_at logs node.number) ++ (badge_parts node.status ++ MarkupPart EndParagraph ∷ [])))

-- How many logs the page shows, from which directory, and the command that prints them as text.
abbrev pub end_shown : Request → List (List ℕ) → List Node → List Part
end_shown request requested nodes =
    NumberPart (length nodes) ∷ TextPart (plural (length nodes) LOG_IN.now LOGS_IN.now) ∷ MarkupPart Code ∷ TextPart request.dir ∷ MarkupPart EndCode
    ∷ TextPart AS_ONE_TEXT.now ∷ MarkupPart Code ∷ TextPart (command request.dir (options_of request) requested) ∷ MarkupPart EndCode ∷ []

-- The tokens of a tag, of words and of a number. Any other part is `Lost` here, which no page has. So what is read has no such part.
abbrev pub text_tokens : Part → List Token
text_tokens (MarkupPart markup) = Tag (markup_text markup) ∷ []
text_tokens (TextPart text) = passage_tokens Monochrome plain_style text
text_tokens (NumberPart number) = map Character (number_text number)
text_tokens part = Lost ∷ []

-- A browser reads these tags, words and numbers in a page, next to each other.
abbrev pub IsRead : List Part → Request → List Log → List (List ℕ) → Type 0
IsRead inner request logs requested = IsPartOf (flat_map text_tokens inner) (read (page_html request logs requested))

-- ---- what failed

-- Whether one target ended before another. A known end is before an unknown one.
abbrev pub EndsBefore : Option ℕ → Option ℕ → Type 0
EndsBefore (Some ended) (Some other) = ended < other
EndsBefore (Some ended) None = Unit {0}
EndsBefore None other = ⊥

-- A target ended before another one; or their ends are equal, or both unknown, and it is before the other one in the tree.
abbrev pub IsListedBefore : List Node → ℕ → ℕ → Type 0
IsListedBefore nodes position other =
    EndsBefore (node_at nodes position).ended (node_at nodes other).ended
    ⊎ (((node_at nodes position).ended ≡ (node_at nodes other).ended) × (position < other))

-- Among the targets below each dependent failure is a root failure. `take node.below nodes` are the nodes of the targets below.
abbrev pub ContainRoots : List Node → Type 0
ContainRoots [] = Unit {0}
ContainRoots (node ∷ nodes) =
    (is_dependent_failure node ≡ true → list_any is_root_failure (take node.below nodes) ≡ true) × ContainRoots nodes

-- ---- what is new

-- The values of the ranks at a position.
abbrev pub values_at : ℕ → List Rank → List ℕ
values_at position ranks = map (λ (rank : Rank). rank.value) (filter (λ (rank : Rank). rank.position == position) ranks)

-- Whether the line at a position is a warning or an error.
abbrev pub IsDiagnosticAt : List (List ℕ) → ℕ → Type 0
IsDiagnosticAt lines position = (line : List ℕ) × (slice_get lines position ≡ Some line) × (is_some (parts_of line) ≡ true)

module _ (baseline : BaselineValue) (logs : List Log) (nodes : List Node) where
  -- Whether a rank is the line of a warning or an error in the log of a node.
  abbrev pub IsLineOfNode : Rank → Type 0
  IsLineOfNode rank =
      (rank.position < length nodes) × IsDiagnosticAt (printed_by logs (node_at nodes rank.position)) rank.value

  -- Whether these are the lines of the new diagnostics of each node, in order, and each one is a warning or an error.
  pub record AreNewLines (lines : List Rank) : Type 0 where
    pub each : (position : ℕ) → position < length nodes →
        values_at position lines ≡ map (λ (one : OccurrenceValue). one.line) (new_in baseline logs (node_at nodes position))
    pub of_nodes : AllByRecursion IsLineOfNode lines

  -- The sentence that has the numbers.
  abbrev pub news_shown : List Part
  news_shown =
      let lines = length (new_lines baseline logs 0 nodes) in
      let failing = length (newly_failing baseline logs nodes) in
      MarkupPart QuietParagraph
      ∷ (parts_if (lines == 0 && failing == 0) (TextPart NOTHING_NEW.now ∷ [])
      ++ TextPart NEW_LINES.now ∷ NumberPart lines ∷ TextPart GONE.now ∷ NumberPart (gone_count baseline logs nodes)
      ∷ TextPart NEWLY_FAILING.now ∷ NumberPart failing ∷ TextPart FIXED.now ∷ NumberPart (length (fixed_since baseline logs nodes))
      ∷ TextPart SENTENCE_END.now ∷ MarkupPart EndParagraph ∷ [])

  -- The lists of what is new: the lines with new warnings and errors, the targets that newly fail, and the fixed ones.
  pub record ListsNews (parts : List Part) : Type 0 where
    pub lines : 0 < length (new_lines baseline logs 0 nodes) →
        IsPartOf (line_list logs nodes (take 200 (new_lines baseline logs 0 nodes))) parts
    pub failing : IsListed logs nodes (λ position. []) parts (newly_failing baseline logs nodes)
    pub fixed : IsListed logs nodes (λ position. []) parts (fixed_since baseline logs nodes)

-- The item that leads to the section.
abbrev pub news_link : List Part
news_link = MarkupPart Item ∷ MarkupPart NewLink ∷ TextPart NEW_SINCE.now ∷ MarkupPart EndLink ∷ MarkupPart EndItem ∷ []

-- A page has the section of what is new, and the item that leads to it. Without them, it is another page.
pub record HasNewSection (page other : List Part) : Type 0 where
  pub before : List Part
  pub middle : List Part
  pub inside : List Part
  pub after : List Part
  pub with_both : before ++ (news_link ++ (middle ++ (MarkupPart NewSection ∷ (inside ++ MarkupPart EndSection ∷ after)))) ≡ page
  pub without : before ++ (middle ++ after) ≡ other
  pub one_section : flat_map section_id inside ≡ []

-- ---- recipes

-- Parts show the directory of a recipe and, of its last ten commands, each one that has at most 40,000 bytes, as a block with every byte.
pub record ShowsRecipe (recipe : RecipeFacts) (parts : List Part) : Type 0 where
  pub directory : (path : List ℕ) → recipe.directory ≡ Some path → IsPartOf (TextPart DIRECTORY.now ∷ name_parts path) parts
  pub commands :
      AllByRecursion
      (λ (command : RecipeCommand). length command.text ≤ 40000 → IsPartOf (MarkupPart Pre ∷ TextPart command.text ∷ MarkupPart EndPre ∷ []) parts)
      (drop (length recipe.commands - 10) recipe.commands)

-- ---- charts

-- The charts of parts.
abbrev pub part_chart : Part → List Drawing
part_chart (ChartPart drawing) = drawing ∷ []
part_chart part = []

-- ---- text lines

-- The text of logs in parts, in order.
abbrev pub log_text : Part → List ℕ
log_text (LogPart style text) = text
log_text part = []

-- The text line that an event shows, if it shows one.
abbrev pub event_lines : Event → List (List ℕ)
event_lines (EntryShown depth (Text line)) = line ∷ []
event_lines event = []

-- A text line, and the position of the log that contains it.
pub record PositionedLine : Type 0 where
  pub position : Option ℕ
  pub line : List ℕ

-- The text lines of some contents, in order. `around` is the position of the log that contains them, and `position` the next log's position.
abbrev pub positioned_lines : Option ℕ → ℕ → Contents → List PositionedLine
positioned_lines around position Nothing = []
positioned_lines around position (Shown event rest) =
    map (λ (line : List ℕ). record { position = around; line = line }) (event_lines event) ++ positioned_lines around position rest
positioned_lines around position (Opened event number inside rest) =
    positioned_lines (Some position) (suc position) inside ++ positioned_lines around (suc position + log_count inside) rest

abbrev pub texts_of : List PositionedLine → List (List ℕ)
texts_of lines = map (λ (positioned : PositionedLine). positioned.line) lines

-- Whether bytes are the beginnings of some lines, in order. Other lines may be left out.
abbrev pub AreBeginnings : List ℕ → List (List ℕ) → Type 0
AreBeginnings bytes [] = bytes ≡ []
AreBeginnings bytes (line ∷ lines) =
    AreBeginnings bytes lines ⊎ ((size : ℕ) × (rest : List ℕ) × (bytes ≡ take size line ++ rest) × AreBeginnings rest lines)

-- Lines with their line feeds.
abbrev pub positioned_bytes : List PositionedLine → List ℕ
positioned_bytes lines = flat_map with_line_feed (texts_of lines)

-- No log has as many as 2^64 bytes of text lines.
abbrev pub AreCountable : List Log → Type 0
AreCountable logs = AllByRecursion (λ (log : Log). text_size (facts.texts_of log.entries) < 2 ^ 64) logs

-- The lines of the log at a position.
abbrev pub lines_at : ℕ → List PositionedLine → List PositionedLine
lines_at position lines = filter (λ (positioned : PositionedLine). option_eq nat_eq positioned.position (Some position)) lines

-- Whether the output of the log at a position is in its article, and not in the tree.
abbrev pub is_moved_at : List Node → Option ℕ → Bool
is_moved_at nodes position = is_in_article (articles nodes) nodes position

-- The lines of the logs whose output isn't in an article.
abbrev pub unmoved_lines : List Node → List PositionedLine → List PositionedLine
unmoved_lines nodes lines = filter (λ (positioned : PositionedLine). not (is_moved_at nodes positioned.position)) lines

-- Whether the log that contains a line is the one at a position, or one of the `below` logs below it. These have the next positions.
abbrev pub is_within : ℕ → ℕ → Option ℕ → Bool
is_within position below None = false
is_within position below (Some other) = nat_le position other && nat_le other (position + below)

module _ (request : Request) (logs : List Log) (requested : List (List ℕ)) where
  abbrev pub page_lines : List PositionedLine
  page_lines = positioned_lines None 0 (contents_of (page_events request logs requested))

  -- Those that are left in the tree.
  abbrev pub kept_lines : List PositionedLine
  kept_lines = positioned_lines None 0 (page_contents request logs requested)

  -- The lines that are left of the log at a position and of the logs below it.
  abbrev pub kept_within : ℕ → List PositionedLine
  kept_within position =
      filter (λ line. is_within position (node_at (page_outline request logs requested) position).below line.position) kept_lines

  -- The largest number of bytes that the tree shows: the limit that was asked for, but at least 4,096 bytes for each log.
  abbrev pub budget_of_tree : ℕ
  budget_of_tree = max request.max_bytes (4096 * length (page_outline request logs requested))

  -- The limit of the log at a position.
  abbrev pub page_limit : ℕ → Limit
  page_limit position =
      limit_of (tree_limits logs (page_outline request logs requested) request.max_bytes) (node_at (page_outline request logs requested) position).number

  -- What the section of the tree contains.
  abbrev pub IsTree : List Part → Type 0
  IsTree inside = IsInside TreeSection EndSection inside (page_parts request logs requested)

  -- What the element of the log at a position contains.
  abbrev pub IsLog : ℕ → List Part → Type 0
  IsLog position inside =
      IsInside (Details position) EndDetails inside (page_parts request logs requested)
      ⊎ IsInside (OpenDetails position) EndDetails inside (page_parts request logs requested)

  -- What the article about the target at a position contains.
  abbrev pub IsArticle : ℕ → List Part → Type 0
  IsArticle position inside = IsInside (Article position) EndArticle inside (page_parts request logs requested)

  -- The shown targets, with their times.
  abbrev pub page_targets : List Target
  page_targets = targets_of (page_outline request logs requested) request.times

  -- The processor time of the recipes that ran no others, if it is known.
  abbrev pub page_processor : Option ℕ
  page_processor = processor_of (known_usages (page_outline request logs requested) request.recipes (recipes_of page_targets))

  -- Whether the page has a timeline, with this window.
  abbrev pub HasTimeline : Window → Type 0
  HasTimeline window = (window_over (known_times page_targets) ≡ Some window) × (are_timed page_targets ≡ true)

  -- Each chart of the page draws these spans as its bars of one kind.
  abbrev pub ChartsDraw : Window → GroupKind → List Span → Type 0
  ChartsDraw window kind spans =
      AllByRecursion (λ drawing. DrawsAll logs (page_outline request logs requested) window kind spans (shapes_of kind drawing))
      (flat_map part_chart (page_parts request logs requested))

-- ---- tags

-- Whether a tag is a page's own: the text of a `Markup`, a highlight, a tag of the title or of the style sheet, or a tag of a chart.
abbrev pub IsOwnTag : List ℕ → Type 0
IsOwnTag tag =
    ((markup : Markup) × (tag ≡ markup_text markup))
    ⊎ (((is_highlight tag || is_one_of tag (codes "title" ∷ codes "/title" ∷ codes "style" ∷ codes "/style" ∷ [])) ≡ true) ⊎ IsChartTag tag)

-- The tag of a part, without highlights.
abbrev pub markup_of : Part → List Markup
markup_of (MarkupPart markup) = markup ∷ []
markup_of part = []

module _ (rename : List ℕ → List ℕ) where
  -- An event, with targets renamed, and with notes and text lines blanked.
  abbrev pub blank_event : Event → Event
  blank_event (Requested name opening) = Requested (rename name) opening
  blank_event (Mentioned depth pid how name opening) = Mentioned depth pid how (rename name) opening
  blank_event (EntryShown depth (Text line)) = EntryShown depth (Text (map (λ byte. 32) line))
  blank_event (EntryShown depth (Done pid status name)) = EntryShown depth (Done pid status (rename name))
  blank_event (EntryShown depth (Note pid kind text)) = EntryShown depth (Note pid [] [])
  blank_event event = event

  abbrev pub blanked : Contents → Contents
  blanked Nothing = Nothing
  blanked (Shown event rest) = Shown (blank_event event) (blanked rest)
  blanked (Opened event number inside rest) = Opened (blank_event event) number (blanked inside) (blanked rest)

module _ (request : Request) (logs : List Log) (requested : List (List ℕ)) where
  -- Another page has the same outline, and the same contents except for the names of targets, notes and the bytes of text lines. Renamed
  -- targets have the same logs there.
  pub record HasSameShape (rename : List ℕ → List ℕ) (other : Request) (others : List Log) (other_requested : List (List ℕ)) : Type 0 where
    pub options : options_of other ≡ options_of request
    pub numbers : (name : List ℕ) → log_number (rename name) others ≡ log_number name logs
    pub outline : page_outline other others other_requested ≡ page_outline request logs requested
    pub contents : blanked (λ name. name) (page_contents other others other_requested) ≡ blanked rename (page_contents request logs requested)
