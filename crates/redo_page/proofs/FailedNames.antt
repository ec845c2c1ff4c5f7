-- The names of targets in the sections before the tree.
use Rattle.std.proofs.Common.{◌≡◌, ℕ, ◌*◌, Bool, true, false, List, [], ◌∷◌, ◌++◌, Option, None, Some, refl, sym, ◌∙◌, ap, subst, inl, inr}
use Rattle.std.specs.Prelude.{◌==◌, ◌||◌, ◌&&◌, length, map, not, slice_get, take, if◌then◌else◌}
use Rattle.std.specs.List.{AllByRecursion, flat_map, list_all}
use Rattle.std.proofs.lemmas.Bool.{and_parts}
use Rattle.std.proofs.lemmas.List.{append_assoc}
use Rattle.redo_facts.specs.declared.statement.Usage.{Usage}
use Rattle.redo_logs.specs.Logs.{Log}
use Rattle.redo_html.specs.declared.markup.Markup.{Markup}
use Rattle.redo_html.specs.declared.markup.Markup.TheVariants as markup
use Rattle.redo_html.specs.declared.style.Style.{Style}
use Rattle.redo_html.specs.Lines.{style_after}
use Rattle.redo_html.specs.Parts.{Part}
use Rattle.redo_html.specs.Parts.Part.{ChartPart, LogPart, MarkupPart, TextPart, NumberPart}
use Rattle.redo_html.specs.Style.{plain_style}
use Rattle.redo_line.specs.Lines.{with_line_feed}
use Rattle.redo_outline.specs.declared.node.Node.{Node}
use Rattle.redo_outline.specs.Facts.{saturated, target_at}
use Rattle.redo_page.specs.declared.labels.TheConstants.{AND, COUNT_NOT_CLOSED, FAILED_WITH_THESE, FIXED, FIXED_COUNT, GONE, IN_ITS_LOG, MORE_IN_LOGS, MORE_IN_TREE, NEWLY_FAILING, NEWLY_FAILING_COUNT, NEW_LINES, NEW_SINCE, NOTHING_NEW, SENTENCE_END, MORE_FAILED, MORE_LINE, MORE_LINES, PLACE_IN_TREE, WHAT_FAILED}
use Rattle.redo_page.specs.declared.failed.TheConstants.{DEPENDENTS, LIST, OTHERS, UNCLOSED}
use Rattle.redo_page.specs.declared.news.TheConstants.{FAILING_NOW, FIXED_NOW, LINES}
use Rattle.redo_page.specs.declared.scope.Count.{Count}
use Rattle.redo_page.specs.declared.scope.Count.TheVariants.{All, Gone, New, Unlisted, UnlistedNew, Value}
use Rattle.redo_page.specs.declared.scope.Listed.{Listed}
use Rattle.redo_page.specs.declared.scope.Listed.TheVariants as listed
use Rattle.redo_page.specs.declared.scope.Measure.{Measure}
use Rattle.redo_page.specs.declared.scope.Measure.TheVariants.{Duration, Memory}
use Rattle.redo_page.specs.declared.scope.Rows.{Rows}
use Rattle.redo_page.specs.declared.scope.Rows.TheVariants.{Longest, LongestAlone, MostMemory, Warned}
use Rattle.redo_page.specs.declared.scope.Rows.TheVariants as ranking
use Rattle.redo_page.specs.declared.scope.Test.{Test}
use Rattle.redo_page.specs.declared.scope.Test.TheVariants.{HasAny, HasBaseline, HasFailed, HasNew, HasNews, HasSeveral, HasUnlisted, HasUnlistedNew}
use Rattle.redo_page.specs.declared.template.Around.TheVariants.{If, Unless, Each, EachTarget, EachOf}
use Rattle.redo_page.specs.declared.template.Item.{Item}
use Rattle.redo_page.specs.declared.template.Item.TheVariants as item
use Rattle.redo_page.specs.declared.timeline.TheConstants.{START, END}
use Rattle.redo_page.specs.Errors.{cause_of, is_error}
use Rattle.redo_page.specs.Excerpt.{Stretch, cut_to, emphasized_if, error_position, excerpt_line_end, excerpt_line_parts, excerpt_parts, in_tree_parts, is_kept, left_out_parts, max_excerpt_line, stretch_parts, stretches_from}
use Rattle.redo_page.specs.Excerpt.Stretch.{Shown, LeftOut}
use Rattle.redo_page.specs.Article.{article_of, article_parts, article_took, cause_of_node, cause_parts, line_of_node, max_path, nothing_parts, output_line_parts, output_parts, path_parts, printed_by, whole_parts}
use Rattle.redo_page.specs.Failed.{failed_parts}
use Rattle.redo_page.specs.Laws.{BeginWith, IsList, IsRow, TellsItsTarget, cause_at, item_with, line_item, target_name}
use Rattle.redo_page.specs.NewSection.{news_parts}
use Rattle.redo_page.specs.Scope.{View, count_of, holds, max_rows, measure_words, positions_of, row_name, row_view, rows_of, target_view}
use Rattle.redo_page.specs.Recipe.{recipe_at, recipe_parts}
use Rattle.redo_page.specs.Targets.{badge_parts, linked_parts, name_parts, parts_if, plural}
use Rattle.redo_page.specs.Template.{Block, Template, block_parts, parts_of_item, parts_of_items, nothing, template_parts}
use Rattle.redo_page.specs.Timeline.{facts_drawing, timeline_if, timeline_parts}
use Rattle.redo_page.specs.Tree.{is_short, node_at}
use Rattle.redo_page.specs.Words.{word_part, words_parts}
use Rattle.redo_page.proofs.FailedIds.{article_took_bare, path_bare}
use Rattle.redo_page.proofs.Ids.{Bare, badge_bare, bare_each, is_reference, is_section, word_bare}
use Rattle.redo_page.proofs.NameLemmas.{KnownRecipes, Tells, article_link_tells, bare_tell, calm_tell, is_calm, is_calm_tag, linked_tells, log_link_tells, none_tell, place_link_tells, target_link_tells, tell_each, tell_if, then_tell}
use Rattle.redo_page.proofs.RecipeLemmas.{recipe_bare}
use Rattle.redo_page.proofs.TemplateIds.{Place, began_bare, body_bare, is_row, none_refer, only_known, only_tag}
use Rattle.redo_page.proofs.TemplateIds.Place.{Outside, Failing, InTargets, InRows, InList}
use Rattle.redo_summary.specs.declared.rank.Rank.{Rank}
use Rattle.redo_summary.specs.Laws.{HasTimeAlone}
use Rattle.redo_summary.specs.Summary.{is_timed}
use Rattle.redo_summary.specs.Usage.{usage_at}
use Rattle.redo_summary.specs.Window.{cut}
use Rattle.redo_timeline.specs.Alone.{alone}
use Rattle.redo_timeline.specs.declared.span.Window.{Window}
use Rattle.redo_units.specs.Durations.{duration_words}
use Rattle.redo_units.specs.Sizes.{size_words}

-- What a view knows of recipes.
abbrev pub known_in : View → KnownRecipes
known_in view = record { facts = view.recipes; spans = view.facts.recipes }

module _ (recipes : KnownRecipes) (logs : List Log) (nodes : List Node) where
  abbrev Telling : List Part → Type 0
  Telling parts = Tells recipes logs nodes parts

  tag_tells : (tag : Markup) → is_calm (MarkupPart tag) ≡ true → Telling (MarkupPart tag ∷ [])
  tag_tells tag calm = record { before = λ rest tell. (calm_tell recipes logs nodes (MarkupPart tag ∷ []) (rw calm refl)).before rest tell }

  -- ---- outputs

  emphasized_tells : (condition : Bool) {parts : List Part} → Telling parts → Telling (emphasized_if condition parts)
  emphasized_tells true tells =
      then_tell recipes logs nodes {parts = MarkupPart markup.Emphasis ∷ []}
      (bare_tell recipes logs nodes _ refl)
      (then_tell recipes logs nodes tells (bare_tell recipes logs nodes (MarkupPart markup.EndEmphasis ∷ []) refl))
  emphasized_tells false tells = tells

  excerpt_line_tells : (line : List ℕ) → Telling (excerpt_line_parts line)
  unfolding excerpt_line_parts
  excerpt_line_tells line = emphasized_tells (is_error line)
      {parts = LogPart plain_style (cut_to max_excerpt_line line) ∷ TextPart (excerpt_line_end line) ∷ []}
      (record { before = λ rest tell. (tt, (tt, tell)) })

  left_out_tells : (position left_out : ℕ) → Telling (left_out_parts position left_out)
  unfolding left_out_parts in_tree_parts
  left_out_tells position left_out =
      then_tell recipes logs nodes
      {parts = MarkupPart markup.CutParagraph ∷ NumberPart left_out ∷ TextPart (plural left_out MORE_LINE.now MORE_LINES.now) ∷ []}
      (bare_tell recipes logs nodes _ refl)
      (then_tell recipes logs nodes
      {parts = MarkupPart (markup.TargetLink position) ∷ TextPart IN_ITS_LOG.now ∷ MarkupPart markup.EndLink ∷ []}
      (log_link_tells recipes logs nodes position) (bare_tell recipes logs nodes (MarkupPart markup.EndParagraph ∷ []) refl))

  stretch_tells : (position : ℕ) (stretch : Stretch) → Telling (stretch_parts position stretch)
  stretch_tells position (Shown lines) =
      then_tell recipes logs nodes {parts = MarkupPart markup.Pre ∷ []}
      (bare_tell recipes logs nodes _ refl)
      (then_tell recipes logs nodes (tell_each recipes logs nodes excerpt_line_parts excerpt_line_tells lines)
      (bare_tell recipes logs nodes (MarkupPart markup.EndPre ∷ []) refl))
  stretch_tells position (LeftOut left_out) = left_out_tells position left_out

  excerpt_tells : (position : ℕ) (lines : List (List ℕ)) → Telling (excerpt_parts position lines)
  unfolding excerpt_parts
  excerpt_tells position lines =
      tell_each recipes logs nodes (stretch_parts position) (stretch_tells position)
      (stretches_from (is_kept (length lines) (error_position lines)) 0 lines)

  lines_tell : (style : Style) (lines : List (List ℕ)) → Telling (output_line_parts style lines)
  lines_tell style [] = none_tell recipes logs nodes
  lines_tell style (line ∷ lines) =
      then_tell recipes logs nodes
      (emphasized_tells (is_error line) {parts = LogPart style (with_line_feed line) ∷ []} (record { before = λ rest tell. (tt, tell) }))
      (lines_tell (style_after style (with_line_feed line)) lines)

  whole_tells : (lines : List (List ℕ)) → Telling (whole_parts lines)
  unfolding whole_parts
  whole_tells lines =
      then_tell recipes logs nodes {parts = MarkupPart markup.Pre ∷ []}
      (bare_tell recipes logs nodes _ refl)
      (then_tell recipes logs nodes (lines_tell plain_style lines) (bare_tell recipes logs nodes (MarkupPart markup.EndPre ∷ []) refl))

  nothing_tells : (node : Node) → Telling (nothing_parts node)
  unfolding nothing_parts
  nothing_tells node = bare_tell recipes logs nodes (nothing_parts node) refl

  output_tells : (position : ℕ) (node : Node) → Telling (output_parts logs position node)
  unfolding output_parts
  output_tells position node = by (node.lines == 0) (is_short node)
    where
      by : (none short : Bool) → Telling
          (if none then nothing_parts node else if short then whole_parts (printed_by logs node)
          else excerpt_parts position (printed_by logs node))
      by true short = nothing_tells node
      by false true = whole_tells (printed_by logs node)
      by false false = excerpt_tells position (printed_by logs node)

  cause_tells : (line : Option (List ℕ)) → Telling (cause_parts line)
  unfolding cause_parts
  cause_tells None = none_tell recipes logs nodes
  cause_tells (Some line) = record { before = λ rest tell. (tt, (tt, (tt, (tt, tell)))) }

  cause_of_node_tells : (node : Node) → Telling (cause_of_node logs node)
  unfolding cause_of_node
  cause_of_node_tells node = cause_tells (cause_of (printed_by logs node))

  line_of_node_tells : (node : Node) (position : ℕ) → Telling (line_of_node logs node position)
  unfolding line_of_node
  line_of_node_tells node position = cause_tells (slice_get (printed_by logs node) position)

  -- ---- articles

  article_tells : (position : ℕ) → Telling (article_parts logs nodes recipes.facts position)
  unfolding article_parts article_of in_tree_parts
  article_tells position =
      let node = node_at nodes position in
      let name = name_parts (target_name logs nodes position) in
      let heading = MarkupPart markup.EndTitle3 ∷ MarkupPart markup.MetaParagraph ∷ article_took node.took in
      let path = path_parts logs nodes (max_path logs nodes) node.parent in
      let link = MarkupPart (markup.TargetLink position) ∷ TextPart PLACE_IN_TREE.now ∷ MarkupPart markup.EndLink ∷ [] in
      let recipe = recipe_parts (recipe_at recipes.facts node.number) in
      let output = recipe ++ (output_parts logs position node ++ MarkupPart markup.EndArticle ∷ []) in
      let all = then_tell recipes logs nodes {parts = MarkupPart markup.Title3 ∷ name} (bare_tell recipes logs nodes _ refl)
      (then_tell recipes logs nodes (bare_tell recipes logs nodes (badge_parts node.status) (badge_bare node.status))
      (then_tell recipes logs nodes {parts = MarkupPart markup.EndTitle3 ∷ MarkupPart markup.MetaParagraph ∷ []}
      (bare_tell recipes logs nodes _ refl)
      (then_tell recipes logs nodes (bare_tell recipes logs nodes (article_took node.took) (article_took_bare node.took))
      (then_tell recipes logs nodes (bare_tell recipes logs nodes path (path_bare logs nodes (max_path logs nodes) node.parent))
      (then_tell recipes logs nodes {parts = link} (place_link_tells recipes logs nodes position)
      (then_tell recipes logs nodes {parts = MarkupPart markup.EndParagraph ∷ []}
      (bare_tell recipes logs nodes _ refl)
      (then_tell recipes logs nodes (bare_tell recipes logs nodes recipe (recipe_bare (recipe_at recipes.facts node.number)))
      (then_tell recipes logs nodes (output_tells position node)
      (bare_tell recipes logs nodes (MarkupPart markup.EndArticle ∷ []) refl))))))))) in
      record {
        before = λ rest tell. (
          (output ++ rest, split name (badge_parts node.status) (article_took node.took) path output rest),
          all.before rest tell,
        );
      }
    where
      split : (name badge took path output rest : List Part)
          → (MarkupPart markup.Title3 ∷ (name ++ (badge ++ (MarkupPart markup.EndTitle3 ∷ MarkupPart markup.MetaParagraph
          ∷ (took ++ (path ++ (MarkupPart (markup.TargetLink position) ∷ TextPart PLACE_IN_TREE.now ∷ MarkupPart markup.EndLink
          ∷ MarkupPart markup.EndParagraph ∷ [])))))))
          ++ (output ++ rest)
          ≡ (MarkupPart markup.Title3 ∷ (name ++ (badge ++ (MarkupPart markup.EndTitle3 ∷ MarkupPart markup.MetaParagraph
          ∷ (took ++ (path ++ (MarkupPart (markup.TargetLink position) ∷ TextPart PLACE_IN_TREE.now ∷ MarkupPart markup.EndLink
          ∷ MarkupPart markup.EndParagraph ∷ output))))))) ++ rest
      split name badge took path output rest = simp (append_assoc)

-- ---- lists

module _ (view : View) where
  abbrev TellingOf : List Part → Type 0
  TellingOf parts = Tells (known_in view) view.logs view.nodes parts

  calm : (parts : List Part) → list_all is_calm parts ≡ true → TellingOf parts
  calm parts is = calm_tell (known_in view) view.logs view.nodes parts is

  -- Each link tells its target.
  abbrev LinksTell : (ℕ → Markup) → Type 0
  LinksTell link = (position : ℕ)
      → TellingOf (MarkupPart (link position) ∷ (name_parts (target_name view.logs view.nodes position) ++ MarkupPart markup.EndLink ∷ []))

  item_with_tells : (line : List Part) → TellingOf line → (link : ℕ → Markup) → LinksTell link → (position : ℕ)
      → TellingOf (item_with view.logs view.nodes line link position)
  item_with_tells line line_tells link tells position =
      let node = node_at view.nodes position in
      then_tell (known_in view) view.logs view.nodes {parts = MarkupPart markup.Item ∷ []} (calm _ refl)
      (then_tell (known_in view) view.logs view.nodes
      {parts = MarkupPart (link position) ∷ (name_parts (target_name view.logs view.nodes position) ++ MarkupPart markup.EndLink ∷ [])}
      (tells position)
      (then_tell (known_in view) view.logs view.nodes
      (bare_tell (known_in view) view.logs view.nodes (badge_parts node.status) (badge_bare node.status))
      (then_tell (known_in view) view.logs view.nodes line_tells (calm (MarkupPart markup.EndItem ∷ []) refl))))

  abbrev list_item : (ℕ → Markup) → Bool → ℕ → List Part
  list_item link causes position = item_with view.logs view.nodes (parts_if causes (cause_at view.logs view.nodes position)) link position

  item_tells_target : (link : ℕ → Markup) (causes : Bool) → LinksTell link → (position : ℕ)
      → TellingOf (list_item link causes position)
  item_tells_target link causes tells position =
      item_with_tells (parts_if causes (cause_parts (cause_of (printed_by view.logs (node_at view.nodes position)))))
      (tell_if (known_in view) view.logs view.nodes causes
      (cause_tells (known_in view) view.logs view.nodes (cause_of (printed_by view.logs (node_at view.nodes position)))))
      link tells position

  line_item_tells : (rank : Rank) → TellingOf (line_item view.logs view.nodes rank)
  line_item_tells rank =
      let line = slice_get (printed_by view.logs (node_at view.nodes rank.position)) rank.value in
      item_with_tells (cause_parts line) (cause_tells (known_in view) view.logs view.nodes line) (λ position. markup.TargetLink position)
      (target_link_tells (known_in view) view.logs view.nodes) rank.position

  rows_split : (rows others rest : List Part)
      → (rows ++ MarkupPart markup.EndOrdered ∷ []) ++ (others ++ rest) ≡ (rows ++ (MarkupPart markup.EndOrdered ∷ others)) ++ rest
  rows_split rows others rest = simp (append_assoc)

  -- A list, and the parts after it.
  items_then : {X : Type 0} (item : X → List Part) → ((x : X) → TellingOf (item x)) → (list : Markup) (xs : List X)
      → ((rest : List Part) → BeginWith (flat_map item xs ++ MarkupPart markup.EndOrdered ∷ []) rest
      → TellsItsTarget view.logs view.nodes view.recipes view.facts.recipes list rest)
      → (others : List Part) → TellingOf others
      → TellingOf (MarkupPart list ∷ (flat_map item xs ++ (MarkupPart markup.EndOrdered ∷ others)))
  items_then item tells list xs says others more =
      let rows = flat_map item xs in
      let all = then_tell (known_in view) view.logs view.nodes (tell_each (known_in view) view.logs view.nodes item tells xs)
      (then_tell (known_in view) view.logs view.nodes {parts = MarkupPart markup.EndOrdered ∷ []} (calm _ refl) more) in
      record {
        before = λ rest tell. (
          says ((rows ++ (MarkupPart markup.EndOrdered ∷ others)) ++ rest) (others ++ rest, rows_split rows others rest),
          all.before rest tell,
        );
      }

  -- A list of targets, and the parts after it.
  list_then : (link : ℕ → Markup) (causes : Bool) → LinksTell link → (list : Markup)
      → ((after : List Part) → IsList view.logs view.nodes link after
      → TellsItsTarget view.logs view.nodes view.recipes view.facts.recipes list after)
      → (positions : List ℕ) (others : List Part) → TellingOf others
      → TellingOf (MarkupPart list
      ∷ (flat_map (list_item link causes) positions ++ (MarkupPart markup.EndOrdered ∷ others)))
  list_then link causes tells list says positions others more =
      items_then (list_item link causes) (item_tells_target link causes tells) list positions
      (λ rest begins. says rest (causes, positions, begins)) others more

  abbrev in_list : Block (Block (Unit {0})) → List Part
  in_list list = block_parts (block_parts nothing) list view

  abbrev listed_of : Listed → List ℕ
  listed_of these = take max_rows (positions_of view these)

  list_tells : TellingOf (in_list LIST)
  unfolding cause_of_node
  list_tells =
      list_then (λ position. markup.OutputLink position) true (article_link_tells (known_in view) view.logs view.nodes) markup.Ordered
      (λ after is. inl (inl is))
      (listed_of listed.Articles) [] (none_tell (known_in view) view.logs view.nodes)

  -- How many targets aren't listed, and the end of more targets.
  abbrev unlisted : Listed → List Part
  unlisted these =
      MarkupPart markup.QuietParagraph ∷ TextPart AND.now ∷ NumberPart (count_of view (Unlisted these)) ∷ TextPart MORE_IN_TREE.now
      ∷ MarkupPart markup.EndParagraph ∷ []

  abbrev more_end : Listed → List Part
  more_end these = parts_if (holds view (HasUnlisted these)) (unlisted these) ++ MarkupPart markup.EndDetails ∷ []

  more_end_tells : (these : Listed) → TellingOf (more_end these)
  more_end_tells these =
      then_tell (known_in view) view.logs view.nodes {parts = parts_if (holds view (HasUnlisted these)) (unlisted these)}
      (tell_if (known_in view) view.logs view.nodes (holds view (HasUnlisted these)) (calm (unlisted these) refl))
      (calm (MarkupPart markup.EndDetails ∷ []) refl)

  more_tell : (list : Markup) (causes : Bool)
      → ((after : List Part) → IsList view.logs view.nodes (λ position. markup.TargetLink position) after
      → TellsItsTarget view.logs view.nodes view.recipes view.facts.recipes list after)
      → (these : Listed) (heading : List ℕ)
      → TellingOf (MarkupPart markup.MoreDetails ∷ MarkupPart markup.Summary ∷ NumberPart (count_of view (All these)) ∷ TextPart heading
      ∷ MarkupPart markup.EndSummary ∷ MarkupPart list
      ∷ (flat_map (list_item (λ position. markup.TargetLink position) causes) (listed_of these)
      ++ (MarkupPart markup.EndOrdered ∷ more_end these)))
  more_tell list causes says these heading =
      then_tell (known_in view) view.logs view.nodes
      {parts = MarkupPart markup.MoreDetails ∷ MarkupPart markup.Summary ∷ NumberPart (count_of view (All these)) ∷ TextPart heading
      ∷ MarkupPart markup.EndSummary ∷ []} (calm _ refl)
      (list_then (λ position. markup.TargetLink position) causes (target_link_tells (known_in view) view.logs view.nodes) list says
      (listed_of these)
      (more_end these) (more_end_tells these))

  others_tell : TellingOf (in_list OTHERS)
  unfolding cause_of_node
  others_tell = more_tell (markup.OrderedFrom 11) true (λ after is. is) listed.Others MORE_FAILED.now

  dependents_tell : TellingOf (in_list DEPENDENTS)
  dependents_tell = more_tell markup.Ordered false (λ after is. inl (inr is)) listed.Dependents FAILED_WITH_THESE.now

  unclosed_tell : TellingOf (in_list UNCLOSED)
  unclosed_tell = more_tell markup.Ordered false (λ after is. inl (inr is)) listed.Unclosed COUNT_NOT_CLOSED.now

  failing_tell : TellingOf (in_list FAILING_NOW)
  failing_tell = more_tell markup.Ordered false (λ after is. inl (inr is)) listed.NewlyFailing NEWLY_FAILING_COUNT.now

  fixed_tell : TellingOf (in_list FIXED_NOW)
  fixed_tell = more_tell markup.Ordered false (λ after is. inl (inr is)) listed.Fixed FIXED_COUNT.now

  lines_tell_news : TellingOf (in_list LINES)
  unfolding line_of_node
  lines_tell_news =
      let unlisted_lines = MarkupPart markup.QuietParagraph ∷ TextPart AND.now ∷ NumberPart (count_of view UnlistedNew)
      ∷ TextPart MORE_IN_LOGS.now ∷ MarkupPart markup.EndParagraph ∷ [] in
      items_then (line_item view.logs view.nodes) line_item_tells markup.Ordered (take max_rows view.news.lines)
      (λ rest begins. inr (take max_rows view.news.lines, begins))
      (parts_if (holds view HasUnlistedNew) unlisted_lines ++ [])
      (then_tell (known_in view) view.logs view.nodes
      (tell_if (known_in view) view.logs view.nodes (holds view HasUnlistedNew) (calm unlisted_lines refl))
      (none_tell (known_in view) view.logs view.nodes))

  pub news_tell : TellingOf (news_parts view)
  unfolding news_parts
  news_tell =
      let some = λ (test : Test) (parts : List Part) (tells : TellingOf parts).
      tell_if (known_in view) view.logs view.nodes (holds view test) {parts = parts} tells in
      then_tell (known_in view) view.logs view.nodes
      (tell_if (known_in view) view.logs view.nodes (holds view HasBaseline)
      (then_tell (known_in view) view.logs view.nodes
      {parts = MarkupPart markup.NewSection ∷ MarkupPart markup.NewHeading ∷ TextPart NEW_SINCE.now ∷ MarkupPart markup.EndHeading
      ∷ MarkupPart markup.QuietParagraph ∷ []} (calm _ refl)
      (then_tell (known_in view) view.logs view.nodes
      {parts = parts_if (not (holds view HasNews)) (TextPart NOTHING_NEW.now ∷ [])}
      (tell_if (known_in view) view.logs view.nodes (not (holds view HasNews)) (calm _ refl))
      (then_tell (known_in view) view.logs view.nodes
      {parts = TextPart NEW_LINES.now ∷ NumberPart (count_of view New) ∷ TextPart GONE.now ∷ NumberPart (count_of view Gone)
      ∷ TextPart NEWLY_FAILING.now ∷ NumberPart (count_of view (All listed.NewlyFailing)) ∷ TextPart FIXED.now
      ∷ NumberPart (count_of view (All listed.Fixed)) ∷ TextPart SENTENCE_END.now ∷ MarkupPart markup.EndParagraph ∷ []} (calm _ refl)
      (then_tell (known_in view) view.logs view.nodes (some HasNew (in_list LINES) lines_tell_news)
      (then_tell (known_in view) view.logs view.nodes (some (HasAny listed.NewlyFailing) (in_list FAILING_NOW) failing_tell)
      (then_tell (known_in view) view.logs view.nodes (some (HasAny listed.Fixed) (in_list FIXED_NOW) fixed_tell)
      (calm (MarkupPart markup.EndSection ∷ []) refl))))))))
      (none_tell (known_in view) view.logs view.nodes)

  pub failed_tells : TellingOf (failed_parts view)
  unfolding failed_parts
  failed_tells =
      let some = λ (test : Test) (parts : List Part) (tells : TellingOf parts).
      tell_if (known_in view) view.logs view.nodes (holds view test) {parts = parts} tells in
      then_tell (known_in view) view.logs view.nodes
      (tell_if (known_in view) view.logs view.nodes (holds view HasFailed)
      (then_tell (known_in view) view.logs view.nodes
      {parts = MarkupPart markup.FailedSection ∷ MarkupPart markup.FailedHeading ∷ TextPart WHAT_FAILED.now ∷ MarkupPart markup.EndHeading
      ∷ []} (calm _ refl)
      (then_tell (known_in view) view.logs view.nodes (some (HasSeveral listed.Articles) (in_list LIST) list_tells)
      (then_tell (known_in view) view.logs view.nodes
      (tell_each (known_in view) view.logs view.nodes (article_parts view.logs view.nodes view.recipes)
      (article_tells (known_in view) view.logs view.nodes)
      (positions_of view listed.Articles))
      (then_tell (known_in view) view.logs view.nodes (some (HasAny listed.Others) (in_list OTHERS) others_tell)
      (then_tell (known_in view) view.logs view.nodes (some (HasAny listed.Dependents) (in_list DEPENDENTS) dependents_tell)
      (then_tell (known_in view) view.logs view.nodes (some (HasAny listed.Unclosed) (in_list UNCLOSED) unclosed_tell)
      (calm (MarkupPart markup.EndSection ∷ []) refl))))))))
      (none_tell (known_in view) view.logs view.nodes)

-- ---- templates

-- The value of a row is how long its target took or was the only one that ran, how much memory its recipe had, or how many warnings it has.
abbrev pub IsValueOf : KnownRecipes → Rows → Node → Rank → Type 0
IsValueOf recipes Longest node rank = (took : ℕ) × (node.took ≡ Some took) × (rank.value ≡ cut took)
IsValueOf recipes LongestAlone node rank = HasTimeAlone recipes.spans rank
IsValueOf recipes MostMemory node rank =
    (usage : Usage) × (usage_at recipes.facts node.number ≡ Some usage) × (rank.value ≡ usage.peak_kb)
IsValueOf recipes Warned node rank = rank.value ≡ node.warnings
IsValueOf recipes ranking.New node rank = Unit {0}

abbrev IsRank : View → Rows → Rank → Type 0
IsRank view rows rank = IsValueOf (known_in view) rows (node_at view.nodes rank.position) rank

abbrev pub HasValues : View → Type 0
HasValues view = (rows : Rows) → AllByRecursion (IsRank view rows) (rows_of view rows)

-- In a row, a view has the target at the row's position, and its value.
abbrev IsNamedRow : Place → View → Type 0
IsNamedRow (InRows rows) view =
    (node_at view.nodes view.rank.position ≡ view.node)
    × IsValueOf (known_in view) rows (node_at view.nodes view.rank.position) view.rank
IsNamedRow Failing view = ⊥
IsNamedRow (InList these) view = ⊥
IsNamedRow place view = Unit {0}

-- ---- the items of rows

abbrev ends_heading : Markup → Bool
ends_heading markup.EndRowHeading = true
ends_heading tag = false

abbrev begins_cell : Markup → Bool
begins_cell markup.NumberCell = true
begins_cell tag = false

abbrev ends_cell : Markup → Bool
ends_cell markup.EndCell = true
ends_cell tag = false

abbrev is_duration : Measure → Bool
is_duration Duration = true
is_duration measure = false

abbrev is_memory : Measure → Bool
is_memory Memory = true
is_memory measure = false

abbrev is_count : Count → Bool
is_count Value = true
is_count count = false

module _ {T B : Type 0} where
  abbrev is_heading : Item T B → Bool
  is_heading (item.Tag tag) = is_row tag
  is_heading item = false

  abbrev is_link : Item T B → Bool
  is_link item.Link = true
  is_link item = false

  abbrev is_badge : Item T B → Bool
  is_badge item.Badge = true
  is_badge item = false

  abbrev is_heading_end : Item T B → Bool
  is_heading_end (item.Tag tag) = ends_heading tag
  is_heading_end item = false

  abbrev is_cell : Item T B → Bool
  is_cell (item.Tag tag) = begins_cell tag
  is_cell item = false

  abbrev is_cell_end : Item T B → Bool
  is_cell_end (item.Tag tag) = ends_cell tag
  is_cell_end item = false

  abbrev is_value : Rows → Item T B → Bool
  is_value Longest (item.Measure measure) = is_duration measure
  is_value LongestAlone (item.Measure measure) = is_duration measure
  is_value MostMemory (item.Measure measure) = is_memory measure
  is_value Warned (item.Number count) = is_count count
  is_value rows item = false

  abbrev begin_with : List (Item T B → Bool) → List (Item T B) → Bool
  begin_with [] items = true
  begin_with (test ∷ tests) [] = false
  begin_with (test ∷ tests) (item ∷ items) = test item && begin_with tests items

  -- A test that nothing passes is among these.
  never_begin : (first rest : List (Item T B → Bool)) (items : List (Item T B))
      → begin_with (first ++ (λ item. false) ∷ rest) items ≡ true → ⊥
  never_begin [] rest [] is = absurd (cc)
  never_begin [] rest (item ∷ items) is = absurd (cc)
  never_begin (test ∷ first) rest [] is = absurd (cc)
  never_begin (test ∷ first) rest (item ∷ items) is =
      never_begin first rest items (and_parts (test item) (begin_with (first ++ (λ item. false) ∷ rest) items) is).1

  -- Whether items are the rest of a row: the name of its target, the status, and the value.
  abbrev begin_row : Place → List (Item T B) → Bool
  begin_row (InRows rows) items =
      begin_with (is_link ∷ is_badge ∷ is_heading_end ∷ is_cell ∷ is_value rows ∷ is_cell_end ∷ []) items
  begin_row place items = false

  abbrev only_rows : (Place → B → Bool) → Place → List (Item T B) → Bool
  only_rows inner place [] = true
  only_rows inner place (item ∷ items) =
      only_known inner place item && ((not (is_heading item) || begin_row place items) && only_rows inner place items)

abbrev block_rows : {B : Type 0} → (Place → B → Bool) → Place → Block B → Bool
block_rows inner place block = only_rows inner place block.now

abbrev pub template_rows : Template → Bool
template_rows = block_rows (block_rows (block_rows (block_rows none_refer))) Outside

-- The parts of a template for the build of a view.
pub record TellsOfViews {B : Type 0} (parts : B → View → List Part) (only : Place → B → Bool) : Type 0 where
  pub tells : (place : Place) (block : B) → only place block ≡ true → (view : View) → HasValues view → IsNamedRow place view
      → Tells (known_in view) view.logs view.nodes (parts block view)

-- A tag outside of loops is a link or an id of a section, or none.
tag_calm : (place : Place) (view : View) → IsNamedRow place view → (tag : Markup) → only_tag place tag ≡ true → is_row tag ≡ false
    → is_calm_tag tag ≡ true
tag_calm place view row tag is plain = by tag (outside place row is)
  where
    no_row : (reference : Bool) → (not reference || is_row tag) ≡ true → not reference ≡ true
    no_row false is = refl
    no_row true is = absurd (cc)

    outside : (place : Place) → IsNamedRow place view → only_tag place tag ≡ true → only_tag Outside tag ≡ true
    outside Outside row is = is
    outside InTargets row is = ap (λ b. b || is_section tag) is
    outside Failing row is = absurd row
    outside (InList these) row is = absurd row
    outside (InRows rows) row is = ap (λ b. b || is_section tag) (no_row (is_reference tag) is)

    by : (tag : Markup) → only_tag Outside tag ≡ true → is_calm_tag tag ≡ true
    by (markup.TargetLink number) is = absurd (cc)
    by (markup.OutputLink number) is = absurd (cc)
    by (markup.Article number) is = absurd (cc)
    by (markup.TargetItem number) is = absurd (cc)
    by (markup.Details number) is = absurd (cc)
    by (markup.OpenDetails number) is = absurd (cc)
    by markup.Ordered is = absurd (cc)
    by (markup.OrderedFrom number) is = absurd (cc)
    by markup.RowHeading is = absurd (cc)
    by tag is = refl

module _ {T B : Type 0} (text_of : T → List ℕ) (inner : B → View → List Part) (view : View) where
  abbrev shown : Item T B → List Part
  shown item = parts_of_item text_of inner view item

  abbrev all_shown : List (Item T B) → List Part
  all_shown items = parts_of_items text_of inner view items

  -- The parts of an item that passes a test.
  record Step : Type 0 where
    test : Item T B → Bool
    parts : List Part
    sound : (item : Item T B) → test item ≡ true → parts ≡ shown item

  abbrev tests : List Step → List (Item T B → Bool)
  tests steps = map (λ (step : Step). step.test) steps

  abbrev steps_parts : List Step → List Part
  steps_parts steps = flat_map (λ (step : Step). step.parts) steps

  steps_shown : (steps : List Step) (items : List (Item T B)) → begin_with (tests steps) items ≡ true
      → BeginWith (steps_parts steps) (all_shown items)
  steps_shown [] items is = (all_shown items, refl)
  steps_shown (step ∷ steps) [] is = absurd (cc)
  steps_shown (step ∷ steps) (item ∷ items) is =
      let both = and_parts (step.test item) (begin_with (tests steps) items) is in
      let more = steps_shown steps items both.1 in (
        more.0,
        append_assoc step.parts (steps_parts steps) more.0 ∙ ap (λ (t : List Part). step.parts ++ t) more.1
            ∙ ap (λ (t : List Part). t ++ all_shown items) (step.sound item both.0),
      )

  heading_shown : (item : Item T B) → is_heading item ≡ true → MarkupPart markup.RowHeading ∷ [] ≡ shown item
  heading_shown (item.Tag tag) is = by tag is
    where
      by : (tag : Markup) → is_row tag ≡ true → MarkupPart markup.RowHeading ∷ [] ≡ MarkupPart tag ∷ []
      by markup.RowHeading is = refl
      by tag is = absurd (cc)
  heading_shown item is = absurd (cc)

  link_sound : (item : Item T B) → is_link item ≡ true → linked_parts (Some view.rank.position) (row_name view) ≡ shown item
  link_sound item.Link is = refl
  link_sound item is = absurd (cc)

  abbrev link_step : Step
  link_step = record { test = is_link; parts = linked_parts (Some view.rank.position) (row_name view); sound = link_sound }

  badge_sound : (item : Item T B) → is_badge item ≡ true → badge_parts view.node.status ≡ shown item
  badge_sound item.Badge is = refl
  badge_sound item is = absurd (cc)

  abbrev badge_step : Step
  badge_step = record { test = is_badge; parts = badge_parts view.node.status; sound = badge_sound }

  heading_end_sound : (item : Item T B) → is_heading_end item ≡ true → MarkupPart markup.EndRowHeading ∷ [] ≡ shown item
  heading_end_sound (item.Tag tag) is = by tag is
    where
      by : (tag : Markup) → ends_heading tag ≡ true → MarkupPart markup.EndRowHeading ∷ [] ≡ MarkupPart tag ∷ []
      by markup.EndRowHeading is = refl
      by tag is = absurd (cc)
  heading_end_sound item is = absurd (cc)

  abbrev heading_end_step : Step
  heading_end_step = record { test = is_heading_end; parts = MarkupPart markup.EndRowHeading ∷ []; sound = heading_end_sound }

  cell_sound : (item : Item T B) → is_cell item ≡ true → MarkupPart markup.NumberCell ∷ [] ≡ shown item
  cell_sound (item.Tag tag) is = by tag is
    where
      by : (tag : Markup) → begins_cell tag ≡ true → MarkupPart markup.NumberCell ∷ [] ≡ MarkupPart tag ∷ []
      by markup.NumberCell is = refl
      by tag is = absurd (cc)
  cell_sound item is = absurd (cc)

  abbrev cell_step : Step
  cell_step = record { test = is_cell; parts = MarkupPart markup.NumberCell ∷ []; sound = cell_sound }

  cell_end_sound : (item : Item T B) → is_cell_end item ≡ true → MarkupPart markup.EndCell ∷ [] ≡ shown item
  cell_end_sound (item.Tag tag) is = by tag is
    where
      by : (tag : Markup) → ends_cell tag ≡ true → MarkupPart markup.EndCell ∷ [] ≡ MarkupPart tag ∷ []
      by markup.EndCell is = refl
      by tag is = absurd (cc)
  cell_end_sound item is = absurd (cc)

  abbrev cell_end_step : Step
  cell_end_step = record { test = is_cell_end; parts = MarkupPart markup.EndCell ∷ []; sound = cell_end_sound }

  abbrev value_parts : Rows → List Part
  value_parts Longest = words_parts (duration_words view.rank.value)
  value_parts LongestAlone = words_parts (duration_words view.rank.value)
  value_parts MostMemory = words_parts (size_words (saturated (view.rank.value * 1024)))
  value_parts Warned = NumberPart view.rank.value ∷ []
  value_parts ranking.New = []

  value_sound : (rows : Rows) (item : Item T B) → is_value rows item ≡ true → value_parts rows ≡ shown item
  value_sound Longest (item.Measure measure) is = by measure is
    where
      by : (measure : Measure) → is_duration measure ≡ true
          → words_parts (duration_words view.rank.value) ≡ words_parts (measure_words view measure)
      by Duration is = refl
      by measure is = absurd (cc)
  value_sound LongestAlone (item.Measure measure) is = by measure is
    where
      by : (measure : Measure) → is_duration measure ≡ true
          → words_parts (duration_words view.rank.value) ≡ words_parts (measure_words view measure)
      by Duration is = refl
      by measure is = absurd (cc)
  value_sound MostMemory (item.Measure measure) is = by measure is
    where
      by : (measure : Measure) → is_memory measure ≡ true
          → words_parts (size_words (saturated (view.rank.value * 1024))) ≡ words_parts (measure_words view measure)
      by Memory is = refl
      by measure is = absurd (cc)
  value_sound Warned (item.Number count) is = by count is
    where
      by : (count : Count) → is_count count ≡ true → NumberPart view.rank.value ∷ [] ≡ NumberPart (count_of view count) ∷ []
      by Value is = refl
      by count is = absurd (cc)
  value_sound Longest item is = absurd (cc)
  value_sound LongestAlone item is = absurd (cc)
  value_sound MostMemory item is = absurd (cc)
  value_sound Warned item is = absurd (cc)
  value_sound ranking.New item is = absurd (cc)

  abbrev value_step : Rows → Step
  value_step rows = record { test = is_value rows; parts = value_parts rows; sound = value_sound rows }

  abbrev row_steps : Rows → List Step
  row_steps rows = link_step ∷ badge_step ∷ heading_end_step ∷ cell_step ∷ value_step rows ∷ cell_end_step ∷ []

  -- The row of a node with this value.
  abbrev row_of : Node → List Part → List Part
  row_of node value =
      MarkupPart (markup.TargetLink view.rank.position)
      ∷ (name_parts (target_at view.logs node.number)
      ++ (MarkupPart markup.EndLink ∷ (badge_parts node.status
      ++ (MarkupPart markup.EndRowHeading ∷ MarkupPart markup.NumberCell ∷ (value ++ MarkupPart markup.EndCell ∷ [])))))

  -- The row of the node at a position.
  abbrev row_at : ℕ → List Part → List Part
  row_at position value =
      MarkupPart (markup.TargetLink position)
      ∷ (name_parts (target_name view.logs view.nodes position)
      ++ (MarkupPart markup.EndLink ∷ (badge_parts (node_at view.nodes position).status
      ++ (MarkupPart markup.EndRowHeading ∷ MarkupPart markup.NumberCell ∷ (value ++ MarkupPart markup.EndCell ∷ [])))))

  row_shown : (rows : Rows) (items : List (Item T B)) → begin_row (InRows rows) items ≡ true → IsNamedRow (InRows rows) view
      → (rest : List Part) → IsRow view.logs view.nodes view.recipes view.facts.recipes (all_shown items ++ rest)
  row_shown rows items is row rest = by rows is row.1 (rows_begin rows (steps_shown (row_steps rows) items is))
    where
      rows_begin : (rows : Rows) → BeginWith (steps_parts (row_steps rows)) (all_shown items)
          → BeginWith (row_of (node_at view.nodes view.rank.position) (value_parts rows)) (all_shown items ++ rest)
      rows_begin rows begins =
          subst (λ (node : Node). BeginWith (row_of node (value_parts rows)) (all_shown items ++ rest)) (sym row.0) (
            begins.0 ++ rest,
            sym (append_assoc (row_of view.node (value_parts rows)) begins.0 rest) ∙ ap (λ (t : List Part). t ++ rest) begins.1,
          )

      by : (rows : Rows) → begin_row (InRows rows) items ≡ true
          → IsValueOf (known_in view) rows (node_at view.nodes view.rank.position) view.rank
          → BeginWith (row_of (node_at view.nodes view.rank.position) (value_parts rows)) (all_shown items ++ rest)
          → IsRow view.logs view.nodes view.recipes view.facts.recipes (all_shown items ++ rest)
      by ranking.New is value begins =
          absurd (never_begin (is_link ∷ is_badge ∷ is_heading_end ∷ is_cell ∷ []) (is_cell_end ∷ []) items is)
      by Longest is value begins =
          inl (
            view.rank.position,
            value.0,
            value.1,
            subst (λ (n : ℕ). BeginWith (row_of (node_at view.nodes view.rank.position) (words_parts (duration_words n)))
                (all_shown items ++ rest)) value.2 begins,
          )
      by LongestAlone is value begins =
          inr (inr (inr (
            value.0,
            value.1,
            subst (λ (position : ℕ). BeginWith (row_at position (words_parts (duration_words (cut (alone view.facts.recipes value.0)))))
                (all_shown items ++ rest)) (sym value.2)
                (subst (λ (n : ℕ). BeginWith (row_at view.rank.position (words_parts (duration_words n))) (all_shown items ++ rest)) value.3
                begins),
          )))
      by MostMemory is value begins =
          inr (inr (inl (
            view.rank.position,
            value.0,
            value.1,
            subst (λ (n : ℕ). BeginWith (row_of (node_at view.nodes view.rank.position) (words_parts (size_words (saturated (n * 1024)))))
                (all_shown items ++ rest)) value.2 begins,
          )))
      by Warned is value begins =
          inr (inl (
            view.rank.position,
            subst (λ (n : ℕ). BeginWith (row_of (node_at view.nodes view.rank.position) (NumberPart n ∷ [])) (all_shown items ++ rest))
                value begins,
          ))

module _ {B : Type 0} (inner : B → View → List Part) (only : Place → B → Bool) (inner_tells : TellsOfViews inner only)
    (view : View) (values : HasValues view) where
  abbrev Here : List Part → Type 0
  Here parts = Tells (known_in view) view.logs view.nodes parts

  bare : (parts : List Part) → Bare parts → Here parts
  bare parts is = bare_tell (known_in view) view.logs view.nodes parts is

  ranks_tell : (rows : Rows) (block : B) → only (InRows rows) block ≡ true → (all ranks : List Rank)
      → AllByRecursion (IsRank view rows) ranks → Here (flat_map (λ rank. inner block (row_view view all rank)) ranks)
  ranks_tell rows block is all [] have = none_tell (known_in view) view.logs view.nodes
  ranks_tell rows block is all (rank ∷ ranks) have =
      then_tell (known_in view) view.logs view.nodes
      (inner_tells.tells (InRows rows) block is (row_view view all rank) values (refl, have.0)) (ranks_tell rows block is all ranks have.1)

  targets_tell : (block : B) → only InTargets block ≡ true → (nodes : List Node)
      → Here (flat_map (λ node. inner block (target_view view node)) nodes)
  targets_tell block is [] = none_tell (known_in view) view.logs view.nodes
  targets_tell block is (node ∷ nodes) =
      then_tell (known_in view) view.logs view.nodes (inner_tells.tells InTargets block is (target_view view node) values tt)
      (targets_tell block is nodes)

  item_tells : {T : Type 0} (text_of : T → List ℕ) (place : Place) (item : Item T B) → only_known only place item ≡ true
      → is_heading item ≡ false → IsNamedRow place view → Here (parts_of_item text_of inner view item)
  item_tells text_of place (item.Tag tag) is plain row =
      tag_tells (known_in view) view.logs view.nodes tag (tag_calm place view row tag is plain)
  item_tells text_of place item.Body is plain row = bare _ (body_bare view.verdict)
  item_tells text_of place item.TabTitle is plain row = bare _ refl
  item_tells text_of place item.StyleSheet is plain row = bare _ refl
  item_tells text_of place (item.Text text) is plain row = bare _ refl
  item_tells text_of place (item.Phrase phrase) is plain row = bare _ refl
  item_tells text_of place item.Date is plain row = bare _ (began_bare view.facts.window)
  item_tells text_of place (item.Tile term) is plain row = bare _ refl
  item_tells text_of place item.EndTile is plain row = bare _ refl
  item_tells text_of place (item.Number number) is plain row = bare _ refl
  item_tells text_of place (item.Measure measure) is plain row = bare _ (bare_each word_part word_bare (measure_words view measure))
  item_tells text_of place item.Name is plain row = bare _ refl
  item_tells text_of (InRows rows) item.Link is plain row =
      linked_tells (known_in view) view.logs view.nodes (Some view.rank.position) (row_name view)
      (ap (λ (node : Node). target_at view.logs node.number) row.0)
  item_tells text_of Outside item.Link is plain row = absurd (cc)
  item_tells text_of InTargets item.Link is plain row = absurd (cc)
  item_tells text_of Failing item.Link is plain row = absurd row
  item_tells text_of (InList these) item.Link is plain row = absurd row
  item_tells text_of Outside item.ArticleLink is plain row = absurd (cc)
  item_tells text_of Failing item.ArticleLink is plain row = absurd row
  item_tells text_of InTargets item.ArticleLink is plain row = absurd (cc)
  item_tells text_of (InRows rows) item.ArticleLink is plain row = absurd (cc)
  item_tells text_of (InList these) item.ArticleLink is plain row = absurd row
  item_tells text_of place item.Cause is plain row = cause_of_node_tells (known_in view) view.logs view.nodes view.node
  item_tells text_of place item.Line is plain row =
      line_of_node_tells (known_in view) view.logs view.nodes view.node view.rank.value
  item_tells text_of place item.Articles is plain row =
      tell_each (known_in view) view.logs view.nodes (article_parts view.logs view.nodes view.recipes)
      (article_tells (known_in view) view.logs view.nodes)
      (positions_of view listed.Articles)
  item_tells text_of place item.Badge is plain row = bare _ (badge_bare view.node.status)
  item_tells text_of place item.Meter is plain row = bare _ refl
  item_tells text_of place (item.In (If test) block) is plain row =
      tell_if (known_in view) view.logs view.nodes (holds view test) (inner_tells.tells place block is view values row)
  item_tells text_of place (item.In (Unless test) block) is plain row =
      tell_if (known_in view) view.logs view.nodes (not (holds view test)) (inner_tells.tells place block is view values row)
  item_tells text_of place (item.In (Each rows) block) is plain row =
      ranks_tell rows block is (rows_of view rows) (rows_of view rows) (values rows)
  item_tells text_of place (item.In EachTarget block) is plain row = targets_tell block is view.nodes
  item_tells text_of Outside (item.In (EachOf these) block) is plain row = absurd (cc)
  item_tells text_of Failing (item.In (EachOf these) block) is plain row = absurd row
  item_tells text_of InTargets (item.In (EachOf these) block) is plain row = absurd (cc)
  item_tells text_of (InRows rows) (item.In (EachOf these) block) is plain row = absurd (cc)
  item_tells text_of (InList these) (item.In (EachOf named) block) is plain row = absurd row

  items_tell : {T : Type 0} (text_of : T → List ℕ) (place : Place) (items : List (Item T B))
      → only_rows only place items ≡ true → IsNamedRow place view → Here (parts_of_items text_of inner view items)
  items_tell text_of place [] is row = none_tell (known_in view) view.logs view.nodes
  items_tell text_of place (item ∷ items) is row =
      let known = and_parts (only_known only place item) ((not (is_heading item) || begin_row place items) && only_rows only place items)
      is in
      let rows = and_parts (not (is_heading item) || begin_row place items) (only_rows only place items) known.1 in
      by (is_heading item) refl known.0 rows.0 (items_tell text_of place items rows.1 row)
    where
      here : (place : Place) → begin_row place items ≡ true → IsNamedRow place view → (rest : List Part)
          → IsRow view.logs view.nodes view.recipes view.facts.recipes (parts_of_items text_of inner view items ++ rest)
      here (InRows rows) is row rest = row_shown text_of inner view rows items is row rest
      here Outside is row rest = absurd (cc)
      here Failing is row rest = absurd row
      here (InList these) is row rest = absurd row
      here InTargets is row rest = absurd (cc)

      by : (heading : Bool) → is_heading item ≡ heading → only_known only place item ≡ true
          → (not heading || begin_row place items) ≡ true
          → Here (parts_of_items text_of inner view items) → Here (parts_of_items text_of inner view (item ∷ items))
      by true heading known begins more =
          subst (λ (parts : List Part). Here (parts ++ parts_of_items text_of inner view items))
          (heading_shown text_of inner view item heading)
          (record { before = λ rest tell. (here place begins row rest, more.before rest tell) })
      by false plain known begins more = then_tell (known_in view) view.logs view.nodes (item_tells text_of place item known plain row) more

block_tells : {B : Type 0} (inner : B → View → List Part) (only : Place → B → Bool) → TellsOfViews inner only
    → TellsOfViews (block_parts inner) (block_rows only)
block_tells inner only inner_tells = record {
  tells = λ place block is view values row. items_tell inner only inner_tells view values (λ text. text.now) place block.now is row;
}

nothing_tells_any : TellsOfViews nothing none_refer
nothing_tells_any = record { tells = λ place block is view values row. none_tell (known_in view) view.logs view.nodes }

pub template_tells : (template : Template) → template_rows template ≡ true → (view : View) → HasValues view
    → Tells (known_in view) view.logs view.nodes (template_parts template view)
template_tells template is view values =
    (block_tells _ _ (block_tells _ _ (block_tells _ _ (block_tells nothing none_refer nothing_tells_any)))).tells
    Outside template is view values tt

-- ---- the timeline

pub timeline_tells : (view : View) → HasValues view → Tells (known_in view) view.logs view.nodes (timeline_parts view)
timeline_tells view values = by view.facts.window
  where
    by : (window : Option Window) → Tells (known_in view) view.logs view.nodes (timeline_if view window)
    by None = none_tell (known_in view) view.logs view.nodes
    by (Some window) =
        tell_if (known_in view) view.logs view.nodes (is_timed view.facts)
        (then_tell (known_in view) view.logs view.nodes (template_tells START refl view values)
        (then_tell (known_in view) view.logs view.nodes {parts = ChartPart (facts_drawing view.logs view.nodes view.facts window) ∷ []}
        (calm_tell (known_in view) view.logs view.nodes _ refl) (template_tells END refl view values)))
