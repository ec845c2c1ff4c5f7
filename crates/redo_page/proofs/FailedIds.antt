-- The ids and the links of articles, and the positions of targets that failed.
use Rattle.std.proofs.Common.{◌≡◌, ℕ, zero, suc, ◌+◌, Bool, true, false, List, [], ◌∷◌, ◌++◌, Option, None, Some, refl, sym, ◌∙◌, ap, arith}
use Rattle.std.specs.Prelude.{◌==◌, nat_lt, drop, length, slice_get, take, if◌then◌else◌}
use Rattle.std.specs.List.{flat_map, list_all}
use Rattle.std.proofs.lemmas.Bool.{and_from, and_parts, eq-eqb, lt-ltb, or_left, or_right}
use Rattle.std.proofs.lemmas.Grind.{flat_map-append}
use Rattle.std.proofs.lemmas.List.{append_assoc, append-nil}
use Rattle.redo_facts.specs.Facts.{RecipeFacts}
use Rattle.redo_logs.specs.Logs.{Log}
use Rattle.redo_html.specs.declared.markup.Markup.TheVariants as markup
use Rattle.redo_html.specs.declared.style.Style.{Style}
use Rattle.redo_html.specs.Lines.{style_after}
use Rattle.redo_html.specs.Parts.{Part}
use Rattle.redo_html.specs.Parts.Part.{MarkupPart, LogPart, TextPart}
use Rattle.redo_html.specs.Style.{plain_style}
use Rattle.redo_line.specs.Lines.{with_line_feed}
use Rattle.redo_outline.specs.declared.node.Node.{Node}
use Rattle.redo_page.specs.declared.labels.TheConstants.{MIDDLE_DOT, PLACE_IN_TREE}
use Rattle.redo_page.specs.Errors.{cause_of, is_error}
use Rattle.redo_page.specs.Excerpt.{Stretch, cut_to, emphasized_if, error_position, excerpt_line_end, excerpt_line_parts, excerpt_parts, in_tree_parts, is_kept, left_out_parts, max_excerpt_line, stretch_parts, stretches_from}
use Rattle.redo_page.specs.Excerpt.Stretch.{Shown, LeftOut}
use Rattle.redo_units.specs.Durations.{duration_words}
use Rattle.redo_page.specs.Article.{article_of, article_parts, article_took, cause_of_node, cause_parts, line_of_node, max_path, nothing_parts, output_line_parts, output_parts, path_parts, printed_by, whole_parts}
use Rattle.redo_page.specs.Recipe.{recipe_at}
use Rattle.redo_page.specs.Tree.{articles, is_root_failure, root_failures, is_short, max_articles, node_at, positions_where, is_among}
use Rattle.redo_page.proofs.FailedOrder.{sort-passes}
use Rattle.redo_page.proofs.RecipeLemmas.{recipe_bare}
use Rattle.redo_page.proofs.Ids.{Bare, Refer, badge_bare, bare_refers, bare_then, link_refers, refer_each, same_refer, then_refer, words_bare}

-- ---- positions

-- All numbers of a list are below a number.
abbrev pub AreBelow : ℕ → List ℕ → Type 0
AreBelow count numbers = list_all (λ number. nat_lt number count) numbers ≡ true

pub all_take : (passes : ℕ → Bool) (count : ℕ) (numbers : List ℕ) → list_all passes numbers ≡ true
    → list_all passes (take count numbers) ≡ true
all_take passes zero numbers all = refl
all_take passes (suc count) [] all = refl
all_take passes (suc count) (number ∷ numbers) all =
    let parts = and_parts (passes number) (list_all passes numbers) all in
    and_from (passes number) (list_all passes (take count numbers)) parts.0 (all_take passes count numbers parts.1)

all_drop : (passes : ℕ → Bool) (count : ℕ) (numbers : List ℕ) → list_all passes numbers ≡ true → list_all passes (drop count numbers) ≡ true
all_drop passes zero numbers all = all
all_drop passes (suc count) [] all = refl
all_drop passes (suc count) (number ∷ numbers) all =
    all_drop passes count numbers (and_parts (passes number) (list_all passes numbers) all).1

roots_below : (position : ℕ) (nodes : List Node) → AreBelow (position + length nodes) (positions_where is_root_failure position nodes)
roots_below position [] = refl
roots_below position (node ∷ nodes) =
    by (is_root_failure node) (ap (λ count. list_all (λ number. nat_lt number count) (positions_where is_root_failure (suc position) nodes))
    (omega arith) ∙ roots_below (suc position) nodes)
  where
    by : (first : Bool) → AreBelow (position + length (node ∷ nodes)) (positions_where is_root_failure (suc position) nodes)
        → AreBelow (position + length (node ∷ nodes))
        (if first then position ∷ positions_where is_root_failure (suc position) nodes
        else positions_where is_root_failure (suc position) nodes)
    by true others = and_from (nat_lt position (position + length (node ∷ nodes)))
        (list_all (λ number. nat_lt number (position + length (node ∷ nodes))) (positions_where is_root_failure (suc position) nodes))
        (lt-ltb position (position + length (node ∷ nodes)) (omega arith)) others
    by false others = others

where_below : (holds : Node → Bool) (position : ℕ) (nodes : List Node)
    → AreBelow (position + length nodes) (positions_where holds position nodes)
where_below holds position [] = refl
where_below holds position (node ∷ nodes) =
    by (holds node) (ap (λ count. list_all (λ number. nat_lt number count) (positions_where holds (suc position) nodes)) (omega arith)
    ∙ where_below holds (suc position) nodes)
  where
    by : (is : Bool) → AreBelow (position + length (node ∷ nodes)) (positions_where holds (suc position) nodes)
        → AreBelow (position + length (node ∷ nodes))
        (if is then position ∷ positions_where holds (suc position) nodes else positions_where holds (suc position) nodes)
    by true others = and_from (nat_lt position (position + length (node ∷ nodes)))
        (list_all (λ number. nat_lt number (position + length (node ∷ nodes))) (positions_where holds (suc position) nodes))
        (lt-ltb position (position + length (node ∷ nodes)) (omega arith)) others
    by false others = others

-- Each number of a list is in it.
among_after : (front numbers : List ℕ) → list_all (is_among (front ++ numbers)) numbers ≡ true
among_after front [] = refl
among_after front (number ∷ numbers) =
    and_from (is_among (front ++ (number ∷ numbers)) number) (list_all (is_among (front ++ (number ∷ numbers))) numbers) (here front)
    (ap (λ list. list_all (is_among list) numbers) (sym (append_assoc front (number ∷ []) numbers))
    ∙ among_after (front ++ number ∷ []) numbers)
  where
    here : (front : List ℕ) → is_among (front ++ (number ∷ numbers)) number ≡ true
    here [] = or_left (number == number) (is_among numbers number) (eq-eqb number number refl)
    here (other ∷ front) = or_right (number == other) (is_among (front ++ (number ∷ numbers)) number) (here front)

roots_are_below : (nodes : List Node) → AreBelow (length nodes) (root_failures nodes)
roots_are_below nodes =
    sort-passes nodes (λ number. nat_lt number (length nodes)) (positions_where is_root_failure 0 nodes)
    (ap (λ count. list_all (λ number. nat_lt number count) (positions_where is_root_failure 0 nodes)) (omega arith) ∙ roots_below 0 nodes)

pub articles_below : (nodes : List Node) → AreBelow (length nodes) (articles nodes)
articles_below nodes = all_take (λ number. nat_lt number (length nodes)) max_articles (root_failures nodes) (roots_are_below nodes)

-- ---- paths

pub article_took_bare : (took : Option ℕ) → Bare (article_took took)
article_took_bare None = refl
article_took_bare (Some ms) = words_bare [] (TextPart MIDDLE_DOT.now ∷ []) (duration_words ms) refl refl

pub path_bare : (logs : List Log) (nodes : List Node) (levels : ℕ) (position : Option ℕ) → Bare (path_parts logs nodes levels position)
unfolding path_parts
path_bare logs nodes levels None = refl
path_bare logs nodes zero (Some position) = refl
path_bare logs nodes (suc levels) (Some position) =
    bare_then (path_parts logs nodes levels (node_at nodes position).parent) _
    (path_bare logs nodes levels (node_at nodes position).parent) refl

-- ---- excerpts

module _ (count : ℕ) (listed : List ℕ) where
  in_tree_refers : (position : ℕ) (text : List ℕ) → nat_lt position count ≡ true → Refer count listed (in_tree_parts position text) [] []
  unfolding in_tree_parts
  in_tree_refers position text below = same_refer {others = MarkupPart (markup.TargetLink position) ∷ []} refl (link_refers position below)

  left_out_refers : (position left_out : ℕ) → nat_lt position count ≡ true → Refer count listed (left_out_parts position left_out) [] []
  unfolding left_out_parts in_tree_parts
  left_out_refers position left_out below =
      same_refer {others = MarkupPart (markup.TargetLink position) ∷ []} refl (link_refers position below)

  log_refers : (style : Style) (text : List ℕ) → Refer count listed (LogPart style text ∷ []) [] []
  log_refers style text = record {
    target_ids_are = refl;
    article_ids_are = refl;
    target_links_lead = refl;
    article_links_lead = refl;
    sections_are = refl;
  }

  emphasized_refers : (condition : Bool) {parts : List Part} → Refer count listed parts [] []
      → Refer count listed (emphasized_if condition parts) [] []
  emphasized_refers true {parts} refer = same_refer {others = parts} (simp (flat_map-append, append-nil)) refer
  emphasized_refers false {parts} refer = refer

  excerpt_line_refers : (line : List ℕ) → Refer count listed (excerpt_line_parts line) [] []
  unfolding excerpt_line_parts
  excerpt_line_refers line =
      emphasized_refers (is_error line)
      {parts = LogPart plain_style (cut_to max_excerpt_line line) ∷ TextPart (excerpt_line_end line) ∷ []}
      (record {
        target_ids_are = refl;
        article_ids_are = refl;
        target_links_lead = refl;
        article_links_lead = refl;
        sections_are = refl;
      })

  stretch_refers : (position : ℕ) (stretch : Stretch) → nat_lt position count ≡ true
      → Refer count listed (stretch_parts position stretch) [] []
  stretch_refers position (Shown lines) below =
      same_refer {others = flat_map excerpt_line_parts lines} (simp (flat_map-append, append-nil))
      (refer_each excerpt_line_parts excerpt_line_refers lines)
  stretch_refers position (LeftOut left_out) below = left_out_refers position left_out below

  excerpt_refers : (position : ℕ) (lines : List (List ℕ)) → nat_lt position count ≡ true
      → Refer count listed (excerpt_parts position lines) [] []
  unfolding excerpt_parts
  excerpt_refers position lines below =
      refer_each (stretch_parts position) (λ stretch. stretch_refers position stretch below)
      (stretches_from (is_kept (length lines) (error_position lines)) 0 lines)

  lines_refer : (style : Style) (lines : List (List ℕ)) → Refer count listed (output_line_parts style lines) [] []
  lines_refer style [] = bare_refers [] refl
  lines_refer style (line ∷ lines) = then_refer
      (emphasized_refers (is_error line) {parts = LogPart style (with_line_feed line) ∷ []} (log_refers style (with_line_feed line)))
      (lines_refer (style_after style (with_line_feed line)) lines)

  whole_refers : (lines : List (List ℕ)) → Refer count listed (whole_parts lines) [] []
  unfolding whole_parts
  whole_refers lines = same_refer {others = output_line_parts plain_style lines} (simp (flat_map-append, append-nil))
      (lines_refer plain_style lines)

  nothing_refers : (node : Node) → Refer count listed (nothing_parts node) [] []
  unfolding nothing_parts
  nothing_refers node = bare_refers (nothing_parts node) refl

  cause_refers : (line : Option (List ℕ)) → Refer count listed (cause_parts line) [] []
  unfolding cause_parts
  cause_refers None = bare_refers [] refl
  cause_refers (Some line) = record {
    target_ids_are = refl;
    article_ids_are = refl;
    target_links_lead = refl;
    article_links_lead = refl;
    sections_are = refl;
  }

  -- ---- articles

  module _ (logs : List Log) (nodes : List Node) where
    output_refers : (position : ℕ) (node : Node) → nat_lt position count ≡ true → Refer count listed (output_parts logs position node) [] []
    unfolding output_parts
    output_refers position node below = by (node.lines == 0) (is_short node)
      where
        by : (none short : Bool) → Refer count listed
            (if none then nothing_parts node else if short then whole_parts (printed_by logs node)
            else excerpt_parts position (printed_by logs node)) [] []
        by true short = nothing_refers node
        by false true = whole_refers (printed_by logs node)
        by false false = excerpt_refers position (printed_by logs node) below

  module _ (logs : List Log) (nodes : List Node) (recipes : List RecipeFacts) where
    article_refers : (position : ℕ) → nat_lt position count ≡ true
        → Refer count listed (article_parts logs nodes recipes position) [] (position ∷ [])
    unfolding article_parts article_of
    article_refers position below =
        let node = node_at nodes position in
        same_refer {others = MarkupPart (markup.Article position)
        ∷ (in_tree_parts position PLACE_IN_TREE.now ++ output_parts logs position node)}
        (simp (
          flat_map-append,
          append-nil,
          badge_bare node.status,
          article_took_bare node.took,
          path_bare logs nodes
              (max_path logs nodes) node.parent,
          recipe_bare (recipe_at recipes node.number),
        ))
        (then_refer {parts = MarkupPart (markup.Article position) ∷ []}
        (record { target_ids_are = refl; article_ids_are = refl; target_links_lead = refl; article_links_lead = refl; sections_are = refl })
        (then_refer (in_tree_refers position PLACE_IN_TREE.now below) (output_refers logs nodes position node below)))

    pub articles_refer : (positions : List ℕ) → AreBelow count positions
        → Refer count listed (flat_map (article_parts logs nodes recipes) positions) [] positions
    articles_refer [] below = bare_refers [] refl
    articles_refer (position ∷ positions) below =
        let parts = and_parts (nat_lt position count) (list_all (λ number. nat_lt number count) positions) below in
        then_refer (article_refers position parts.0) (articles_refer positions parts.1)

  pub cause_of_node_refers : (logs : List Log) (node : Node) → Refer count listed (cause_of_node logs node) [] []
  unfolding cause_of_node
  cause_of_node_refers logs node = cause_refers (cause_of (printed_by logs node))

  pub line_of_node_refers : (logs : List Log) (node : Node) (position : ℕ) → Refer count listed (line_of_node logs node position) [] []
  unfolding line_of_node
  line_of_node_refers logs node position = cause_refers (slice_get (printed_by logs node) position)

-- ---- lists

pub others_below : (nodes : List Node) → AreBelow (length nodes) (drop max_articles (root_failures nodes))
others_below nodes = all_drop (λ number. nat_lt number (length nodes)) max_articles (root_failures nodes) (roots_are_below nodes)

pub where_are_below : (holds : Node → Bool) (nodes : List Node) → AreBelow (length nodes) (positions_where holds 0 nodes)
where_are_below holds nodes =
    ap (λ count. list_all (λ number. nat_lt number count) (positions_where holds 0 nodes)) (omega arith) ∙ where_below holds 0 nodes

-- Each number of a list is in it.
pub all_among : (numbers : List ℕ) → list_all (is_among numbers) numbers ≡ true
all_among numbers = among_after [] numbers
