-- The text lines in articles.
use Rattle.std.proofs.Common.{◌≡◌, ℕ, suc, ◌<◌, Bool, true, false, List, [], ◌∷◌, ◌++◌, length, map, refl, sym, ◌∙◌, ap, subst, inl, inr, arith}
use Rattle.std.specs.Prelude.{◌==◌, ◌&&◌, not, nat_le, take, if◌then◌else◌}
use Rattle.std.specs.List.{flat_map}
use Rattle.std.proofs.lemmas.Bool.{and_parts, leb-false, not-true}
use Rattle.std.proofs.lemmas.Grind.{flat_map-append}
use Rattle.std.proofs.lemmas.List.{append-nil, append_assoc, take-append-le}
use Rattle.std.proofs.Math.Seq.{take-append_seam, take-length}
use Rattle.redo_line.specs.Lines.{line_feed, with_line_feed}
use Rattle.redo_facts.specs.Facts.{RecipeFacts}
use Rattle.redo_logs.specs.Logs.{Log}
use Rattle.redo_html.specs.declared.markup.Markup.TheVariants as markup
use Rattle.redo_html.specs.declared.style.Style.{Style}
use Rattle.redo_html.specs.Lines.{style_after}
use Rattle.redo_html.specs.Parts.{Part}
use Rattle.redo_html.specs.Cut.{last_where, may_cut}
use Rattle.redo_html.specs.Parts.Part.{MarkupPart, LogPart, TextPart}
use Rattle.redo_html.specs.Style.{plain_style}
use Rattle.redo_outline.specs.declared.node.Node.{Node}
use Rattle.redo_page.specs.declared.labels.TheConstants.{PLACE_IN_TREE}
use Rattle.redo_page.specs.Errors.{is_error}
use Rattle.redo_page.specs.Excerpt.{Stretch, cut_to, emphasized_if, error_position, excerpt_line_end, excerpt_line_parts, excerpt_parts, in_tree_parts, is_kept, left_out_parts, max_excerpt_line, stretch_parts, stretches_from, with_left_out, with_shown}
use Rattle.redo_page.specs.Excerpt.Stretch.{Shown, LeftOut}
use Rattle.redo_page.specs.Article.{article_of, article_parts, max_path, nothing_parts, output_line_parts, output_parts, printed_by, whole_parts}
use Rattle.redo_page.specs.Laws.{AreBeginnings, log_text}
use Rattle.redo_page.proofs.PartNames.{log_bytes}
use Rattle.redo_page.specs.Recipe.{recipe_at}
use Rattle.redo_page.specs.Tree.{is_short, node_at}
use Rattle.redo_page.proofs.Ids.{badge_bare}
use Rattle.redo_page.proofs.FailedIds.{article_took_bare, path_bare}
use Rattle.redo_page.proofs.LimitLemmas.{last_within}
use Rattle.redo_page.proofs.RecipeLemmas.{recipe_bare}
use Rattle.redo_page.proofs.TreeLines.{same_text}

emphasized_text : (condition : Bool) (parts : List Part) → log_bytes (emphasized_if condition parts) ≡ log_bytes parts
emphasized_text true parts = flat_map-append log_text parts (MarkupPart markup.EndEmphasis ∷ []) ∙ append-nil (log_bytes parts)
emphasized_text false parts = refl

lines_text : (style : Style) (lines : List (List ℕ)) → log_bytes (output_line_parts style lines) ≡ flat_map with_line_feed lines
lines_text style [] = refl
lines_text style (line ∷ lines) =
    let first : List Part = LogPart style (with_line_feed line) ∷ [] in
    let next = style_after style (with_line_feed line) in
    flat_map-append log_text (emphasized_if (is_error line) first) (output_line_parts next lines)
    ∙ ap (λ t. t ++ log_bytes (output_line_parts next lines)) (emphasized_text (is_error line) first ∙ append-nil (with_line_feed line))
    ∙ ap (λ t. with_line_feed line ++ t) (lines_text next lines)

whole_text : (lines : List (List ℕ)) → log_bytes (whole_parts lines) ≡ flat_map with_line_feed lines
unfolding whole_parts
whole_text lines =
    flat_map-append log_text (output_line_parts plain_style lines) (MarkupPart markup.EndPre ∷ [])
    ∙ append-nil (log_bytes (output_line_parts plain_style lines)) ∙ lines_text plain_style lines

output_text : (logs : List Log) (position : ℕ) (node : Node) → is_short node ≡ true
    → log_bytes (output_parts logs position node) ≡ flat_map with_line_feed (printed_by logs node)
unfolding output_parts
output_text logs position node short =
    let parts = and_parts (not (node.lines == 0)) (nat_le node.lines 300 && nat_le node.bytes 40000) short in
    by (node.lines == 0) (is_short node) (not-true (node.lines == 0) parts.0) short
  where
    by : (none is : Bool) → none ≡ false → is ≡ true
        → log_bytes (if none then nothing_parts node else if is then whole_parts (printed_by logs node)
        else excerpt_parts position (printed_by logs node)) ≡ flat_map with_line_feed (printed_by logs node)
    by none is some short_is = rw (some, short_is) (whole_text (printed_by logs node))

in_tree_text : (position : ℕ) (text : List ℕ) → log_bytes (in_tree_parts position text) ≡ []
unfolding in_tree_parts
in_tree_text position text = refl

-- ---- excerpts

line_beginning : (line : List ℕ) → (size : ℕ) × (cut_to max_excerpt_line line ≡ take size (with_line_feed line))
unfolding cut_to
line_beginning line = by (nat_le (length line) max_excerpt_line) refl
  where
    by : (whole : Bool) → nat_le (length line) max_excerpt_line ≡ whole
        → (size : ℕ) × ((if whole then line else take (last_where (may_cut line) max_excerpt_line) line) ≡ take size (with_line_feed line))
    by true is = (length line, sym (take-append_seam line (line_feed ∷ [])))
    by false is =
        let size = last_where (may_cut line) max_excerpt_line in
        let within = last_within (may_cut line) max_excerpt_line in
        let more : max_excerpt_line < length line = leb-false (length line) max_excerpt_line is in
        (size, sym (take-append-le size line (line_feed ∷ []) (omega (arith, within, more))))

line_text : (line : List ℕ) → log_bytes (excerpt_line_parts line) ≡ cut_to max_excerpt_line line
unfolding excerpt_line_parts
line_text line =
    emphasized_text (is_error line) (LogPart plain_style (cut_to max_excerpt_line line) ∷ TextPart (excerpt_line_end line) ∷ [])
    ∙ append-nil (cut_to max_excerpt_line line)

none_begin : (lines : List (List ℕ)) → AreBeginnings [] lines
none_begin [] = refl
none_begin (line ∷ lines) = inl (none_begin lines)

whole_begin : (lines : List (List ℕ)) → AreBeginnings (flat_map with_line_feed lines) (map with_line_feed lines)
whole_begin [] = refl
whole_begin (line ∷ lines) =
    let bytes = with_line_feed line in
    inr (
      length bytes,
      flat_map with_line_feed lines,
      ap (λ (t : List ℕ). t ++ flat_map with_line_feed lines) (sym (take-length bytes)),
      whole_begin lines,
    )

module _ (position : ℕ) where
  abbrev bytes_of : List Stretch → List ℕ
  bytes_of stretches = log_bytes (flat_map (stretch_parts position) stretches)

  left_out_text : (count : ℕ) → log_bytes (left_out_parts position count) ≡ []
  unfolding left_out_parts in_tree_parts
  left_out_text count = refl

  stretch_text : (stretch : Stretch) (stretches : List Stretch)
      → bytes_of (stretch ∷ stretches) ≡ log_bytes (stretch_parts position stretch) ++ bytes_of stretches
  stretch_text stretch stretches = flat_map-append log_text (stretch_parts position stretch) (flat_map (stretch_parts position) stretches)

  shown_text : (lines : List (List ℕ)) → log_bytes (stretch_parts position (Shown lines)) ≡ log_bytes (flat_map excerpt_line_parts lines)
  shown_text lines = flat_map-append log_text (flat_map excerpt_line_parts lines) (MarkupPart markup.EndPre ∷ [])
      ∙ append-nil (log_bytes (flat_map excerpt_line_parts lines))

  one_text : (line : List ℕ) (lines : List (List ℕ))
      → log_bytes (flat_map excerpt_line_parts (line ∷ lines))
      ≡ cut_to max_excerpt_line line ++ log_bytes (flat_map excerpt_line_parts lines)
  one_text line lines = flat_map-append log_text (excerpt_line_parts line) (flat_map excerpt_line_parts lines)
      ∙ ap (λ (t : List ℕ). t ++ log_bytes (flat_map excerpt_line_parts lines)) (line_text line)

  one_shown : (line : List ℕ) (stretches : List Stretch)
      → bytes_of (Shown (line ∷ []) ∷ stretches) ≡ cut_to max_excerpt_line line ++ bytes_of stretches
  one_shown line stretches = stretch_text (Shown (line ∷ [])) stretches
      ∙ ap (λ (t : List ℕ). t ++ bytes_of stretches) (shown_text (line ∷ []) ∙ one_text line [] ∙ append-nil (cut_to max_excerpt_line line))

  with_shown_text : (line : List ℕ) (stretches : List Stretch)
      → bytes_of (with_shown line stretches) ≡ cut_to max_excerpt_line line ++ bytes_of stretches
  with_shown_text line [] = one_shown line []
  with_shown_text line (Shown lines ∷ stretches) =
      stretch_text (Shown (line ∷ lines)) stretches
      ∙ ap (λ (t : List ℕ). t ++ bytes_of stretches) (shown_text (line ∷ lines) ∙ one_text line lines)
      ∙ append_assoc (cut_to max_excerpt_line line) (log_bytes (flat_map excerpt_line_parts lines)) (bytes_of stretches)
      ∙ ap (λ (t : List ℕ). cut_to max_excerpt_line line ++ t)
      (sym (stretch_text (Shown lines) stretches ∙ ap (λ (t : List ℕ). t ++ bytes_of stretches) (shown_text lines)))
  with_shown_text line (LeftOut count ∷ stretches) = one_shown line (LeftOut count ∷ stretches)

  left_text : (count : ℕ) (stretches : List Stretch) → bytes_of (LeftOut count ∷ stretches) ≡ bytes_of stretches
  left_text count stretches = stretch_text (LeftOut count) stretches ∙ ap (λ (t : List ℕ). t ++ bytes_of stretches) (left_out_text count)

  with_left_text : (stretches : List Stretch) → bytes_of (with_left_out stretches) ≡ bytes_of stretches
  with_left_text [] = left_text 1 []
  with_left_text (Shown lines ∷ stretches) = left_text 1 (Shown lines ∷ stretches)
  with_left_text (LeftOut count ∷ stretches) = left_text (suc count) stretches ∙ sym (left_text count stretches)

  excerpt_begins : (kept : ℕ → Bool) (at : ℕ) (lines : List (List ℕ))
      → AreBeginnings (bytes_of (stretches_from kept at lines)) (map with_line_feed lines)
  excerpt_begins kept at [] = refl
  excerpt_begins kept at (line ∷ lines) = by (kept at) (excerpt_begins kept (suc at) lines)
    where
      others : List Stretch
      others = stretches_from kept (suc at) lines

      by : (is : Bool) → AreBeginnings (bytes_of others) (map with_line_feed lines)
          → AreBeginnings (bytes_of (if is then with_shown line others else with_left_out others)) (map with_line_feed (line ∷ lines))
      by true begin =
          let first = line_beginning line in
          inr (
            first.0,
            bytes_of others,
            with_shown_text line others ∙ ap (λ (t : List ℕ). t ++ bytes_of others) first.1,
            begin,
          )
      by false begin =
          inl (subst (λ (bytes : List ℕ). AreBeginnings bytes (map with_line_feed lines)) (sym (with_left_text others)) begin)

output_begins : (logs : List Log) (position : ℕ) (node : Node)
    → AreBeginnings (log_bytes (output_parts logs position node)) (map with_line_feed (printed_by logs node))
unfolding output_parts nothing_parts excerpt_parts
output_begins logs position node = by (node.lines == 0) (is_short node)
  where
    lines : List (List ℕ)
    lines = printed_by logs node

    by : (none short : Bool) → AreBeginnings
        (log_bytes (if none then nothing_parts node else if short then whole_parts lines else excerpt_parts position lines))
        (map with_line_feed lines)
    by true short = none_begin (map with_line_feed lines)
    by false true = subst (λ (bytes : List ℕ). AreBeginnings bytes (map with_line_feed lines)) (sym (whole_text lines)) (whole_begin lines)
    by false false = excerpt_begins position (is_kept (length lines) (error_position lines)) 0 lines

-- ---- articles

-- The text lines of an article are the lines of its output.
article_output : (logs : List Log) (nodes : List Node) (recipes : List RecipeFacts) (position : ℕ)
    → log_bytes (article_parts logs nodes recipes position) ≡ log_bytes (output_parts logs position (node_at nodes position))
unfolding article_parts article_of
article_output logs nodes recipes position =
    let node = node_at nodes position in
    let link = in_tree_parts position PLACE_IN_TREE.now in
    same_text (article_parts logs nodes recipes position) (MarkupPart (markup.Article position) ∷ (link ++ output_parts logs position node))
    (simp (
      flat_map-append,
      append-nil,
      badge_bare node.status,
      article_took_bare node.took,
      path_bare logs nodes
          (max_path logs nodes) node.parent,
      recipe_bare (recipe_at recipes node.number),
    ))
    ∙ flat_map-append log_text link (output_parts logs position node)
    ∙ ap (λ t. t ++ log_bytes (output_parts logs position node)) (in_tree_text position PLACE_IN_TREE.now)

-- An article with a short output shows it as it is.
pub article_text : (logs : List Log) (nodes : List Node) (recipes : List RecipeFacts) (position : ℕ)
    → is_short (node_at nodes position) ≡ true
    → log_bytes (article_parts logs nodes recipes position) ≡ flat_map with_line_feed (printed_by logs (node_at nodes position))
article_text logs nodes recipes position short =
    article_output logs nodes recipes position ∙ output_text logs position (node_at nodes position) short

-- Any article shows beginnings of lines.
pub article_begins : (logs : List Log) (nodes : List Node) (recipes : List RecipeFacts) (position : ℕ)
    → AreBeginnings (log_bytes (article_parts logs nodes recipes position)) (map with_line_feed (printed_by logs (node_at nodes position)))
article_begins logs nodes recipes position =
    subst (λ (bytes : List ℕ). AreBeginnings bytes (map with_line_feed (printed_by logs (node_at nodes position))))
    (sym (article_output logs nodes recipes position)) (output_begins logs position (node_at nodes position))
