-- How the parts of a page are read.
use Rattle.std.proofs.Common.{◌≡◌, ℕ, Bool, true, false, List, [], ◌∷◌, ◌++◌, Option, None, Some, option_map, map, refl, sym, ◌∙◌, ap, subst}
use Rattle.std.specs.Prelude.{◌==◌, ◌&&◌, bytes_eq, codes, if◌then◌else◌}
use Rattle.std.specs.List.{flat_map, list_all}
use Rattle.std.proofs.lemmas.List.{append_assoc, append-nil}
use Rattle.std.proofs.lemmas.List.Concat.{flat_map-append}
use Rattle.redo_html.specs.declared.chart.GroupKind.{GroupKind}
use Rattle.redo_html.specs.declared.text_kind.TextKind.TheVariants.{Log, Monochrome, Title}
use Rattle.redo_html.specs.Chart.{Drawing, Layer, Node, Shape, chart_attributes, drawing_nodes, group_attributes, layer_nodes, meter_nodes, node_text, node_tokens, nodes_text, nodes_tokens, shape_nodes}
use Rattle.redo_html.specs.Chart.Node.{StartTag, EndTag, Words}
use Rattle.redo_html.specs.Chart.Shape.{LineShape, TickShape, BarShape}
use Rattle.redo_html.specs.Html.{Token, DataState, Normal, Rcdata, after_end_tag, characters_of, is_void, nests_in, read_from, start_name, tag_of, tags_of, text_of}
use Rattle.redo_html.specs.Html.Token.{Character, Tag}
use Rattle.redo_html.specs.Laws.{ReadsAs, markup_tag, reworded, reworded_shape}
use Rattle.redo_html.specs.Parts.{Part, part_html, part_tokens, part_text}
use Rattle.redo_html.specs.Parts.Part.{MarkupPart, LogPart, TextPart, NumberPart, TitlePart, StylePart, ChartPart, MeterPart}
use Rattle.redo_html.specs.Passage.{passage_html, passage_tokens}
use Rattle.redo_html.specs.Shown.{number_text}
use Rattle.redo_html.specs.Style.{plain_style}
use Rattle.redo_html.specs.StyleSheet.{style_sheet}
use Rattle.redo_html.proofs.ChartReading.{drawing_contexts, meter_contexts, nodes_lead, nodes_nest}
use Rattle.redo_html.proofs.HighlightReading.{markup_reads}
use Rattle.redo_html.proofs.Reading.{passage_nests, passage_reads, passage_text, tags_characters, text_characters, title_passage_reads, title_tags}
use Rattle.redo_html.proofs.TextReading.{each_reads, escaped_reads, is_raw, raw_reads, all_weaker, number_safe, safe_escaped, is_safe, is_clean, safe_clean}

-- ---- reading

title_reads : (title : List ℕ) → ReadsAs (part_html (TitlePart title)) (part_tokens (TitlePart title))
title_reads title behind =
    let html = passage_html Title plain_style title in
    let tokens = passage_tokens Title plain_style title in
    let end = codes "</title>" in
    ap (read_from (DataState Normal)) (append_assoc (codes "<title>" ++ html) end behind
    ∙ append_assoc (codes "<title>") html (end ++ behind))
    ∙ ap (λ (ts : List Token). Tag (codes "title") ∷ ts)
    (title_passage_reads Rcdata tt plain_style title (end ++ behind)
    ∙ sym (append_assoc tokens (Tag (codes "/title") ∷ []) (read_from (DataState Normal) behind)))

style_is_raw : list_all is_raw style_sheet ≡ true
unfolding style_sheet
style_is_raw = refl

style_sheet_reads : ReadsAs (part_html StylePart) (part_tokens StylePart)
style_sheet_reads behind =
    let end = codes "</style>" in
    ap (read_from (DataState Normal)) (append_assoc (codes "<style>" ++ style_sheet) end behind
    ∙ append_assoc (codes "<style>") style_sheet (end ++ behind))
    ∙ ap (λ (ts : List Token). Tag (codes "style") ∷ ts)
    (raw_reads style_sheet style_is_raw (end ++ behind)
    ∙ sym (append_assoc (map Character style_sheet) (Tag (codes "/style") ∷ []) (read_from (DataState Normal) behind)))

number_reads : (number : ℕ) → ReadsAs (number_text number) (map Character (number_text number))
number_reads number =
    subst (λ (bytes : List ℕ). ReadsAs bytes (map Character (number_text number))) (safe_escaped (number_text number) (number_safe number))
    (escaped_reads Normal tt (number_text number) (all_weaker is_safe is_clean safe_clean (number_text number) (number_safe number)))

part_reads : (part : Part) → ReadsAs (part_html part) (part_tokens part)
part_reads (MarkupPart markup) = markup_reads markup
part_reads (LogPart style text) = passage_reads Log style text
part_reads (TextPart text) = passage_reads Monochrome plain_style text
part_reads (NumberPart number) = number_reads number
part_reads (TitlePart title) = title_reads title
part_reads StylePart = style_sheet_reads
part_reads (ChartPart drawing) = nodes_lead Normal Normal (drawing_nodes drawing) (drawing_contexts drawing)
part_reads (MeterPart width) = nodes_lead Normal Normal (meter_nodes width) (meter_contexts width)

pub parts_read : (parts : List Part) → ReadsAs (flat_map part_html parts) (flat_map part_tokens parts)
parts_read parts = each_reads Normal part_html part_tokens part_reads parts

node_shows : (node : Node) → text_of (node_tokens node) ≡ node_text node
node_shows (StartTag element attributes) = refl
node_shows (EndTag element) = refl
node_shows (Words text) = passage_text Title plain_style text

nodes_show : (nodes : List Node) → text_of (nodes_tokens nodes) ≡ nodes_text nodes
nodes_show [] = refl
nodes_show (node ∷ nodes) =
    flat_map-append characters_of (node_tokens node) (nodes_tokens nodes)
    ∙ ap (λ (t : List ℕ). t ++ text_of (nodes_tokens nodes)) (node_shows node) ∙ ap (λ (t : List ℕ). node_text node ++ t) (nodes_show nodes)

part_shows : (part : Part) → text_of (part_tokens part) ≡ part_text part
part_shows (MarkupPart markup) = refl
part_shows (LogPart style text) = passage_text Log style text
part_shows (TextPart text) = passage_text Monochrome plain_style text
part_shows (NumberPart number) = text_characters (number_text number)
part_shows (TitlePart title) = flat_map-append characters_of (passage_tokens Title plain_style title) (Tag (codes "/title") ∷ [])
    ∙ append-nil (text_of (passage_tokens Title plain_style title)) ∙ passage_text Title plain_style title
part_shows StylePart = flat_map-append characters_of (map Character style_sheet) (Tag (codes "/style") ∷ [])
    ∙ append-nil (text_of (map Character style_sheet)) ∙ text_characters style_sheet
part_shows (ChartPart drawing) = nodes_show (drawing_nodes drawing)
part_shows (MeterPart width) = nodes_show (meter_nodes width)

pub parts_show : (parts : List Part) → text_of (flat_map part_tokens parts) ≡ flat_map part_text parts
parts_show [] = refl
parts_show (part ∷ parts) =
    flat_map-append characters_of (part_tokens part) (flat_map part_tokens parts)
    ∙ ap (λ (t : List ℕ). t ++ text_of (flat_map part_tokens parts)) (part_shows part)
    ∙ ap (λ (t : List ℕ). part_text part ++ t) (parts_show parts)

-- ---- nesting

part_nests : (part : Part) (around tags : List (List ℕ))
    → nests_in around (tags_of (part_tokens part) ++ tags) ≡ nests_in around (markup_tag part ++ tags)
part_nests (MarkupPart markup) around tags = refl
part_nests (LogPart style text) around tags = passage_nests Log style text around tags
part_nests (TextPart text) around tags = passage_nests Monochrome plain_style text around tags
part_nests (NumberPart number) around tags = ap (λ (t : List (List ℕ)). nests_in around (t ++ tags)) (tags_characters (number_text number))
part_nests (TitlePart title) around tags =
    let end : List (List ℕ) = codes "/title" ∷ [] in
    ap (λ (t : List (List ℕ)). nests_in around (codes "title" ∷ (t ++ tags)))
    (flat_map-append tag_of (passage_tokens Title plain_style title) (Tag (codes "/title") ∷ []))
    ∙ ap (λ (t : List (List ℕ)). nests_in around (codes "title" ∷ t))
    (append_assoc (tags_of (passage_tokens Title plain_style title)) end tags)
    ∙ passage_nests Title plain_style title (codes "title" ∷ around) (codes "/title" ∷ tags)
part_nests StylePart around tags =
    ap (λ (t : List (List ℕ)). nests_in around (codes "style" ∷ (t ++ tags)))
    (flat_map-append tag_of (map Character style_sheet) (Tag (codes "/style") ∷ []))
    ∙ ap (λ (t : List (List ℕ)). nests_in around (codes "style" ∷ ((t ++ codes "/style" ∷ []) ++ tags))) (tags_characters style_sheet)
part_nests (ChartPart drawing) around tags = nodes_nest Normal Normal (drawing_nodes drawing) (drawing_contexts drawing) around tags
part_nests (MeterPart width) around tags = nodes_nest Normal Normal (meter_nodes width) (meter_contexts width) around tags

-- A tag before tags that nest alike.
end_same : (name : List ℕ) (around one other : List (List ℕ)) → ((outer : List (List ℕ)) → nests_in outer one ≡ nests_in outer other)
    → after_end_tag name around (λ outer. nests_in outer one) ≡ after_end_tag name around (λ outer. nests_in outer other)
end_same name [] one other same = refl
end_same name (inner ∷ outer) one other same = ap (λ (nests : Bool). bytes_eq name inner && nests) (same outer)

tag_same : (tag : List ℕ) (around one other : List (List ℕ)) → ((outer : List (List ℕ)) → nests_in outer one ≡ nests_in outer other)
    → nests_in around (tag ∷ one) ≡ nests_in around (tag ∷ other)
tag_same [] around one other same = refl
tag_same (byte ∷ bytes) around one other same = by (byte == 47) (is_void (start_name (byte ∷ bytes)))
  where
    by : (is_end void : Bool)
        → (if is_end then after_end_tag bytes around (λ outer. nests_in outer one) else if void then nests_in around one
        else nests_in (start_name (byte ∷ bytes) ∷ around) one)
        ≡ (if is_end then after_end_tag bytes around (λ outer. nests_in outer other) else if void then nests_in around other
        else nests_in (start_name (byte ∷ bytes) ∷ around) other)
    by true void = end_same bytes around one other same
    by false true = same around
    by false false = same (start_name (byte ∷ bytes) ∷ around)

tags_same : (tags : List (List ℕ)) (around one other : List (List ℕ))
    → ((outer : List (List ℕ)) → nests_in outer one ≡ nests_in outer other)
    → nests_in around (tags ++ one) ≡ nests_in around (tags ++ other)
tags_same [] around one other same = same around
tags_same (tag ∷ tags) around one other same =
    tag_same tag around (tags ++ one) (tags ++ other) (λ outer. tags_same tags outer one other same)

pub parts_nest : (parts : List Part) (around tags : List (List ℕ))
    → nests_in around (tags_of (flat_map part_tokens parts) ++ tags) ≡ nests_in around (flat_map markup_tag parts ++ tags)
parts_nest [] around tags = refl
parts_nest (part ∷ parts) around tags =
    let rest = tags_of (flat_map part_tokens parts) ++ tags in
    ap (λ (t : List (List ℕ)). nests_in around (t ++ tags)) (flat_map-append tag_of (part_tokens part) (flat_map part_tokens parts))
    ∙ ap (nests_in around) (append_assoc (tags_of (part_tokens part)) (tags_of (flat_map part_tokens parts)) tags)
    ∙ part_nests part around rest
    ∙ tags_same (markup_tag part) around rest (flat_map markup_tag parts ++ tags) (λ outer. parts_nest parts outer tags)
    ∙ ap (nests_in around) (sym (append_assoc (markup_tag part) (flat_map markup_tag parts) tags))

-- ---- charts with other texts

-- The tags of a node. Text has none.
abbrev node_tag : Node → List (List ℕ)
node_tag (StartTag element attributes) = tags_of (node_tokens (StartTag element attributes))
node_tag (EndTag element) = tags_of (node_tokens (EndTag element))
node_tag (Words text) = []

node_tags : (node : Node) → tags_of (node_tokens node) ≡ node_tag node
node_tags (StartTag element attributes) = refl
node_tags (EndTag element) = refl
node_tags (Words text) = title_tags plain_style text

nodes_tags : (nodes : List Node) → tags_of (nodes_tokens nodes) ≡ flat_map node_tag nodes
nodes_tags [] = refl
nodes_tags (node ∷ nodes) =
    flat_map-append tag_of (node_tokens node) (nodes_tokens nodes)
    ∙ ap (λ (t : List (List ℕ)). t ++ tags_of (nodes_tokens nodes)) (node_tags node)
    ∙ ap (λ (t : List (List ℕ)). node_tag node ++ t) (nodes_tags nodes)

each_same : {X : Type 0} (nodes : X → List Node) (change : X → X)
    → ((x : X) → flat_map node_tag (nodes (change x)) ≡ flat_map node_tag (nodes x))
    → (xs : List X) → flat_map node_tag (flat_map nodes (map change xs)) ≡ flat_map node_tag (flat_map nodes xs)
each_same nodes change same [] = refl
each_same nodes change same (x ∷ xs) =
    flat_map-append node_tag (nodes (change x)) (flat_map nodes (map change xs))
    ∙ ap (λ (t : List (List ℕ)). t ++ flat_map node_tag (flat_map nodes (map change xs))) (same x)
    ∙ ap (λ (t : List (List ℕ)). flat_map node_tag (nodes x) ++ t) (each_same nodes change same xs)
    ∙ sym (flat_map-append node_tag (nodes x) (flat_map nodes xs))

-- Equal tags between a start tag and an end tag.
element_same : (start end : Node) (one other : List Node) → flat_map node_tag one ≡ flat_map node_tag other
    → flat_map node_tag (start ∷ (one ++ end ∷ [])) ≡ flat_map node_tag (start ∷ (other ++ end ∷ []))
element_same start end one other same =
    ap (λ (t : List (List ℕ)). node_tag start ++ t)
    (flat_map-append node_tag one (end ∷ []) ∙ ap (λ (t : List (List ℕ)). t ++ flat_map node_tag (end ∷ [])) same
    ∙ sym (flat_map-append node_tag other (end ∷ [])))

module _ (replace : List ℕ → List ℕ) where
  bar_same : (kind : GroupKind) (target x y width height : ℕ) (failed : Bool) (title : List ℕ) (label : Option (List ℕ))
      → flat_map node_tag (shape_nodes kind
      (BarShape (record {
        target = target;
        x = x;
        y = y;
        width = width;
        height = height;
        failed = failed;
        title = replace title;
        label = option_map replace label;
      })))
      ≡ flat_map node_tag (shape_nodes kind
      (BarShape (record { target = target; x = x; y = y; width = width; height = height; failed = failed; title = title; label = label })))
  bar_same kind target x y width height failed title None = refl
  bar_same kind target x y width height failed title (Some label) = refl

  shape_same : (kind : GroupKind) (shape : Shape)
      → flat_map node_tag (shape_nodes kind (reworded_shape replace shape)) ≡ flat_map node_tag (shape_nodes kind shape)
  shape_same kind (LineShape x bottom) = refl
  shape_same kind (TickShape x anchor text) = refl
  shape_same kind (BarShape bar) = bar_same kind bar.target bar.x bar.y bar.width bar.height bar.failed bar.title bar.label

  layer_same : (layer : Layer) → flat_map node_tag (layer_nodes (record layer { shapes = map (reworded_shape replace) layer.shapes }))
      ≡ flat_map node_tag (layer_nodes layer)
  layer_same layer =
      element_same (StartTag (codes "g") (group_attributes layer.kind)) (EndTag (codes "g"))
      (flat_map (shape_nodes layer.kind) (map (reworded_shape replace) layer.shapes)) (flat_map (shape_nodes layer.kind) layer.shapes)
      (each_same (shape_nodes layer.kind) (reworded_shape replace) (shape_same layer.kind) layer.shapes)

  pub drawing_same : (drawing : Drawing)
      → tags_of (part_tokens (ChartPart (reworded replace drawing))) ≡ tags_of (part_tokens (ChartPart drawing))
  drawing_same drawing =
      let change : Layer → Layer = λ layer. record layer { shapes = map (reworded_shape replace) layer.shapes } in
      nodes_tags (drawing_nodes (reworded replace drawing))
      ∙ element_same (StartTag (codes "svg") (chart_attributes drawing.height drawing.lanes)) (EndTag (codes "svg"))
      (flat_map layer_nodes (map change drawing.layers)) (flat_map layer_nodes drawing.layers)
      (each_same layer_nodes change layer_same drawing.layers)
      ∙ sym (nodes_tags (drawing_nodes drawing))
