-- `script` is no tag of a page.
use Rattle.std.proofs.Common.{◌≡◌, ℕ, Bool, true, false, List, [], ◌∷◌, ◌++◌, Option, None, Some, map, option_map, refl, sym, ◌∙◌, ap, inl, inr}
use Rattle.std.specs.Prelude.{◌||◌, bytes_eq, codes, take}
use Rattle.std.specs.List.{flat_map}
use Rattle.std.proofs.lemmas.Grind.{flat_map-append}
use Rattle.redo_html.specs.declared.chart.GroupKind.{GroupKind}
use Rattle.redo_html.specs.declared.markup.Markup.{Markup}
use Rattle.redo_html.specs.declared.markup.Markup.TheVariants as markup
use Rattle.redo_html.specs.Chart.{Drawing, Layer, Node, Shape, chart_attributes, element, group_attributes, layer_nodes, node_tokens, nodes_tokens, shape_nodes}
use Rattle.redo_html.specs.Chart.Node.{StartTag, EndTag}
use Rattle.redo_html.specs.Chart.Shape.{LineShape, TickShape, BarShape}
use Rattle.redo_html.specs.Html.{is_one_of, tag_of, tags_of}
use Rattle.redo_html.specs.Laws.{reworded, reworded_shape}
use Rattle.redo_html.specs.Parts.{part_tokens}
use Rattle.redo_html.specs.Parts.Part.{ChartPart, MeterPart}
use Rattle.redo_html.specs.Passage.{passage_html}
use Rattle.redo_html.specs.Shown.{is_unprintable, number_text, unprintable_text, notation}
use Rattle.redo_html.specs.Symbols.{first_code_point, first_symbol, is_sequence, code_point_len, sequence_len, sequence_numbers, symbol_len, symbols_after}
use Rattle.redo_html.specs.Tags.{markup_text}
use Rattle.redo_page.specs.Laws.{IsOwnTag}

abbrev script : List ℕ
script = codes "script"

no_markup : (markup : Markup) → bytes_eq (take 3 (markup_text markup)) (codes "scr") ≡ false
no_markup (markup.TargetLink number) = refl
no_markup other = refl

-- Whether none of these nodes is such a tag.
abbrev Lack : List Node → Type 0
Lack nodes = is_one_of script (tags_of (nodes_tokens nodes)) ≡ false

none_of_both : (tags others : List (List ℕ)) → is_one_of script tags ≡ false → is_one_of script others ≡ false
    → is_one_of script (tags ++ others) ≡ false
none_of_both [] others first last = last
none_of_both (tag ∷ tags) others first last = by (bytes_eq script tag) first (λ none. none_of_both tags others none last)
  where
    by : (is : Bool) → (is || is_one_of script tags) ≡ false → (is_one_of script tags ≡ false → is_one_of script (tags ++ others) ≡ false)
        → (is || is_one_of script (tags ++ others)) ≡ false
    by true none later = absurd (cc)
    by false none later = later none

both_lack : (nodes others : List Node) → Lack nodes → Lack others → Lack (nodes ++ others)
both_lack nodes others first last =
    ap (λ tokens. is_one_of script (tags_of tokens)) (flat_map-append node_tokens nodes others)
    ∙ ap (is_one_of script) (flat_map-append tag_of (nodes_tokens nodes) (nodes_tokens others))
    ∙ none_of_both (tags_of (nodes_tokens nodes)) (tags_of (nodes_tokens others)) first last

-- Without its texts.
abbrev blank : List ℕ → List ℕ
blank text = []

shape_lacks : (kind : GroupKind) (shape : Shape) → Lack (shape_nodes kind (reworded_shape blank shape))
unfolding symbols_after first_symbol symbol_len is_sequence sequence_len sequence_numbers first_code_point code_point_len is_unprintable notation unprintable_text number_text passage_html
shape_lacks kind (LineShape x bottom) = refl
shape_lacks kind (TickShape x at text) = refl
shape_lacks kind (BarShape bar) = by bar.label
  where
    by : (label : Option (List ℕ)) → Lack (shape_nodes kind (BarShape (record bar { title = []; label = option_map blank label })))
    by None = refl
    by (Some label) = refl

shapes_lack : (kind : GroupKind) (shapes : List Shape) → Lack (flat_map (shape_nodes kind) (map (reworded_shape blank) shapes))
shapes_lack kind [] = refl
shapes_lack kind (shape ∷ shapes) = both_lack (shape_nodes kind (reworded_shape blank shape))
    (flat_map (shape_nodes kind) (map (reworded_shape blank) shapes)) (shape_lacks kind shape) (shapes_lack kind shapes)

layers_lack : (layers : List Layer) → Lack
    (flat_map layer_nodes (map (λ (layer : Layer). record layer { shapes = map (reworded_shape blank) layer.shapes }) layers))
layers_lack [] = refl
layers_lack (layer ∷ layers) =
    let shapes = flat_map (shape_nodes layer.kind) (map (reworded_shape blank) layer.shapes) in
    let others = flat_map layer_nodes (map (λ (other : Layer). record other { shapes = map (reworded_shape blank) other.shapes }) layers) in
    both_lack (element (codes "g") (group_attributes layer.kind) shapes) others
    (both_lack (StartTag (codes "g") (group_attributes layer.kind) ∷ []) (shapes ++ EndTag (codes "g") ∷ []) refl
    (both_lack shapes (EndTag (codes "g") ∷ []) (shapes_lack layer.kind layer.shapes) refl))
    (layers_lack layers)

no_chart_tag : (drawing : Drawing) → is_one_of script (tags_of (part_tokens (ChartPart (reworded blank drawing)))) ≡ false
no_chart_tag drawing =
    let layers = flat_map layer_nodes (map
    (λ (layer : Layer). record layer { shapes = map (reworded_shape blank) layer.shapes }) drawing.layers) in
    both_lack (StartTag (codes "svg") (chart_attributes drawing.height drawing.lanes) ∷ []) (layers ++ EndTag (codes "svg") ∷ []) refl
    (both_lack layers (EndTag (codes "svg") ∷ []) (layers_lack drawing.layers) refl)

no_meter_tag : (width : ℕ) → is_one_of script (tags_of (part_tokens (MeterPart width))) ≡ false
no_meter_tag width = refl

pub script_is_not_own : IsOwnTag script → ⊥
script_is_not_own (inl own) = let is : bytes_eq (take 3 (markup_text own.0)) (codes "scr") ≡ true =
    ap (λ tag. bytes_eq (take 3 tag) (codes "scr")) (sym own.1) in let no = no_markup own.0 in absurd (cc)
script_is_not_own (inr (inl highlight)) = absurd (cc)
script_is_not_own (inr (inr (inl own))) = let no = no_chart_tag own.0 in let is = own.1 in absurd (cc)
script_is_not_own (inr (inr (inr own))) = let no = no_meter_tag own.0 in let is = own.1 in absurd (cc)
