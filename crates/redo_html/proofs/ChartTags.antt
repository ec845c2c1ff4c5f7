-- Tags that no chart has.
use Rattle.std.proofs.Common.{◌≡◌, ℕ, Bool, false, List, [], ◌∷◌, ◌++◌, Option, None, Some, map, refl, ◌∙◌, ap}
use Rattle.std.specs.Prelude.{◌||◌, bytes_eq, codes}
use Rattle.std.specs.List.{flat_map}
use Rattle.std.proofs.lemmas.Bool.{or_parts}
use Rattle.std.proofs.lemmas.List.Concat.{flat_map-append}
use Rattle.redo_html.specs.declared.chart.GroupKind.{GroupKind}
use Rattle.redo_html.specs.Chart.{Drawing, Layer, Node, Shape, drawing_nodes, layer_nodes, node_tokens, nodes_tokens, shape_nodes}
use Rattle.redo_html.specs.Chart.Node.{EndTag}
use Rattle.redo_html.specs.Chart.Shape.{LineShape, TickShape, BarShape}
use Rattle.redo_html.specs.Html.{is_one_of, tag_of, tags_of}
use Rattle.redo_html.specs.Laws.{reworded, reworded_shape}
use Rattle.redo_html.specs.Symbols.{symbols_after}

abbrev is_script_among : List (List ℕ) → Bool
is_script_among tags = is_one_of (codes "script") tags

none_in_both : (first others : List (List ℕ)) → is_script_among first ≡ false → is_script_among others ≡ false
    → is_script_among (first ++ others) ≡ false
none_in_both [] others none more = more
none_in_both (tag ∷ first) others none more =
    let parts = or_parts (bytes_eq (codes "script") tag) (is_script_among first) none in
    ap (λ (b : Bool). b || is_script_among (first ++ others)) parts.0 ∙ none_in_both first others parts.1 more

abbrev HasNone : List Node → Type 0
HasNone nodes = is_script_among (tags_of (nodes_tokens nodes)) ≡ false

none_in_nodes : (first others : List Node) → HasNone first → HasNone others → HasNone (first ++ others)
none_in_nodes first others none more =
    ap (λ ts. is_script_among (tags_of ts)) (flat_map-append node_tokens first others)
    ∙ ap is_script_among (flat_map-append tag_of (nodes_tokens first) (nodes_tokens others))
    ∙ none_in_both (tags_of (nodes_tokens first)) (tags_of (nodes_tokens others)) none more

abbrev emptied : Shape → Shape
emptied shape = reworded_shape (λ text. []) shape

none_in_bar : (kind : GroupKind) (target x y width height : ℕ) (failed : Bool) (label : Option (List ℕ))
    → HasNone (shape_nodes kind (emptied
    (BarShape (record { target = target; x = x; y = y; width = width; height = height; failed = failed; title = []; label = label }))))
unfolding symbols_after
none_in_bar kind target x y width height failed None = refl
none_in_bar kind target x y width height failed (Some label) = refl

none_in_shape : (kind : GroupKind) (shape : Shape) → HasNone (shape_nodes kind (emptied shape))
unfolding symbols_after
none_in_shape kind (LineShape x bottom) = refl
none_in_shape kind (TickShape x anchor text) = refl
none_in_shape kind (BarShape bar) = none_in_bar kind bar.target bar.x bar.y bar.width bar.height bar.failed bar.label

none_in_shapes : (kind : GroupKind) (shapes : List Shape) → HasNone (flat_map (shape_nodes kind) (map emptied shapes))
none_in_shapes kind [] = refl
none_in_shapes kind (shape ∷ shapes) =
    none_in_nodes (shape_nodes kind (emptied shape)) (flat_map (shape_nodes kind) (map emptied shapes)) (none_in_shape kind shape)
    (none_in_shapes kind shapes)

abbrev emptied_layer : Layer → Layer
emptied_layer layer = record layer { shapes = map emptied layer.shapes }

none_in_layer : (layer : Layer) → HasNone (layer_nodes (emptied_layer layer))
none_in_layer layer = none_in_nodes (flat_map (shape_nodes layer.kind) (map emptied layer.shapes)) (EndTag (codes "g") ∷ [])
    (none_in_shapes layer.kind layer.shapes) refl

none_in_layers : (layers : List Layer) → HasNone (flat_map layer_nodes (map emptied_layer layers))
none_in_layers [] = refl
none_in_layers (layer ∷ layers) =
    none_in_nodes (layer_nodes (emptied_layer layer)) (flat_map layer_nodes (map emptied_layer layers)) (none_in_layer layer)
    (none_in_layers layers)

pub no_script_in_chart : (drawing : Drawing) → HasNone (drawing_nodes (reworded (λ text. []) drawing))
no_script_in_chart drawing = none_in_nodes (flat_map layer_nodes (map emptied_layer drawing.layers)) (EndTag (codes "svg") ∷ [])
    (none_in_layers drawing.layers) refl
