-- How charts are written: the text of a chart in parts.
use Rattle.std.proofs.Common.{◌≡◌, ℕ, zero, suc, ◌<◌, List, [], ◌∷◌, ◌++◌, length, take, drop, get_or, refl, sym, ◌∙◌, ap, arith}
use Rattle.std.specs.Prelude.{Option, codes}
use Rattle.std.specs.List.{flat_map}
use Rattle.std.proofs.lemmas.List.{append_assoc, append-nil}
use Rattle.std.proofs.lemmas.List.Concat.{flat_map-append}
use Rattle.redo_device.specs.Sink.{Output, append_output}
use Rattle.redo_html.specs.Chart.{Drawing, Layer, Node, chart_attributes, drawing_nodes, fixed, group_attributes, layer_nodes, node_html, nodes_html, shape_nodes}
use Rattle.redo_html.specs.Chart.Node.{EndTag, StartTag}
use Rattle.redo_html.specs.Chart.Value.{Fixed, Number}
use Rattle.redo_html.specs.Private.Charting.{chart_start_html, group_start_html, layer_html, shape_html}
use Rattle.redo_html.specs.Shown.{number_text}

-- The items before one of some items, that item, and the items after it.
pub one_of : {X : Type 0} (f : X → List ℕ) (xs : List X) (i : ℕ) (d : X) → i < length xs
    → (flat_map f (take i xs) ++ f (get_or xs i d)) ++ flat_map f (drop (suc i) xs) ≡ flat_map f xs
one_of f [] i d below = absurd (omega (arith, below))
one_of f (x ∷ xs) zero d below = refl
one_of f (x ∷ xs) (suc i) d below =
    let front = flat_map f (take i xs) in
    let one = f (get_or xs i d) in
    let behind = flat_map f (drop (suc i) xs) in
    ap (λ (t : List ℕ). t ++ behind) (append_assoc (f x) front one) ∙ append_assoc (f x) (front ++ one) behind
    ∙ ap (λ (t : List ℕ). f x ++ t) (one_of f xs i d (omega (arith, below)))

-- An element is its start tag, its content and its end tag.
pub element_html : (start end : Node) (content : List Node)
    → node_html start ++ (nodes_html content ++ node_html end) ≡ nodes_html (start ∷ (content ++ end ∷ []))
element_html start end content =
    ap (λ (t : List ℕ). node_html start ++ t)
    (ap (λ (t : List ℕ). nodes_html content ++ t) (sym (append-nil (node_html end))) ∙ sym (flat_map-append node_html content (end ∷ [])))

-- Nodes of each of some things.
pub each_html : {X : Type 0} (nodes : X → List Node) (xs : List X)
    → flat_map (λ x. nodes_html (nodes x)) xs ≡ nodes_html (flat_map nodes xs)
each_html nodes [] = refl
each_html nodes (x ∷ xs) = ap (λ (t : List ℕ). nodes_html (nodes x) ++ t) (each_html nodes xs)
    ∙ sym (flat_map-append node_html (nodes x) (flat_map nodes xs))

-- A write of an equal text.
pub wrote_as : (before after : Option Output) (text other : List ℕ) → text ≡ other → after ≡ append_output before text 0
    → after ≡ append_output before other 0
wrote_as before after text other is wrote = wrote ∙ ap (λ (t : List ℕ). append_output before t 0) is

-- ---- the elements of a chart

-- The start tag of a bar, which is a link.
abbrev pub bar_start : ℕ → Node
bar_start target = StartTag (codes "a")
    (record { name = codes "href"; values = Fixed (codes "#t") ∷ Number target ∷ [] } ∷ fixed (codes "tabindex") (codes "-1") ∷ [])

pub link_html : (target : ℕ) → codes "<a href=\"#t" ++ (number_text target ++ (codes "\" tabindex=\"-1\">" ++ []))
    ≡ node_html (bar_start target)
link_html target = simp append_assoc

abbrev pub shapes_html : Layer → List ℕ
shapes_html layer = flat_map (shape_html layer.kind) layer.shapes

pub layer_parts : (layer : Layer) → group_start_html layer.kind ++ (shapes_html layer ++ codes "</g>") ≡ layer_html layer
layer_parts layer =
    ap (λ (t : List ℕ). group_start_html layer.kind ++ (t ++ codes "</g>")) (each_html (shape_nodes layer.kind) layer.shapes)
    ∙ element_html (StartTag (codes "g") (group_attributes layer.kind)) (EndTag (codes "g"))
    (flat_map (shape_nodes layer.kind) layer.shapes)

abbrev pub layers_html : Drawing → List ℕ
layers_html drawing = flat_map layer_html drawing.layers

pub drawing_parts : (drawing : Drawing)
    → chart_start_html drawing.height drawing.lanes ++ (layers_html drawing ++ codes "</svg>") ≡ nodes_html (drawing_nodes drawing)
drawing_parts drawing =
    ap (λ (t : List ℕ). chart_start_html drawing.height drawing.lanes ++ (t ++ codes "</svg>")) (each_html layer_nodes drawing.layers)
    ∙ element_html (StartTag (codes "svg") (chart_attributes drawing.height drawing.lanes)) (EndTag (codes "svg"))
    (flat_map layer_nodes drawing.layers)
