-- How charts are read: the context after each node, and which elements are open there.
use Rattle.std.proofs.Common.{◌≡◌, ℕ, Bool, true, false, List, [], ◌∷◌, ◌++◌, Option, None, Some, refl, sym, ◌∙◌, ap, subst}
use Rattle.std.specs.Prelude.{◌==◌, ◌&&◌, not, bytes_eq, codes, option_and_then, if◌then◌else◌}
use Rattle.std.specs.List.{flat_map, list_all}
use Rattle.std.proofs.lemmas.Bool.{and_from, and_parts, cond_both, cond-true, not-true}
use Rattle.std.proofs.lemmas.List.{append_assoc}
use Rattle.std.proofs.lemmas.Option.{option_and_then_some}
use Rattle.std.proofs.lemmas.List.Concat.{flat_map-append}
use Rattle.std.proofs.lemmas.Slice.Eq.{bytes_eq-Decides}
use Rattle.redo_html.specs.declared.chart.Anchor.TheVariants as anchor
use Rattle.redo_html.specs.declared.chart.GroupKind.{GroupKind}
use Rattle.redo_html.specs.declared.chart.GroupKind.TheVariants.{Axis, Callers, Recipes, Untimed}
use Rattle.redo_html.specs.Chart.{Attribute, Drawing, Layer, Node, Shape, chart_attributes, drawing_nodes, group_attributes, lanes_word, layer_nodes, meter_nodes, node_html, node_tokens, nodes_html, nodes_tokens, shape_nodes, tag_text}
use Rattle.redo_html.specs.Chart.Node.{StartTag, EndTag, Words}
use Rattle.redo_html.specs.Chart.Shape.{LineShape, TickShape, BarShape}
use Rattle.redo_html.specs.Html.{Context, Step, Token, DataState, Normal, Rcdata, Rawtext, Svg, are_distinct, emit_tag, emit_whole, is_empty, is_one_of, is_void, keeps_attributes, lost, nests_in, context_in, read_from, start_name, svg_elements, svg_start_tag, tag_of, tags_of}
use Rattle.redo_html.specs.Html.Token.{Tag}
use Rattle.redo_html.specs.Style.{plain_style}
use Rattle.redo_html.proofs.Reading.{title_passage_reads, title_tags}
use Rattle.redo_html.proofs.TagReading.{element_attributes, emitted, end_tag_read, is_attribute, is_element, is_first_byte, is_element_byte, is_value_byte, names_of, not_end, tag_attributes, tag_name, tag_read}

-- ---- the context after nodes

-- Bytes that are in text in one context are read as these tokens, and all bytes after them as text in another context.
abbrev pub Leads : Context → List ℕ → List Token → Context → Type 0
Leads context bytes tokens next = (behind : List ℕ)
    → read_from (DataState context) (bytes ++ behind) ≡ tokens ++ read_from (DataState next) behind

-- Whether an element may begin in an `svg`, in this element.
abbrev pub may_begin : List ℕ → List ℕ → Bool
may_begin inner element = not (bytes_eq inner (codes "title")) && is_one_of element svg_elements

-- Whether attributes can be read, each under a name of its own.
abbrev pub are_attributes : List Attribute → Bool
are_attributes attributes = list_all is_attribute attributes && are_distinct (names_of attributes)

abbrev pub is_start : List ℕ → List Attribute → Bool
is_start element attributes = is_element element && (not (is_void element) && are_attributes attributes)

-- The context after a node, if it is well formed.
abbrev pub next_context : Context → Node → Option Context
next_context Normal (StartTag element attributes) =
    if bytes_eq element (codes "svg") && is_start element attributes then Some (Svg (codes "svg") []) else None
next_context (Svg inner outer) (StartTag element attributes) =
    if may_begin inner element && is_start element attributes then Some (Svg element (inner ∷ outer)) else None
next_context (Svg inner outer) (EndTag element) = if bytes_eq element inner && is_element element then Some (context_in outer) else None
next_context (Svg inner outer) (Words text) = Some (Svg inner outer)
next_context context node = None

abbrev pub next_contexts : Context → List Node → Option Context
next_contexts context [] = Some context
next_contexts context (node ∷ nodes) = option_and_then (λ next. next_contexts next nodes) (next_context context node)

same_bytes : (one other : List ℕ) → bytes_eq one other ≡ true → one ≡ other
same_bytes one other is = (bytes_eq-Decides one other).0 is

some_if : (condition : Bool) (context next : Context) → (if condition then Some context else None) ≡ Some next
    → (condition ≡ true) × (context ≡ next)
some_if true context next is = (refl, cc)
some_if false context next is = absurd (cc)

then_contexts : (context middle next : Context) (first second : List Node) → next_contexts context first ≡ Some middle
    → next_contexts middle second ≡ Some next → next_contexts context (first ++ second) ≡ Some next
then_contexts context middle next [] second one two = let same : context ≡ middle = cc in
    subst (λ p. next_contexts p second ≡ Some next) (sym same) two
then_contexts context middle next (node ∷ nodes) second one two =
    option_and_then_some (λ p. next_contexts p nodes) (next_context context node) middle one
    (λ p at more. ap (option_and_then (λ q. next_contexts q (nodes ++ second))) at ∙ then_contexts p middle next nodes second more two)

each_context : {X : Type 0} (context : Context) (nodes : X → List Node) → ((x : X) → next_contexts context (nodes x) ≡ Some context)
    → (xs : List X) → next_contexts context (flat_map nodes xs) ≡ Some context
each_context context nodes each [] = refl
each_context context nodes each (x ∷ xs) =
    then_contexts context context context (nodes x) (flat_map nodes xs) (each x) (each_context context nodes each xs)

-- ---- the contexts in a chart

abbrev in_chart : Context
in_chart = Svg (codes "svg") []

abbrev in_group : Context
in_group = Svg (codes "g") (codes "svg" ∷ [])

bar_contexts : (kind : GroupKind) (target x y width height : ℕ) (failed : Bool) (title : List ℕ) (label : Option (List ℕ))
    → next_contexts in_group (shape_nodes kind
    (BarShape (record { target = target; x = x; y = y; width = width; height = height; failed = failed; title = title; label = label })))
    ≡ Some in_group
bar_contexts kind target x y width height true title None = refl
bar_contexts kind target x y width height false title None = refl
bar_contexts Axis target x y width height true title (Some label) = refl
bar_contexts Axis target x y width height false title (Some label) = refl
bar_contexts Callers target x y width height true title (Some label) = refl
bar_contexts Callers target x y width height false title (Some label) = refl
bar_contexts Recipes target x y width height true title (Some label) = refl
bar_contexts Recipes target x y width height false title (Some label) = refl
bar_contexts Untimed target x y width height true title (Some label) = refl
bar_contexts Untimed target x y width height false title (Some label) = refl

shape_contexts : (kind : GroupKind) (shape : Shape) → next_contexts in_group (shape_nodes kind shape) ≡ Some in_group
shape_contexts kind (LineShape x bottom) = refl
shape_contexts kind (TickShape x anchor.Start text) = refl
shape_contexts kind (TickShape x anchor.Middle text) = refl
shape_contexts kind (TickShape x anchor.End text) = refl
shape_contexts kind (BarShape bar) = bar_contexts kind bar.target bar.x bar.y bar.width bar.height bar.failed bar.title bar.label

group_begins : (kind : GroupKind) → next_context in_chart (StartTag (codes "g") (group_attributes kind)) ≡ Some in_group
group_begins Axis = refl
group_begins Callers = refl
group_begins Recipes = refl
group_begins Untimed = refl

layer_contexts : (layer : Layer) → next_contexts in_chart (layer_nodes layer) ≡ Some in_chart
layer_contexts layer =
    let shapes = flat_map (shape_nodes layer.kind) layer.shapes in
    ap (option_and_then (λ next. next_contexts next (shapes ++ EndTag (codes "g") ∷ []))) (group_begins layer.kind)
    ∙ then_contexts in_group in_group in_chart shapes (EndTag (codes "g") ∷ [])
    (each_context in_group (shape_nodes layer.kind) (shape_contexts layer.kind) layer.shapes) refl

lanes_word_is : (lanes : ℕ) → list_all is_value_byte (lanes_word lanes) ≡ true
lanes_word_is lanes = cond_both (lanes == 1) (codes " lane") (codes " lanes") (λ word. list_all is_value_byte word ≡ true) (λ one. refl)
    (λ more. refl)

chart_begins : (height lanes : ℕ) → next_context Normal (StartTag (codes "svg") (chart_attributes height lanes)) ≡ Some in_chart
chart_begins height lanes = rw (lanes_word_is lanes) refl

pub drawing_contexts : (drawing : Drawing) → next_contexts Normal (drawing_nodes drawing) ≡ Some Normal
drawing_contexts drawing =
    let layers = flat_map layer_nodes drawing.layers in
    ap (option_and_then (λ next. next_contexts next (layers ++ EndTag (codes "svg") ∷ []))) (chart_begins drawing.height drawing.lanes)
    ∙ then_contexts in_chart in_chart Normal layers (EndTag (codes "svg") ∷ [])
    (each_context in_chart layer_nodes layer_contexts drawing.layers) refl

pub meter_contexts : (width : ℕ) → next_contexts Normal (meter_nodes width) ≡ Some Normal
meter_contexts width = refl

-- ---- reading

-- The tokens of a tag that leads to a context.
emits : (context next : Context) (tag behind : List ℕ) → emit_tag context tag ≡ (DataState next, Tag tag ∷ [])
    → emitted context tag behind ≡ Tag tag ∷ read_from (DataState next) behind
emits context next tag behind is = ap (λ (step : Step). step.1 ++ read_from step.0 behind) is

svg_start : (inner : List ℕ) (outer : List (List ℕ)) (tag name : List ℕ) → start_name tag ≡ name → may_begin inner name ≡ true
    → svg_start_tag inner outer tag ≡ (DataState (Svg name (inner ∷ outer)), Tag tag ∷ [])
svg_start inner outer tag name is may =
    ap (λ (n : List ℕ). if may_begin inner n then (DataState (Svg n (inner ∷ outer)), Tag tag ∷ []) else lost) is
    ∙ cond-true (may_begin inner name) _ _ may

keeps : (context : Context) (tag : List ℕ) → keeps_attributes tag ≡ true → emit_tag context tag ≡ emit_whole context tag
keeps context tag is = cond-true (keeps_attributes tag) _ _ is

start_keeps : (element : List ℕ) (attributes : List Attribute) → is_element element ≡ true → are_attributes attributes ≡ true
    → keeps_attributes (tag_text element attributes) ≡ true
start_keeps [] attributes is are = absurd (cc)
start_keeps (byte ∷ element) attributes is are =
    let slash = not_end byte (and_parts (is_first_byte byte) (list_all is_element_byte (byte ∷ element)) is).0 in
    let parts = and_parts (list_all is_attribute attributes) (are_distinct (names_of attributes)) are in
    rw slash (ap are_distinct (tag_attributes (byte ∷ element) attributes is parts.0) ∙ parts.1)

start_in_svg : (inner : List ℕ) (outer : List (List ℕ)) (element : List ℕ) (attributes : List Attribute) → is_element element ≡ true
    → are_attributes attributes ≡ true → may_begin inner element ≡ true
    → emit_tag (Svg inner outer) (tag_text element attributes)
    ≡ (DataState (Svg element (inner ∷ outer)), Tag (tag_text element attributes) ∷ [])
start_in_svg inner outer [] attributes is are may = absurd (cc)
start_in_svg inner outer (byte ∷ element) attributes is are may =
    let slash = not_end byte (and_parts (is_first_byte byte) (list_all is_element_byte (byte ∷ element)) is).0 in
    keeps (Svg inner outer) (tag_text (byte ∷ element) attributes) (start_keeps (byte ∷ element) attributes is are)
    ∙ rw slash (svg_start inner outer (tag_text (byte ∷ element) attributes) (byte ∷ element) (tag_name (byte ∷ element) attributes is) may)

-- The start tag of an `svg` in HTML.
start_of_svg : (attributes : List Attribute) → are_attributes attributes ≡ true
    → emit_tag Normal (tag_text (codes "svg") attributes) ≡ (DataState in_chart, Tag (tag_text (codes "svg") attributes) ∷ [])
start_of_svg attributes are =
    keeps Normal (tag_text (codes "svg") attributes) (start_keeps (codes "svg") attributes refl are) ∙ by attributes
  where
    by : (all : List Attribute)
        → emit_whole Normal (tag_text (codes "svg") all) ≡ (DataState in_chart, Tag (tag_text (codes "svg") all) ∷ [])
    by [] = refl
    by (attribute ∷ all) = refl

end_in_svg : (inner : List ℕ) (outer : List (List ℕ)) (element : List ℕ) → bytes_eq element inner ≡ true → is_element element ≡ true
    → emit_tag (Svg inner outer) (47 ∷ element) ≡ (DataState (context_in outer), Tag (47 ∷ element) ∷ [])
end_in_svg inner outer element same is =
    keeps (Svg inner outer) (47 ∷ element) (ap is_empty (element_attributes element is)) ∙ cond-true (bytes_eq element inner) _ _ same

node_leads : (context next : Context) (node : Node) → next_context context node ≡ Some next
    → Leads context (node_html node) (node_tokens node) next
node_leads Normal next (StartTag element attributes) is behind =
    let well = some_if (bytes_eq element (codes "svg") && is_start element attributes) in_chart next is in
    let parts = and_parts (bytes_eq element (codes "svg")) (is_start element attributes) well.0 in
    let attributes_are = (and_parts (not (is_void element)) (are_attributes attributes)
    (and_parts (is_element element) _ parts.1).1).1 in
    let each_is = (and_parts (list_all is_attribute attributes) (are_distinct (names_of attributes)) attributes_are).0 in
    subst (λ p. read_from (DataState Normal) (node_html (StartTag element attributes) ++ behind)
    ≡ Tag (tag_text element attributes) ∷ read_from (DataState p) behind) well.1
    (subst (λ (name : List ℕ). read_from (DataState Normal) (node_html (StartTag name attributes) ++ behind)
    ≡ Tag (tag_text name attributes) ∷ read_from (DataState in_chart) behind) (sym (same_bytes element (codes "svg") parts.0))
    (tag_read Normal (codes "svg") attributes refl each_is behind
    ∙ emits Normal in_chart (tag_text (codes "svg") attributes) behind (start_of_svg attributes attributes_are)))
node_leads (Svg inner outer) next (StartTag element attributes) is behind =
    let well = some_if (may_begin inner element && is_start element attributes) (Svg element (inner ∷ outer)) next is in
    let parts = and_parts (may_begin inner element) (is_start element attributes) well.0 in
    let start = and_parts (is_element element) (not (is_void element) && are_attributes attributes) parts.1 in
    let attributes_are = (and_parts (not (is_void element)) (are_attributes attributes) start.1).1 in
    let each_is = (and_parts (list_all is_attribute attributes) (are_distinct (names_of attributes)) attributes_are).0 in
    subst (λ p. read_from (DataState (Svg inner outer)) (node_html (StartTag element attributes) ++ behind)
    ≡ Tag (tag_text element attributes) ∷ read_from (DataState p) behind) well.1
    (tag_read (Svg inner outer) element attributes start.0 each_is behind
    ∙ emits (Svg inner outer) (Svg element (inner ∷ outer)) (tag_text element attributes) behind
    (start_in_svg inner outer element attributes start.0 attributes_are parts.0))
node_leads (Svg inner outer) next (EndTag element) is behind =
    let well = some_if (bytes_eq element inner && is_element element) (context_in outer) next is in
    let parts = and_parts (bytes_eq element inner) (is_element element) well.0 in
    subst (λ p. read_from (DataState (Svg inner outer)) (node_html (EndTag element) ++ behind)
    ≡ Tag (47 ∷ element) ∷ read_from (DataState p) behind) well.1
    (end_tag_read (Svg inner outer) element parts.1 behind
    ∙ emits (Svg inner outer) (context_in outer) (47 ∷ element) behind (end_in_svg inner outer element parts.0 parts.1))
node_leads (Svg inner outer) next (Words text) is behind =
    let same : Svg inner outer ≡ next = cc in
    subst (λ p. read_from (DataState (Svg inner outer)) (node_html (Words text) ++ behind)
    ≡ node_tokens (Words text) ++ read_from (DataState p) behind) same (title_passage_reads (Svg inner outer) tt plain_style text behind)
node_leads Normal next (EndTag element) is behind = absurd (cc)
node_leads Normal next (Words text) is behind = absurd (cc)
node_leads Rcdata next node is behind = absurd (none node is)
  where
    none : (n : Node) → next_context Rcdata n ≡ Some next → ⊥
    none (StartTag element attributes) at = cc
    none (EndTag element) at = cc
    none (Words text) at = cc
node_leads Rawtext next node is behind = absurd (none node is)
  where
    none : (n : Node) → next_context Rawtext n ≡ Some next → ⊥
    none (StartTag element attributes) at = cc
    none (EndTag element) at = cc
    none (Words text) at = cc

pub nodes_lead : (context next : Context) (nodes : List Node) → next_contexts context nodes ≡ Some next
    → Leads context (nodes_html nodes) (nodes_tokens nodes) next
nodes_lead context next [] is behind = let same : context ≡ next = cc in ap (λ p. read_from (DataState p) behind) same
nodes_lead context next (node ∷ nodes) is behind =
    option_and_then_some (λ p. next_contexts p nodes) (next_context context node) next is
    (λ p at more.
    ap (read_from (DataState context)) (append_assoc (node_html node) (nodes_html nodes) behind)
    ∙ node_leads context p node at (nodes_html nodes ++ behind)
    ∙ ap (λ (t : List Token). node_tokens node ++ t) (nodes_lead p next nodes more behind)
    ∙ sym (append_assoc (node_tokens node) (nodes_tokens nodes) (read_from (DataState next) behind)))

-- ---- nesting

-- The elements that are open in a context, the innermost first.
abbrev pub open_in : Context → List (List ℕ)
open_in Normal = []
open_in Rcdata = []
open_in Rawtext = []
open_in (Svg inner outer) = inner ∷ outer

open_after : (outer : List (List ℕ)) → open_in (context_in outer) ≡ outer
open_after [] = refl
open_after (inner ∷ outer) = refl

start_nests : (element : List ℕ) (attributes : List Attribute) → is_start element attributes ≡ true → (around tags : List (List ℕ))
    → nests_in around (tag_text element attributes ∷ tags) ≡ nests_in (element ∷ around) tags
start_nests [] attributes is around tags = absurd (cc)
start_nests (byte ∷ bytes) attributes is around tags =
    let start = and_parts (is_element (byte ∷ bytes)) (not (is_void (byte ∷ bytes)) && are_attributes attributes) is in
    let slash = not_end byte (and_parts (is_first_byte byte) (list_all is_element_byte (byte ∷ bytes)) start.0).0 in
    let void = not-true (is_void (byte ∷ bytes)) (and_parts (not (is_void (byte ∷ bytes))) (are_attributes attributes) start.1).0 in
    rw slash (ap (λ (name : List ℕ). if is_void name then nests_in around tags else nests_in (name ∷ around) tags)
    (tag_name (byte ∷ bytes) attributes start.0)
    ∙ ap (λ (v : Bool). if v then nests_in around tags else nests_in ((byte ∷ bytes) ∷ around) tags) void)

node_nests : (context next : Context) (node : Node) → next_context context node ≡ Some next → (around tags : List (List ℕ))
    → nests_in (open_in context ++ around) (tags_of (node_tokens node) ++ tags) ≡ nests_in (open_in next ++ around) tags
node_nests Normal next (StartTag element attributes) is around tags =
    let well = some_if (bytes_eq element (codes "svg") && is_start element attributes) in_chart next is in
    let parts = and_parts (bytes_eq element (codes "svg")) (is_start element attributes) well.0 in
    start_nests element attributes parts.1 around tags
    ∙ ap (λ (name : List ℕ). nests_in (name ∷ around) tags) (same_bytes element (codes "svg") parts.0)
    ∙ ap (λ p. nests_in (open_in p ++ around) tags) well.1
node_nests (Svg inner outer) next (StartTag element attributes) is around tags =
    let well = some_if (may_begin inner element && is_start element attributes) (Svg element (inner ∷ outer)) next is in
    let parts = and_parts (may_begin inner element) (is_start element attributes) well.0 in
    start_nests element attributes parts.1 (inner ∷ (outer ++ around)) tags ∙ ap (λ p. nests_in (open_in p ++ around) tags) well.1
node_nests (Svg inner outer) next (EndTag element) is around tags =
    let well = some_if (bytes_eq element inner && is_element element) (context_in outer) next is in
    let same = (and_parts (bytes_eq element inner) (is_element element) well.0).0 in
    ap (λ (b : Bool). b && nests_in (outer ++ around) tags) same
    ∙ ap (λ (names : List (List ℕ)). nests_in (names ++ around) tags) (sym (open_after outer))
    ∙ ap (λ p. nests_in (open_in p ++ around) tags) well.1
node_nests (Svg inner outer) next (Words text) is around tags =
    let same : Svg inner outer ≡ next = cc in
    ap (λ (ts : List (List ℕ)). nests_in (inner ∷ (outer ++ around)) (ts ++ tags)) (title_tags plain_style text)
    ∙ ap (λ p. nests_in (open_in p ++ around) tags) same
node_nests Normal next (EndTag element) is around tags = absurd (cc)
node_nests Normal next (Words text) is around tags = absurd (cc)
node_nests Rcdata next (StartTag element attributes) is around tags = absurd (cc)
node_nests Rcdata next (EndTag element) is around tags = absurd (cc)
node_nests Rcdata next (Words text) is around tags = absurd (cc)
node_nests Rawtext next (StartTag element attributes) is around tags = absurd (cc)
node_nests Rawtext next (EndTag element) is around tags = absurd (cc)
node_nests Rawtext next (Words text) is around tags = absurd (cc)

pub nodes_nest : (context next : Context) (nodes : List Node) → next_contexts context nodes ≡ Some next → (around tags : List (List ℕ))
    → nests_in (open_in context ++ around) (tags_of (nodes_tokens nodes) ++ tags) ≡ nests_in (open_in next ++ around) tags
nodes_nest context next [] is around tags = let same : context ≡ next = cc in ap (λ p. nests_in (open_in p ++ around) tags) same
nodes_nest context next (node ∷ nodes) is around tags =
    option_and_then_some (λ p. next_contexts p nodes) (next_context context node) next is
    (λ p at more.
    ap (λ (ts : List (List ℕ)). nests_in (open_in context ++ around) (ts ++ tags))
    (flat_map-append tag_of (node_tokens node) (nodes_tokens nodes))
    ∙ ap (nests_in (open_in context ++ around)) (append_assoc (tags_of (node_tokens node)) (tags_of (nodes_tokens nodes)) tags)
    ∙ node_nests context p node at around (tags_of (nodes_tokens nodes) ++ tags)
    ∙ nodes_nest p next nodes more around tags)

-- ---- well-formed nodes

abbrev pub is_well_formed : Node → Bool
is_well_formed (StartTag element attributes) = is_element element && list_all is_attribute attributes
is_well_formed (EndTag element) = is_element element
is_well_formed (Words text) = true

start_well_formed : (element : List ℕ) (attributes : List Attribute) → is_start element attributes ≡ true
    → is_well_formed (StartTag element attributes) ≡ true
start_well_formed element attributes is =
    let start = and_parts (is_element element) (not (is_void element) && are_attributes attributes) is in
    let attributes_are = (and_parts (not (is_void element)) (are_attributes attributes) start.1).1 in
    and_from (is_element element) (list_all is_attribute attributes) start.0
    (and_parts (list_all is_attribute attributes) (are_distinct (names_of attributes)) attributes_are).0

node_well_formed : (context next : Context) (node : Node) → next_context context node ≡ Some next → is_well_formed node ≡ true
node_well_formed Normal next (StartTag element attributes) is =
    start_well_formed element attributes
    (and_parts (bytes_eq element (codes "svg")) (is_start element attributes)
    (some_if (bytes_eq element (codes "svg") && is_start element attributes) in_chart next is).0).1
node_well_formed (Svg inner outer) next (StartTag element attributes) is =
    start_well_formed element attributes
    (and_parts (may_begin inner element) (is_start element attributes)
    (some_if (may_begin inner element && is_start element attributes) (Svg element (inner ∷ outer)) next is).0).1
node_well_formed (Svg inner outer) next (EndTag element) is =
    (and_parts (bytes_eq element inner) (is_element element)
    (some_if (bytes_eq element inner && is_element element) (context_in outer) next is).0).1
node_well_formed context next (Words text) is = refl
node_well_formed Normal next (EndTag element) is = absurd (cc)
node_well_formed Rcdata next (StartTag element attributes) is = absurd (cc)
node_well_formed Rcdata next (EndTag element) is = absurd (cc)
node_well_formed Rawtext next (StartTag element attributes) is = absurd (cc)
node_well_formed Rawtext next (EndTag element) is = absurd (cc)

pub nodes_well_formed : (context next : Context) (nodes : List Node) → next_contexts context nodes ≡ Some next
    → list_all is_well_formed nodes ≡ true
nodes_well_formed context next [] is = refl
nodes_well_formed context next (node ∷ nodes) is =
    option_and_then_some (λ p. next_contexts p nodes) (next_context context node) next is
    (λ p at more. and_from (is_well_formed node) (list_all is_well_formed nodes) (node_well_formed context p node at)
    (nodes_well_formed p next nodes more))
