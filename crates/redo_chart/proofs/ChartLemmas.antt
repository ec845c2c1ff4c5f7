-- Names, texts, ticks, bands and the writing of the chart.
use Rattle.std.proofs.Common.{◌≡◌, ◌==◌, ℕ, zero, suc, ◌+◌, ◌-◌, ◌*◌, ◌/◌, ◌<◌, ◌≤◌, leb, Bool, true, false, not, cond, List, [], ◌∷◌, ◌++◌, length, map, take, drop, get_or, Option, None, Some, refl, sym, ap, ◌∙◌, subst, arith}
use Rattle.std.specs.Prelude.{Result, Ok, Err, IsErrAnd}
use Rattle.std.specs.Global.{Vec}
use Rattle.std.specs.List.{AllByRecursion, flat_map, range_with_len, suffix_len}
use Rattle.std.proofs.Math.Nat.{div-mul-le_self, mul-le-mul_right}
use Rattle.std.proofs.Math.Seq.{take-length}
use Rattle.std.proofs.lemmas.List.{append-nil, append_assoc, get_or-map, length-drop, length-map, map-append}
use Rattle.std.proofs.lemmas.List.Concat.{flat_map-append}
use Rattle.std.proofs.lemmas.List.Folds.{flat_map-map}
use Rattle.std.proofs.lemmas.List.FromFn.{get_or-map-range_with_len, length-range_with_len, map-range_with_len_more}
use Rattle.std.proofs.lemmas.List.Sums.{suffix_len_is}
use Rattle.std.proofs.lemmas.Nat.{mul-le}
use Rattle.memchr.specs.Find.{IsLastByte, is_byte}
use Rattle.redo_device.specs.declared.feed.Broken.{Broken}
use Rattle.redo_device.specs.Sink.{Output, Writes, append_output}
use Rattle.redo_html.specs.declared.chart.ChartItem.{ChartItem}
use Rattle.redo_html.specs.declared.chart.GroupKind.TheVariants.{Axis, Callers, Recipes, Untimed}
use Rattle.redo_html.specs.Chart.{Layer, Shape, drawing_nodes, nodes_html, shape_of}
use Rattle.redo_logs.specs.Logs.{Log}
use Rattle.redo_outline.specs.declared.node.Node.{Node}
use Rattle.redo_timeline.specs.declared.bar.Bar.{Bar}
use Rattle.redo_timeline.specs.Laws.{IsInLanes}
use Rattle.redo_timeline.specs.Timeline.{Drawing as Timeline}
use Rattle.redo_units.specs.Ticks.{tick_step_of, tick_text}
use Rattle.redo_view.specs.declared.form.FormFault.{FormFault}
use Rattle.redo_view.specs.declared.form.FormFault.TheVariants.{Write, OutOfMemory}
use Rattle.redo_view.specs.Form.{FormWrites}
use Rattle.redo_chart.specs.declared.band.Band.{Band}
use Rattle.redo_chart.specs.Axis.{axis_shapes, last_tick, tick_shapes}
use Rattle.redo_chart.specs.Bands.{below, marks_band, callers_band, recipe_lane_height, recipes_band}
use Rattle.redo_chart.specs.Bars.{bar_shapes}
use Rattle.redo_chart.specs.Private.Fitting.{AllFit, Fits, texts_in, tick_texts}
use Rattle.redo_chart.specs.Private.Layering.{drawing_with, layer_with}
use Rattle.redo_chart.specs.Targets.{after_last_slash}
use Rattle.redo_chart.specs.Timeline.{drawing_of, height_of}

-- ---- names

-- The suffix without a slash, if the last slash is at `at`, and if there is none.
pub after_slash : (name : List ℕ) (at : ℕ) → IsLastByte (is_byte 47) name (Some at)
    → take (length name - (at + 1)) (drop (at + 1) name) ≡ after_last_slash name
after_slash name at found =
    let inside = found.0.high in
    let count : suffix_len (λ (b : ℕ). not (b == 47)) name ≡ length name - (at + 1) =
    suffix_len_is (λ (b : ℕ). not (b == 47)) name (at + 1) 0 (omega (arith, inside))
    (λ k low below. others (get_or name k 0 == 47) (λ is. found.0.after k low below is))
    (λ some. let same : at + 1 - 1 ≡ at = omega arith in ap not (ap (λ (n : ℕ). get_or name n 0 == 47) same ∙ found.1)) in
    let same : length name - (length name - (at + 1)) ≡ at + 1 = omega (arith, inside) in
    ap (λ (n : ℕ). take n (drop (at + 1) name)) (sym (length-drop (at + 1) name)) ∙ take-length (drop (at + 1) name)
    ∙ ap (λ (n : ℕ). drop n name) (sym same ∙ ap (λ (n : ℕ). length name - n) (sym count))
  where
    others : (b : Bool) → (b ≡ true → ⊥) → not b ≡ true
    others true never = absurd (never refl)
    others false never = refl

pub no_slash : (name : List ℕ) → IsLastByte (is_byte 47) name None → name ≡ after_last_slash name
no_slash name none =
    let count : suffix_len (λ (b : ℕ). not (b == 47)) name ≡ length name - 0 =
    suffix_len_is (λ (b : ℕ). not (b == 47)) name 0 0 (omega arith)
    (λ k low below. others (get_or name k 0 == 47) (λ is. none k low below is)) (λ some. absurd (omega (arith, some))) in
    let same : length name - (length name - 0) ≡ 0 = omega arith in
    ap (λ (n : ℕ). drop n name) (sym same ∙ ap (λ (n : ℕ). length name - n) (sym count))
  where
    others : (b : Bool) → (b ≡ true → ⊥) → not b ≡ true
    others true never = absurd (never refl)
    others false never = refl

-- ---- texts

-- There are as many texts as things that they are of.
pub text_count : {X : Type 0} (f : X → List ℕ) (texts : List (Vec ℕ)) (xs : List X) → texts_in texts ≡ map f xs → length texts ≡ length xs
text_count f texts xs is = sym (length-map texts (λ (text : Vec ℕ). text.items)) ∙ ap length is ∙ length-map xs f

-- The text at a position.
pub text_at : {X : Type 0} (f : X → List ℕ) (texts : List (Vec ℕ)) (xs : List X) (i : ℕ) (d : X) (e : Vec ℕ) → texts_in texts ≡ map f xs
    → i < length xs → (get_or texts i e).items ≡ f (get_or xs i d)
text_at f texts xs i d e is inside =
    let count = text_count f texts xs is in
    let below : i < length texts = omega (arith, inside, count) in
    sym (get_or-map (λ (text : Vec ℕ). text.items) texts i e (f (get_or xs i d)) below)
    ∙ ap (λ (all : List (List ℕ)). get_or all i (f (get_or xs i d))) is ∙ get_or-map f xs i d (f (get_or xs i d)) inside

-- ---- ticks

pub tick_more : (f : ℕ → List ℕ) (old new : List (Vec ℕ)) (text : Vec ℕ) (i : ℕ) → texts_in old ≡ map f (range_with_len 0 i)
    → new ≡ old ++ text ∷ [] → text.items ≡ f i → texts_in new ≡ map f (range_with_len 0 (i + 1))
tick_more f old new text i so_far pushed is =
    ap texts_in pushed ∙ map-append (λ (text : Vec ℕ). text.items) old (text ∷ [])
    ∙ ap (λ (texts : List (List ℕ)). texts ++ text.items ∷ []) so_far
    ∙ ap (λ (bytes : List ℕ). map f (range_with_len 0 i) ++ bytes ∷ []) is ∙ sym (map-range_with_len_more f 0 i i (omega arith))

-- The number of ticks.
pub tick_count : (width : ℕ) (texts : List (Vec ℕ)) → texts_in texts ≡ tick_texts width → length texts ≡ last_tick width + 1
tick_count width texts is =
    let f : ℕ → List ℕ = λ i. tick_text (i * tick_step_of width) (tick_step_of width) in
    text_count f texts (range_with_len 0 (last_tick width + 1)) is ∙ length-range_with_len 0 (last_tick width + 1)

pub tick_text_at : (width step i : ℕ) (texts : List (Vec ℕ)) (e : Vec ℕ) → step ≡ tick_step_of width → texts_in texts ≡ tick_texts width
    → i < length texts → (get_or texts i e).items ≡ tick_text (i * step) step
tick_text_at width step i texts e step_is is below =
    let f : ℕ → List ℕ = λ i. tick_text (i * tick_step_of width) (tick_step_of width) in
    let count = tick_count width texts is in
    sym (get_or-map (λ (text : Vec ℕ). text.items) texts i e (f i) below) ∙ ap (λ (all : List (List ℕ)). get_or all i (f i)) is
    ∙ get_or-map-range_with_len f 0 (last_tick width + 1) i i (f i) (omega (arith, below, count)) (omega arith)
    ∙ ap (λ (s : ℕ). tick_text (i * s) s) (sym step_is)

pub tick_inside : (width step i : ℕ) (texts : List (Vec ℕ)) → step ≡ tick_step_of width → texts_in texts ≡ tick_texts width
    → i < length texts → i * step ≤ width
tick_inside width step i texts step_is is below =
    let count = tick_count width texts is in
    let last : i ≤ width / tick_step_of width = omega (arith, below, count) in
    let most : i * tick_step_of width ≤ width / tick_step_of width * tick_step_of width = mul-le-mul_right (tick_step_of width) last in
    let all : width / tick_step_of width * tick_step_of width ≤ width = div-mul-le_self width (tick_step_of width) in
    subst (λ (s : ℕ). i * s ≤ width) (sym step_is) (omega (arith, most, all))

-- The shapes of one more tick.
pub tick_drawn : (bottom width step i : ℕ) (old middle new : List ChartItem) (line tick : ChartItem)
    → map shape_of old ≡ flat_map (tick_shapes bottom width step) (range_with_len 0 i)
    → middle ≡ old ++ line ∷ [] → new ≡ middle ++ tick ∷ [] → shape_of line ∷ shape_of tick ∷ [] ≡ tick_shapes bottom width step i
    → map shape_of new ≡ flat_map (tick_shapes bottom width step) (range_with_len 0 (i + 1))
tick_drawn bottom width step i old middle new line tick so_far first second is =
    let F : ℕ → List Shape = tick_shapes bottom width step in
    let id : ℕ → ℕ = λ j. j in
    let items : new ≡ old ++ line ∷ tick ∷ [] =
    second ∙ ap (λ (items : List ChartItem). items ++ tick ∷ []) first ∙ append_assoc old (line ∷ []) (tick ∷ []) in
    ap (map shape_of) items ∙ map-append shape_of old (line ∷ tick ∷ [])
    ∙ ap (λ (shapes : List Shape). shapes ++ (shape_of line ∷ shape_of tick ∷ [])) so_far
    ∙ ap (λ (shapes : List Shape). flat_map F (range_with_len 0 i) ++ shapes) is
    ∙ sym (sym (flat_map-map F id (range_with_len 0 (i + 1))) ∙ ap (flat_map F) (map-range_with_len_more id 0 i i (omega arith))
    ∙ flat_map-append F (map id (range_with_len 0 i)) (i ∷ [])
    ∙ ap (λ (shapes : List Shape). shapes ++ F i) (flat_map-map F id (range_with_len 0 i)))

pub ticks_drawn : (bottom width step i : ℕ) (texts : List (Vec ℕ)) (shapes : List Shape) → step ≡ tick_step_of width
    → texts_in texts ≡ tick_texts width → i ≡ length texts → shapes ≡ flat_map (tick_shapes bottom width step) (range_with_len 0 i)
    → shapes ≡ axis_shapes bottom width
ticks_drawn bottom width step i texts shapes step_is is all drawn =
    drawn ∙ ap (λ (s : ℕ). flat_map (tick_shapes bottom width s) (range_with_len 0 i)) step_is
    ∙ ap (λ (n : ℕ). flat_map (tick_shapes bottom width (tick_step_of width)) (range_with_len 0 n)) (all ∙ tick_count width texts is)

-- ---- bars

-- Bars fit into a band that isn't too low.
pub all_fit : (band known : Band) (bars : List Bar) (timeline : Timeline) (max_lanes : ℕ) → band ≡ known → bars ≡ timeline.bars
    → 0 < max_lanes → max_lanes ≤ 96 → known.top ≤ 10000 → known.lane_height ≤ 18 → IsInLanes max_lanes timeline → AllFit band bars
all_fit band known bars timeline max_lanes band_is bars_is some few top height lanes =
    subst (λ (band : Band). AllFit band bars) (sym band_is)
    (subst (λ (bars : List Bar). AllFit known bars) (sym bars_is) (each timeline.bars (lanes some).1))
  where
    fits : (bar : Bar) → bar.lane < timeline.lane_count → Fits known bar
    fits bar low =
        let count : timeline.lane_count ≤ max_lanes = (lanes some).0 in
        let most : bar.lane * known.lane_height ≤ 96 * 18 =
        mul-le bar.lane known.lane_height 96 18 (omega (arith, low, count, few)) height in
        omega (arith, most, top)

    each : (bars : List Bar) → AllByRecursion (λ (bar : Bar). bar.lane < timeline.lane_count) bars → AllFit known bars
    each [] all k d below = absurd (omega (arith, below))
    each (bar ∷ bars) all zero d below = fits bar all.0
    each (bar ∷ bars) all (suc k) d below = each bars all.1 k d (omega (arith, below))

-- ---- bands

pub low_lanes : (lanes : ℕ) → recipe_lane_height lanes ≤ 18
low_lanes lanes = by (leb lanes 16) (leb lanes 40)
  where
    by : (a b : Bool) → cond a 18 (cond b 12 8) ≤ 18
    by true b = omega arith
    by false true = omega arith
    by false false = omega arith

pub recipes_top : (caller_lanes lanes : ℕ) → caller_lanes ≤ 24 → (recipes_band caller_lanes lanes).top ≤ 10000
recipes_top caller_lanes lanes few = omega (arith, few)

pub marks_top : (caller_lanes lanes : ℕ) → caller_lanes ≤ 24 → lanes ≤ 96 → (marks_band caller_lanes lanes).top ≤ 10000
marks_top caller_lanes lanes few some =
    let most : recipe_lane_height lanes * lanes ≤ 18 * 96 = mul-le (recipe_lane_height lanes) lanes 18 96 (low_lanes lanes) some in
    omega (arith, few, most)

-- ---- the chart

pub same_drawing : (logs : List Log) (nodes : List Node) (width : ℕ) (callers recipes marks : Timeline) (height lanes bottom : ℕ)
    (upper middle lower : Band) (axis_items caller_items recipe_items mark_items : List Shape)
    → upper ≡ callers_band → middle ≡ recipes_band callers.lane_count recipes.lane_count
    → lower ≡ marks_band callers.lane_count recipes.lane_count
    → height ≡ below lower marks.lane_count → bottom ≡ height - 4 → lanes ≡ recipes.lane_count
    → axis_items ≡ axis_shapes bottom width → caller_items ≡ bar_shapes logs nodes upper callers.bars
    → recipe_items ≡ bar_shapes logs nodes middle recipes.bars → mark_items ≡ bar_shapes logs nodes lower marks.bars
    → drawing_with height lanes axis_items caller_items recipe_items mark_items ≡ drawing_of logs nodes width callers recipes marks
same_drawing logs nodes width callers recipes marks height lanes bottom upper middle lower axis_items caller_items recipe_items mark_items
    upper_is middle_is lower_is height_is bottom_is lanes_are axis_is callers_are recipes_are marks_are =
    let high : height ≡ height_of callers.lane_count recipes.lane_count marks.lane_count =
    height_is ∙ ap (λ (band : Band). below band marks.lane_count) lower_is in
    let axis = axis_is ∙ ap (λ (n : ℕ). axis_shapes n width) (bottom_is ∙ ap (λ (n : ℕ). n - 4) high) in
    let first = callers_are ∙ ap (λ (band : Band). bar_shapes logs nodes band callers.bars) upper_is in
    let second = recipes_are ∙ ap (λ (band : Band). bar_shapes logs nodes band recipes.bars) middle_is in
    let third = marks_are ∙ ap (λ (band : Band). bar_shapes logs nodes band marks.bars) lower_is in
    λ i. drawing_with (high i) (lanes_are i) (axis i) (first i) (second i) (third i)

-- ---- writing

append_output-nothing : (output : Option Output) → append_output output [] 0 ≡ output
append_output-nothing None = refl
append_output-nothing (Some taken) = λ i. Some (record { bytes = append-nil taken.bytes i; failures = none_more i })
  where
    none_more : taken.failures + 0 ≡ taken.failures
    none_more = omega arith

-- An allocation failed before anything was written.
pub no_memory : (output : Option Output) (text : List ℕ) (result : Result (Unit {0}) FormFault)
    → IsErrAnd result (λ fault. fault ≡ OutOfMemory) → FormWrites output output text result
no_memory output text (Ok done) is = absurd is
no_memory output text (Err Write) is = absurd (cc)
no_memory output text (Err OutOfMemory) is = (0, sym (append_output-nothing output))

-- A write failed.
pub no_write : (before after : Option Output) (text other : List ℕ) (broken : Broken) (result : Result (Unit {0}) FormFault)
    → IsErrAnd result (λ fault. fault ≡ Write) → text ≡ other → Writes before after text (Err broken) → FormWrites before after other result
no_write before after text other broken (Ok done) is same wrote = absurd is
no_write before after text other broken (Err Write) is same wrote = subst (λ (t : List ℕ). Writes before after t (Err broken)) same wrote
no_write before after text other broken (Err OutOfMemory) is same wrote = absurd (cc)

pub all_written : (before after : Option Output) (text other : List ℕ) (done : Unit {0}) → text ≡ other → Writes before after text (Ok done)
    → FormWrites before after other (Ok done)
all_written before after text other done same wrote = subst (λ (t : List ℕ). Writes before after t (Ok done)) same wrote

-- The chart of these layers.
pub wrote_layers : (before after : Option Output) (height lanes : ℕ) (axis callers recipes marks : Layer)
    (axis_shapes caller_shapes recipe_shapes mark_shapes : List Shape) (result : Result (Unit {0}) Broken)
    → axis ≡ layer_with Axis axis_shapes → callers ≡ layer_with Callers caller_shapes → recipes ≡ layer_with Recipes recipe_shapes
    → marks ≡ layer_with Untimed mark_shapes
    → Writes before after (nodes_html (drawing_nodes
    (record { height = height; lanes = lanes; layers = axis ∷ callers ∷ recipes ∷ marks ∷ [] }))) result
    → Writes before after (nodes_html (drawing_nodes
    (drawing_with height lanes axis_shapes caller_shapes recipe_shapes mark_shapes))) result
wrote_layers before after height lanes axis callers recipes marks axis_shapes caller_shapes recipe_shapes mark_shapes result a p r m wrote =
    let same : axis ∷ callers ∷ recipes ∷ marks ∷ []
    ≡ layer_with Axis axis_shapes ∷ layer_with Callers caller_shapes ∷ layer_with Recipes recipe_shapes ∷ layer_with Untimed mark_shapes
    ∷ [] = cc in
    subst (λ (layers : List Layer). Writes before after
    (nodes_html (drawing_nodes (record { height = height; lanes = lanes; layers = layers }))) result) same wrote
