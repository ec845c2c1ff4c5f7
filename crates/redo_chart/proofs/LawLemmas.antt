-- The laws about charts.
use Rattle.std.proofs.Common.{◌≡◌, ℕ, zero, suc, ◌+◌, ◌-◌, ◌*◌, ◌/◌, ◌<◌, ◌≤◌, leb, ltb, min, length, Bool, true, false, cond, nat_lt, List, [], ◌∷◌, ◌++◌, map, Option, None, Some, refl, sym, ap, ◌∙◌, subst, arith, length-append}
use Rattle.std.specs.Prelude.{◌&&◌, IfSome}
use Rattle.std.specs.List.{AllByRecursion, AllZip, flat_map, list_all, range_with_len}
use Rattle.std.specs.List.Sorted.{IsPermutation}
use Rattle.std.proofs.lemmas.Bool.{le-leb, lt-ltb}
use Rattle.std.proofs.Math.Nat.{div-mul-le_self, div-zero, le-div_iff_mul-le}
use Rattle.std.proofs.lemmas.List.{append-nil, map-append}
use Rattle.std.proofs.lemmas.List.Folds.{list_all-append}
use Rattle.std.proofs.lemmas.Grind.{flat_map-append}
use Rattle.std.proofs.lemmas.List.Sorted.{All-permutation}
use Rattle.std.proofs.lemmas.List.Sums.{AllPass-from_list_all, list_all-from_AllPass}
use Rattle.redo_html.specs.Chart.{Shape, drawing_links, shape_links}
use Rattle.redo_logs.specs.Logs.{Log}
use Rattle.redo_outline.specs.declared.node.Node.{Node}
use Rattle.redo_timeline.specs.declared.bar.Bar.{Bar}
use Rattle.redo_timeline.specs.declared.span.Span.{Span}
use Rattle.redo_timeline.specs.declared.span.Window.{Window}
use Rattle.redo_timeline.specs.Bars.{bar_of, bars_from, bars_in, began_of, joins, position_of, units}
use Rattle.redo_timeline.specs.Lanes.{ended_of, lanes_of}
use Rattle.redo_timeline.specs.Laws.{EachBar, IsSlimIfJoined, spans_of}
use Rattle.redo_timeline.specs.Timeline.{bars_of, drawn_bars, timeline_of}
use Rattle.redo_timeline.proofs.CoverLemmas.{IsIncluded, bars_include}
use Rattle.redo_timeline.proofs.CoverLemmas.{Includes as InTime}
use Rattle.redo_timeline.proofs.LawLemmas.{all_imply, drawn_once, joined, joined_narrow, lanes-permutation}
use Rattle.redo_chart.specs.declared.band.Band.{Band}
use Rattle.redo_chart.specs.Axis.{last_tick, tick_shapes}
use Rattle.redo_chart.specs.Bands.{marks_band, max_mark_lanes, max_caller_lanes, max_recipe_lanes, callers_band, recipes_band}
use Rattle.redo_chart.specs.Bars.{bar_shapes, drawn_bar, label_of}
use Rattle.redo_chart.specs.Laws.{Draws, DrawsAll, Includes, are_below}
use Rattle.redo_chart.specs.Targets.{last_part, name_at}
use Rattle.redo_chart.specs.Timeline.{height_of, timeline_drawing}
use Rattle.redo_units.specs.Ticks.{tick_step_of}

-- ---- where bars lead

and_left : (a b : Bool) → (a && b) ≡ true → a ≡ true
and_left true b both = refl
and_left false b both = absurd (cc)

and_right : (a b : Bool) → (a && b) ≡ true → b ≡ true
and_right true b both = both
and_right false b both = absurd (cc)

and_both : (a b : Bool) → a ≡ true → b ≡ true → (a && b) ≡ true
and_both true b left right = right
and_both false b left right = absurd (cc)

-- An axis leads nowhere.
axis_links : (bottom width step : ℕ) (ticks : List ℕ) → flat_map shape_links (flat_map (tick_shapes bottom width step) ticks) ≡ []
axis_links bottom width step [] = refl
axis_links bottom width step (i ∷ ticks) = axis_links bottom width step ticks

bar_links : (logs : List Log) (nodes : List Node) (band : Band) (bars : List Bar)
    → flat_map shape_links (bar_shapes logs nodes band bars) ≡ map (λ (bar : Bar). bar.position) bars
bar_links logs nodes band [] = refl
bar_links logs nodes band (bar ∷ bars) = ap (λ (links : List ℕ). bar.position ∷ links) (bar_links logs nodes band bars)

module _ (window : Window) (count : ℕ) where
  abbrev is_below : ℕ → Bool
  is_below position = nat_lt position count

  position_below : (bar : List Span) (span : Span) → is_below (position_of bar) ≡ true → is_below span.position ≡ true
      → is_below (position_of (bar ++ span ∷ [])) ≡ true
  position_below [] span first below = below
  position_below (other ∷ rest) span first below = first

  bars_from_below : (bar rest : List Span) → is_below (position_of bar) ≡ true → are_below count rest ≡ true
      → list_all (λ (bar : List Span). is_below (position_of bar)) (bars_from window bar rest) ≡ true
  bars_from_below bar [] first below = and_both _ true first refl
  bars_from_below bar (span ∷ rest) first below =
      by (joins window bar span)
      (bars_from_below (bar ++ span ∷ []) rest (position_below bar span first (and_left _ _ below))
      (and_right (is_below span.position) _ below))
      (bars_from_below (span ∷ []) rest (and_left _ _ below) (and_right (is_below span.position) _ below))
    where
      by : (b : Bool) → list_all (λ (bar : List Span). is_below (position_of bar)) (bars_from window (bar ++ span ∷ []) rest) ≡ true
          → list_all (λ (bar : List Span). is_below (position_of bar)) (bars_from window (span ∷ []) rest) ≡ true
          → list_all (λ (bar : List Span). is_below (position_of bar))
          (cond b (bars_from window (bar ++ span ∷ []) rest) (bar ∷ bars_from window (span ∷ []) rest)) ≡ true
      by true more next = more
      by false more next = and_both _ _ first next

  bars_in_below : (spans : List Span) → are_below count spans ≡ true
      → list_all (λ (bar : List Span). is_below (position_of bar)) (bars_in window spans) ≡ true
  bars_in_below [] below = refl
  bars_in_below (span ∷ rest) below = bars_from_below (span ∷ []) rest (and_left _ _ below) (and_right (is_below span.position) _ below)

  lane_below : (lane : ℕ) (bars : List (List Span)) (rest : List Bar)
      → list_all (λ (bar : List Span). is_below (position_of bar)) bars ≡ true
      → list_all is_below (map (λ (bar : Bar). bar.position) rest) ≡ true
      → list_all is_below (map (λ (bar : Bar). bar.position) (map (bar_of window lane) bars ++ rest)) ≡ true
  lane_below lane [] rest below others = others
  lane_below lane (bar ∷ bars) rest below others =
      and_both _ _ (and_left _ _ below) (lane_below lane bars rest (and_right (is_below (position_of bar)) _ below) others)

  lanes_below : (lane : ℕ) (lanes : List (List Span)) → are_below count (joined lanes) ≡ true
      → list_all is_below (map (λ (bar : Bar). bar.position) (drawn_bars window lane (map (bars_in window) lanes))) ≡ true
  lanes_below lane [] below = refl
  lanes_below lane (spans ∷ lanes) below =
      let both = sym (list_all-append (λ (span : Span). nat_lt span.position count) spans (joined lanes)) ∙ below in
      lane_below lane (bars_in window spans) (drawn_bars window (lane + 1) (map (bars_in window) lanes))
      (bars_in_below spans (and_left _ _ both)) (lanes_below (lane + 1) lanes (and_right (are_below count spans) _ both))

  group_below : (logs : List Log) (nodes : List Node) (band : Band) (max_lanes : ℕ) (spans : List Span) → are_below count spans ≡ true
      → list_all is_below (flat_map shape_links (bar_shapes logs nodes band ((timeline_of window max_lanes spans).bars))) ≡ true
  group_below logs nodes band max_lanes spans below =
      let test : Span → Bool = λ span. nat_lt span.position count in
      let lanes = lanes_of max_lanes spans in
      let all = list_all-from_AllPass test (joined lanes)
      (All-permutation (λ (span : Span). test span ≡ true) spans (joined lanes) (lanes-permutation max_lanes spans)
      (AllPass-from_list_all test spans below)) in
      ap (list_all is_below) (bar_links logs nodes band ((timeline_of window max_lanes spans).bars)) ∙ lanes_below 0 lanes all

  all_below : (first second third : List ℕ) → list_all is_below first ≡ true → list_all is_below second ≡ true
      → list_all is_below third ≡ true → list_all is_below (first ++ (second ++ (third ++ []))) ≡ true
  all_below first second third a b c =
      list_all-append is_below first (second ++ (third ++ []))
      ∙ and_both _ _ a (list_all-append is_below second (third ++ [])
      ∙ and_both _ _ b (list_all-append is_below third [] ∙ and_both _ true c refl))

  -- The links of a chart: its axis has none.
  pub links_below : (logs : List Log) (nodes : List Node) (callers recipes marks : List Span)
      → are_below count (callers ++ (recipes ++ marks)) ≡ true
      → list_all is_below (drawing_links (timeline_drawing logs nodes window callers recipes marks)) ≡ true
  links_below logs nodes callers recipes marks below =
      let test : Span → Bool = λ span. nat_lt span.position count in
      let split = sym (list_all-append test callers (recipes ++ marks)) ∙ below in
      let others = sym (list_all-append test recipes marks) ∙ and_right (are_below count callers) _ split in
      let first = timeline_of window max_caller_lanes callers in
      let second = timeline_of window max_recipe_lanes recipes in
      let third = timeline_of window max_mark_lanes marks in
      let upper = flat_map shape_links (bar_shapes logs nodes callers_band first.bars) in
      let middle = flat_map shape_links (bar_shapes logs nodes (recipes_band first.lane_count second.lane_count) second.bars) in
      let lower = flat_map shape_links (bar_shapes logs nodes (marks_band first.lane_count second.lane_count) third.bars) in
      ap (λ (links : List ℕ). list_all is_below (links ++ (upper ++ (middle ++ (lower ++ [])))))
      (axis_links (height_of first.lane_count second.lane_count third.lane_count - 4) window.width (tick_step_of window.width)
      (range_with_len 0 (last_tick window.width + 1)))
      ∙ all_below upper middle lower (group_below logs nodes callers_band max_caller_lanes callers (and_left _ _ split))
      (group_below logs nodes (recipes_band first.lane_count second.lane_count) max_recipe_lanes recipes (and_left _ _ others))
      (group_below logs nodes (marks_band first.lane_count second.lane_count) max_mark_lanes marks
      (and_right (are_below count recipes) _ others))

-- ---- what bars say

-- The bars of all lanes, each given by its spans.
abbrev all_bars : List (List (List Span)) → List (List Span)
all_bars lanes = flat_map (λ (bars : List (List Span)). bars) lanes

abbrev all_spans : List (List Span) → List Span
all_spans bars = flat_map (λ (bar : List Span). bar) bars

spans_of_bars : (lanes : List (List (List Span))) → spans_of lanes ≡ all_spans (all_bars lanes)
spans_of_bars [] = refl
spans_of_bars (bars ∷ lanes) =
    ap (λ (spans : List Span). all_spans bars ++ spans) (spans_of_bars lanes)
    ∙ sym (flat_map-append (λ (bar : List Span). bar) bars (all_bars lanes))

append_each : {X : Type 0} (P : X → Type 0) (one other : List X) → AllByRecursion P one → AllByRecursion P other
    → AllByRecursion P (one ++ other)
append_each P [] other first second = second
append_each P (x ∷ one) other first second = (first.0, append_each P one other first.1 second)

each_bar : (P : List Span → Type 0) (lanes : List (List (List Span))) → EachBar P lanes → AllByRecursion P (all_bars lanes)
each_bar P [] all = tt
each_bar P (bars ∷ lanes) all = append_each P bars (all_bars lanes) all.0 (each_bar P lanes all.1)

-- Each bar has a span.
bars_from_filled : (window : Window) (bar rest : List Span) → 0 < length bar
    → AllByRecursion (λ (bar : List Span). 0 < length bar) (bars_from window bar rest)
bars_from_filled window bar [] some = (some, tt)
bars_from_filled window bar (span ∷ rest) some =
    by (joins window bar span)
    (bars_from_filled window (bar ++ span ∷ []) rest (let both = length-append bar (span ∷ []) in omega (arith, both)))
    (bars_from_filled window (span ∷ []) rest (omega arith))
  where
    by : (b : Bool) → AllByRecursion (λ (bar : List Span). 0 < length bar) (bars_from window (bar ++ span ∷ []) rest)
        → AllByRecursion (λ (bar : List Span). 0 < length bar) (bars_from window (span ∷ []) rest)
        → AllByRecursion (λ (bar : List Span). 0 < length bar)
        (cond b (bars_from window (bar ++ span ∷ []) rest) (bar ∷ bars_from window (span ∷ []) rest))
    by true more next = more
    by false more next = (some, next)

bars_filled : (window : Window) (lanes : List (List Span)) → EachBar (λ (bar : List Span). 0 < length bar) (map (bars_in window) lanes)
bars_filled window [] = tt
bars_filled window ([] ∷ lanes) = (tt, bars_filled window lanes)
bars_filled window ((span ∷ spans) ∷ lanes) = (bars_from_filled window (span ∷ []) spans (omega arith), bars_filled window lanes)

zip_append : {A B : Type 0} (R : A → B → Type 0) (xs others : List A) (ys more : List B) → AllZip R xs ys → AllZip R others more
    → AllZip R (xs ++ others) (ys ++ more)
zip_append R [] others [] more zip rest = rest
zip_append R [] others (y ∷ ys) more zip rest = absurd zip
zip_append R (x ∷ xs) others [] more zip rest = absurd zip
zip_append R (x ∷ xs) others (y ∷ ys) more zip rest = (zip.0, zip_append R xs others ys more zip.1 rest)

quotient_le : (a b k : ℕ) → a ≤ b → a / k ≤ b / k
quotient_le a b zero le = let none = div-zero a in omega (arith, none)
quotient_le a b (suc k) le =
    let some : 0 < suc k = omega arith in
    let most : a / suc k * suc k ≤ b = let all = div-mul-le_self a (suc k) in omega (arith, all, le) in
    (le-div_iff_mul-le some).1 most

units_le : (window : Window) (a b : ℕ) → a ≤ b → units window a ≤ units window b
units_le window a b le = quotient_le (min (a - window.began) window.width * 10000)
    (min (b - window.began) window.width * 10000) window.width (omega (arith, le))

module _ (logs : List Log) (nodes : List Node) (window : Window) (band : Band) where
  -- A bar that includes the times of a span in milliseconds includes them in the chart.
  included : (lane : ℕ) (bar : List Span) (span : Span) → InTime bar span
      → Includes window (drawn_bar logs nodes band (bar_of window lane bar)) span
  included lane bar span times =
      let begins = units_le window (began_of bar) span.began times.0 in
      let ends = units_le window span.ended (ended_of bar) times.1 in
      (begins, omega (arith, ends))

  -- The label is the last part of the name, and a bar that is large enough has one.
  is_labelled : (name : List ℕ) (bar : Bar) → IfSome (label_of name band.lane_height bar) (λ label. last_part name ≡ Some label)
  is_labelled name bar = by (leb 350 bar.width && ltb 12 band.lane_height) (last_part name)
    where
      by : (b : Bool) (part : Option (List ℕ)) → IfSome (cond b part None) (λ label. part ≡ Some label)
      by true None = tt
      by true (Some label) = refl
      by false part = tt

  has_label : (name : List ℕ) (bar : Bar) → 350 ≤ bar.width → 10 < band.lane_height - 2
      → label_of name band.lane_height bar ≡ last_part name
  has_label name bar wide high =
      let low : 12 < band.lane_height = omega (arith, high) in
      ap (λ (b : Bool). cond b (last_part name) None)
      (and_both (leb 350 bar.width) (ltb 12 band.lane_height) (le-leb 350 bar.width wide) (lt-ltb 12 band.lane_height low))

  lane_drawn : (lane : ℕ) (bars : List (List Span)) → AllByRecursion IsIncluded bars
      → AllZip (Draws logs nodes window band.kind) bars (bar_shapes logs nodes band (map (bar_of window lane) bars))
  lane_drawn lane [] times = tt
  lane_drawn lane (bar ∷ bars) times = (
    record {
      target = refl;
      begins = refl;
      lasts = refl;
      fails = refl;
      title = refl;
      label = is_labelled (name_at logs nodes (position_of bar)) (bar_of window lane bar);
      labelled = has_label (name_at logs nodes (position_of bar)) (bar_of window lane bar);
      times = all_imply (InTime bar) (Includes window (drawn_bar logs nodes band (bar_of window lane bar))) (included lane bar) bar times.0;
    },
    lane_drawn lane bars times.1,
  )

  lanes_drawn : (lane : ℕ) (lanes : List (List (List Span))) → EachBar IsIncluded lanes
      → AllZip (Draws logs nodes window band.kind) (all_bars lanes) (bar_shapes logs nodes band (drawn_bars window lane lanes))
  lanes_drawn lane [] times = tt
  lanes_drawn lane (bars ∷ lanes) times =
      let here = map (bar_of window lane) bars in
      let later = drawn_bars window (lane + 1) lanes in
      subst (λ (shapes : List Shape). AllZip (Draws logs nodes window band.kind) (bars ++ all_bars lanes) shapes)
      (sym (map-append _ here later))
      (zip_append (Draws logs nodes window band.kind) bars (all_bars lanes) (bar_shapes logs nodes band here)
      (bar_shapes logs nodes band later) (lane_drawn lane bars times.0) (lanes_drawn (lane + 1) lanes times.1))

  pub group_drawn : (max_lanes : ℕ) (spans : List Span)
      → DrawsAll logs nodes window band.kind spans
      (bar_shapes logs nodes band (drawn_bars window 0 (bars_of window max_lanes spans)) ++ [])
  group_drawn max_lanes spans =
      let shapes = bar_shapes logs nodes band (drawn_bars window 0 (bars_of window max_lanes spans)) in
      let lanes = bars_of window max_lanes spans in record {
        bars = all_bars lanes;
        once = subst (λ (drawn : List Span). IsPermutation spans drawn) (spans_of_bars lanes) (drawn_once window max_lanes spans);
        filled = each_bar (λ (bar : List Span). 0 < length bar) lanes (bars_filled window (lanes_of max_lanes spans));
        drawn =
            subst (λ (all : List Shape). AllZip (Draws logs nodes window band.kind) (all_bars lanes) all) (sym (append-nil shapes))
            (lanes_drawn 0 lanes (bars_include window max_lanes spans));
        narrow = each_bar (IsSlimIfJoined window) lanes (joined_narrow window max_lanes spans);
      }
