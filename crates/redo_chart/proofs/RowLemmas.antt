-- The rows of a chart.
use Rattle.std.proofs.Common.{◌≡◌, ℕ, ◌+◌, ◌-◌, ◌*◌, ◌<◌, ◌≤◌, leb, Bool, true, false, cond, List, [], ◌∷◌, ◌++◌, drop, length, map, take, refl, sym, ap, ◌∙◌, subst, arith, append_assoc}
use Rattle.std.specs.List.{AllByRecursion, flat_map}
use Rattle.std.proofs.Math.Nat.{mul_comm}
use Rattle.std.proofs.lemmas.List.{append-nil, length-map, map-append}
use Rattle.redo_html.specs.Chart.{Shape}
use Rattle.redo_html.specs.Chart.Shape.{BarShape}
use Rattle.redo_logs.specs.Logs.{Log}
use Rattle.redo_outline.specs.declared.node.Node.{Node}
use Rattle.redo_timeline.specs.declared.span.Span.{Span}
use Rattle.redo_timeline.specs.declared.span.Window.{Window}
use Rattle.redo_timeline.specs.Bars.{bar_of, bars_in}
use Rattle.redo_timeline.specs.Lanes.{lanes_of}
use Rattle.redo_timeline.specs.Timeline.{bars_of, drawn_bars, timeline_of}
use Rattle.redo_chart.specs.declared.band.Band.{Band}
use Rattle.redo_chart.specs.Axis.{tick_shapes}
use Rattle.redo_chart.specs.Bands.{marks_band, max_mark_lanes, max_caller_lanes, max_recipe_lanes, callers_band, recipe_lane_height, recipes_band}
use Rattle.redo_chart.specs.Bars.{bar_shapes, drawn_bar}
use Rattle.redo_chart.specs.Laws.{AreRows, IsFromTo, IsNoBar, chart_bars, chart_lanes, rows_of}
use Rattle.redo_chart.specs.Timeline.{timeline_drawing}

-- ---- the axis

pub no_bars : (bottom width step : ℕ) (ticks : List ℕ) → AllByRecursion IsNoBar (flat_map (tick_shapes bottom width step) ticks ++ [])
no_bars bottom width step [] = tt
no_bars bottom width step (i ∷ ticks) = (tt, (tt, no_bars bottom width step ticks))

-- ---- the shapes of each lane

taken : {A B : Type 0} (f : A → B) (xs : List A) (more : List B) → take (length xs) (map f xs ++ more) ≡ map f xs
taken f [] more = refl
taken f (x ∷ xs) more = ap (λ rest. f x ∷ rest) (taken f xs more)

dropped : {A B : Type 0} (f : A → B) (xs : List A) (more : List B) → drop (length xs) (map f xs ++ more) ≡ more
dropped f [] more = refl
dropped f (x ∷ xs) more = dropped f xs more

module _ (logs : List Log) (nodes : List Node) (window : Window) (band : Band) where
  abbrev shape_in : ℕ → List Span → Shape
  shape_in lane bar = BarShape (drawn_bar logs nodes band (bar_of window lane bar))

  -- The rows of consecutive lanes. The first lane has this number.
  abbrev rows_from : ℕ → List (List (List Span)) → List (List Shape)
  rows_from lane [] = []
  rows_from lane (bars ∷ lanes) = map (shape_in lane) bars ∷ rows_from (lane + 1) lanes

  abbrev shapes_from : ℕ → List (List (List Span)) → List Shape
  shapes_from lane lanes = bar_shapes logs nodes band (drawn_bars window lane lanes)

  lane_shapes : (lane : ℕ) (bars : List (List Span)) → bar_shapes logs nodes band (map (bar_of window lane) bars) ≡ map (shape_in lane) bars
  lane_shapes lane [] = refl
  lane_shapes lane (bar ∷ bars) = ap (λ rest. shape_in lane bar ∷ rest) (lane_shapes lane bars)

  first_shapes : (lane : ℕ) (bars : List (List Span)) (lanes : List (List (List Span))) (more : List Shape)
      → shapes_from lane (bars ∷ lanes) ++ more ≡ map (shape_in lane) bars ++ (shapes_from (lane + 1) lanes ++ more)
  first_shapes lane bars lanes more =
      ap (λ shapes. shapes ++ more) (map-append _ (map (bar_of window lane) bars) (drawn_bars window (lane + 1) lanes)
      ∙ ap (λ shapes. shapes ++ shapes_from (lane + 1) lanes) (lane_shapes lane bars))
      ∙ append_assoc (map (shape_in lane) bars) (shapes_from (lane + 1) lanes) more

  split : (lane : ℕ) (lanes others : List (List (List Span))) (more : List Shape)
      → rows_of (lanes ++ others) (shapes_from lane lanes ++ more) ≡ rows_from lane lanes ++ rows_of others more
  split lane [] others more = refl
  split lane (bars ∷ lanes) others more =
      let rest = shapes_from (lane + 1) lanes ++ more in
      ap (rows_of (bars ∷ (lanes ++ others))) (first_shapes lane bars lanes more)
      ∙ (λ i. taken (shape_in lane) bars rest i ∷ rows_of (lanes ++ others) (dropped (shape_in lane) bars rest i))
      ∙ ap (λ rows. map (shape_in lane) bars ∷ rows) (split (lane + 1) lanes others more)

  -- ---- where the rows are

  abbrev top_of : ℕ → ℕ
  top_of lane = band.top + lane * band.lane_height

  lane_in_row : (lane : ℕ) (bars : List (List Span))
      → AllByRecursion (IsFromTo (top_of lane) (top_of lane + (band.lane_height - 2))) (map (shape_in lane) bars)
  lane_in_row lane [] = tt
  lane_in_row lane (bar ∷ bars) = ((refl, refl), lane_in_row lane bars)

  group_rows : (lane above end : ℕ) (lanes : List (List (List Span))) → 2 < band.lane_height → above < top_of lane
      → top_of (lane + length lanes) ≤ end → AreRows above end (rows_from lane lanes)
  group_rows lane above end [] high after within =
      let same : lane + 0 ≡ lane = omega arith in
      let last = subst (λ (n : ℕ). top_of n ≤ end) same within in omega (arith, after, last)
  group_rows lane above end (bars ∷ lanes) high after within =
      let next : top_of (lane + 1) ≡ top_of lane + band.lane_height = omega arith in
      let count : lane + length (bars ∷ lanes) ≡ lane + 1 + length lanes = omega arith in (
        top_of lane + (band.lane_height - 2),
        record { top = top_of lane; gap = after; height = omega (arith, high); bars = lane_in_row lane bars },
        group_rows (lane + 1) (top_of lane + (band.lane_height - 2)) end lanes high (omega (arith, high, next))
            (subst (λ (n : ℕ). top_of n ≤ end) count within),
      )

-- ---- all rows

lower : (above other end : ℕ) (rows : List (List Shape)) → other ≤ above → AreRows above end rows → AreRows other end rows
lower above other end [] le rows = omega (arith, le, rows)
lower above other end (row ∷ rest) le rows = (
  rows.0,
  record {
    top = rows.1.top;
    gap = let gap = rows.1.gap in
        omega (arith, le, gap);
    height = rows.1.height;
    bars = rows.1.bars;
  },
  rows.2,
)

rows_append : (above middle end : ℕ) (rows others : List (List Shape)) → AreRows above middle rows → AreRows middle end others
    → AreRows above end (rows ++ others)
rows_append above middle end [] others le rest = lower middle above end others le rest
rows_append above middle end (row ∷ rows) others first rest = (first.0, first.1, rows_append first.0 middle end rows others first.2 rest)

high_lanes : (lanes : ℕ) → 2 < recipe_lane_height lanes
high_lanes lanes = by (leb lanes 16) (leb lanes 40)
  where
    by : (a b : Bool) → 2 < cond a 18 (cond b 12 8)
    by true b = omega arith
    by false true = omega arith
    by false false = omega arith

lane_count : (window : Window) (max_lanes : ℕ) (spans : List Span)
    → length (bars_of window max_lanes spans) ≡ (timeline_of window max_lanes spans).lane_count
lane_count window max_lanes spans = length-map (lanes_of max_lanes spans) (bars_in window)

module _ (logs : List Log) (nodes : List Node) (window : Window) (callers recipes marks : List Span) where
  abbrev caller_lanes : ℕ
  caller_lanes = (timeline_of window max_caller_lanes callers).lane_count

  abbrev recipe_lanes : ℕ
  recipe_lanes = (timeline_of window max_recipe_lanes recipes).lane_count

  abbrev middle_band : Band
  middle_band = recipes_band caller_lanes recipe_lanes

  abbrev lower_band : Band
  lower_band = marks_band caller_lanes recipe_lanes

  abbrev first : List (List (List Span))
  first = bars_of window max_caller_lanes callers

  abbrev second : List (List (List Span))
  second = bars_of window max_recipe_lanes recipes

  abbrev third : List (List (List Span))
  third = bars_of window max_mark_lanes marks

  abbrev drawn_rows : List (List Shape)
  drawn_rows = rows_from logs nodes window callers_band 0 first
      ++ (rows_from logs nodes window middle_band 0 second ++ (rows_from logs nodes window lower_band 0 third ++ []))

  rows_are : rows_of (chart_lanes window callers recipes marks) (chart_bars (timeline_drawing logs nodes window callers recipes marks))
      ≡ drawn_rows
  rows_are =
      let upper = shapes_from logs nodes window callers_band 0 first in
      let middle = shapes_from logs nodes window middle_band 0 second in
      let low = shapes_from logs nodes window lower_band 0 third in
      (λ i. rows_of (first ++ (second ++ sym (append-nil third) i)) (append-nil upper i ++ (append-nil middle i ++ (low ++ []))))
      ∙ split logs nodes window callers_band 0 first (second ++ (third ++ [])) (middle ++ (low ++ []))
      ∙ ap (λ rows. rows_from logs nodes window callers_band 0 first ++ rows)
      (split logs nodes window middle_band 0 second (third ++ []) (low ++ [])
      ∙ ap (λ rows. rows_from logs nodes window middle_band 0 second ++ rows) (split logs nodes window lower_band 0 third [] []))

  pub are_in_rows : AreRows 15 (timeline_drawing logs nodes window callers recipes marks).height
      (rows_of (chart_lanes window callers recipes marks) (chart_bars (timeline_drawing logs nodes window callers recipes marks)))
  are_in_rows =
      let height = (timeline_drawing logs nodes window callers recipes marks).height in
      let a = lane_count window max_caller_lanes callers in
      let b = lane_count window max_recipe_lanes recipes in
      let c = lane_count window max_mark_lanes marks in
      let upper_end = top_of logs nodes window callers_band (0 + length first) in
      let middle_end = top_of logs nodes window middle_band (0 + length second) in
      let lower_end = top_of logs nodes window lower_band (0 + length third) in
      let count : 0 + length second ≡ recipe_lanes = omega (arith, b) in
      let turned : (0 + length second) * recipe_lane_height recipe_lanes ≡ recipe_lane_height recipe_lanes * recipe_lanes =
      mul_comm (0 + length second) (recipe_lane_height recipe_lanes) ∙ ap (λ (n : ℕ). recipe_lane_height recipe_lanes * n) count in
      subst (λ (rows : List (List Shape)). AreRows 15 height rows) (sym rows_are)
      (rows_append 15 upper_end height (rows_from logs nodes window callers_band 0 first) _
      (group_rows logs nodes window callers_band 0 15 upper_end first (omega arith) (omega arith) (omega arith))
      (rows_append upper_end middle_end height (rows_from logs nodes window middle_band 0 second) _
      (group_rows logs nodes window middle_band 0 upper_end middle_end second (high_lanes recipe_lanes) (omega (arith, a)) (omega arith))
      (rows_append middle_end lower_end height (rows_from logs nodes window lower_band 0 third) []
      (group_rows logs nodes window lower_band 0 middle_end lower_end third (omega arith) (omega (arith, turned)) (omega arith))
      (omega (arith, c)))))
