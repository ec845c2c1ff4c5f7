-- Charts that the laws accept, and others that they reject.
use Rattle.std.proofs.Common.{◌≡◌, ℕ, ◌<◌, ◌≤◌, Bool, true, false, List, [], ◌∷◌, ◌++◌, map, length, length-append, unwrap_or, Option, None, Some, refl, ap, arith}
use Rattle.std.specs.Fmt.{digits}
use Rattle.std.specs.List.{AllByRecursion, AllZip, flat_map}
use Rattle.std.specs.List.Sorted.{IsPermutation}
use Rattle.std.proofs.lemmas.List.Sorted.{length_permutation}
use Rattle.std.specs.Prelude.{codes}
use Rattle.redo_html.specs.declared.chart.Anchor.TheVariants.{Start}
use Rattle.redo_html.specs.declared.chart.GroupKind.TheVariants.{Axis, Recipes, Untimed}
use Rattle.redo_html.specs.Chart.{DrawnBar, Shape, shape_links}
use Rattle.redo_html.specs.Chart.Shape.{BarShape, LineShape, TickShape}
use Rattle.redo_timeline.specs.declared.span.Span.{Span}
use Rattle.redo_units.specs.Durations.{duration_words}
use Rattle.redo_units.specs.Ticks.{tick_step_of}
use Rattle.redo_units.specs.Words.{decimal_text}
use Rattle.redo_chart.specs.Laws.{AreRows, Draws, DrawsAll, Includes, IsNoBar, SaysOf, are_below, chart_bars, chart_lanes, kinds_of, rows_of, shapes_of}
use Rattle.redo_chart.proofs.ChartRows.{chart, logs, no_bar, no_span, nodes, span, window}

-- ---- groups and lanes

tests :
    (are_below 3 (span 2 0 9 false ∷ span 0 0 9 false ∷ []) ≡ true) × (are_below 2 (span 0 0 9 false ∷ span 2 0 9 false ∷ []) ≡ false)
    × (are_below 0 [] ≡ true)
    × (shapes_of Recipes (record {
      height = 0;
      lanes = 0;
      layers = record { kind = Recipes; shapes = LineShape 1 2 ∷ [] } ∷ record { kind = Axis; shapes = LineShape 3 4 ∷ [] }
          ∷ record { kind = Recipes; shapes = LineShape 5 6 ∷ [] } ∷ [];
    })
    ≡ LineShape 1 2 ∷ LineShape 5 6 ∷ [])
tests = (refl, refl, refl, refl)

kinds : kinds_of (record {
  height = 0;
  lanes = 0;
  layers = record { kind = Untimed; shapes = [] } ∷ record { kind = Axis; shapes = [] } ∷ [];
}) ≡ Untimed ∷ Axis ∷ []
kinds = refl

-- One lane of callers, two of recipes, and one of marks. The first lane of recipes has two bars.
lanes :
    (map length (chart_lanes window (span 1 1000 11000 false ∷ [])
    (span 2 1000 5000 false ∷ span 0 3000 10500 true ∷ span 4 6000 6010 false ∷ []) (span 3 11000 11000 true ∷ [])) ≡ 1 ∷ 2 ∷ 1 ∷ 1 ∷ [])
    × (flat_map shape_links (chart_bars chart) ≡ 1 ∷ 2 ∷ 4 ∷ 0 ∷ 3 ∷ [])
    × (rows_of (((span 0 0 9 false ∷ []) ∷ (span 1 9 9 false ∷ []) ∷ []) ∷ [] ∷ ((span 2 0 9 false ∷ []) ∷ []) ∷ [])
    (LineShape 1 1 ∷ LineShape 2 2 ∷ LineShape 3 3 ∷ [])
    ≡ (LineShape 1 1 ∷ LineShape 2 2 ∷ []) ∷ [] ∷ (LineShape 3 3 ∷ []) ∷ [])
unfolding tick_step_of
lanes = (refl, refl, refl)

-- ---- what a bar says

abbrev labelled : ℕ → ℕ → ℕ → Bool → List ℕ → Option (List ℕ) → DrawnBar
labelled position x width failed title label =
    record { target = position; x = x; y = 40; width = width; height = 16; failed = failed; title = title; label = label }

-- A bar of the span of position 2, from 1000 to 5000.
abbrev said : ℕ → ℕ → ℕ → Bool → List ℕ → DrawnBar
said position x width failed title = labelled position x width failed title (Some (codes "a.o"))

abbrev one : List Span
one = span 2 1000 5000 false ∷ []

abbrev title : List ℕ
title = codes "out/a.o, 4.00 s"

accepted_bar : SaysOf logs nodes window Recipes one (said 2 0 4000 false title)
unfolding duration_words decimal_text digits
accepted_bar = record {
  target = refl;
  begins = refl;
  lasts = refl;
  fails = refl;
  title = refl;
  label = refl;
  labelled = λ wide high. refl;
  times = ((omega arith, omega arith), tt);
}

-- Another target, another beginning, another width, red, or another tooltip. Then a narrow bar begins too early, but includes the span.
rejected_bars :
    ¬ SaysOf logs nodes window Recipes one (said 1 0 4000 false title) × ¬ SaysOf logs nodes window Recipes one (said 2 1 4000 false title)
    × ¬ SaysOf logs nodes window Recipes one (said 2 0 4001 false title) × ¬ SaysOf logs nodes window Recipes one (said 2 0 4000 true title)
    × ¬ SaysOf logs nodes window Recipes one (said 2 0 4000 false [])
    × ¬ SaysOf logs nodes window Recipes (span 2 2000 2005 false ∷ []) (labelled 2 999 10 false (codes "out/a.o, 0.00 s") None)
unfolding duration_words decimal_text digits
rejected_bars = (
  λ says. let same : 1 ≡ 2 = says.target in omega (arith, same),
  λ says. let same : 1 ≡ 0 = says.begins in omega (arith, same),
  λ says. let same : 4001 ≡ 4000 = says.lasts in omega (arith, same),
  λ says. let same : true ≡ false = says.fails in absurd (cc),
  λ says. let same : [] ≡ title = says.title in absurd (cc),
  λ says. let same : 999 ≡ 1000 = says.begins in omega (arith, same),
)

-- A narrow bar has the label of another target, and a wide bar has none.
rejected_labels :
    ¬ SaysOf logs nodes window Recipes (span 2 1000 1200 false ∷ []) (labelled 2 0 200 false (codes "out/a.o, 0.20 s") (Some (codes "t")))
    × ¬ SaysOf logs nodes window Recipes one (labelled 2 0 4000 false title None)
unfolding duration_words decimal_text digits
rejected_labels = (
  λ says. let same : 3 ≡ 1 = ap (λ (label : Option (List ℕ)). length (unwrap_or label [])) says.label in omega (arith, same),
  λ says. let same : 0 ≡ 3 = ap (λ (label : Option (List ℕ)). length (unwrap_or label [])) (says.labelled (omega arith) (omega arith)) in
      omega (arith, same),
)

-- The second span began before the bar.
rejected_spans : ¬ SaysOf logs nodes window Recipes (span 2 3000 5000 false ∷ span 2 1000 4000 false ∷ [])
    (said 2 2000 2000 false (codes "2 targets in 2.00 s, from out/a.o"))
unfolding duration_words decimal_text digits
rejected_spans = λ says. let low : 2000 ≤ 0 = says.times.1.0.0 in omega (arith, low)

-- A bar from 1000 to 5000 does not include the times of a span that began earlier, or ended later.
rejected_times : ¬ Includes window (said 2 1000 4000 false title) (span 2 1500 5000 false)
    × ¬ Includes window (said 2 1000 4000 false title) (span 2 2000 6500 false)
rejected_times = (
  λ times. let low : 1000 ≤ 500 = times.0 in omega (arith, low),
  λ times. let high : 5500 ≤ 5000 = times.1 in
      omega (arith, high),
)

-- A line, a tick, and a bar that leads to another target.
rejected_shapes :
    ¬ Draws logs nodes window Recipes one (LineShape 0 98) × ¬ Draws logs nodes window Recipes one (TickShape 0 Start title)
    × ¬ Draws logs nodes window Recipes one (BarShape (said 1 0 4000 false title))
unfolding duration_words decimal_text digits
rejected_shapes = (λ draws. draws, λ draws. draws, λ draws. let same : 1 ≡ 2 = draws.target in omega (arith, same))

-- A bar of no span, as it would be drawn.
abbrev of_none : Shape
of_none = BarShape (labelled 0 0 10 false (codes "0 targets in 0.00 s, from out/b.o") (Some (codes "b.o")))

abbrev Zip : List (List Span) → List Shape → Type 0
Zip bars shapes = AllZip (Draws logs nodes window Recipes) bars shapes

abbrev Filled : List (List Span) → Type 0
Filled bars = AllByRecursion (λ (bar : List Span). 0 < length bar) bars

abbrev Once : List Span → List (List Span) → Type 0
Once spans bars = IsPermutation spans (flat_map (λ (bar : List Span). bar) bars)

two_bars : (first second : Shape) (bars : List (List Span)) → Once one bars → Filled bars → Zip bars (first ∷ second ∷ []) → ⊥
two_bars first second [] once filled zip = zip
two_bars first second (bar ∷ []) once filled zip = zip.1
two_bars first second (bar ∷ other ∷ []) once filled zip =
    let same = length_permutation one (bar ++ (other ++ [])) once in
    let both = length-append bar (other ++ []) in
    let last = length-append other [] in omega (arith, same, both, last, filled.0, filled.1.0)
two_bars first second (bar ∷ other ∷ more ∷ bars) once filled zip = zip.1.1

-- A span has no bar, or two, or there is a bar of no span beside its own. Then there is a bar although there is no span.
rejected_groups :
    ¬ DrawsAll logs nodes window Recipes one []
    × ¬ DrawsAll logs nodes window Recipes one (BarShape (said 2 0 4000 false title) ∷ BarShape (said 2 0 4000 false title) ∷ [])
    × ¬ DrawsAll logs nodes window Recipes one (BarShape (said 2 0 4000 false title) ∷ of_none ∷ [])
    × ¬ DrawsAll logs nodes window Recipes [] (of_none ∷ [])
unfolding duration_words decimal_text digits
rejected_groups = (
  λ draws. no_bar logs nodes window Recipes (span 2 1000 5000 false) [] draws,
  λ draws. two_bars _ _ draws.bars draws.once draws.filled draws.drawn,
  λ draws. two_bars _ _ draws.bars draws.once draws.filled draws.drawn,
  λ draws. no_span logs nodes window Recipes of_none [] draws,
)

-- ---- where bars are

rejected_axis : ¬ IsNoBar (BarShape (said 2 0 4000 false title))
rejected_axis = λ is. is

-- A bar that begins at this height.
abbrev box : ℕ → ℕ → Shape
box y height = BarShape (record { target = 2; x = 0; y = y; width = 10; height = height; failed = false; title = []; label = None })

-- The bars of a row don't begin at one height, or don't end at one height. Then the second of two rows begins where the first one ends.
-- Then a row begins too high, ends too low, has no height, or has a line.
rejected_rows :
    ¬ AreRows 15 100 ((box 20 12 ∷ box 21 11 ∷ []) ∷ []) × ¬ AreRows 15 100 ((box 20 12 ∷ box 20 13 ∷ []) ∷ [])
    × ¬ AreRows 15 100 ((box 20 12 ∷ []) ∷ (box 32 12 ∷ []) ∷ [])
    × ¬ AreRows 20 100 ((box 20 12 ∷ []) ∷ []) × ¬ AreRows 15 31 ((box 20 12 ∷ []) ∷ []) × ¬ AreRows 15 100 ((box 20 0 ∷ []) ∷ [])
    × ¬ AreRows 15 100 ((LineShape 0 98 ∷ []) ∷ [])
rejected_rows = (
  λ rows. let first : 20 ≡ rows.1.top = rows.1.bars.0.0 in let second : 21 ≡ rows.1.top = rows.1.bars.1.0.0 in omega (arith, first, second),
  λ rows. let first : 32 ≡ rows.0 = rows.1.bars.0.1 in let second : 33 ≡ rows.0 = rows.1.bars.1.0.1 in omega (arith, first, second),
  λ rows.
      let first : 32 ≡ rows.0 = rows.1.bars.0.1 in
      let second : 32 ≡ rows.2.1.top = rows.2.1.bars.0.0 in
      let gap : rows.0 < rows.2.1.top = rows.2.1.gap in omega (arith, first, second, gap),
  λ rows. let top : 20 ≡ rows.1.top = rows.1.bars.0.0 in let gap : 20 < rows.1.top = rows.1.gap in omega (arith, top, gap),
  λ rows. let bottom : 32 ≡ rows.0 = rows.1.bars.0.1 in let end : rows.0 ≤ 31 = rows.2 in omega (arith, bottom, end),
  λ rows.
      let top : 20 ≡ rows.1.top = rows.1.bars.0.0 in
      let bottom : 20 ≡ rows.0 = rows.1.bars.0.1 in
      let height : rows.1.top < rows.0 = rows.1.height in omega (arith, top, bottom, height),
  λ rows. rows.1.bars.0,
)
