-- The tooltips of bars.
use Rattle.std.specs.Prelude.{ℕ, zero, ◌-◌, ◌==◌, List, [], ◌++◌, Option, None, Some, ℤ, pos, negsuc, nat_abs, codes, if◌then◌else◌}
use Rattle.redo_html.specs.declared.chart.GroupKind.{GroupKind}
use Rattle.redo_html.specs.declared.chart.GroupKind.TheVariants.{Axis, Callers, Recipes, Untimed}
use Rattle.redo_logs.specs.Logs.{Log}
use Rattle.redo_outline.specs.declared.node.Node.{Node}
use Rattle.redo_timeline.specs.declared.bar.Bar.{Bar}
use Rattle.redo_units.specs.Durations.{duration_text}
use Rattle.redo_units.specs.Words.{decimal_text}
use Rattle.redo_chart.specs.Targets.{name_at, status_at}

-- A status in decimal is its sign, if it is negative, and its absolute value.
abbrev pub before_magnitude : ℤ → List ℕ
before_magnitude (pos status) = codes ", exit "
before_magnitude (negsuc less) = codes ", exit -"

-- How a target ended. The text is empty if its status is 0.
abbrev pub status_text : Option ℤ → List ℕ
status_text None = codes ", unfinished"
status_text (Some (pos zero)) = []
status_text (Some status) = before_magnitude status ++ decimal_text (nat_abs status)

-- How long the targets of a bar ran, after this word. The text is empty for targets with only one known time.
abbrev pub duration_after : List ℕ → GroupKind → ℕ → List ℕ
duration_after word Axis ms = []
duration_after word Callers ms = word ++ duration_text ms
duration_after word Recipes ms = word ++ duration_text ms
duration_after word Untimed ms = []

-- The tooltip of the bar of one target, and of several. The target at this position is the first one, and all of them ran for `ms`
-- milliseconds.
abbrev pub title_of_one : List Log → List Node → GroupKind → ℕ → ℕ → List ℕ
title_of_one logs nodes kind position ms =
    name_at logs nodes position ++ (duration_after (codes ", ") kind ms ++ status_text (status_at nodes position))

abbrev pub title_of_many : List Log → List Node → GroupKind → ℕ → ℕ → ℕ → List ℕ
title_of_many logs nodes kind position count ms =
    decimal_text count ++ (codes " targets" ++ (duration_after (codes " in ") kind ms ++ (codes ", from " ++ name_at logs nodes position)))

abbrev pub title_for : List Log → List Node → GroupKind → ℕ → ℕ → ℕ → List ℕ
title_for logs nodes kind position count ms =
    if count == 1 then title_of_one logs nodes kind position ms else title_of_many logs nodes kind position count ms

abbrev pub title_of : List Log → List Node → GroupKind → Bar → List ℕ
title_of logs nodes kind bar = title_for logs nodes kind bar.position bar.count (bar.ended - bar.began)
