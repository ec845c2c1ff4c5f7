-- Where the groups of bars are in the chart: below each other, with 6 pixels between them. Lengths are in pixels.
use Rattle.std.specs.Prelude.{ℕ, ◌+◌, ◌*◌, leb, if◌then◌else◌}
use Rattle.redo_html.specs.declared.chart.GroupKind.TheVariants.{Callers, Recipes, Untimed}
use Rattle.redo_chart.specs.declared.band.Band.{Band}

-- The maximum number of lanes of each group.
abbrev pub max_caller_lanes : ℕ
max_caller_lanes = 24

abbrev pub max_recipe_lanes : ℕ
max_recipe_lanes = 96

abbrev pub max_mark_lanes : ℕ
max_mark_lanes = 1

-- The more lanes the recipes have, the lower each lane is.
abbrev pub recipe_lane_height : ℕ → ℕ
recipe_lane_height lanes = if leb lanes 16 then 18 else if leb lanes 40 then 12 else 8

-- The y coordinate below a band with this number of lanes.
abbrev pub below : Band → ℕ → ℕ
below band lanes = 6 + band.top + band.lane_height * lanes

abbrev pub callers_band : Band
callers_band = record { kind = Callers; top = 20; lane_height = 14 }

abbrev pub recipes_band : ℕ → ℕ → Band
recipes_band caller_lanes lanes = record { kind = Recipes; top = below callers_band caller_lanes; lane_height = recipe_lane_height lanes }

abbrev pub marks_band : ℕ → ℕ → Band
marks_band caller_lanes recipe_lanes =
    record { kind = Untimed; top = below (recipes_band caller_lanes recipe_lanes) recipe_lanes; lane_height = 14 }
