-- Which lane a span takes, by when the spans in each lane ended.
use Rattle.std.specs.Prelude.{ℕ, zero, suc, ◌-◌, ◌||◌, leb, max, List, [], ◌∷◌, ◌++◌, map, if◌then◌else◌}
use Rattle.std.specs.Global.{Vec}
use Rattle.redo_timeline.specs.declared.span.Span.{Span}
use Rattle.redo_timeline.specs.Lanes.{ended_of}

-- The spans in each lane.
abbrev pub spans_in : List (Vec Span) → List (List Span)
spans_in lanes = map (λ lane. lane.items) lanes

-- When the last span in each lane ended.
abbrev pub ends_of : List (List Span) → List ℕ
ends_of lanes = map ended_of lanes

-- The lane that a span takes which began at this time.
abbrev pub lane_for : ℕ → ℕ → List ℕ → ℕ
lane_for max_lanes began [] = 0
lane_for max_lanes began (ended ∷ ends) = if leb ended began || leb max_lanes 1 then 0 else suc (lane_for (max_lanes - 1) began ends)

-- The lanes, with a span at the end of this one.
abbrev pub put_in_lane : ℕ → Span → List (List Span) → List (List Span)
put_in_lane lane span [] = (span ∷ []) ∷ []
put_in_lane zero span (spans ∷ lanes) = (spans ++ span ∷ []) ∷ lanes
put_in_lane (suc lane) span (spans ∷ lanes) = spans ∷ put_in_lane lane span lanes

-- When the last span in each lane ended, after a span that ended at this time took this lane.
abbrev pub put_end : ℕ → ℕ → List ℕ → List ℕ
put_end lane ended [] = ended ∷ []
put_end zero ended (end ∷ ends) = max end ended ∷ ends
put_end (suc lane) ended (end ∷ ends) = end ∷ put_end lane ended ends
