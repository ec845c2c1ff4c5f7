-- The lanes that spans take.
use Rattle.std.specs.Prelude.{ℕ, ◌-◌, max, Bool, ◌||◌, leb, List, [], ◌∷◌, ◌++◌, if◌then◌else◌}
use Rattle.redo_timeline.specs.declared.span.Span.{Span}
use Rattle.redo_timeline.specs.Order.{in_order}

-- When the last of some spans ended. It is 0 if there are none.
abbrev pub ended_of : List Span → ℕ
ended_of [] = 0
ended_of (span ∷ rest) = max span.ended (ended_of rest)

-- Whether each span in a lane ended at or before the time when a span began.
abbrev pub is_free : Span → List Span → Bool
is_free span lane = leb (ended_of lane) span.began

-- The lanes, after one more span took the lowest lane that is free. If no lane is free, it takes a new one, or the last one if
-- `max_lanes` lanes are taken. At least one lane is allowed.
abbrev pub take_lane : ℕ → Span → List (List Span) → List (List Span)
take_lane max_lanes span [] = (span ∷ []) ∷ []
take_lane max_lanes span (lane ∷ lanes) =
    if is_free span lane || leb max_lanes 1 then (lane ++ span ∷ []) ∷ lanes else lane ∷ take_lane (max_lanes - 1) span lanes

-- The lanes, after more spans took lanes in turn.
abbrev pub take_lanes : ℕ → List (List Span) → List Span → List (List Span)
take_lanes max_lanes lanes [] = lanes
take_lanes max_lanes lanes (span ∷ rest) = take_lanes max_lanes (take_lane max_lanes span lanes) rest

-- The spans in each lane.
abbrev pub lanes_of : ℕ → List Span → List (List Span)
lanes_of max_lanes spans = take_lanes max_lanes [] (in_order spans)
