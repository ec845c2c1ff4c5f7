-- How many spans run at once.
use Rattle.std.specs.Prelude.{ℕ, ◌+◌, max, Bool, ◌&&◌, leb, ltb, List, [], ◌∷◌, map, if◌then◌else◌}
use Rattle.std.specs.List.{count_by}
use Rattle.redo_timeline.specs.declared.span.Span.{Span}

-- Whether a span runs at a time: it began then or earlier, and it ends later.
abbrev pub runs_at : ℕ → Span → Bool
runs_at time span = leb span.began time && ltb time span.ended

-- The number of spans that run when this one begins. A span counts itself, even if it has no length.
abbrev pub count_at : List Span → Span → ℕ
count_at spans span = count_by (runs_at span.began) spans + (if runs_at span.began span then 0 else 1)

-- The greatest of some numbers. It is 0 if there are none.
abbrev pub greatest : List ℕ → ℕ
greatest [] = 0
greatest (n ∷ rest) = max n (greatest rest)

-- The greatest number of spans that run when one of them begins.
abbrev pub most_of : List Span → ℕ
most_of spans = greatest (map (count_at spans) spans)
