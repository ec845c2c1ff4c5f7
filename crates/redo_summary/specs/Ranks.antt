-- The recipes that took longest, those that ran alone for the longest time, and the targets with the most warnings.
use Rattle.std.specs.Prelude.{ℕ, ◌+◌, ◌-◌, ltb, List, [], ◌∷◌, map, filter, take}
use Rattle.std.specs.declared.cmp.Ordering.{Ordering}
use Rattle.std.specs.Ordering.{nat_cmp, ordering_then}
use Rattle.redo_timeline.specs.declared.span.Span.{Span}
use Rattle.redo_timeline.specs.Alone.{alone}
use Rattle.redo_timeline.specs.Order.{sort}
use Rattle.redo_outline.specs.declared.node.Node.{Node}
use Rattle.redo_summary.specs.declared.rank.Rank.{Rank}
use Rattle.redo_summary.specs.Window.{cut}

-- The largest value is first. If values are equal, the lowest position is first.
abbrev pub rank_cmp : Rank → Rank → Ordering
rank_cmp a b = ordering_then (nat_cmp b.value a.value) (nat_cmp a.position b.position)

-- The first ten of some ranks.
abbrev pub first_ranks : List Rank → List Rank
first_ranks ranks = take 10 (sort rank_cmp ranks)

-- How long a span is.
abbrev pub duration : Span → ℕ
duration span = cut (span.ended - span.began)

-- A recipe as a row of a table.
abbrev pub rank_of : Span → Rank
rank_of span = record { value = duration span; position = span.position }

-- The ten longest of some recipes.
abbrev pub longest_of : List Span → List Rank
longest_of recipes = first_ranks (map rank_of recipes)

-- One of some recipes as a row of a table of how long it ran alone.
abbrev pub alone_rank : List Span → Span → Rank
alone_rank recipes span = record { value = cut (alone recipes span); position = span.position }

-- Those that ran alone for some time.
abbrev pub alone_ranks : List Span → List Rank
alone_ranks recipes = filter (λ (rank : Rank). ltb 0 rank.value) (map (alone_rank recipes) recipes)

-- The ten recipes that ran alone for the longest time.
abbrev pub longest_alone : List Span → List Rank
longest_alone recipes = first_ranks (alone_ranks recipes)

-- The number of warnings of each of some nodes. The first node has this position.
abbrev pub warnings_from : ℕ → List Node → List Rank
warnings_from position [] = []
warnings_from position (node ∷ nodes) = record { value = node.warnings; position = position } ∷ warnings_from (position + 1) nodes

-- The ten targets with the most warnings. Targets without warnings are not among them.
abbrev pub most_warned : List Node → List Rank
most_warned nodes = first_ranks (filter (λ (rank : Rank). ltb 0 rank.value) (warnings_from 0 nodes))
