-- How much of long logs a page shows.
use Rattle.std.specs.Prelude.{ℕ, ◌-◌, ◌/◌, ◌==◌, ◌||◌, ◌&&◌, max, min, not, nat_le, nat_lt, Bool, List, [], map, Option, None, Some, length, sum_by, if◌then◌else◌}
use Rattle.std.specs.List.{range_with_len}
use Rattle.redo_outline.specs.declared.node.Node.{Node}
use Rattle.redo_html.specs.Cut.{last_where}
use Rattle.redo_logs.specs.Logs.{Log}
use Rattle.redo_page.specs.Tree.{articles, is_in_article, node_at, position_of}
use Rattle.redo_trim.specs.declared.limit.Limit.{Limit}
use Rattle.redo_trim.specs.Trim.{no_limit}

-- ---- the cap

abbrev pub at_most : Option ℕ → ℕ → ℕ
at_most None bytes = bytes
at_most (Some cap) bytes = min bytes cap

-- The number of bytes that all logs show if each one shows at most `cap` bytes, or all of them.
abbrev pub bytes_shown : Option ℕ → List Node → ℕ
bytes_shown cap nodes = sum_by (λ (node : Node). at_most cap node.bytes) nodes

abbrev pub fit_in : Option ℕ → ℕ → List Node → Bool
fit_in cap budget nodes = nat_le (bytes_shown cap nodes) budget

-- The lowest cap. A log that shows whole lines only may show fewer bytes.
abbrev pub min_cap : ℕ
min_cap = 4096

-- The highest cap at which all logs together show at most `budget` bytes.
abbrev pub highest_cap : ℕ → List Node → ℕ
highest_cap budget nodes = last_where (λ cap. fit_in (Some cap) budget nodes) budget

-- The number of bytes that a log may show. There is no limit if everything fits into the budget, or if the budget is 0.
abbrev pub cap_for : ℕ → List Node → Option ℕ
cap_for budget nodes = if budget == 0 || fit_in None budget nodes then None else Some (max min_cap (highest_cap budget nodes))

-- ---- limits

-- A quarter of the bytes that a log shows is its head, and the rest is its tail.
abbrev pub limit_at : ℕ → ℕ → Limit
limit_at cap bytes = record { head = cap / 4; tail = bytes - (cap - cap / 4) }

-- `those` are the positions of the targets that have an article.
module _ (those : List ℕ) (nodes : List Node) where
  -- The limit of the log at a position. An output that is in an article isn't cut.
  abbrev pub position_limit : ℕ → ℕ → Limit
  position_limit cap position =
      if nat_lt cap (node_at nodes position).bytes && not (is_in_article those nodes (Some position)) then limit_at cap (node_at nodes position).bytes else no_limit

  abbrev pub limit_if : ℕ → Option ℕ → Limit
  limit_if cap None = no_limit
  limit_if cap (Some position) = position_limit cap position

  -- The limits of `count` logs, by their numbers.
  abbrev pub limits_of : Option ℕ → ℕ → List Limit
  limits_of None count = []
  limits_of (Some cap) count = map (λ number. limit_if cap (position_of nodes number)) (range_with_len 0 count)

-- The limits of all logs of a tree that shows at most `budget` bytes.
abbrev pub tree_limits : List Log → List Node → ℕ → List Limit
tree_limits logs nodes budget = limits_of (articles nodes) nodes (cap_for budget nodes) (length logs)
