-- Rows of how much of long logs a page shows. The values are worked out by hand.
use Rattle.std.proofs.Common.{◌≡◌, ℕ, true, false, List, [], ◌∷◌, Option, None, Some, ℤ, pos, refl}
use Rattle.std.specs.Prelude.{codes}
use Rattle.redo_logs.specs.declared.log_state.LogState.TheVariants.{Ended}
use Rattle.redo_logs.specs.Logs.{Log}
use Rattle.redo_outline.specs.declared.node.Node.{Node}
use Rattle.redo_page.specs.Limits.{at_most, bytes_shown, fit_in, highest_cap, cap_for, limit_at, limit_if, limits_of, min_cap, position_limit, tree_limits}
use Rattle.redo_page.specs.Tree.{no_node}
use Rattle.redo_trim.specs.declared.limit.Limit.{Limit}

-- ---- values

-- The log with this number, in which a target with this status printed this many bytes in two lines.
abbrev printed : ℕ → Option ℤ → ℕ → Node
printed number status bytes = record no_node { number = number; status = status; lines = 2; bytes = bytes; others = true }

abbrev node : ℕ → Node
node bytes = printed 0 (Some (pos 0)) bytes

abbrev limit : ℕ → ℕ → Limit
limit head tail = record { head = head; tail = tail }

abbrev whole : Limit
whole = limit 0 0

-- ---- the cap

shown_are :
    (at_most None 5 ≡ 5) × (at_most (Some 3) 5 ≡ 3) × (at_most (Some 7) 5 ≡ 5) × (bytes_shown None (node 5 ∷ node 3 ∷ []) ≡ 8)
    × (bytes_shown (Some 4) (node 5 ∷ node 3 ∷ []) ≡ 7)
    × (bytes_shown (Some 0) (node 5 ∷ node 3 ∷ []) ≡ 0) × (bytes_shown (Some 4) [] ≡ 0)
shown_are = (refl, refl, refl, refl, refl, refl, refl)

fits_are :
    (fit_in None 8 (node 5 ∷ node 3 ∷ []) ≡ true) × (fit_in None 7 (node 5 ∷ node 3 ∷ []) ≡ false)
    × (fit_in (Some 4) 7 (node 5 ∷ node 3 ∷ []) ≡ true)
    × (fit_in (Some 4) 6 (node 5 ∷ node 3 ∷ []) ≡ false) × (fit_in (Some 4) 0 [] ≡ true)
fits_are = (refl, refl, refl, refl, refl)

-- The cap that fits exactly; the highest one below a cap that doesn't fit; no byte; all bytes.
caps_are :
    (highest_cap 10 (node 20 ∷ node 3 ∷ []) ≡ 7) × (highest_cap 10 (node 4 ∷ node 4 ∷ node 4 ∷ []) ≡ 3) × (highest_cap 0 (node 5 ∷ []) ≡ 0)
    × (highest_cap 2 (node 5 ∷ node 5 ∷ node 5 ∷ []) ≡ 0) × (highest_cap 12 (node 3 ∷ node 3 ∷ []) ≡ 12)
caps_are = (refl, refl, refl, refl, refl)

-- The three smaller logs have 48 bytes, and 52 are left for the largest one, though a quarter of the budget is 25.
uneven_cap_is : highest_cap 100 (node 100 ∷ node 30 ∷ node 10 ∷ node 8 ∷ []) ≡ 52
uneven_cap_is = refl

-- A budget of 0 allows all bytes, and so does one into which all logs fit, even exactly.
no_caps_are :
    (cap_for 0 (node 9999 ∷ []) ≡ None) × (cap_for 300 (node 200 ∷ node 100 ∷ []) ≡ None) × (cap_for 5000 [] ≡ None)
no_caps_are = (refl, refl, refl)

-- 4,096 bytes are shown, even if this is more than the budget.
some_caps_are :
    (min_cap ≡ 4096) × (cap_for 299 (node 200 ∷ node 100 ∷ []) ≡ Some 4096) × (cap_for 5000 (node 20000 ∷ []) ≡ Some 5000)
    × (cap_for 5000 (node 20000 ∷ node 50 ∷ []) ≡ Some 4950)
    × (cap_for 4097 (node 5000 ∷ node 1 ∷ []) ≡ Some 4096) × (cap_for 4097 (node 5000 ∷ []) ≡ Some 4097)
some_caps_are = (refl, refl, refl, refl, refl, refl)

-- ---- limits

-- The first 1,250 and the last 3,750 of 20,000 bytes are shown. A quarter is rounded down.
limits_are :
    (limit_at 5000 20000 ≡ limit 1250 16250) × (limit_at 4096 4097 ≡ limit 1024 1025) × (limit_at 4099 10000 ≡ limit 1024 6925)
    × (limit_at 5000 3000 ≡ limit 1250 0)
limits_are = (refl, refl, refl, refl)

abbrev log : List ℕ → Log
log target = record { target = target; entries = []; state = Ended }

-- The second log isn't shown.
abbrev logs : List Log
logs = log (codes "a") ∷ log (codes "b") ∷ log (codes "c") ∷ log (codes "d") ∷ []

-- The output of the second target is in its article, because it failed. The output of the third one is too long for that.
abbrev nodes : List Node
nodes = printed 2 (Some (pos 0)) 20000 ∷ printed 3 (Some (pos 1)) 40000 ∷ printed 0 (Some (pos 1)) 40001 ∷ []

abbrev those : List ℕ
those = 1 ∷ 2 ∷ []

-- A log that has as many bytes as the cap is shown whole.
positions_are :
    (position_limit those nodes 5000 0 ≡ limit 1250 16250) × (position_limit those nodes 19999 0 ≡ limit 4999 5000)
    × (position_limit those nodes 20000 0 ≡ whole) × (position_limit those nodes 5000 1 ≡ whole)
    × (position_limit those nodes 5000 2 ≡ limit 1250 36251) × (position_limit [] nodes 5000 1 ≡ limit 1250 36250)
    × (limit_if those nodes 5000 None ≡ whole) × (limit_if those nodes 5000 (Some 0) ≡ limit 1250 16250)
positions_are = (refl, refl, refl, refl, refl, refl, refl, refl)

numbers_are :
    (limits_of those nodes (Some 5000) 4 ≡ limit 1250 36251 ∷ whole ∷ limit 1250 16250 ∷ whole ∷ [])
    × (limits_of those nodes (Some 5000) 0 ≡ []) × (limits_of those nodes None 4 ≡ [])
    × (limits_of those nodes (Some 5000) 3 ≡ limit 1250 36251 ∷ whole ∷ limit 1250 16250 ∷ [])
numbers_are = (refl, refl, refl, refl)

-- The logs have 100,001 bytes. A limit of 10 still allows 4,096 of each.
trees_are :
    (tree_limits logs nodes 0 ≡ []) × (tree_limits logs nodes 100001 ≡ [])
    × (tree_limits logs nodes 10 ≡ limit 1024 36929 ∷ whole ∷ limit 1024 16928 ∷ whole ∷ [])
trees_are = (refl, refl, refl)
