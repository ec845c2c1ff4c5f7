use Rattle.std.proofs.Common.{◌≡◌, ℕ, ◌-◌, ◌≤◌, List}
use Rattle.redo_outline.specs.declared.node.Node.{Node}
use Rattle.redo_html.specs.Cut.{last_where}
use Rattle.redo_page.proofs.LimitLemmas.{fits}
use Rattle.redo_page.proofs.limits.highest_cap.Given as goal

-- The highest cap that fits is from `fitting` to `above`.
pub record IsBetween (budget : ℕ) (nodes : List Node) (fitting above : ℕ) : Type 0 where
  pub same : last_where (fits budget nodes) budget ≡ last_where (fits budget nodes) above
  pub fits_in : last_where (fits budget nodes) fitting ≡ fitting
  pub ordered : fitting ≤ above

abbrev pub invariant-caps : goal.invariant-caps
invariant-caps l = IsBetween l.budget l.nodes l.fitting l.above

abbrev pub decreases-caps : goal.decreases-caps
decreases-caps l = l.above - l.fitting
