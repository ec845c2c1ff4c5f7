use Rattle.std.proofs.Common.{ℕ, replicate, false, ap, ◌∙◌}
use Rattle.redo_view.proofs.Targets.{none_visited}
use Rattle.redo_view.proofs.entry.Visited.new.Goals as goal

pub returns-clause-initial : goal.returns-clause-initial
returns-clause-initial c =
    none_visited c.args.logs.now _
    (c.in_ok-vec.ensures.items_if_clones_equal (λ x is. is) ∙ ap (λ (n : ℕ). replicate n false) c.names.ensures.len)
    (c.in_ok-vec-2.ensures.items_if_clones_equal (λ x is. is) ∙ ap (λ (n : ℕ). replicate n false) c.len.ensures.len)
