use Rattle.std.proofs.Common.{◌≡◌}
use Rattle.redo_gather.proofs.poster.post.Given as goal

abbrev pub invariant-loop : goal.invariant-loop
invariant-loop g l =
    (goal.iterator-loop g).can_next l.iterator' × (goal.iterator-loop g).is_finite l.iterator' × (l.end ≡ l.initial.end)
    × (l.item ≡ l.initial.item)
