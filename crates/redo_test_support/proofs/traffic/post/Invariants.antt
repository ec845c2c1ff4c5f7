use Rattle.std.proofs.Common.{◌≡◌}
use Rattle.redo_test_support.proofs.traffic.post.Given as goal

abbrev pub invariant-loop : goal.invariant-loop
invariant-loop g l =
    (goal.iterator-loop g).can_next l.iterator' × (goal.iterator-loop g).is_finite l.iterator'
    × (l.item.sender ≡ l.end.number) × (l.end.mailbox ≡ l.initial.end.mailbox)
