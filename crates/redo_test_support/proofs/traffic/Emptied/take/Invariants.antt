use Rattle.std.proofs.Common.{◌≡◌}
use Rattle.redo_test_support.proofs.traffic.Emptied.take.Given as goal

abbrev pub invariant-loop : goal.invariant-loop
invariant-loop g l =
    (goal.iterator-loop g).can_next l.iterator' × (goal.iterator-loop g).is_finite l.iterator'
    × (l.self.mailbox.mailbox ≡ l.initial.self.mailbox.mailbox)
