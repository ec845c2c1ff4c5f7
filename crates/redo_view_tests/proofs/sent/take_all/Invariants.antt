use Rattle.std.proofs.Common.{◌≡◌}
use Rattle.redo_view_tests.proofs.sent.take_all.Given as goal

abbrev pub invariant-loop : goal.invariant-loop
invariant-loop g l =
    (goal.iterator-loop g).can_next l.iterator' × (goal.iterator-loop g).is_finite l.iterator'
    × (l.mailbox.mailbox ≡ l.initial.mailbox.mailbox)
