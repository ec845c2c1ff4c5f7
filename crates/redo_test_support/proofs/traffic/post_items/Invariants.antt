use Rattle.std.proofs.Common.{◌≡◌}
use Rattle.redo_test_support.proofs.traffic.post_items.Given as goal

abbrev pub invariant-loop-stream : goal.invariant-loop-stream
invariant-loop-stream g l = l.end.mailbox ≡ l.fn.end.mailbox
