use Rattle.std.proofs.Common.{◌≡◌, ◌+◌, take}
use Rattle.redo_page.specs.Limits.{bytes_shown}
use Rattle.redo_page.proofs.limits.fit_in.Given as goal

abbrev pub invariant-loop-node : goal.invariant-loop-node
invariant-loop-node l = l.left + bytes_shown l.cap (take l.node-index l.nodes) ≡ l.budget
