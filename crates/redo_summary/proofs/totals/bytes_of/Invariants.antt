use Rattle.std.proofs.Common.{◌≡◌, sum_by, take}
use Rattle.redo_outline.specs.declared.node.Node.{Node}
use Rattle.redo_outline.specs.Facts.{saturated}
use Rattle.redo_summary.proofs.totals.bytes_of.Given as goal

abbrev pub invariant-loop-node : goal.invariant-loop-node
invariant-loop-node l = l.bytes ≡ saturated (sum_by (λ (node : Node). node.bytes) (take l.node-index l.nodes))
