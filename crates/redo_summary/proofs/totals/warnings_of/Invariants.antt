use Rattle.std.proofs.Common.{◌≡◌, sum_by, take}
use Rattle.redo_outline.specs.declared.node.Node.{Node}
use Rattle.redo_outline.specs.Facts.{saturated}
use Rattle.redo_summary.proofs.totals.warnings_of.Given as goal

abbrev pub invariant-loop-node : goal.invariant-loop-node
invariant-loop-node l = l.warnings ≡ saturated (sum_by (λ (node : Node). node.warnings) (take l.node-index l.nodes))
