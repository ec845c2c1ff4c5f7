use Rattle.std.proofs.Common.{take}
use Rattle.redo_outline.specs.Private.Positions.{AreNodePositions}
use Rattle.redo_outline.proofs.positions.node_positions.Given as goal

abbrev pub invariant-loop-position : goal.invariant-loop-position
invariant-loop-position l = AreNodePositions (take l.position l.nodes) l.positions.items
