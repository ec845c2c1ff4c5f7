use Rattle.redo_outline.proofs.PositionsLemmas.{positions_more}
use Rattle.redo_outline.proofs.positions.node_positions.Goals as goal

pub loop-position-preserved : goal.loop-position-preserved
loop-position-preserved c = positions_more c.args.nodes.now c.loop-position.position c.loop-position.positions.items
    c.set_position.new.positions.items c.loop-position-test.true c.loop-position.invariant c.in_ok-set_position.ensures
