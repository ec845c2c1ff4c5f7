use Rattle.std.proofs.Common.{refl}
use Rattle.redo_view.proofs.Flags.{begins}
use Rattle.redo_view.proofs.entry.Visited.begin_log.Goals as goal

pub returns-clause-begins : goal.returns-clause-begins
returns-clause-begins c target state looked_up visited =
    begins c.args.logs.now c.args.self.now state visited c.requires.fits _ target c.args.number c.target.result looked_up
    c.requires.unopened c.target.ensures.below c.target.ensures.is refl refl
