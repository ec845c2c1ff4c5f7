use Rattle.std.proofs.Common.{sym}
use Rattle.redo_index.specs.Index.{listed_targets}
use Rattle.redo_times.proofs.TallyLemmas.{found, missing}
use Rattle.redo_times.proofs.tally.add_stage.Goals as goal

pub returns-in_ok-add : goal.returns-in_ok-add
returns-in_ok-add c reports are =
    rw c.in_ok-add.ensures
    (found c.args.stage c.args.target.now c.args.time reports (listed_targets c.args.index.now) c.args.tallies.now are c.in-Some.i _
    (sym c.in-Some.ensures) c.requires.index.names_differ)

pub returns-in_default : goal.returns-in_default
returns-in_default c reports are =
    missing c.args.stage c.args.target.now c.args.time reports (listed_targets c.args.index.now) c.args.tallies.now are
    (sym c.in_default.ensures)
