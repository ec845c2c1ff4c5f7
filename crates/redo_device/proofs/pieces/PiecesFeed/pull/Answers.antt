use Rattle.std.proofs.Common.{◌<◌, length, arith}
use Rattle.redo_device.proofs.PieceLemmas.{gives_first}
use Rattle.redo_device.proofs.pieces.PiecesFeed.pull.Goals as goal

pub returns-clause-gives : goal.returns-clause-gives
returns-clause-gives c =
    let room : 0 < length c.give.new.buf = omega (arith, c.give.auto.buf) in
    gives_first c.args.self.now.reads c.args.self.now.fails c.give.new.self c.give.result c.give.new.buf room c.give.ensures
