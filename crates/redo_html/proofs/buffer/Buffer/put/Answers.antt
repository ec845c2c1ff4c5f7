use Rattle.std.proofs.Common.{[], take, drop}
use Rattle.redo_html.specs.Private.Buffering.{held}
use Rattle.redo_html.proofs.BufferLemmas.{puts_failed, added}
use Rattle.redo_html.proofs.buffer.Buffer.put.Goals as goal

pub returns-in_err-make_room : goal.returns-in_err-make_room
returns-in_err-make_room g c =
    puts_failed _ _ (held c.args.self.now) [] (take c.args.count (drop c.args.at c.args.bytes.now)) _ _ _ c.from_residual.ensures.0
    c.in_err-make_room.ensures.written

pub returns : goal.returns
returns g c =
    added _ _ (held c.args.self.now) (take c.args.count (drop c.args.at c.args.bytes.now)) _ _ c.in_ok-make_room.ensures.written
    c.add.ensures
