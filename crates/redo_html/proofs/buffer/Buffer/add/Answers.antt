use Rattle.std.proofs.Common.{arith}
use Rattle.redo_html.proofs.LaneLemmas.{stored}
use Rattle.redo_html.proofs.buffer.Buffer.add.Goals as goal

pub returns : goal.returns
returns c =
    stored c.args.self.now.bytes _ c.args.bytes.now c.args.self.now.len _ c.args.at c.args.count (omega arith) (omega arith)
    c.requires.room c.requires.few
