use Rattle.std.proofs.Common.{ap}
use Rattle.std.specs.Prelude.{slice_get}
use Rattle.redo_logs.proofs.FirstLines.{first_ended, no_line}
use Rattle.redo_logs.proofs.lines.first_line.Goals as goal

pub unreachable-requires : goal.unreachable-requires
unreachable-requires c = no_line c.args.bytes.now c.in_default.ensures c.requires

pub returns : goal.returns
returns c = ap (λ lines. slice_get lines 0) (first_ended c.args.bytes.now c.in-Some.at c.in-Some.ensures)
