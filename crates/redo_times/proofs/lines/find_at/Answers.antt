use Rattle.std.proofs.Common.{length, arith}
use Rattle.redo_line.specs.Record.{at_sign}
use Rattle.redo_times.proofs.SkipLemmas.{none_before}
use Rattle.redo_times.proofs.lines.find_at.Goals as goal

pub returns-in-Some-clause-range : goal.returns-in-Some-clause-range
returns-in-Some-clause-range c = let high = c.in-Some.ensures.0.high in omega (arith, high)

pub returns-in-Some-clause-none : goal.returns-in-Some-clause-none
returns-in-Some-clause-none c = none_before at_sign c.args.bytes.now c.in-Some.at c.in-Some.ensures.0.before

pub returns-in-None-clause-none : goal.returns-in-None-clause-none
returns-in-None-clause-none c = none_before at_sign c.args.bytes.now (length c.args.bytes.now) c.in-None.ensures
