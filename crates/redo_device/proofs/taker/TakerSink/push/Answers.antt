use Rattle.std.proofs.Common.{rules}
use Rattle.redo_device.proofs.taker.TakerSink.push.Goals as goal

pub returns-then-left-eq0-clause-answer : goal.returns-then-left-eq0-clause-answer
returns-then-left-eq0-clause-answer c = search rules
