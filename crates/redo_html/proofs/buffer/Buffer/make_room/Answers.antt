use Rattle.redo_html.specs.Private.Buffering.{held}
use Rattle.redo_html.proofs.BufferLemmas.{flushed, puts_nothing}
use Rattle.redo_html.proofs.buffer.Buffer.make_room.Goals as goal

pub returns-then-self-clause-written : goal.returns-then-self-clause-written
returns-then-self-clause-written g c =
    flushed _ _ (held c.args.self.now) (held c.flush.new.self) _ c.flush.ensures.written c.flush.ensures.empty

pub returns-else-self-clause-written : goal.returns-else-self-clause-written
returns-else-self-clause-written g c = puts_nothing _ (held c.args.self.now)
