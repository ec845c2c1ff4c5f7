use Rattle.redo_html.specs.Private.Buffering.{held}
use Rattle.redo_html.proofs.BufferLemmas.{passage_unflushed, passage_flushed}
use Rattle.redo_html.proofs.lines.write_lines.Goals as goal

pub returns-in_err-flush : goal.returns-in_err-flush
returns-in_err-flush g c =
    passage_unflushed _ _ (held c.args.buffer.now) c.args.style c.args.lines.now _ _ _ c.from_residual.ensures.0
    c.in_err-flush.ensures.written

pub returns : goal.returns
returns g c =
    passage_flushed _ _ _ (held c.args.buffer.now) c.args.style c.args.lines.now _ _ c.in_ok-flush.ensures.written
    c.in_ok-flush.ensures.empty c.write_passage.ensures
