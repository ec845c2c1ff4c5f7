use Rattle.redo_line.specs.Lines.{with_line_feed}
use Rattle.redo_html.specs.Private.Buffering.{held}
use Rattle.redo_html.proofs.BufferLemmas.{some_unflushed, some_flushed_as}
use Rattle.redo_html.proofs.styled.put_other.Goals as goal

pub returns-in_err-flush : goal.returns-in_err-flush
returns-in_err-flush g c = λ line lines is.
    some_unflushed _ _ (held c.args.buffer.now) c.args.look.now (with_line_feed line) _ _ _ _ c.from_residual.ensures.0
    c.in_err-flush.ensures.written

pub returns : goal.returns
returns g c = λ line lines is.
    some_flushed_as _ _ _ (held c.args.buffer.now) c.args.look.now (with_line_feed line) _ _ _ _
    (c.first_line_len-len.ensures.line line lines is) c.in_ok-flush.ensures.written c.in_ok-flush.ensures.empty c.write_rest.ensures
