use Rattle.std.proofs.Common.{refl, arith}
use Rattle.redo_html.specs.Private.Buffering.{held}
use Rattle.redo_html.proofs.LineBuffering.{skip_below, skip_fits, put_after_skip, failed_after_skip}
use Rattle.redo_html.proofs.styled.put_some.Goals as goal

pub put_text-requires : goal.put_text-requires
put_text-requires g c =
    skip_below c.args.lines.now c.args.done _ c.after_sequences-at.ensures.after
    c.args.look.now.wanted _ c.after_sequences-at.ensures.line
    c.requires.some c.requires.complete

pub returns-in_err-count : goal.returns-in_err-count
returns-in_err-count g c = λ line lines is.
    failed_after_skip c.args.lines.now c.args.done _ c.after_sequences-at.ensures.after
    c.args.look.now.wanted _ c.after_sequences-at.ensures.line
    line lines is _ _ (held c.args.buffer.now) c.args.look.now refl _ _ _ _ c.from_residual.ensures.0 c.in_err-count.ensures

pub overflow_add-result : goal.overflow_add-result
overflow_add-result g c =
    let bound = skip_fits c.args.lines.now c.args.done _ c.after_sequences-at.ensures.after
    c.args.look.now.wanted _ c.after_sequences-at.ensures.line
    c.requires.some c.requires.complete _ _ _ _ _ _ _ c.in_ok-count.ensures in
    let fits = c.type_inv.lines in
    omega (arith, bound)

pub returns : goal.returns
returns g c = λ line lines is.
    put_after_skip c.args.lines.now c.args.done _ c.after_sequences-at.ensures.after
    c.args.look.now.wanted _ c.after_sequences-at.ensures.line
    line lines is _ _ (held c.args.buffer.now) c.args.look.now refl _ _ _ c.in_ok-count.ensures
