use Rattle.std.proofs.Common.{◌<◌, sym, ◌∙◌, arith}
use Rattle.redo_html.specs.Private.Buffering.{held}
use Rattle.redo_html.proofs.LineBuffering.{passage_lines, passage_lines_failed}
use Rattle.redo_html.proofs.LineWriting.{begins_plain}
use Rattle.redo_html.proofs.StyleLemmas.{plain_without_element}
use Rattle.redo_html.proofs.lines.write_some_lines.Goals as goal

pub returns-in_err-next : goal.returns-in_err-next
returns-in_err-next g c =
    let len = c.plain_lines_len-len.result in
    let other = c.if-len-eq0.false in
    let some : 0 < len = omega (arith, other) in
    passage_lines_failed _ _ (held c.args.buffer.now) c.args.style c.args.lines.now len _ _ _ c.from_residual.ensures.0
    (begins_plain c.args.style c.args.lines.now len
    (plain_without_element c.args.style (sym c.has_own_element.ensures ∙ c.if-has_own_element.false)) some
    c.plain_lines_len-len.ensures.within c.requires.complete c.plain_lines_len-len.ensures.complete c.plain_lines_len-len.ensures.no_escape)
    c.in_err-next.ensures

pub returns : goal.returns
returns g c =
    let len = c.plain_lines_len-len.result in
    let other = c.if-len-eq0.false in
    let some : 0 < len = omega (arith, other) in
    passage_lines _ _ (held c.args.buffer.now) c.args.style c.args.lines.now len _ _
    (begins_plain c.args.style c.args.lines.now len
    (plain_without_element c.args.style (sym c.has_own_element.ensures ∙ c.if-has_own_element.false)) some
    c.plain_lines_len-len.ensures.within c.requires.complete c.plain_lines_len-len.ensures.complete c.plain_lines_len-len.ensures.no_escape)
    c.in_ok-next.ensures
