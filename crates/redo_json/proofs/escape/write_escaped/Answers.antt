use Rattle.json.specs.Print.{escape, escape_byte}
use Rattle.redo_json.proofs.WritingLemmas.{failed_part, left_is, wrote_more, wrote_rest}
use Rattle.redo_json.proofs.escape.write_escaped.Goals as goal

pub returns-in_err-push_all : goal.returns-in_err-push_all
returns-in_err-push_all g c =
    failed_part _ _ _ (escape c.args.text.now) _ _ _ _ c.from_residual.ensures.0
    (left_is _ _ _ _ _ c.in-Some.ensures.some.escaped c.escapes.invariant) c.in_err-push_all.ensures

pub returns-in_err-write_escape : goal.returns-in_err-write_escape
returns-in_err-write_escape g c =
    failed_part _ _ _ (escape c.args.text.now) _ _ _ _ c.from_residual-in_err-write_escape.ensures.0
    (wrote_more _ _ _ _ _ _ (left_is _ _ _ _ _ c.in-Some.ensures.some.escaped c.escapes.invariant) c.in_ok-push_all.ensures)
    c.in_err-write_escape.ensures

pub escapes-preserved : goal.escapes-preserved
escapes-preserved g c =
    wrote_more _ _ _ _ (escape_byte c.in-Some.byte) _
    (wrote_more _ _ _ _ _ _ (left_is _ _ _ _ _ c.in-Some.ensures.some.escaped c.escapes.invariant) c.in_ok-push_all.ensures)
    c.in_ok-write_escape.ensures

pub returns : goal.returns
returns g c =
    wrote_rest _ _ _ (escape c.args.text.now) _ _ (left_is _ _ _ _ _ c.in_default.ensures.none c.escapes.invariant) c.push_all-2.ensures
