use Rattle.std.proofs.Common.{refl, ap, subst}
use Rattle.json.specs.Print.{escape}
use Rattle.redo_line.specs.Lines.{ended}
use Rattle.redo_json.specs.Private.Lines.{lines_text}
use Rattle.redo_json.specs.Private.LogLines.{AreUtf8}
use Rattle.redo_json.specs.Text.{text_of}
use Rattle.redo_json.proofs.StretchLemmas.{first_left}
use Rattle.redo_json.proofs.WritingLemmas.{begin, failed_part, left_is, wrote_all, wrote_more}
use Rattle.redo_json.proofs.lines.write_each_line.Goals as goal

pub lines-init : goal.lines-init
lines-init g c = record { wrote = begin _ _ _ refl; text = c.requires }

pub write_line-requires : goal.write_line-requires
write_line-requires g c = λ is.
    (subst AreUtf8 c.in-Some.ensures.some.lines (c.lines.invariant.text is)).0

pub returns-in_err-push_all : goal.returns-in_err-push_all
returns-in_err-push_all g c =
    let whole = lines_text c.args.is_first (ended c.args.lines.now) in
    failed_part _ _ _ whole _ _ _ _ c.from_residual.ensures.0
    (left_is _ _ _ _ _
    (first_left c.lines.is_next_first _ _ _ _ c.in-Some.ensures.some.lines c.before_line.ensures)
    c.lines.invariant.wrote) c.in_err-push_all.ensures

pub returns-in_err-write_line : goal.returns-in_err-write_line
returns-in_err-write_line g c =
    let whole = lines_text c.args.is_first (ended c.args.lines.now) in
    failed_part _ _ _ whole (escape (text_of c.in-Some.line.now)) _ _ _ c.from_residual-in_err-write_line.ensures.0
    (wrote_more _ _ _ _ _ _ (left_is _ _ _ _ _
    (first_left c.lines.is_next_first _ _ _ _ c.in-Some.ensures.some.lines c.before_line.ensures)
    c.lines.invariant.wrote) c.in_ok-push_all.ensures) c.in_err-write_line.ensures

pub lines-smaller : goal.lines-smaller
lines-smaller g c = c.in-Some.ensures.some.fewer

pub lines-preserved : goal.lines-preserved
lines-preserved g c = record {
  wrote = wrote_more _ _ _ _ (escape (text_of c.in-Some.line.now)) _
      (wrote_more _ _ _ _ _ _ (left_is _ _ _ _ _
      (first_left c.lines.is_next_first _ _ _ _ c.in-Some.ensures.some.lines c.before_line.ensures)
      c.lines.invariant.wrote) c.in_ok-push_all.ensures) c.in_ok-write_line.ensures;
  text = λ is. (subst AreUtf8 c.in-Some.ensures.some.lines (c.lines.invariant.text is)).1;
}

pub returns : goal.returns
returns g c =
    wrote_all _ _ _ (left_is _ _ _ _ _
    (ap (lines_text c.lines.is_next_first) c.in_default.ensures.none)
    c.lines.invariant.wrote)
