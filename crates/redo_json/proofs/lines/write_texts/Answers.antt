use Rattle.std.proofs.Common.{true, sym, ap, ◌∙◌, subst}
use Rattle.redo_line.specs.Lines.{ended}
use Rattle.redo_outline.specs.Facts.{entries_at, texts_of}
use Rattle.redo_json.specs.Private.Lines.{lines_left}
use Rattle.redo_json.specs.Private.LogLines.{AreOfKind}
use Rattle.redo_json.specs.Private.Parts.{items_text}
use Rattle.redo_json.proofs.KindLemmas.{kind_parts}
use Rattle.redo_json.proofs.LineLemmas.{fewer_left}
use Rattle.redo_json.proofs.StretchLemmas.{stretch_step}
use Rattle.redo_json.proofs.WritingLemmas.{begin, failed_part, left_is, wrote_more, wrote_rest}
use Rattle.redo_json.proofs.lines.write_texts.Goals as goal

pub stretches-init : goal.stretches-init
stretches-init g c = record {
  wrote = begin _ _ _ (ap (items_text true) c.new-left.ensures.left);
  of_kind = subst (AreOfKind c.args.kind) (sym c.new-left.ensures.left) c.requires;
}

pub write_stretch-requires : goal.write_stretch-requires
write_stretch-requires g c =
    (kind_parts c.args.kind (ended c.in-Some.lines.now) _
    (subst (AreOfKind c.args.kind) c.in-Some.ensures.lines.lines c.stretches.invariant.of_kind)).0

pub returns-in_err-write_stretch : goal.returns-in_err-write_stretch
returns-in_err-write_stretch g c =
    let whole = items_text true (texts_of (entries_at c.args.number c.args.table.now)) in
    failed_part _ _ _ whole _ _ _ _ c.from_residual.ensures.0
    (left_is _ _ _ _ _
    (ap (lines_left c.stretches.is_first) c.in-Some.ensures.lines.lines
    ∙ stretch_step c.stretches.is_first (ended c.in-Some.lines.now) _ c.in-Some.ensures.some.some)
    c.stretches.invariant.wrote) c.in_err-write_stretch.ensures

pub stretches-smaller : goal.stretches-smaller
stretches-smaller g c = fewer_left _ _ _ c.in-Some.ensures.some c.in-Some.ensures.lines

pub stretches-preserved : goal.stretches-preserved
stretches-preserved g c =
    let lines = ended c.in-Some.lines.now in
    record {
      wrote = wrote_more _ _ _ _ _ _
          (left_is _ _ _ _ _
          (ap (lines_left c.stretches.is_first) c.in-Some.ensures.lines.lines
          ∙ stretch_step c.stretches.is_first lines _ c.in-Some.ensures.some.some)
          c.stretches.invariant.wrote) c.in_ok-write_stretch.ensures;
      of_kind = (kind_parts c.args.kind lines _
          (subst (AreOfKind c.args.kind) c.in-Some.ensures.lines.lines c.stretches.invariant.of_kind)).1;
    }

pub returns : goal.returns
returns g c =
    let whole = items_text true (texts_of (entries_at c.args.number c.args.table.now)) in
    wrote_rest _ _ _ whole _ _
    (left_is _ _ _ _ _
    (ap (lines_left c.stretches.is_first) c.in_default.ensures.some ∙ sym c.last_quote.ensures)
    c.stretches.invariant.wrote) c.push_all.ensures
