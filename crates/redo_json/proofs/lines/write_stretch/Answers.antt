use Rattle.std.proofs.Common.{sym, ◌∙◌}
use Rattle.redo_line.specs.Lines.{ended}
use Rattle.redo_json.specs.Private.Lines.{lines_text}
use Rattle.redo_json.proofs.StretchLemmas.{stretch_joined}
use Rattle.redo_json.proofs.WritingLemmas.{writes_as}
use Rattle.redo_json.proofs.lines.write_stretch.Goals as goal

pub join_lines-requires-clause-text : goal.join_lines-requires-clause-text
join_lines-requires-clause-text g c = c.is_text-are_text.ensures c.if-are_text.true (ended c.args.lines.now) c.requires

pub returns-then-is_ok : goal.returns-then-is_ok
returns-then-is_ok g c =
    writes_as _ _ _ (lines_text c.args.is_first (ended c.args.lines.now)) _
    (c.deref.ensures.value
    ∙ stretch_joined _ _ _ _ (sym c.is_ok.ensures.value ∙ c.if-is_ok.true) c.clear.ensures.items c.join_lines.ensures)
    c.push_all.ensures
