use Rattle.std.proofs.Common.{Err, sym, ap, ◌∙◌}
use Rattle.std.proofs.lemmas.Option.{none-some}
use Rattle.redo_view.proofs.plain.PlainTextRender.render.Goals as goal

pub unreachable-requires : goal.unreachable-requires
unreachable-requires g c =
    none-some c.in-Err-Unknown.field-0-0
    (sym c.requires.known ∙ (c.in-Err-Unknown.ensures.unknown c.in-Err-Unknown.field-0-0).0 (ap Err c.in-Err-Unknown.field-0-is))
