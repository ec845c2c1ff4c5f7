use Rattle.std.proofs.Common.{Err, sym, ◌∙◌, ap}
use Rattle.std.proofs.lemmas.Option.{none-some}
use Rattle.redo_page.proofs.tree.write_events.Goals as goal

pub unreachable-requires : goal.unreachable-requires
unreachable-requires g c =
    let position = c.in-Err-Unknown.field-0-0 in
    none-some position (sym c.requires.known
    ∙ (c.view_as.ensures.unknown position).0 (c.in-Err-Unknown.is ∙ ap Err c.in-Err-Unknown.field-0-is))
