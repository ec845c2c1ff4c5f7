use Rattle.std.proofs.Common.{◌∙◌, ap}
use Rattle.redo_json.proofs.ChangeLemmas.{boolean_text, parts_are}
use Rattle.redo_json.proofs.WritingLemmas.{writes_as}
use Rattle.redo_json.proofs.changes.write_changes.Goals as goal

pub returns : goal.returns
returns g c =
    writes_as _ _ _ _ _ (parts_are c.args.changes.now c.gone.result c.boolean.result.now c.boolean-2.result.now c.boolean-3.result.now
    c.gone.ensures (c.boolean.ensures ∙ ap boolean_text c.was_built.ensures) (c.boolean-2.ensures ∙ ap boolean_text c.newly_fails.ensures)
    (c.boolean-3.ensures ∙ ap boolean_text c.is_fixed.ensures)) c.write_parts.ensures
