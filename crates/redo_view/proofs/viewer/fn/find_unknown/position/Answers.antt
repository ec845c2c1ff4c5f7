use Rattle.std.proofs.Common.{not, is_some, ap, ◌∙◌}
use Rattle.redo_view.proofs.Targets.{flipped}
use Rattle.redo_view.proofs.Openings.{looked_up-listed}
use Rattle.redo_view.proofs.viewer.fn.find_unknown.position.Goals as goal

pub returns : goal.returns
returns c = flipped _ _ c.is_none.ensures ∙ ap (λ o. not (is_some o)) c.find.ensures
    ∙ ap not (looked_up-listed c.args.name.now c.captures.table.now)
