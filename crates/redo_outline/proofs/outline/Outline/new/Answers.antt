use Rattle.std.proofs.Common.{◌∙◌, map-id}
use Rattle.std.proofs.lemmas.Result.{IfOk-weaker}
use Rattle.redo_view.specs.Expansion.{shown_events}
use Rattle.redo_outline.specs.Outline.{outline_of}
use Rattle.redo_outline.proofs.outline.Outline.new.Goals as goal

pub returns : goal.returns
returns c =
    let events = shown_events c.args.table.now c.args.options.now c.args.requested.now in
    IfOk-weaker c.make.result _ _ (λ outline is. is ∙ map-id (outline_of c.args.table.now events)) c.make.ensures
