use Rattle.std.proofs.Common.{Err, is_some, ap, ◌∙◌}
use Rattle.std.specs.Bool.{then_some}
use Rattle.redo_index.specs.Index.{listed_targets}
use Rattle.redo_run.proofs.Finding.{looked_up, empty_names_none}
use Rattle.redo_run.proofs.running.find_target.Goals as goal

pub returns-in-Ok : goal.returns-in-Ok
returns-in-Ok c =
    c.then_some.ensures ∙ ap (λ b. then_some b c.in-Ok.name) (c.is_some.ensures ∙ ap is_some c.find.ensures)
    ∙ looked_up (listed_targets c.args.index.now) c.args.argument.now c.in-Ok.name c.in-Ok.ensures.ok

pub returns-in-Err-Empty : goal.returns-in-Err-Empty
returns-in-Err-Empty c = empty_names_none (listed_targets c.args.index.now) c.args.argument.now
    (c.in-Err-Empty.ensures.empty.0 (ap Err c.in-Err-Empty.field-0-is))
