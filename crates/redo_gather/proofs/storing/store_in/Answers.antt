use Rattle.std.proofs.Common.{refl, sym, ap, ◌∙◌}
use Rattle.redo_logs.specs.declared.log_state.LogState.TheVariants.{Ended, Failed}
use Rattle.redo_logs.specs.Logs.{update_log, with_entries, with_entry, with_state}
use Rattle.redo_wire.specs.declared.item.What.TheVariants.{End, Fail, Line, Lines}
use Rattle.redo_gather.specs.Private.Collecting.{step}
use Rattle.redo_gather.proofs.RunningLemmas.{of_running}
use Rattle.redo_gather.proofs.storing.store_in.Goals as goal

pub returns-in_ok-add-in-Line : goal.returns-in_ok-add-in-Line
returns-in_ok-add-in-Line c =
    c.in_ok-add-in-Line.ensures.added ∙ of_running c.args.stream (Line c.in-Line.entry) (with_entry c.in-Line.entry) c.args.table.now
    (λ log. refl) c.requires
    ∙ ap (λ what. update_log c.args.stream (step what) c.args.table.now) (sym c.in-Line.is)

pub returns-in_ok-add_all-in-Lines : goal.returns-in_ok-add_all-in-Lines
returns-in_ok-add_all-in-Lines c =
    c.in_ok-add_all-in-Lines.ensures.added
    ∙ of_running c.args.stream (Lines c.in-Lines.entries) (with_entries c.in-Lines.entries) c.args.table.now (λ log. refl) c.requires
    ∙ ap (λ what. update_log c.args.stream (step what) c.args.table.now) (sym c.in-Lines.is)

pub returns-in-End : goal.returns-in-End
returns-in-End c =
    c.end.ensures ∙ of_running c.args.stream End (with_state Ended) c.args.table.now (λ log. refl) c.requires
    ∙ ap (λ what. update_log c.args.stream (step what) c.args.table.now) (sym c.in-End.is)

pub returns-in-Fail : goal.returns-in-Fail
returns-in-Fail c =
    c.fail.ensures ∙ of_running c.args.stream (Fail c.in-Fail.fault) (with_state (Failed c.in-Fail.fault)) c.args.table.now
    (λ log. refl) c.requires
    ∙ ap (λ what. update_log c.args.stream (step what) c.args.table.now) (sym c.in-Fail.is)
