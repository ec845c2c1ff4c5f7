use Rattle.std.proofs.Common.{Option, sym, subst}
use Rattle.std.specs.Prelude.{◌≡◌, IfOk, option_and_then}
use Rattle.redo_line.specs.declared.entry.Entry.{Entry}
use Rattle.redo_times.specs.Private.Reporting.{stage_of}
use Rattle.redo_times.proofs.ReportLemmas.{end_entry}
use Rattle.redo_times.proofs.report.read_stage.Goals as goal

pub returns-then-eq-2 : goal.returns-then-eq-2
returns-then-eq-2 c pid =
    subst (λ (entry : Option Entry). IfOk c.read_end.result (λ said. said ≡ option_and_then (stage_of c.args.log.now) entry))
    (sym (end_entry c.args.log.now c.args.kind.now pid c.args.text.now c.if-eq-2.ensures)) (c.read_end.ensures pid)
