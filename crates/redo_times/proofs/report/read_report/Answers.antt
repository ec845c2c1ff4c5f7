use Rattle.std.proofs.Common.{None, Some, sym, ◌∙◌}
use Rattle.redo_times.proofs.ReportLemmas.{is_report, no_record, no_time}
use Rattle.redo_times.proofs.report.read_report.Goals as goal

pub returns-in_default : goal.returns-in_default
returns-in_default c = no_record c.args.log.now c.args.line.now c.in_default.ensures.none

pub returns-in_default-time_value : goal.returns-in_default-time_value
returns-in_default-time_value c = no_time c.args.log.now c.args.line.now _ _ _ c.in-Some.ensures.some c.in_default-time_value.ensures

pub returns-in_default-2 : goal.returns-in_default-2
returns-in_default-2 c =
    is_report c.args.log.now c.args.line.now _ _ _ c.in-Some.ensures.some c.in-Some-time_value.time None c.in-Some-time_value.ensures
    (λ pid. sym c.in_default-2.is ∙ c.in_ok-stage.ensures pid)

pub returns : goal.returns
returns c =
    is_report c.args.log.now c.args.line.now _ _ _ c.in-Some.ensures.some c.in-Some-time_value.time
    (Some (c.in-Some-2.stage, c.in-Some-2.target)) c.in-Some-time_value.ensures
    (λ pid. sym c.in-Some-2.is ∙ c.in_ok-stage.ensures pid)
