use Rattle.std.proofs.Common.{◌++◌, List, sym, ap, ◌∙◌, subst}
use Rattle.std.specs.Prelude.{OnOk}
use Rattle.std.proofs.lemmas.List.{append-nil}
use Rattle.redo_index.specs.Index.{listed_targets}
use Rattle.redo_times.specs.declared.report.Report.{Report}
use Rattle.redo_times.specs.declared.report.Stage.{Stage}
use Rattle.redo_times.specs.Private.Reporting.{named_reports}
use Rattle.redo_times.specs.Private.Tally.{AreTallies}
use Rattle.redo_times.proofs.TallyLemmas.{names_target}
use Rattle.redo_times.proofs.tally.add_named.Goals as goal

pub returns-in-RunsOther : goal.returns-in-RunsOther
returns-in-RunsOther c reports are =
    subst (λ (more : List Report). AreTallies (listed_targets c.args.index.now) more c.args.tallies.now)
    (sym (ap (λ (stage : Stage). reports ++ named_reports c.args.report.now stage) c.in-RunsOther.is ∙ append-nil reports)) are

pub returns : goal.returns
returns c reports are =
    let report = c.args.report.now in
    subst (λ (more : List Report). OnOk c.add_stage.result
    (AreTallies (listed_targets c.args.index.now) (reports ++ more) c.add_stage.new.tallies))
    (sym (names_target report report.stage c.in_default.not-RunsOther)) (c.add_stage.ensures reports are)
