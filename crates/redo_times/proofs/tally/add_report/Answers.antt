use Rattle.std.proofs.Common.{◌++◌, List, subst}
use Rattle.std.specs.Prelude.{OnOk}
use Rattle.redo_index.specs.Index.{listed_targets}
use Rattle.redo_times.specs.declared.report.Report.{Report}
use Rattle.redo_times.specs.Private.Reporting.{named_reports}
use Rattle.redo_times.specs.Private.Tally.{AreTallies}
use Rattle.redo_times.proofs.TallyLemmas.{with_own}
use Rattle.redo_times.proofs.tally.add_report.Goals as goal

pub returns : goal.returns
returns c reports are =
    let report = c.args.report in
    let targets = listed_targets c.args.index.now in
    subst (λ (more : List Report). OnOk c.add_owner.result (AreTallies targets more c.add_owner.new.tallies))
    (with_own c.args.log.target.now reports report)
    (c.add_owner.ensures targets (reports ++ named_reports report report.stage) c.requires.index.names_differ c.requires.log
    (c.in_ok-add_named.ensures reports are))
