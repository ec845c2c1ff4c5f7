use Rattle.std.proofs.Common.{◌++◌, List, sym, ap, ◌∙◌, subst}
use Rattle.std.proofs.lemmas.List.{append-nil}
use Rattle.redo_index.specs.Index.{listed_targets}
use Rattle.redo_times.specs.declared.report.Report.{Report}
use Rattle.redo_times.specs.Report.{line_reports}
use Rattle.redo_times.specs.Private.Tally.{AreTallies}
use Rattle.redo_times.proofs.ReportLemmas.{all_from, reports_are}
use Rattle.redo_times.proofs.lines.add_line.Goals as goal

pub returns-in_ok-add_report : goal.returns-in_ok-add_report
returns-in_ok-add_report c reports are =
    let log = c.args.log.target.now in
    let found = reports_are log c.args.line.now
    ∙ ap (all_from log) (sym c.in_ok-report.ensures ∙ c.in-Some.is) in
    subst (λ (more : List Report). AreTallies (listed_targets c.args.index.now) (reports ++ more) c.add_report.new.tallies)
    (sym (append-nil (line_reports log c.args.line.now) ∙ found)) (c.in_ok-add_report.ensures reports are)

pub returns-in_default : goal.returns-in_default
returns-in_default c reports are =
    let log = c.args.log.target.now in
    let none = reports_are log c.args.line.now
    ∙ ap (all_from log) (sym c.in_ok-report.ensures ∙ c.in_default.is) in
    subst (λ (more : List Report). AreTallies (listed_targets c.args.index.now) more c.args.tallies.now)
    (sym (ap (λ (more : List Report). reports ++ more) (append-nil (line_reports log c.args.line.now) ∙ none) ∙ append-nil reports)) are
