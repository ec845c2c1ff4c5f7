use Rattle.std.proofs.Common.{◌≡◌, [], ◌∷◌, ◌++◌, List, map, sym, ap, ◌∙◌, subst, inl, inr}
use Rattle.std.proofs.lemmas.List.{append-nil}
use Rattle.std.proofs.lemmas.Result.{on_ok_weaker}
use Rattle.std.proofs.Math.ListN.{set}
use Rattle.redo_times.specs.declared.report.Report.{Report}
use Rattle.redo_times.specs.declared.report.Stage.TheVariants.{RunsOther}
use Rattle.redo_times.specs.Report.{report_at}
use Rattle.redo_times.specs.Private.Reporting.{owner_reports}
use Rattle.redo_times.specs.Private.Tally.{AreTallies, TallyValue, tally_of}
use Rattle.redo_times.proofs.TallyLemmas.{known}
use Rattle.redo_times.proofs.tally.add_owner.Goals as goal

pub returns-in-BeganInOwnLog : goal.returns-in-BeganInOwnLog
returns-in-BeganInOwnLog c targets reports distinct listed are =
    let owner = owner_reports c.args.log.target.now c.args.time in
    let none : owner c.args.stage ≡ [] = elim c.in-BeganInOwnLog.is [ inl is ↦ ap owner is | inr is ↦ ap owner is ] in
    subst (λ (more : List Report). AreTallies targets more c.args.tallies.now)
    (sym (ap (λ (more : List Report). reports ++ more) none ∙ append-nil reports)) are

pub returns-in-BeganInOtherLog : goal.returns-in-BeganInOtherLog
returns-in-BeganInOtherLog c targets reports distinct listed are =
    let log = c.args.log in
    let owner = owner_reports log.target.now c.args.time in
    let one : owner c.args.stage ≡ report_at c.args.time (RunsOther, log.target.now) ∷ [] =
    elim c.in-BeganInOtherLog.is [
      | inl is ↦ ap owner is
      | inr others ↦ elim others [ inl is ↦ ap owner is | inr is ↦ ap owner is ]
    ] in
    on_ok_weaker c.add.result (λ added. ap (λ (tally : TallyValue). set c.args.tallies.now log.position tally) added
    ∙ known RunsOther log.target.now c.args.time reports targets c.args.tallies.now are log.position _ listed distinct
    ∙ ap (λ (more : List Report). map (tally_of (reports ++ more)) targets) (sym one)) c.add.ensures
