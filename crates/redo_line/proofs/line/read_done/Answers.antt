use Rattle.std.proofs.Common.{rules, refl, sym, subst}
use Rattle.redo_line.specs.Entry.{done_or_closing}
use Rattle.redo_line.specs.Private.Line.{ReadsInto}
use Rattle.redo_line.proofs.ReadingLemmas.{done_by_parts, refused_into, refused_name}
use Rattle.redo_line.proofs.line.read_done.Goals as goal

pub returns-in_err-resolve-clause-read : goal.returns-in_err-resolve-clause-read
returns-in_err-resolve-clause-read c =
    let target = c.args.target.now in let name = c.in-Some.name.now in
    let parts = done_by_parts target c.args.pid _ c.in-Some.status.now name c.in-Some-read_status.status c.in-Some.ensures.some
    (sym c.in-Some-read_status.ensures) in
    subst (λ read. ReadsInto c.from_residual.result read c.args.entries.now c.args.entries.now) (sym parts)
    (refused_into c.from_residual.result _ _ _ _ c.from_residual.ensures
    (refused_name (λ mentioned. done_or_closing target c.args.pid c.in-Some-read_status.status mentioned) target name
    c.in_err-resolve.field-0.0 c.in_err-resolve.ensures.empty) refl)

pub returns-in_ok-push_closing-clause-read : goal.returns-in_ok-push_closing-clause-read
returns-in_ok-push_closing-clause-read c = search rules

pub returns-in_ok-push_done-clause-read : goal.returns-in_ok-push_done-clause-read
returns-in_ok-push_done-clause-read c = search rules
