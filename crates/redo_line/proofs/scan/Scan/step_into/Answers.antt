use Rattle.std.proofs.Common.{ℕ, ◌≤◌, ◌^◌, sym, ap, subst, ◌∙◌}
use Rattle.std.proofs.lemmas.Option.{none-some, same_Some}
use Rattle.redo_line.specs.declared.stream_fault.StreamFault.TheVariants.{Read, NotClosed}
use Rattle.redo_line.specs.Scan.{Scanned}
use Rattle.redo_line.proofs.FirstByteLemmas.{known_of}
use Rattle.redo_line.proofs.ScanEnds.{refused_early}
use Rattle.redo_line.proofs.scan.Scan.step_into.Goals as goal

pub returns-in-Err-clause-never_read_fault : goal.returns-in-Err-clause-never_read_fault
returns-in-Err-clause-never_read_fault c =
    let after = c.self.invariant.after c.in_default.is in
    (refused_early c.self.inside.progress c.self.inside.history.bytes _ c.in-Err.fault
    (c.in-Err.ensures.fault c.self.inside.history.bytes after)).0

pub returns-in-Err-clause-never_not_closed : goal.returns-in-Err-clause-never_not_closed
returns-in-Err-clause-never_not_closed c =
    let after = c.self.invariant.after c.in_default.is in
    (refused_early c.self.inside.progress c.self.inside.history.bytes _ c.in-Err.fault
    (c.in-Err.ensures.fault c.self.inside.history.bytes after)).1

pub invariant_of-self-in-Err : goal.invariant_of-self-in-Err
invariant_of-self-in-Err c =
    let after = c.self.invariant.after c.in_default.is in
    let early = refused_early c.self.inside.progress c.self.inside.history.bytes _ c.in-Err.fault
    (c.in-Err.ensures.fault c.self.inside.history.bytes after) in
    record {
      limit = subst (λ (n : ℕ). n ≤ 2 ^ 40) (sym c.in-Err.ensures.max_bytes) c.self.invariant.limit;
      after = λ none. absurd (cc);
      never_read_fault = λ is. early.0 (same_Some c.in-Err.fault Read is);
      never_not_closed = λ is. early.1 (same_Some c.in-Err.fault NotClosed is);
    }

pub returns-in-Err-clause-immediate : goal.returns-in-Err-clause-immediate
returns-in-Err-clause-immediate c fault first =
    let known = known_of c.self.inside.progress c.self.inside.history.bytes _ c.self.inside.must_close c.self.inside.failed_with
    c.args.self.now fault c.self.view_is (c.self.invariant.after c.in_default.is) first in
    let told = c.in-Err.ensures.immediate fault known in
    told

pub returns-in-Ok-Some-clause-immediate : goal.returns-in-Ok-Some-clause-immediate
returns-in-Ok-Some-clause-immediate c fault first =
    let known = known_of c.self.inside.progress c.self.inside.history.bytes _ c.self.inside.must_close c.self.inside.failed_with
    c.args.self.now fault c.self.view_is (c.self.invariant.after c.in_default.is) first in
    let told = c.in-Ok-Some.ensures.immediate fault known in
    absurd (cc)

pub returns-in-Ok-None-clause-immediate : goal.returns-in-Ok-None-clause-immediate
returns-in-Ok-None-clause-immediate c fault first =
    let known = known_of c.self.inside.progress c.self.inside.history.bytes _ c.self.inside.must_close c.self.inside.failed_with
    c.args.self.now fault c.self.view_is (c.self.invariant.after c.in_default.is) first in
    let told = c.in-Ok-None.ensures.immediate fault known in
    absurd (cc)

pub returns-in-Ok-Some-clause-sticky : goal.returns-in-Ok-Some-clause-sticky
returns-in-Ok-Some-clause-sticky c fault is =
    absurd (none-some fault (sym c.in_default.is ∙ ap (λ (scanned : Scanned). scanned.failed_with) c.self.view_is ∙ is))

pub returns-in-Ok-None-clause-sticky : goal.returns-in-Ok-None-clause-sticky
returns-in-Ok-None-clause-sticky c fault is =
    absurd (none-some fault (sym c.in_default.is ∙ ap (λ (scanned : Scanned). scanned.failed_with) c.self.view_is ∙ is))

pub returns-in-Err-clause-sticky : goal.returns-in-Err-clause-sticky
returns-in-Err-clause-sticky c fault is =
    absurd (none-some fault (sym c.in_default.is ∙ ap (λ (scanned : Scanned). scanned.failed_with) c.self.view_is ∙ is))
