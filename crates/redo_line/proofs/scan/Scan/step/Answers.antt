use Rattle.std.proofs.Common.{inl, refl, rules}
use Rattle.redo_line.proofs.ScanSteps.{one_found}
use Rattle.redo_line.proofs.scan.Scan.step.Goals as goal

pub returns-in-Err-clause-step : goal.returns-in-Err-clause-step
returns-in-Err-clause-step c = record {
  fault_stored = search rules;
  may_fail = λ none. inl refl;
  early = ((λ is. absurd (cc)), (λ is. absurd (cc)));
}

pub returns-in-Ok-clause-step : goal.returns-in-Ok-clause-step
returns-in-Ok-clause-step c =
    let place = rw c.in-Some.is at c.in_ok-upto.ensures.range in
    let found = rw c.in-Some.is at c.in_ok-upto.ensures.found in
    (place.0, place.1, one_found c.args.self.now _ _ _ _ c.in-Ok.entry c.new-read.ensures c.in-Ok.ensures found)
