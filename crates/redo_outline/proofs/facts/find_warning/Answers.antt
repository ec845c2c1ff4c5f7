use Rattle.std.proofs.Common.{◌∙◌, sym, arith, ◌+◌}
use Rattle.std.proofs.lemmas.List.{take_rest}
use Rattle.redo_outline.proofs.WarningLemmas.{arning, not_here, occurs_here, occurs_nowhere, place_fits}
use Rattle.redo_outline.proofs.facts.find_warning.Goals as goal

pub returns-then-starts_with : goal.returns-then-starts_with
returns-then-starts_with c =
    let bytes = c.args.bytes.now in let from = c.letters.from in let at = c.in-Some.at in
    occurs_here 119 arning bytes _ from (take_rest bytes from) c.letters.invariant.0 c.letters.invariant.1 at c.in-Some.ensures
    _ (take_rest bytes (from + at)) (sym c.starts_with.ensures.value ∙ c.if-starts_with.true)

pub letters-preserved : goal.letters-preserved
letters-preserved c =
    let bytes = c.args.bytes.now in let from = c.letters.from in let at = c.in-Some.at in
    let left_is = take_rest bytes from in let few = c.letters.invariant.0 in let nowhere = c.letters.invariant.1 in (
      omega (arith, place_fits 119 arning bytes _ from left_is few nowhere at c.in-Some.ensures),
      not_here 119 arning bytes _ from left_is few nowhere at c.in-Some.ensures
          _ (take_rest bytes (from + at)) (sym c.starts_with.ensures.value ∙ c.if-starts_with.false),
    )

pub returns : goal.returns
returns c =
    let bytes = c.args.bytes.now in let from = c.letters.from in
    occurs_nowhere 119 arning bytes _ from (take_rest bytes from) c.letters.invariant.0 c.letters.invariant.1 c.in_default.ensures
