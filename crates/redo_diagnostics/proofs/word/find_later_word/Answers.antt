use Rattle.std.proofs.lemmas.List.{take_rest}
use Rattle.redo_diagnostics.proofs.WordLemmas.{end_fits, none_here, place_is, place_none, severity_found}
use Rattle.redo_diagnostics.proofs.word.find_later_word.Goals as goal

pub returns-in-Some-word_before-clause-place : goal.returns-in-Some-word_before-clause-place
returns-in-Some-word_before-clause-place c =
    place_is c.args.plain.now _ c.colons.from (take_rest c.args.plain.now c.colons.from) c.colons.invariant.0 c.colons.invariant.1
    c.in-Some.at c.in-Some.ensures c.in-Some-word_before.found c.in-Some-word_before.ensures

pub returns-in-Some-word_before-clause-severity : goal.returns-in-Some-word_before-clause-severity
returns-in-Some-word_before-clause-severity c =
    severity_found c.args.plain.now _ c.colons.from (take_rest c.args.plain.now c.colons.from)
    c.colons.invariant.0 c.colons.invariant.1
    c.in-Some.at c.in-Some.ensures c.in-Some-word_before.found c.in-Some-word_before.ensures

pub colons-preserved : goal.colons-preserved
colons-preserved c =
    let few = c.colons.invariant.0 in let after = c.colons.invariant.1 in
    let rest = take_rest c.args.plain.now c.colons.from in (
      end_fits c.args.plain.now _ c.colons.from rest few after c.in-Some.at c.in-Some.ensures,
      none_here c.args.plain.now _ c.colons.from rest few after c.in-Some.at c.in-Some.ensures c.in_default-word_before.ensures,
    )

pub returns-clause-place : goal.returns-clause-place
returns-clause-place c =
    place_none c.args.plain.now _ c.colons.from (take_rest c.args.plain.now c.colons.from)
    c.colons.invariant.0 c.colons.invariant.1 c.in_default.ensures
