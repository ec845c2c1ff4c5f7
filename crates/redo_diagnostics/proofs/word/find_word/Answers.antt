use Rattle.redo_diagnostics.proofs.WordLemmas.{end_fits_first, none_first, place_is_first, severity_first}
use Rattle.redo_diagnostics.proofs.word.find_word.Goals as goal

pub word_before-requires : goal.word_before-requires
word_before-requires c = end_fits_first c.args.plain.now c.args.colon c.requires

pub returns-in-Some-clause-place : goal.returns-in-Some-clause-place
returns-in-Some-clause-place c = place_is_first c.args.plain.now c.args.colon c.requires c.in-Some.found c.in-Some.ensures

pub returns-in-Some-clause-severity : goal.returns-in-Some-clause-severity
returns-in-Some-clause-severity c = severity_first c.args.plain.now c.args.colon c.requires c.in-Some.found c.in-Some.ensures

pub find_later_word-requires-clause-few : goal.find_later_word-requires-clause-few
find_later_word-requires-clause-few c = end_fits_first c.args.plain.now c.args.colon c.requires

pub find_later_word-requires-clause-after : goal.find_later_word-requires-clause-after
find_later_word-requires-clause-after c = none_first c.args.plain.now c.args.colon c.requires c.in_default.ensures
