use Rattle.redo_json.proofs.ExactLemmas.{build_exact}
use Rattle.redo_json.proofs.laws.numbers_are_exact.Goals as goal

pub returns : goal.returns
returns c = build_exact
