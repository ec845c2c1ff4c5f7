use Rattle.std.proofs.Common.{◌∙◌, arith}
use Rattle.std.proofs.lemmas.Grind.{common_steps}
use Rattle.redo_units.proofs.WordLemmas.{decimal_is}
use Rattle.redo_units.proofs.words.push_number.Goals as goal

pub returns : goal.returns
returns c =
    let same = c.as_bytes.ensures.value ∙ c.format.ensures.text ∙ decimal_is c.args.number (omega (arith, c.ranges.number)) in
    grind (arith, common_steps, same)
