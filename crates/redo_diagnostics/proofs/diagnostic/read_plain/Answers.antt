use Rattle.std.proofs.Common.{arith}
use Rattle.redo_line.specs.Record.{colon}
use Rattle.redo_diagnostics.proofs.FlagLemmas.{nowhere_free}
use Rattle.redo_diagnostics.proofs.ReadLemmas.{of_none}
use Rattle.redo_diagnostics.proofs.WordLemmas.{colon_of_head}
use Rattle.redo_diagnostics.proofs.diagnostic.read_plain.Goals as goal

pub returns-in_default : goal.returns-in_default
returns-in_default c = of_none c.args.plain.now (nowhere_free colon c.args.plain.now c.in_default.ensures)

pub invariant_of-result : goal.invariant_of-result
invariant_of-result c =
    colon_of_head c.args.plain.now c.in-Some.colon c.in-Some.ensures c.in-Some-find_word.at
    (let range = c.in-Some-find_word.ensures.range in omega (arith, range))
