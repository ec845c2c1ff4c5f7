use Rattle.std.proofs.Common.{◌≡◌, replicate}
use Rattle.redo_facts.specs.Facts.{nothing}
use Rattle.redo_facts.proofs.lines.no_facts.Given as goal

abbrev pub invariant-loop : goal.invariant-loop
invariant-loop l = l.facts.items ≡ replicate l.counter nothing
