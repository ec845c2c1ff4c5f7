use Rattle.std.proofs.Common.{length, drop}
use Rattle.redo_outline.specs.Facts.{entries_at}
use Rattle.redo_outline.proofs.FactsLemmas.{Gathered}
use Rattle.redo_outline.proofs.facts.log_facts.Given as goal

abbrev pub invariant-entries : goal.invariant-entries
invariant-entries l = Gathered l.with_warnings (entries_at l.number l.table) l.next_entry l.facts

abbrev pub decreases-entries : goal.decreases-entries
decreases-entries l = length (drop l.next_entry (entries_at l.number l.table))
