use Rattle.std.proofs.Common.{sym, subst}
use Rattle.redo_index.specs.Index.{IsIndex}
use Rattle.redo_index.specs.Private.Entries.{entries_of_pairs}
use Rattle.redo_index.proofs.IndexEntries.{no_index}
use Rattle.redo_index.proofs.index.Index.new.Goals as goal

pub invariant_of-result : goal.invariant_of-result
invariant_of-result c = subst (λ entries. IsIndex (entries_of_pairs entries)) (sym c.with_hasher.ensures.empty) no_index
