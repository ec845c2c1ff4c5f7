use Rattle.redo_line.specs.Laws.{HasOneEntryPerLine}
use Rattle.redo_line.proofs.LogLemmas.{entry_of_each_line}
use Rattle.redo_line.proofs.SourceLemmas.{of_log}
use Rattle.redo_line.proofs.laws.one_entry_per_line.Goals as goal

pub returns : goal.returns
returns c max_bytes given = of_log max_bytes given (HasOneEntryPerLine given.target given.stream)
    (entry_of_each_line given.target max_bytes given.stream)
