use Rattle.redo_line.specs.Laws.{ClosesAtEnd}
use Rattle.redo_line.proofs.LogLemmas.{closing_stands_last}
use Rattle.redo_line.proofs.SourceLemmas.{of_log}
use Rattle.redo_line.proofs.laws.closing_record_is_last.Goals as goal

pub returns : goal.returns
returns c max_bytes given = of_log max_bytes given ClosesAtEnd (closing_stands_last given.target max_bytes given.stream)
