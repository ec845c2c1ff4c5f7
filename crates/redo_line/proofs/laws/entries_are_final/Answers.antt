use Rattle.std.proofs.Common.{◌++◌}
use Rattle.redo_line.specs.Laws.{IsPrefix, of_bytes}
use Rattle.redo_line.specs.Scan.{entries_so_far}
use Rattle.redo_line.proofs.LogLemmas.{entries_lead_part, entries_lead_log}
use Rattle.redo_line.proofs.SourceLemmas.{of_log}
use Rattle.redo_line.proofs.laws.entries_are_final.Goals as goal

pub returns-clause-part : goal.returns-clause-part
returns-clause-part c target max_bytes must_close bytes more fails fine = entries_lead_part target max_bytes bytes more fails fine

pub returns-clause-log : goal.returns-clause-log
returns-clause-log c target max_bytes must_close bytes more fails fine =
    of_log max_bytes (of_bytes target max_bytes must_close (bytes ++ more) fails) (IsPrefix (entries_so_far target max_bytes bytes))
    (entries_lead_log target max_bytes bytes more fails fine)
