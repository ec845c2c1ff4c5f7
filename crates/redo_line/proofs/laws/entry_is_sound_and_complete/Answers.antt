use Rattle.redo_line.proofs.EntryLemmas.{entry_read, entry_is, record_has_entry}
use Rattle.redo_line.proofs.LogLemmas.{if_some}
use Rattle.redo_line.specs.Entry.{IsEntry, entry_of}
use Rattle.redo_line.proofs.laws.entry_is_sound_and_complete.Goals as goal

pub returns-clause-is : goal.returns-clause-is
returns-clause-is c target line ended = if_some (entry_of target line ended) (IsEntry target line ended) (entry_read target line ended)

pub returns-clause-only : goal.returns-clause-only
returns-clause-only c = entry_is

pub returns-clause-record : goal.returns-clause-record
returns-clause-record c = record_has_entry
