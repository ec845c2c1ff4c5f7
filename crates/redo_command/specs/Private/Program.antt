-- The result of reading the file `names`.
use Rattle.std.specs.Prelude.{◌≡◌, ◌⊎◌, List, None, Result, Ok, Err}
use Rattle.redo_line.specs.Fault.{end_fault}
use Rattle.redo_device.specs.Feed.{Stream}
use Rattle.redo_line.specs.Lines.{all_lines}
use Rattle.redo_index.specs.declared.index_fault.IndexFault.TheVariants as index
use Rattle.redo_index.specs.declared.index_entry.IndexEntry.{IndexEntry}
use Rattle.redo_index.specs.Index.{IsIndexOf, IsRejected}
use Rattle.redo_command.specs.declared.failure.Failure.{Failure}
use Rattle.redo_command.specs.declared.failure.Failure.TheVariants.{NamesRead, Index, Memory}
use Rattle.redo_command.specs.NamesFile.{CannotBeRead, byte_limit}

-- Whether this is a result of reading the file `names` with this stream: the index of all its lines, or that it can't be read,
-- or the fault of the index. An allocation may also have failed.
abbrev pub IsIndexResult : Result (List IndexEntry) Failure → Stream → Type 0
IsIndexResult (Ok entries) stream = (end_fault byte_limit stream ≡ None) × IsIndexOf (all_lines stream.bytes) entries
IsIndexResult (Err NamesRead) stream = CannotBeRead stream
IsIndexResult (Err (Index fault)) stream = (end_fault byte_limit stream ≡ None) × ((fault ≡ index.OutOfMemory) ⊎ IsRejected (all_lines stream.bytes) fault)
IsIndexResult (Err Memory) stream = Unit {0}
IsIndexResult (Err other) stream = ⊥
