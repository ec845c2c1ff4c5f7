-- The result of reading a line.
use Rattle.std.specs.Prelude.{◌≡◌, ◌≢◌, Bool, List, [], ◌∷◌, ◌++◌, Option, None, Some, Result, Ok, Err}
use Rattle.redo_line.specs.declared.entry.Entry.{Entry}
use Rattle.redo_line.specs.declared.line.LineFault.{LineFault}
use Rattle.redo_line.specs.declared.line.LineFault.TheVariants.{BadRecord, OutOfMemory}
use Rattle.redo_line.specs.Log.{closes}

-- Reading a line fails with `BadRecord` only if the line has no entry, and with `OutOfMemory` only if it has one.
abbrev pub IsRefused : LineFault → Option Entry → Type 0
IsRefused BadRecord read = read ≡ None
IsRefused OutOfMemory read = read ≢ None

-- The result is the entry, or the reason why none was returned.
abbrev pub Reads : Result Entry LineFault → Option Entry → Type 0
Reads (Ok entry) read = read ≡ Some entry
Reads (Err fault) read = IsRefused fault read

-- The entry was appended, and `closing` is whether it closes the log.
pub record IsPut (closing : Bool) (read : Option Entry) (old new : List Entry) : Type 0 where
  pub entry : Entry
  pub is : read ≡ Some entry
  pub put : new ≡ old ++ entry ∷ []
  pub closing_is : closing ≡ closes (Some entry)

-- The entry was appended, or the entries are unchanged and the result is the reason.
abbrev pub ReadsInto : Result Bool LineFault → Option Entry → List Entry → List Entry → Type 0
ReadsInto (Ok closing) read old new = IsPut closing read old new
ReadsInto (Err fault) read old new = IsRefused fault read × (new ≡ old)
