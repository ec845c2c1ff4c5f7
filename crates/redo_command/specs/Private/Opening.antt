-- The files of a capture directory that are opened, the output file, and the result of opening one.
use Rattle.std.specs.Prelude.{◌≡◌, ℕ, List, ◌++◌, Option, None, Some, Result, Ok, Err, IsErrAnd, codes, decimal}
use Rattle.std.specs.IoError.{error_kind}
use Rattle.std.specs.declared.io.Error.{Error}
use Rattle.std.specs.declared.io.ErrorKind.{ErrorKind}
use Rattle.std.specs.declared.io.ErrorKind.TheVariants.{BrokenPipe, NotFound, OutOfMemory, QuotaExceeded, StorageFull}
use Rattle.redo_command.specs.declared.baseline_fault.BaselineFault.{BaselineFault}
use Rattle.redo_command.specs.declared.baseline_fault.BaselineFault.TheVariants as baseline
use Rattle.redo_command.specs.declared.error_keeper.WriteError.{WriteError}
use Rattle.redo_command.specs.declared.error_keeper.WriteError.TheVariants as write_error
use Rattle.redo_command.specs.declared.log_file.LogFile.{LogFile}
use Rattle.redo_command.specs.declared.log_file.LogFile.TheVariants.{Open, Missing, Unreadable}
use Rattle.redo_command.specs.declared.failure.Failure.{Failure}
use Rattle.redo_command.specs.declared.failure.Failure.TheVariants.{Index, NamesMissing, NamesRead, Memory, Run}
use Rattle.redo_run.specs.declared.run_fault.RunFault.TheVariants as run

-- The path of the file `names`.
abbrev pub names_path : List ℕ → List ℕ
names_path dir = dir ++ codes "/names"

-- The path of the file `facts`.
abbrev pub facts_path : List ℕ → List ℕ
facts_path dir = dir ++ codes "/facts"

-- The path of the log file with this number.
abbrev pub log_path : List ℕ → ℕ → List ℕ
log_path dir number = dir ++ codes "/log." ++ decimal number

-- Whether opening a file failed because an allocation failed.
abbrev pub IsOutOfMemory : {F : Type 0} → Result F Error → Type 0
IsOutOfMemory opened = IsErrAnd opened (λ error. error_kind error ≡ OutOfMemory)

-- Whether `log_file` is the `LogFile` of a file that can't be opened, from the kind of the error.
abbrev pub IsLogFileAfter : {F : Type 0} → ErrorKind → LogFile F → Type 0
IsLogFileAfter NotFound log_file = log_file ≡ Missing
IsLogFileAfter OutOfMemory log_file = ⊥
IsLogFileAfter _ log_file = log_file ≡ Unreadable

-- Whether `log_file` is the `LogFile` of a file, from the result of opening it. It is `Missing` exactly if no file was found.
abbrev pub IsLogFileOf : {F : Type 0} → Result F Error → LogFile F → Type 0
IsLogFileOf (Ok file) log_file = log_file ≡ Open (record { 0 = file })
IsLogFileOf (Err error) log_file = IsLogFileAfter (error_kind error) log_file

-- The failure if `names` can't be opened, from the kind of the error.
abbrev pub failure_after : ErrorKind → Failure
failure_after NotFound = NamesMissing
failure_after OutOfMemory = Memory
failure_after _ = NamesRead

-- The fault of a baseline whose index can't be read for this reason: none if memory ran out.
abbrev pub fault_of_index : Failure → Option BaselineFault
fault_of_index NamesMissing = Some baseline.NamesMissing
fault_of_index NamesRead = Some baseline.NamesRead
fault_of_index (Index fault) = Some (baseline.Index fault)
fault_of_index _ = None

-- The failure if the output file can't be created, from the kind of the error.
abbrev pub write_failure_after : ErrorKind → Failure
write_failure_after OutOfMemory = Memory
write_failure_after _ = Run run.Write

-- Why a write failed, from the kind of its error.
abbrev pub write_error_of : ErrorKind → WriteError
write_error_of StorageFull = write_error.NoSpace
write_error_of QuotaExceeded = write_error.QuotaExceeded
write_error_of BrokenPipe = write_error.ClosedPipe
write_error_of _ = write_error.Other
