-- The output file: where it is, and the result of flushing a buffer or closing the file.
use Rattle.std.specs.Prelude.{◌≡◌, ◌⊎◌, ℕ, List, ◌++◌, Result, Ok, Err, codes, decimal}
use Rattle.std.specs.String.{string_bytes}
use Rattle.redo_run.specs.declared.run_fault.RunFault.TheVariants as run
use Rattle.redo_command.specs.declared.failure.Failure.{Failure}
use Rattle.redo_command.specs.declared.failure.Failure.TheVariants.{Run}
use Rattle.redo_command.specs.declared.output.Output.{Output}
use Rattle.redo_command.specs.declared.output.Output.TheVariants.{Direct, Temporary}

-- The path of a temporary file with this number, which is renamed to `path`.
abbrev pub temporary_path : List ℕ → ℕ → List ℕ
temporary_path path number = path ++ codes ".tmp" ++ decimal number

-- Whether a temporary file is in the directory of `path`, and is renamed to `path`.
abbrev pub IsBeside : {F : Type 0} → List ℕ → Output F → Type 0
IsBeside path (Direct file) = Unit {0}
IsBeside path (Temporary file temporary target) = (target.now ≡ path) × (number : ℕ) × (string_bytes temporary ≡ temporary_path path number)

-- Whether `result` is a result of flushing a buffer, or closing the output file, after a text was written with this outcome: a
-- failure stays the failure, and if the whole text was written, the buffer or the file may still fail.
abbrev pub IsClosedAfter : Result (Unit {0}) Failure → Result (Unit {0}) Failure → Type 0
IsClosedAfter (Ok done) result = (result ≡ Ok tt) ⊎ (result ≡ Err (Run run.Write))
IsClosedAfter (Err failure) result = result ≡ Err failure
