-- The results of showing the logs of a directory.
use Rattle.std.specs.Prelude.{◌≡◌, ◌⊎◌, Result, IsErrAnd}
use Rattle.redo_run.specs.declared.run_fault.RunFault.TheVariants as run
use Rattle.redo_command.specs.declared.failure.Failure.{Failure}
use Rattle.redo_command.specs.declared.failure.Failure.TheVariants.{Memory, Run}
use Rattle.redo_command.specs.Failure.{IsIndexFailure}
use Rattle.redo_command.specs.Output.{IsClosedAfter}

-- Whether this is a result of showing logs: the index can't be read, or memory ran out before anything was written; or a text was
-- written with an outcome that has the property `P`, and then the buffer was flushed and the output file closed.
abbrev pub IsShown : (Result (Unit {0}) Failure → Type 0) → Result (Unit {0}) Failure → Type 0
IsShown P result = IsErrAnd result IsIndexFailure ⊎ ((outcome : Result (Unit {0}) Failure) × P outcome × IsClosedAfter outcome result)

-- Whether this is a result of showing logs, or the output file couldn't be created.
abbrev pub IsShownOrNotCreated : (Result (Unit {0}) Failure → Type 0) → Result (Unit {0}) Failure → Type 0
IsShownOrNotCreated P result = IsShown P result ⊎ IsErrAnd result (λ failure. (failure ≡ Run run.Write) ⊎ (failure ≡ Memory))
