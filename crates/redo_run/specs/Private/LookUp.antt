-- The failed look-up of arguments among targets.
use Rattle.std.specs.Prelude.{◌≡◌, ◌⊎◌, ℕ, List, Some}
use Rattle.std.specs.Option.{option_map}
use Rattle.redo_run.specs.declared.run_fault.RunFault.{RunFault}
use Rattle.redo_run.specs.declared.run_fault.RunFault.TheVariants.{OutOfMemory, Unknown}
use Rattle.redo_run.specs.Run.{unknown_argument}

-- Whether `fault` is the fault of the first unknown argument, or an allocation failed.
abbrev pub IsArgumentFault : List (List ℕ) → List (List ℕ) → RunFault → Type 0
IsArgumentFault targets arguments fault = (fault ≡ OutOfMemory) ⊎ (option_map Unknown (unknown_argument targets arguments) ≡ Some fault)
