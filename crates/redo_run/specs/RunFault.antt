-- The faults of a run, and statements about one kind of them.
use Rattle.std.specs.Prelude.{ℕ, Result, Ok, Err}
use Rattle.redo_line.specs.declared.stream_fault.StreamFault.{StreamFault}
use Rattle.redo_gather.specs.declared.gather_fault.GatherFault.{GatherFault}
use Rattle.redo_gather.specs.declared.gather_fault.GatherFault.TheVariants as gather
use Rattle.redo_run.specs.declared.run_fault.RunFault.{RunFault}
use Rattle.redo_run.specs.declared.run_fault.RunFault.TheVariants.{Unknown, Stream, OutOfMemory, Write}

-- The fault of a run whose gathering fails with this fault.
abbrev pub run_fault_of_gather : GatherFault → RunFault
run_fault_of_gather (gather.Stream number fault) = Stream number fault
run_fault_of_gather gather.OutOfMemory = OutOfMemory

-- `P` holds of the number and the fault, if the run failed because of a stream.
abbrev pub IfStreamFault : Result (Unit {0}) RunFault → (ℕ → StreamFault → Type 0) → Type 0
IfStreamFault (Ok done) P = Unit {0}
IfStreamFault (Err (Unknown place)) P = Unit {0}
IfStreamFault (Err (Stream number fault)) P = P number fault
IfStreamFault (Err OutOfMemory) P = Unit {0}
IfStreamFault (Err Write) P = Unit {0}

-- `P` holds of the position, if the run failed because of an unknown argument.
abbrev pub IfUnknown : Result (Unit {0}) RunFault → (ℕ → Type 0) → Type 0
IfUnknown (Ok done) P = Unit {0}
IfUnknown (Err (Unknown place)) P = P place
IfUnknown (Err (Stream number fault)) P = Unit {0}
IfUnknown (Err OutOfMemory) P = Unit {0}
IfUnknown (Err Write) P = Unit {0}

-- `P` holds of the fault, if the run failed because of an unknown argument or of a stream. Then there is no text.
abbrev pub IfNoText : Result (Unit {0}) RunFault → (RunFault → Type 0) → Type 0
IfNoText (Ok done) P = Unit {0}
IfNoText (Err (Unknown place)) P = P (Unknown place)
IfNoText (Err (Stream number fault)) P = P (Stream number fault)
IfNoText (Err OutOfMemory) P = Unit {0}
IfNoText (Err Write) P = Unit {0}
