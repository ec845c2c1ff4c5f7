-- The faults of a gathering.
use Rattle.std.specs.Prelude.{ℕ, Result, Ok, Err}
use Rattle.redo_line.specs.declared.stream_fault.StreamFault.{StreamFault}
use Rattle.redo_gather.specs.declared.gather_fault.GatherFault.{GatherFault}
use Rattle.redo_gather.specs.declared.gather_fault.GatherFault.TheVariants.{Stream, OutOfMemory}

-- If the result is the fault of a stream, `P` holds of the stream's number and of the fault.
abbrev pub IfStreamFault : {A : Type 0} → Result A GatherFault → (ℕ → StreamFault → Type 0) → Type 0
IfStreamFault (Ok done) P = Unit {0}
IfStreamFault (Err (Stream number fault)) P = P number fault
IfStreamFault (Err OutOfMemory) P = Unit {0}
