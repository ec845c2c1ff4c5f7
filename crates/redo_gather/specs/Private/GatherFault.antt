-- The fault that a gathering has for the fault of a stream.
use Rattle.std.specs.Prelude.{ℕ}
use Rattle.redo_line.specs.declared.stream_fault.StreamFault.{StreamFault}
use Rattle.redo_line.specs.declared.stream_fault.StreamFault.TheVariants as stream
use Rattle.redo_gather.specs.declared.gather_fault.GatherFault.{GatherFault}
use Rattle.redo_gather.specs.declared.gather_fault.GatherFault.TheVariants.{Stream, OutOfMemory}

-- The gathering's fault for the fault of the stream with this number.
abbrev pub fault_of_stream : ℕ → StreamFault → GatherFault
fault_of_stream number (stream.BadRecord line) = Stream number (stream.BadRecord line)
fault_of_stream number (stream.AfterClose line) = Stream number (stream.AfterClose line)
fault_of_stream number stream.TooLong = Stream number stream.TooLong
fault_of_stream number stream.Read = Stream number stream.Read
fault_of_stream number stream.OutOfMemory = OutOfMemory
fault_of_stream number stream.NotClosed = Stream number stream.NotClosed
