-- The fault of a line whose name can't be resolved.
use Rattle.redo_name.specs.declared.name.NameFault.{NameFault}
use Rattle.redo_name.specs.declared.name.NameFault.TheVariants as name
use Rattle.redo_line.specs.declared.line.LineFault.{LineFault}
use Rattle.redo_line.specs.declared.line.LineFault.TheVariants.{BadRecord, OutOfMemory}

-- A line with an empty name is not a record.
abbrev pub line_fault_of_name : NameFault → LineFault
line_fault_of_name name.Empty = BadRecord
line_fault_of_name name.OutOfMemory = OutOfMemory
