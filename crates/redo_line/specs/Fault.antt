-- The fault of a stream.
use Rattle.std.specs.Prelude.{ℕ, Option, None, Some, length, nat_lt, if◌then◌else◌}
use Rattle.redo_line.specs.declared.stream_fault.StreamFault.{StreamFault}
use Rattle.redo_line.specs.declared.stream_fault.StreamFault.TheVariants.{TooLong, Read}
use Rattle.redo_device.specs.Feed.{Stream}

-- The fault of a stream without an invalid line, if at most `max_bytes` bytes are allowed.
abbrev pub end_fault : ℕ → Stream → Option StreamFault
end_fault max_bytes stream = if nat_lt max_bytes (length stream.bytes) then Some TooLong else if stream.fails then Some Read else None
