-- The known stream of a log in its first reading.
use Rattle.std.specs.Prelude.{Option, None, if◌then◌else◌}
use Rattle.redo_device.specs.Feed.{Stream}
use Rattle.redo_command.specs.declared.first_reading.FirstReading.{FirstReading}

-- The known stream of the log, if the log can be read twice. `contents` gives the known stream of a log.
abbrev pub first_contents : {F : Type 0} → (F → Option Stream) → FirstReading F → Option Stream
first_contents contents reading = if reading.can_rewind then contents reading.log else None
