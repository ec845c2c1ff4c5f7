-- The known stream of a log file.
use Rattle.std.specs.Prelude.{true, false, [], Option, None, Some}
use Rattle.redo_device.specs.Feed.{Stream}
use Rattle.redo_command.specs.declared.log_file.LogFile.{LogFile}
use Rattle.redo_command.specs.declared.log_file.LogFile.TheVariants.{Open, Missing, Unreadable}

-- An open file is opaque. A missing file is an empty stream. The first read of a file that can't be opened fails.
abbrev pub known_contents : {F : Type 0} → LogFile F → Option Stream
known_contents (Open file) = None
known_contents Missing = Some (record { bytes = []; fails = false })
known_contents Unreadable = Some (record { bytes = []; fails = true })
