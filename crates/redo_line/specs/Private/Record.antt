-- The fields that are read from a record.
use Rattle.std.specs.Prelude.{ℕ, List, Option, None, Some, if◌then◌else◌}
use Rattle.redo_line.specs.Decimal.{number}
use Rattle.redo_line.specs.Record.{Fields, is_pid}

-- The parts of a record from which an entry is made.
abbrev pub parts_of : Fields → List ℕ × ℕ × List ℕ
parts_of fields = (fields.kind, number fields.pid, fields.text)

-- The value of a pid, if it is one.
abbrev pub pid_of : List ℕ → Option ℕ
pid_of pid = if is_pid pid then Some (number pid) else None
