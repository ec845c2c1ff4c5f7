-- The targets of a build.
use Rattle.std.specs.Prelude.{ℕ, List, ◌++◌}
use Rattle.redo_logs.specs.Logs.{Log, targets_of}

-- The requested targets, and then all targets that have logs, in the order of the logs.
abbrev pub every_target : List Log → List (List ℕ) → List (List ℕ)
every_target logs requested = requested ++ targets_of logs
