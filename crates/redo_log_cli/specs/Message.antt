-- The error messages of `redo-log`.
use Rattle.std.specs.Prelude.{ℕ, List, [], codes}
use Rattle.redo_command.specs.declared.failure.Failure.{Failure}
use Rattle.redo_command.specs.Failure.{failure_message_as}

-- The error message of `redo-log`, which has no baseline.
abbrev pub failure_message : List (List ℕ) → List (List ℕ) → Failure → List ℕ
failure_message targets arguments failure = failure_message_as (codes "redo-log") [] targets arguments failure
