-- A text that a program reports by its exit status.
use Rattle.std.specs.Prelude.{◌≡◌, ◌⊎◌, ℕ, ◌==◌, Bool, false, Option, None, Some}
use Rattle.redo_command.specs.Failure.{IsStatus}

-- Whether a text that begins with the byte `first` is reported, by the byte with which such a text begins. An empty text isn't.
abbrev pub is_alarm : Option ℕ → Option ℕ → Bool
is_alarm None first = false
is_alarm (Some byte) None = false
is_alarm (Some byte) (Some first) = byte == first

-- Whether a program may exit with this status. Without such a byte, status 1 isn't one of them.
abbrev pub IsStatusWith : Option ℕ → ℕ → Type 0
IsStatusWith None status = IsStatus status
IsStatusWith (Some byte) status = (status ≡ 1) ⊎ IsStatus status
