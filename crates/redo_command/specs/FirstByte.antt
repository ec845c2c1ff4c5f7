-- The first byte of a text.
use Rattle.std.specs.Prelude.{◌≡◌, ℕ, [], Option, None, Some, slice_get}
use Rattle.redo_device.specs.Sink.{Output}

-- Whether a writer took no byte yet, as far as its output is known.
abbrev pub IsUnwritten : Option Output → Type 0
IsUnwritten None = Unit {0}
IsUnwritten (Some output) = output.bytes ≡ []

-- The first byte that a writer took, if it took one; `other` if its output isn't known.
abbrev pub first_taken : Option Output → Option ℕ → Option ℕ
first_taken None other = other
first_taken (Some output) other = slice_get output.bytes 0
