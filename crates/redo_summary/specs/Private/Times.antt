-- The first and the last of two times. Either may be unknown.
use Rattle.std.specs.Prelude.{ℕ, max, min, Option, None, Some}

abbrev pub first_of : Option ℕ → Option ℕ → Option ℕ
first_of None other = other
first_of (Some time) None = Some time
first_of (Some time) (Some other) = Some (min time other)

abbrev pub last_of : Option ℕ → Option ℕ → Option ℕ
last_of None other = other
last_of (Some time) None = Some time
last_of (Some time) (Some other) = Some (max time other)
