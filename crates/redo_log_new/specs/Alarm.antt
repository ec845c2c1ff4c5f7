-- The text after which the program ends with status 1.
use Rattle.std.specs.Prelude.{ℕ}

-- It begins with `n`, as `new` and `newly failing` do.
abbrev pub alarm : ℕ
alarm = 110
