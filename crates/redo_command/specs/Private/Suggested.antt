-- A name in a list of names.
use Rattle.std.specs.Prelude.{ℕ, List, ◌++◌, codes}
use Rattle.std.specs.Global.{Vec}

-- A name after a comma.
abbrev pub after_comma : Vec ℕ → List ℕ
after_comma name = codes ", " ++ name.items
