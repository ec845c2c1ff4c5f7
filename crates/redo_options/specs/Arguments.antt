-- The command-line arguments that name the requested targets, as bytes.
use Rattle.std.specs.Prelude.{ℕ, List, map}
use Rattle.std.specs.Global.{Vec}

abbrev pub argument_bytes : List (Vec ℕ) → List (List ℕ)
argument_bytes arguments = map (λ argument. argument.items) arguments
