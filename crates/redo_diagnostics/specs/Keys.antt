-- What of a key is hashed.
use Rattle.std.specs.Prelude.{ℕ, List, [], ◌∷◌, Option, None, Some, drop}
use Rattle.redo_line.specs.Parts.{split_once}
use Rattle.redo_line.specs.Record.{colon}

abbrev pub parts_hashed : List ℕ → Option (List ℕ × List ℕ) → List (List ℕ)
parts_hashed key None = key ∷ []
parts_hashed key (Some parts) = drop 1 parts.1 ∷ parts.0 ∷ []

-- What follows the first colon and a space, and what precedes the colon.
abbrev pub hash_parts : List ℕ → List (List ℕ)
hash_parts key = parts_hashed key (split_once colon key)
