-- Splitting bytes into two parts.
use Rattle.std.specs.Prelude.{ℕ, ◌==◌, List, [], ◌∷◌, Option, None, Some, option_map, if◌then◌else◌}

-- The bytes before and after the first byte `at`, if there is one.
unfoldable pub split_once : ℕ → List ℕ → Option (List ℕ × List ℕ)
split_once at [] = None
split_once at (byte ∷ bytes) = if byte == at then Some ([], bytes) else option_map (λ parts. (byte ∷ parts.0, parts.1)) (split_once at bytes)

-- The bytes after this prefix, if they begin with it.
unfoldable pub after_prefix : List ℕ → List ℕ → Option (List ℕ)
after_prefix [] bytes = Some bytes
after_prefix (first ∷ front) [] = None
after_prefix (first ∷ front) (byte ∷ bytes) = if first == byte then after_prefix front bytes else None
