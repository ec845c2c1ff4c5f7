-- Definitions that state the laws about names.
use Rattle.std.specs.Prelude.{◌≡◌, ◌≢◌, ℕ, false, List, ◌∷◌, [], ◌++◌, None, Some, replicate}
use Rattle.redo_name.specs.Names.{slash, dot, dot_dot, reduce_suffix, is_absolute, normal}

-- Whether a segment is neither empty nor `.` nor `..`.
abbrev pub IsOrdinary : List ℕ → Type 0
IsOrdinary segment = (segment ≢ []) × (segment ≢ dot) × (segment ≢ dot_dot)

-- The segment can be removed, wherever it is: the result stays the same.
abbrev pub IsDropped : List ℕ → Type 0
IsDropped segment = (front behind : List (List ℕ)) → reduce_suffix (front ++ segment ∷ behind) ≡ reduce_suffix (front ++ behind)

-- The segment can be removed together with a `..` directly after it: the result stays the same.
abbrev pub IsCancelled : List ℕ → Type 0
IsCancelled segment = (front behind : List (List ℕ)) → reduce_suffix (front ++ segment ∷ dot_dot ∷ behind) ≡ reduce_suffix (front ++ behind)

-- `ups` segments `..` and the segments `kept` after them are all kept.
abbrev pub AreKept : ℕ → List (List ℕ) → Type 0
AreKept ups kept = reduce_suffix (replicate ups dot_dot ++ kept) ≡ record { kept = kept; count = ups }

-- Whether a name is neither empty nor absolute.
abbrev pub IsRelative : List ℕ → Type 0
IsRelative name = (name ≢ []) × (is_absolute name ≡ false)

-- In the log of the target `front/last`, `name` has the normal form of `front/name`.
abbrev pub ResolvesIn : List ℕ → List ℕ → List ℕ → Type 0
ResolvesIn front last name = normal (Some (front ++ slash ∷ last)) name ≡ normal None (front ++ slash ∷ name)
