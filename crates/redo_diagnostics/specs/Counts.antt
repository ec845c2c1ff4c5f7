-- How often keys occur.
use Rattle.std.specs.Prelude.{◌≡◌, ℕ, List, [], ◌∷◌, ◌++◌, filter, length, min}
use Rattle.std.specs.Map.{lookup}
use Rattle.std.specs.Option.{unwrap_or}
use Rattle.std.specs.Str.{bytes_eq}

-- How often a key occurs among these.
abbrev pub times_of : List ℕ → List (List ℕ) → ℕ
times_of key keys = length (filter (λ other. bytes_eq other key) keys)

-- Each of these keys with the number of its earlier occurrences, if these ones precede them.
abbrev pub numbered_after : List (List ℕ) → List (List ℕ) → List (List ℕ × ℕ)
numbered_after before [] = []
numbered_after before (key ∷ keys) = (key, times_of key before) ∷ numbered_after (before ++ key ∷ []) keys

-- The keys of a log's diagnostics, each with its number: how often it occurred before.
abbrev pub numbered_keys : List (List ℕ) → List (List ℕ × ℕ)
numbered_keys keys = numbered_after [] keys

abbrev pub max_count : ℕ
max_count = 18446744073709551615

-- A count, as a map has it: no count is above the maximum.
abbrev pub stored : ℕ → ℕ
stored count = min count max_count

-- The count of a key in a map from keys to counts; 0 if the map doesn't have the key.
abbrev pub count_in : List ℕ → List (List ℕ × ℕ) → ℕ
count_in key counts = unwrap_or (lookup (bytes_eq key) counts) 0

-- Whether a map has how often each key occurs among these.
abbrev pub AreCounts : List (List ℕ × ℕ) → List (List ℕ) → Type 0
AreCounts counts keys = (key : List ℕ) → count_in key counts ≡ stored (times_of key keys)
