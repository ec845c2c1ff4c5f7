-- The value of a record's time.
use Rattle.std.specs.Prelude.{ℕ, ◌+◌, ◌*◌, ◌≤◌, nat_le, ◌&&◌, List, ◌++◌, [], Option, None, Some, option_map, take, codes, if◌then◌else◌}
use Rattle.redo_line.specs.Decimal.{number}
use Rattle.redo_line.specs.Parts.{split_once}
use Rattle.redo_line.specs.Record.{period}

-- The seconds since 1970 that count as a time, from 2001 to 2286. A clock that is not set gives fewer.
abbrev pub min_seconds : ℕ
min_seconds = 1000000000

abbrev pub max_seconds : ℕ
max_seconds = 9999999999

-- The seconds and the fraction of a time, from its bytes before and after the point. Without a point there is no fraction.
abbrev pub seconds_and_fraction : List ℕ → Option (List ℕ × List ℕ) → List ℕ × List ℕ
seconds_and_fraction time None = (time, [])
seconds_and_fraction time (Some parts) = parts

-- The milliseconds of a fraction: its first three decimals. Missing decimals are 0.
abbrev pub milliseconds : List ℕ → ℕ
milliseconds fraction = number (take 3 (fraction ++ codes "000"))

-- The value of seconds, if they count as a time.
abbrev pub seconds_of : List ℕ → Option ℕ
seconds_of digits = if nat_le min_seconds (number digits) && nat_le (number digits) max_seconds then Some (number digits) else None

abbrev pub value_of_parts : List ℕ × List ℕ → Option ℕ
value_of_parts parts = option_map (λ seconds. seconds * 1000 + milliseconds parts.1) (seconds_of parts.0)

-- The value of a record's time, in milliseconds since 1970.
unfoldable pub time_value : List ℕ → Option ℕ
time_value time = value_of_parts (seconds_and_fraction time (split_once period time))

-- The range of these values.
abbrev pub IsInRange : ℕ → Type 0
IsInRange value = (min_seconds * 1000 ≤ value) × (value ≤ max_seconds * 1000 + 999)
