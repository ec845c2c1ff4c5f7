-- The ticks of a time axis, in milliseconds.
use Rattle.std.specs.Prelude.{ℕ, ◌*◌, ◌/◌, ◌%◌, Bool, ◌==◌, nat_le, nat_lt, List, [], ◌∷◌, ◌++◌, codes, if◌then◌else◌}
use Rattle.std.specs.List.{find}
use Rattle.std.specs.Option.{unwrap_or}
use Rattle.redo_units.specs.Words.{WordValue, no_word, two_digits, words_text}
use Rattle.redo_units.specs.Words.WordValue.{NumberWord, TextWord}

-- How far the ticks of an axis may be apart.
abbrev pub axis_steps : List ℕ
axis_steps =
    1 ∷ 2 ∷ 5 ∷ 10 ∷ 20 ∷ 50 ∷ 100 ∷ 200 ∷ 500 ∷ 1000 ∷ 2000 ∷ 5000 ∷ 10000 ∷ 15000 ∷ 30000 ∷ 60000 ∷ 120000 ∷ 300000 ∷ 600000 ∷ 900000 ∷ 1800000
    ∷ 3600000 ∷ 7200000 ∷ 14400000 ∷ 43200000 ∷ 86400000 ∷ []

-- Their distance on an axis of this width: the first step that, ten times, is at least as wide. If there is none, the axis has one step.
unfoldable pub tick_step_of : ℕ → ℕ
tick_step_of width = unwrap_or (find (λ step. nat_le width (step * 10)) axis_steps) width

abbrev pub point_if : Bool → WordValue
point_if shown = if shown then TextWord (codes ".") else no_word

-- The last digit of a number, if it is shown.
abbrev pub decimal_if : Bool → ℕ → WordValue
decimal_if shown number = if shown then NumberWord (number % 10) else no_word

-- A time since the axis begins. Seconds have the decimals that this step needs.
unfoldable pub tick_words : ℕ → ℕ → List WordValue
tick_words ms step =
    if ms == 0 then NumberWord 0 ∷ no_word ∷ no_word ∷ no_word ∷ no_word ∷ no_word ∷ []
    else if nat_lt ms 60000 then
    NumberWord (ms / 1000) ∷ point_if (nat_lt step 1000) ∷ decimal_if (nat_lt step 1000) (ms / 100) ∷ decimal_if (nat_lt step 100) (ms / 10) ∷ decimal_if (nat_lt step 10) ms ∷ TextWord (codes " s") ∷ []
    else if nat_lt ms 3600000 then NumberWord (ms / 60000) ∷ TextWord (codes ":") ∷ two_digits (ms / 1000 % 60) ++ no_word ∷ no_word ∷ []
    else NumberWord (ms / 3600000) ∷ TextWord (codes ":") ∷ two_digits (ms / 60000 % 60) ++ TextWord (codes " h") ∷ no_word ∷ []

abbrev pub tick_text : ℕ → ℕ → List ℕ
tick_text ms step = words_text (tick_words ms step)
