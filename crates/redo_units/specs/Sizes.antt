-- How sizes and quotients are written.
use Rattle.std.specs.Prelude.{ℕ, ◌*◌, ◌/◌, ◌%◌, min, max, ◌==◌, nat_lt, List, [], ◌∷◌, codes, if◌then◌else◌}
use Rattle.redo_units.specs.Words.{WordValue, no_word}
use Rattle.redo_units.specs.Words.WordValue.{NumberWord, TextWord}

-- A number of bytes in a unit of this many, with one decimal.
abbrev pub size_in : ℕ → List ℕ → ℕ → List WordValue
size_in unit name bytes = NumberWord (bytes / unit) ∷ TextWord (codes ".") ∷ NumberWord (bytes * 10 / unit % 10) ∷ TextWord name ∷ []

-- A number of bytes.
unfoldable pub size_words : ℕ → List WordValue
size_words bytes =
    if bytes == 1 then NumberWord 1 ∷ TextWord (codes " byte") ∷ no_word ∷ no_word ∷ []
    else if nat_lt bytes 1000 then NumberWord bytes ∷ TextWord (codes " bytes") ∷ no_word ∷ no_word ∷ []
    else if nat_lt bytes 1000000 then size_in 1000 (codes " kB") bytes
    else if nat_lt bytes 1000000000 then size_in 1000000 (codes " MB") bytes
    else size_in 1000000000 (codes " GB") bytes

-- How many tenths an amount is of another one, or of 1 if that is 0. Ten times the amount is at most 2^64 - 1.
abbrev pub quotient_in_tenths : ℕ → ℕ → ℕ
quotient_in_tenths amount per = min (amount * 10) 0xFFFFFFFFFFFFFFFF / max per 1

-- A quotient with one decimal.
unfoldable pub tenths_words : ℕ → ℕ → List WordValue
tenths_words amount per = let tenths = quotient_in_tenths amount per in NumberWord (tenths / 10) ∷ TextWord (codes ".") ∷ NumberWord (tenths % 10) ∷ []
