-- The words that numbers with units are written with.
use Rattle.std.specs.Prelude.{ℕ, ◌/◌, ◌%◌, nat_lt, List, [], ◌∷◌, decimal, if◌then◌else◌}
use Rattle.std.specs.List.{flat_map}
use Rattle.redo_units.specs.declared.words.Word.{Word}
use Rattle.redo_units.specs.declared.words.Word.TheVariants.{Number, Text}

-- A number, or the bytes of a text.
pub data WordValue : Type 0 where
  NumberWord : ℕ → WordValue
  TextWord : List ℕ → WordValue

abbrev pub word_of : Word → WordValue
word_of (Number number) = NumberWord number
word_of (Text text) = TextWord text.now

-- The text of a number. None is larger than 2^64 - 1.
unfoldable pub decimal_text : ℕ → List ℕ
decimal_text number = if nat_lt number 0x10000000000000000 then decimal number else []

abbrev pub word_text : WordValue → List ℕ
word_text (NumberWord number) = decimal_text number
word_text (TextWord text) = text

abbrev pub words_text : List WordValue → List ℕ
words_text words = flat_map word_text words

-- The word at unused places.
abbrev pub no_word : WordValue
no_word = TextWord []

-- The two digits of a number below 100.
abbrev pub two_digits : ℕ → List WordValue
two_digits number = NumberWord (number / 10) ∷ NumberWord (number % 10) ∷ []
