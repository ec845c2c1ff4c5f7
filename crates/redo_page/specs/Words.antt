-- Numbers with units, as parts.
use Rattle.std.specs.Prelude.{List, [], ◌∷◌}
use Rattle.std.specs.List.{flat_map}
use Rattle.redo_html.specs.Parts.{Part}
use Rattle.redo_html.specs.Parts.Part.{TextPart, NumberPart}
use Rattle.redo_units.specs.Words.{WordValue}
use Rattle.redo_units.specs.Words.WordValue.{NumberWord, TextWord}

abbrev pub word_part : WordValue → List Part
word_part (NumberWord number) = NumberPart number ∷ []
word_part (TextWord text) = TextPart text ∷ []

abbrev pub words_parts : List WordValue → List Part
words_parts words = flat_map word_part words
