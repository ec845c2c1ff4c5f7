-- Words, one by one.
use Rattle.std.proofs.Common.{◌≡◌, List, [], ◌∷◌, ◌++◌, map, refl, ap}
use Rattle.std.specs.List.{flat_map}
use Rattle.redo_html.specs.Parts.{Part}
use Rattle.redo_units.specs.declared.words.Word.{Word}
use Rattle.redo_units.specs.Words.{word_of}
use Rattle.redo_page.specs.Words.{word_part, words_parts}

abbrev pub parts_of_word : Word → List Part
parts_of_word word = word_part (word_of word)

pub one_by_one : (words : List Word) → words_parts (map word_of words) ≡ flat_map parts_of_word words
one_by_one [] = refl
one_by_one (word ∷ words) = ap (λ (parts : List Part). parts_of_word word ++ parts) (one_by_one words)
