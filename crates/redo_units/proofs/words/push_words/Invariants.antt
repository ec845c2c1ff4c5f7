use Rattle.std.proofs.Common.{◌≡◌, ◌++◌, map, take}
use Rattle.redo_units.specs.Words.{word_of, words_text}
use Rattle.redo_units.proofs.words.push_words.Given as goal

abbrev pub invariant-loop-word : goal.invariant-loop-word
invariant-loop-word l = l.text.items ≡ l.initial.text.items ++ words_text (map word_of (take l.word-index l.words))
