use Rattle.std.proofs.Common.{map, take}
use Rattle.redo_page.specs.Private.Writing.{WroteParts}
use Rattle.redo_page.specs.Words.{words_parts}
use Rattle.redo_units.specs.Words.{word_of}
use Rattle.redo_page.proofs.words.write_words.Given as goal

abbrev pub invariant-loop-word : goal.invariant-loop-word
invariant-loop-word g l = WroteParts g.W.Sink.written l.initial.page l.page (words_parts (map word_of (take l.word-index l.words)))
