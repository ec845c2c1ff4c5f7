use Rattle.redo_units.proofs.WordLemmas.{word_pushed}
use Rattle.redo_units.proofs.words.push_words.Goals as goal

pub loop-word-preserved : goal.loop-word-preserved
loop-word-preserved c = word_pushed _ _ _ _ _ _ c.loop-word-test.true c.loop-word.invariant c.in_ok-push_word.ensures
