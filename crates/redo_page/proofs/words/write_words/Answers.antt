use Rattle.std.proofs.Common.{take, sym, ◌+◌}
use Rattle.redo_units.specs.declared.words.Word.TheVariants.{Number}
use Rattle.redo_page.proofs.PartLoops.{wrote_as}
use Rattle.redo_page.proofs.WordLemmas.{one_by_one, parts_of_word}
use Rattle.redo_page.proofs.WriterLemmas.{wrote_next}
use Rattle.redo_page.proofs.words.write_words.Goals as goal

pub loop-word-preserved : goal.loop-word-preserved
loop-word-preserved g c =
    let words = c.args.words.now in
    let i = c.loop-word.word-index in
    let before = c.args.page.now in
    wrote_as g.W.Sink.written before c.write_word.new.page _ _ (sym (one_by_one (take (i + 1) words)))
    (wrote_next parts_of_word words i (Number 0) c.loop-word-test.true
    (wrote_as g.W.Sink.written before c.loop-word.page _ _ (one_by_one (take i words)) c.loop-word.invariant) c.write_word.ensures)
