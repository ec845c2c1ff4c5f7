use Rattle.std.proofs.Common.{ap, sym, ◌∙◌}
use Rattle.redo_page.specs.Targets.{fact_parts, took_parts}
use Rattle.redo_page.specs.Words.{words_parts}
use Rattle.redo_page.proofs.PartLoops.{wrote_as}
use Rattle.redo_page.proofs.WriterLemmas.{wrote_then}
use Rattle.redo_page.proofs.targets.write_took.Goals as goal

pub returns : goal.returns
returns g c =
    wrote_as g.W.Sink.written c.args.page.now c.put-2.new.self _ _
    ((λ i. fact_parts (words_parts (c.duration.ensures i)))
    ∙ ap took_parts (sym c.in-Some.is))
    (wrote_then c.put.ensures (wrote_then c.write_words.ensures c.put-2.ensures))
