use Rattle.std.proofs.Common.{false, ap, ◌∙◌}
use Rattle.redo_chart.specs.Titles.{title_of}
use Rattle.redo_chart.proofs.ChartLemmas.{text_at}
use Rattle.redo_chart.proofs.bars.bar_items.Goals as goal

pub drawn_bar-requires-clause-title : goal.drawn_bar-requires-clause-title
drawn_bar-requires-clause-title c =
    c.deref.ensures.value ∙ ap (λ text. text.items) c.index-titles-i.is
    ∙ text_at (title_of c.args.table.now c.args.nodes.now c.args.band.kind) c.args.titles.now c.args.bars.now c.loop-i.i
    (record { lane = 0; x = 0; width = 0; position = 0; count = 0; began = 0; ended = 0; failed = false }) c.index-titles-i.result
    c.requires.titles c.loop-i-test.true
