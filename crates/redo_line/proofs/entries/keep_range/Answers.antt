use Rattle.std.proofs.Common.{drop, ap, ◌∙◌}
use Rattle.redo_line.proofs.EntriesLemmas.{range_cut}
use Rattle.redo_line.proofs.entries.keep_range.Goals as goal

pub returns : goal.returns
returns c = c.drop_prefix.ensures ∙ ap (drop c.args.start) c.truncate.ensures.items
    ∙ range_cut c.args.bytes.items c.args.start c.args.end c.requires.order
