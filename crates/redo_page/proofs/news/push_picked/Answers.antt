use Rattle.std.proofs.Common.{◌++◌, ◌∙◌, List, ap, sym}
use Rattle.std.proofs.lemmas.List.{append-nil}
use Rattle.redo_page.proofs.NewsLemmas.{picked_end}
use Rattle.redo_page.proofs.news.push_picked.Goals as goal
use Rattle.redo_summary.specs.declared.rank.Rank.{Rank}

pub returns : goal.returns
returns c =
    let lines = c.loop-index.lines.items in
    sym (c.loop-index.invariant
    ∙ ap (λ (more : List Rank). lines ++ more)
    (picked_end c.args.position c.loop-index.index c.args.new.now c.args.occurrences.now c.loop-index-test.false)
    ∙ append-nil lines)
