use Rattle.std.proofs.Common.{sym, ◌∙◌}
use Rattle.std.proofs.lemmas.Bool.{and_parts, not-true}
use Rattle.redo_html.proofs.StrideLemmas.{none_follow, one_more_follows}
use Rattle.redo_html.proofs.stride.are_letters.Goals as goal

pub loop-k-init : goal.loop-k-init
loop-k-init c = λ is. none_follow c.args.bytes.now c.args.at (sym c.is_open-letters.ensures ∙ not-true _ is)

pub loop-k-preserved : goal.loop-k-preserved
loop-k-preserved c = λ is.
    let parts = and_parts c.loop-k.letters c.follows-letters.result is in
    one_more_follows c.args.bytes.now c.args.at c.loop-k.k (c.loop-k.invariant parts.0) (sym c.follows-letters.ensures ∙ parts.1)
