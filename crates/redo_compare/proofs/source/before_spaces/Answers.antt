use Rattle.std.proofs.Common.{ap, sym, ◌∙◌}
use Rattle.redo_compare.specs.Source.{before_spaces}
use Rattle.redo_compare.proofs.SourceLemmas.{before-none, before-space}
use Rattle.redo_compare.proofs.source.before_spaces.Goals as goal

pub spaces-preserved : goal.spaces-preserved
spaces-preserved c = c.spaces.invariant ∙ ap before_spaces c.in-Some.ensures.some ∙ before-space c.in-Some.front.now

pub returns : goal.returns
returns c = sym (c.spaces.invariant ∙ before-none c.spaces.left.now c.in_default.ensures.none)
