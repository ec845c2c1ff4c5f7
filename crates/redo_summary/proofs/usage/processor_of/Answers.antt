use Rattle.redo_summary.proofs.RankLemmas.{no_span}
use Rattle.redo_summary.proofs.UsageLemmas.{processor_more}
use Rattle.redo_summary.proofs.usage.processor_of.Goals as goal

pub loop-recipe-preserved : goal.loop-recipe-preserved
loop-recipe-preserved c =
    let more = processor_more c.args.nodes.now c.args.facts.now c.args.recipes.now c.loop-recipe.recipe-index no_span
    c.loop-recipe-test.true in cc
