use Rattle.std.proofs.Common.{◌≡◌, take}
use Rattle.redo_summary.specs.Usage.{known_usages, processor_of}
use Rattle.redo_summary.proofs.usage.processor_of.Given as goal

abbrev pub invariant-loop-recipe : goal.invariant-loop-recipe
invariant-loop-recipe l = l.sum ≡ processor_of (known_usages l.nodes l.facts (take l.recipe-index l.recipes))
