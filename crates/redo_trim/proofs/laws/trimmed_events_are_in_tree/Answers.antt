use Rattle.std.proofs.Common.{[]}
use Rattle.redo_trim.proofs.TreeLemmas.{stays_in_tree, tree_trimmed, trim_count}
use Rattle.redo_trim.proofs.laws.trimmed_events_are_in_tree.Goals as goal

pub returns-clause-in_tree : goal.returns-clause-in_tree
returns-clause-in_tree c = stays_in_tree

pub returns-clause-tree : goal.returns-clause-tree
returns-clause-tree c = tree_trimmed

pub returns-clause-logs : goal.returns-clause-logs
returns-clause-logs c limits contents = trim_count limits contents []
