use Rattle.std.proofs.Common.{◌≡◌, length}
use Rattle.redo_outline.specs.Private.Sweeping.{brackets_added}
use Rattle.redo_outline.proofs.collector.Collector.into_nodes.Given as goal

-- The brackets that are left lead to the same as all.
abbrev pub invariant-brackets : goal.invariant-brackets
invariant-brackets l = brackets_added l.brackets.items l.sweep ≡ brackets_added l.initial.brackets.items l.initial.sweep

abbrev pub decreases-brackets : goal.decreases-brackets
decreases-brackets l = length l.brackets.items
