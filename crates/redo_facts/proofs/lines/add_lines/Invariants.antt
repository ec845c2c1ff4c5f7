use Rattle.std.proofs.Common.{length}
use Rattle.redo_facts.proofs.LineLemmas.{SoFar}
use Rattle.redo_facts.proofs.lines.add_lines.Given as goal

abbrev pub invariant-lines : goal.invariant-lines
invariant-lines l = SoFar l.index l.bytes l.left l.facts

abbrev pub decreases-lines : goal.decreases-lines
decreases-lines l = length l.left
