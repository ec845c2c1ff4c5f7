use Rattle.redo_facts.proofs.LawProofs.{skipped}
use Rattle.redo_facts.proofs.laws.other_lines_are_skipped.Goals as goal

pub returns : goal.returns
returns c = skipped
