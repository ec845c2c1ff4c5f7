use Rattle.redo_new.proofs.LawLemmas.{begins_with_byte, begins_with_word}
use Rattle.redo_new.proofs.laws.text_begins_with_new.Goals as goal

pub returns-clause-word : goal.returns-clause-word
returns-clause-word c = λ baseline logs nodes.
    begins_with_word baseline logs (c.each_new_diagnostic_has_its_line.ensures baseline.logs logs) nodes

pub returns-clause-byte : goal.returns-clause-byte
returns-clause-byte c = λ baseline logs nodes.
    begins_with_byte baseline logs (c.each_new_diagnostic_has_its_line.ensures baseline.logs logs) nodes
