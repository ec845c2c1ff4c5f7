use Rattle.std.proofs.Common.{[], sym, ap, ◌∙◌}
use Rattle.redo_line.specs.Lines.{rest}
use Rattle.redo_line.proofs.LineLemmas.{rest-free}
use Rattle.redo_line.proofs.cutter.Cutter.new.Goals as goal

pub invariant_of-result : goal.invariant_of-result
invariant_of-result c = c.new.ensures ∙ sym (ap rest c.empty.ensures ∙ rest-free [] tt)
