use Rattle.std.proofs.Common.{sym, ◌∙◌, arith, subst}
use Rattle.redo_index.specs.Index.{IsIndex}
use Rattle.redo_index.proofs.IndexEntries.{index_facts}
use Rattle.redo_index.proofs.index.Index.len.Goals as goal

pub overflow_cast-result : goal.overflow_cast-result
overflow_cast-result c =
    let s = index_facts _ _ c.self.view_is c.self.invariant in
    let size = s.size in let count = s.count in omega (arith, c.len.ensures.len)

pub returns-clause-len : goal.returns-clause-len
returns-clause-len c = c.len.ensures.len ∙ sym (index_facts _ _ c.self.view_is c.self.invariant).count

pub returns-clause-index : goal.returns-clause-index
returns-clause-index c = subst IsIndex c.self.view_is c.self.invariant
