use Rattle.std.proofs.Common.{position, nat_eq, ap, sym, ◌∙◌, arith}
use Rattle.std.specs.Cmp.Lexicographic.{pointwise}
use Rattle.redo_index.proofs.IndexEntries.{index_facts}
use Rattle.redo_index.proofs.index.Index.find.Goals as goal

pub overflow_cast-result : goal.overflow_cast-result
overflow_cast-result c =
    let s = index_facts _ _ c.self.view_is c.self.invariant in
    let count = s.count in let size = s.size in
    let within = rw c.in-Some.is at c.get_index_of.ensures.within in
    omega (arith, within)

pub returns-in-Some : goal.returns-in-Some
returns-in-Some c =
    let s = index_facts _ _ c.self.view_is c.self.invariant in
    sym c.in-Some.is ∙ c.get_index_of.ensures.index ∙ ap (λ names. position (pointwise nat_eq c.args.name.now) names) (sym s.names_are)

pub returns-in-None : goal.returns-in-None
returns-in-None c =
    let s = index_facts _ _ c.self.view_is c.self.invariant in
    sym c.in-None.is ∙ c.get_index_of.ensures.index ∙ ap (λ names. position (pointwise nat_eq c.args.name.now) names) (sym s.names_are)
