use Rattle.std.proofs.Common.{List, ℕ, [], ◌∷◌, ◌++◌, take, ap, sym, ◌∙◌}
use Rattle.redo_index.specs.Index.{listed_targets}
use Rattle.redo_index.proofs.IndexEntries.{take-next}
use Rattle.redo_index.proofs.index.Index.names.Goals as goal

pub loop-i-preserved : goal.loop-i-preserved
loop-i-preserved c =
    let names = listed_targets c.args.self.now in
    c.in_ok-push.ensures.items ∙ ap (λ copied. copied ++ c.in_ok-copy.field-0 ∷ []) c.loop-i.invariant
    ∙ ap (λ (name : List ℕ). take c.loop-i.i names ++ name ∷ []) c.in_ok-copy.ensures
    ∙ sym (take-next names c.loop-i.i c.name.result.now c.name.ensures)
