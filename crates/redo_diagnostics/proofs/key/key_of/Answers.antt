use Rattle.std.proofs.Common.{List, ℕ, ◌∙◌, ap, subst, sym}
use Rattle.std.specs.Cow.{cow_slice_items}
use Rattle.redo_line.proofs.PartLemmas.{HasNo}
use Rattle.redo_line.specs.Record.{colon}
use Rattle.redo_diagnostics.specs.Diagnostic.{masked}
use Rattle.redo_diagnostics.proofs.KeyPartLemmas.{joined, masked-free, masked-joined}
use Rattle.redo_diagnostics.proofs.key.key_of.Goals as goal

pub invariant_of-result : goal.invariant_of-result
invariant_of-result c =
    subst (HasNo colon) (sym c.in_ok-without_temporaries.ensures) (masked-free c.args.origin.now c.requires)

pub returns : goal.returns
returns c =
    ap (λ (origin : List ℕ). joined origin (cow_slice_items c.in_ok-without_temporaries-2.field-0)) c.in_ok-without_temporaries.ensures
    ∙ ap (λ (tail : List ℕ). joined (masked c.args.origin.now) tail) c.in_ok-without_temporaries-2.ensures
    ∙ masked-joined c.args.origin.now c.args.tail.now
