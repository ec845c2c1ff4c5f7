use Rattle.std.proofs.Common.{List, ℕ, sym, ◌∙◌, ap}
use Rattle.redo_diagnostics.specs.Diagnostic.{masked}
use Rattle.redo_diagnostics.proofs.KeyPartLemmas.{joined, masked-joined}
use Rattle.redo_diagnostics.proofs.key.simple_key.Goals as goal

pub returns : goal.returns
returns c =
    sym (ap (λ (origin : List ℕ). joined origin c.args.tail.now) c.requires.origin)
    ∙ sym (ap (λ (tail : List ℕ). joined (masked c.args.origin.now) tail) c.requires.tail)
    ∙ masked-joined c.args.origin.now c.args.tail.now
