use Rattle.std.proofs.Common.{sym, ◌∙◌}
use Rattle.redo_name.specs.Names.{slash}
use Rattle.redo_diagnostics.proofs.KeyLemmas.{kept-slash, masked-rest, shorter}
use Rattle.redo_diagnostics.proofs.key.has_temporary.Goals as goal

pub slashes-smaller : goal.slashes-smaller
slashes-smaller c = shorter slash c.slashes.left.now (_, c.in-Some.behind.now) c.in-Some.ensures.some

pub slashes-preserved : goal.slashes-preserved
slashes-preserved c = λ same.
    c.slashes.invariant (kept-slash c.slashes.left.now _ c.in-Some.behind.now c.in-Some.ensures.some
    (sym c.begins_temporary.ensures ∙ c.if-begins_temporary.false) same)

pub returns : goal.returns
returns c = λ _. c.slashes.invariant (masked-rest c.slashes.left.now c.in_default.ensures.none)
