use Rattle.std.proofs.Common.{◌≡◌, ℕ, List, None, refl, subst}
use Rattle.std.specs.List.{AllByRecursion}
use Rattle.redo_diagnostics.specs.Diagnostic.{diagnostic_of}
use Rattle.redo_line.specs.Lines.{ended}
use Rattle.redo_compare.proofs.LogLemmas.{more_skipped, none_skipped}
use Rattle.redo_compare.proofs.log.skip_others.Goals as goal

pub stretches-init : goal.stretches-init
stretches-init c = none_skipped _ _ refl refl

pub stretches-preserved : goal.stretches-preserved
stretches-preserved c =
    more_skipped _ _ _ _ c.stretches.invariant c.in-Some.ensures.left c.in-Some.ensures.done c.skip_stretch.ensures.lines
    (subst (λ (bytes : List ℕ). AllByRecursion (λ line. diagnostic_of line ≡ None) (ended bytes)) c.in-Some.ensures.stretch
    (c.may_have_diagnostic.ensures c.if-may_have_diagnostic.false))
