use Rattle.std.proofs.Common.{◌≡◌, Some, None, sym, subst, ◌∙◌}
use Rattle.redo_line.specs.Scan.{Scanned, source_in}
use Rattle.redo_line.specs.Source.{source_fault}
use Rattle.redo_line.proofs.SourceLemmas.{log_in_the_end}
use Rattle.redo_line.proofs.scan.Scan.finish.Goals as goal

pub returns-in-Some-finish-clause-log : goal.returns-in-Some-finish-clause-log
returns-in-Some-finish-clause-log c none =
    let left = subst (λ (scan : Scanned). source_fault scan.max_bytes (source_in scan) ≡ None) (sym c.self.view_is)
    (sym c.closing_fault.ensures.left ∙ c.in_default-closing_fault.is) in
    rw (← c.self.view_is)
    (log_in_the_end c.self.inside.progress c.self.inside.history.bytes (c.self.invariant.after c.in_default.is) c.self.inside.must_close
    (Some c.in-Some-finish.line) left
    (sym c.in-Some-finish.is ∙ c.finish.ensures))

pub returns-in-None-clause-log : goal.returns-in-None-clause-log
returns-in-None-clause-log c none =
    let left = subst (λ (scan : Scanned). source_fault scan.max_bytes (source_in scan) ≡ None) (sym c.self.view_is)
    (sym c.closing_fault.ensures.left ∙ c.in_default-closing_fault.is) in
    rw (← c.self.view_is)
    (log_in_the_end c.self.inside.progress c.self.inside.history.bytes
    (c.self.invariant.after c.in_default.is) c.self.inside.must_close None left
    (sym c.in-None.is ∙ c.finish.ensures))
