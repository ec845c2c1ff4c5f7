use Rattle.std.proofs.Common.{true, false, ap, sym, ◌∙◌}
use Rattle.redo_line.specs.Scan.{Scanned}
use Rattle.redo_line.proofs.SourceLemmas.{fault_in_the_end}
use Rattle.redo_line.proofs.scan.Scan.closing_fault.Goals as goal

pub returns-then-is_closed-clause-left : goal.returns-then-is_closed-clause-left
returns-then-is_closed-clause-left c =
    let fine = ap (λ (scan : Scanned). scan.failed_with) c.self.view_is ∙ c.requires in
    rw (← c.self.view_is)
    (sym (fault_in_the_end c.self.inside.progress c.self.inside.history.bytes
    (c.self.invariant.after fine) c.self.inside.must_close true true c.if-not-self.false
    (sym c.is_closed.ensures ∙ c.if-is_closed.true)))

pub returns-else-is_closed-clause-left : goal.returns-else-is_closed-clause-left
returns-else-is_closed-clause-left c =
    let fine = ap (λ (scan : Scanned). scan.failed_with) c.self.view_is ∙ c.requires in
    rw (← c.self.view_is)
    (sym (fault_in_the_end c.self.inside.progress c.self.inside.history.bytes
    (c.self.invariant.after fine) c.self.inside.must_close true false c.if-not-self.false
    (sym c.is_closed.ensures ∙ c.if-is_closed.false)))
