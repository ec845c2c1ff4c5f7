use Rattle.std.proofs.Common.{◌+◌, ◌++◌, [], length, sym, ap, subst, arith}
use Rattle.redo_line.proofs.LineLemmas.{ended-free, rest-free}
use Rattle.redo_line.specs.Lines.{ended}
use Rattle.redo_outline.specs.Private.TextLines.{texts_from}
use Rattle.redo_outline.specs.TextLines.{AreNextLines, LinesLeft}
use Rattle.redo_outline.proofs.TextLineLemmas.{all_taken}
use Rattle.redo_outline.proofs.text_lines.TextLines.skip_stretch.Goals as goal

pub overflow_add-self : goal.overflow_add-self
overflow_add-self c = let before = c.self.invariant.2 in let fits = c.self.invariant.3 in omega (arith, before, fits)

pub invariant_of-self : goal.invariant_of-self
invariant_of-self c =
    let before = c.self.invariant.2 in
    (rest-free [] tt, sym (ap length (ended-free [] tt)), omega (arith, before), c.self.invariant.3)

pub returns-clause-lines : goal.returns-clause-lines
returns-clause-lines c =
    let others = texts_from c.self.inside.logs.logs c.self.inside.number c.self.inside.next in
    let after : LinesLeft = record { left = ended [] ++ others; stretch = []; done = c.self.inside.done + c.self.inside.count } in
    subst (λ (lines : LinesLeft). AreNextLines lines.stretch lines after) c.self.view_is
    (all_taken c.self.inside.stretch.now others c.self.inside.count c.self.inside.done c.self.invariant.1)

pub returns-clause-no_overflow : goal.returns-clause-no_overflow
returns-clause-no_overflow c = let before = c.self.invariant.2 in let fits = c.self.invariant.3 in omega (arith, before, fits)
