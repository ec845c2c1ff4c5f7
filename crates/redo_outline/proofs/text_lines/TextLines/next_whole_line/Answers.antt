use Rattle.std.proofs.Common.{◌++◌, ℕ, List, length, sym, ap, ◌∙◌, arith}
use Rattle.redo_outline.specs.Private.TextLines.{texts_from}
use Rattle.redo_outline.specs.TextLines.{LinesLeft}
use Rattle.redo_outline.proofs.FirstLines.{first_line, first_whole, rest_after}
use Rattle.redo_outline.proofs.TextLineLemmas.{no_line}
use Rattle.redo_outline.proofs.text_lines.TextLines.next_whole_line.Goals as goal

pub returns-in_default-clause-line : goal.returns-in_default-clause-line
returns-in_default-clause-line c =
    let refilled = c.refill-count.ensures.lines in
    sym (ap (λ (lines : LinesLeft). lines.left) c.self.view_is)
    ∙ refilled.none (no_line c.refill-count.result.0.now refilled.complete c.in_default.ensures)

pub overflow_sub-self : goal.overflow_sub-self
overflow_sub-self c =
    let size = ap length (first_line c.refill-count.result.0.now c.in-Some.end c.in-Some.ensures) in
    let count = c.refill-count.ensures.count in
    omega (arith, size, count)

pub overflow_add-self-2 : goal.overflow_add-self-2
overflow_add-self-2 c =
    let size = ap length (first_line c.refill-count.result.0.now c.in-Some.end c.in-Some.ensures) in
    let after = c.refill-count.ensures.lines.count in
    let count = c.self.invariant.1 in
    let before = c.self.invariant.2 in
    omega (arith, size, after, count, before, c.refill-count.type_inv)

pub invariant_of-self : goal.invariant_of-self
invariant_of-self c =
    let size = ap length (first_line c.refill-count.result.0.now c.in-Some.end c.in-Some.ensures) in
    let after = c.refill-count.ensures.lines.count in
    let refilled = c.refill-count.ensures.count in
    let count = c.self.invariant.1 in
    let before = c.self.invariant.2 in (
      sym (rest_after c.refill-count.result.0.now c.in-Some.end c.in-Some.ensures)
          ∙ c.refill-count.ensures.lines.complete,
      omega (arith, size, refilled),
      omega (arith, size, refilled, after, count, before),
      omega (arith, c.refill-count.type_inv),
    )

pub returns-clause-line : goal.returns-clause-line
returns-clause-line c = (
  first_whole c.refill-count.result.0.now c.in-Some.end c.in-Some.ensures,
  sym (ap (λ (lines : LinesLeft). lines.left) c.self.view_is) ∙ c.refill-count.ensures.lines.left
      ∙ ap (λ (lines : List (List ℕ)). lines ++ texts_from c.self.inside.logs.logs c.self.inside.number c.refill-count.result.2)
      (first_line c.refill-count.result.0.now c.in-Some.end c.in-Some.ensures),
)

pub returns-clause-no_overflow : goal.returns-clause-no_overflow
returns-clause-no_overflow c =
    let size = ap length (first_line c.refill-count.result.0.now c.in-Some.end c.in-Some.ensures) in
    let after = c.refill-count.ensures.lines.count in
    let count = c.self.invariant.1 in
    let before = c.self.invariant.2 in
    omega (arith, size, after, count, before, c.refill-count.type_inv)
