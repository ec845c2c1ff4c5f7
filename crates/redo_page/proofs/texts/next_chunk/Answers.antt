use Rattle.std.proofs.Common.{ℕ, List, drop, inr, ◌∙◌, ap, subst, arith}
use Rattle.std.proofs.lemmas.List.{take_rest}
use Rattle.redo_line.specs.Lines.{rest}
use Rattle.redo_page.specs.declared.block.Block.{Block}
use Rattle.redo_page.specs.Private.Texts.{GoInto, IsFirstLine}
use Rattle.redo_page.proofs.TextLemmas.{begins, complete_after, more_first}
use Rattle.redo_page.proofs.texts.next_chunk.Goals as goal

pub first_line-size-requires-clause-complete : goal.first_line-size-requires-clause-complete
first_line-size-requires-clause-complete c =
    ap rest (take_rest c.args.lines.now c.lines.len)
    ∙ complete_after c.args.lines.now c.lines.len c.lines.invariant.0.complete c.requires.complete

pub lines-preserved : goal.lines-preserved
lines-preserved c =
    let lines = c.args.lines.now in
    let next : IsFirstLine (drop c.lines.len lines) c.first_line-size.result =
    subst (λ (l : List ℕ). IsFirstLine l c.first_line-size.result) (take_rest lines c.lines.len) c.first_line-size.ensures in
    let size = next.size_is in (
      more_first lines c.first_line-first.result c.lines.len c.lines.count c.first_line-size.result c.lines.invariant.0 next,
      inr (omega (arith, size), omega (arith, size)),
    )

pub returns-else-count-saturating_sub : goal.returns-else-count-saturating_sub
returns-else-count-saturating_sub c =
    begins c.args.pending c.args.lines.now c.first_line-first.result c.lines.len c.lines.count c.requires.complete c.lines.invariant.0
    (subst (λ (b : Block). GoInto b c.lines.len c.lines.count) c.block_for-block.ensures c.lines.invariant.1)

pub returns-after-lines : goal.returns-after-lines
returns-after-lines c =
    begins c.args.pending c.args.lines.now c.first_line-first.result c.lines.len c.lines.count c.requires.complete c.lines.invariant.0
    (subst (λ (b : Block). GoInto b c.lines.len c.lines.count) c.block_for-block.ensures c.lines.invariant.1)

pub returns-then-size-saturating_sub : goal.returns-then-size-saturating_sub
returns-then-size-saturating_sub c =
    begins c.args.pending c.args.lines.now c.first_line-first.result c.lines.len c.lines.count c.requires.complete c.lines.invariant.0
    (subst (λ (b : Block). GoInto b c.lines.len c.lines.count) c.block_for-block.ensures c.lines.invariant.1)
