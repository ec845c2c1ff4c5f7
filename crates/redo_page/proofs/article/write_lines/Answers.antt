use Rattle.std.proofs.Common.{ℕ, List, ◌++◌, length, sym, ap, ◌∙◌, arith}
use Rattle.redo_html.specs.Style.{plain_style}
use Rattle.redo_line.specs.Lines.{ended}
use Rattle.redo_outline.specs.Facts.{entries_at, texts_of}
use Rattle.redo_page.specs.Article.{output_line_parts}
use Rattle.redo_outline.proofs.FirstLines.{whole_ended}
use Rattle.redo_page.proofs.PartLoops.{lines_end, lines_next, lines_start}
use Rattle.redo_page.proofs.article.write_lines.Goals as goal

pub lines-init : goal.lines-init
lines-init g c = lines_start g.W.Sink.written c.args.page.now plain_style
    (texts_of (entries_at c.args.number c.args.table.now)) c.new-printed.result.left c.new-printed.ensures.left

pub lines-smaller : goal.lines-smaller
lines-smaller g c = let size = ap length c.in-Some.ensures.line.1 in omega (arith, size)

pub lines-preserved : goal.lines-preserved
lines-preserved g c =
    let whole = c.in-Some.whole.now in
    let left = c.next_whole_line.new.self.left in
    lines_next g.W.Sink.written c.args.page.now c.lines.page c.write_output_line.new.page
    (output_line_parts plain_style (texts_of (entries_at c.args.number c.args.table.now))) c.lines.style c.write_output_line.new.style
    c.lines.printed.left (ended whole) left c.lines.invariant
    (c.in-Some.ensures.line.1 ∙ ap (λ (lines : List (List ℕ)). lines ++ left) (sym (whole_ended whole c.in-Some.ensures.line.0)))
    c.write_output_line.ensures.written c.write_output_line.ensures.style

pub returns : goal.returns
returns g c =
    lines_end g.W.Sink.written c.args.page.now c.lines.page
    (output_line_parts plain_style (texts_of (entries_at c.args.number c.args.table.now))) c.lines.style c.lines.printed.left
    c.lines.invariant c.in_default.ensures.line
