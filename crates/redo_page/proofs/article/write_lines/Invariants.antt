use Rattle.std.proofs.Common.{length}
use Rattle.redo_html.specs.Style.{plain_style}
use Rattle.redo_outline.specs.Facts.{entries_at, texts_of}
use Rattle.redo_page.specs.Article.{output_line_parts}
use Rattle.redo_page.proofs.PartLoops.{LinesLeft}
use Rattle.redo_page.proofs.article.write_lines.Given as goal

abbrev pub invariant-lines : goal.invariant-lines
invariant-lines g l = LinesLeft g.W.Sink.written l.initial.page l.page
    (output_line_parts plain_style (texts_of (entries_at l.number l.table))) l.style l.printed.left

abbrev pub decreases-lines : goal.decreases-lines
decreases-lines g l = length l.printed.left
