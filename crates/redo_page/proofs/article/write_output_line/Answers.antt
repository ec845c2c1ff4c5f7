use Rattle.std.proofs.Common.{false, true, ap, sym, ◌∙◌}
use Rattle.redo_page.specs.Errors.{is_error}
use Rattle.redo_page.proofs.PartLoops.{wrote_line}
use Rattle.redo_outline.proofs.FirstLines.{whole_rest}
use Rattle.redo_page.proofs.WriterLemmas.{wrote_then}
use Rattle.redo_page.proofs.article.write_output_line.Goals as goal

pub put_lines-requires : goal.put_lines-requires
put_lines-requires g c = record { complete = whole_rest c.args.whole.now c.requires }

pub put_lines-requires-else-is_error : goal.put_lines-requires-else-is_error
put_lines-requires-else-is_error g c = record { complete = whole_rest c.args.whole.now c.requires }

pub returns-then-is_error-clause-written : goal.returns-then-is_error-clause-written
returns-then-is_error-clause-written g c =
    wrote_line g.W.Sink.written c.args.page.now c.put-then-is_error.new.self c.args.style.now c.args.whole.now c.requires true
    (ap is_error (sym (c.without_line_feed.ensures c.requires.line c.requires.bytes_are)) ∙ sym c.is_error.ensures ∙ c.if-is_error.true)
    (wrote_then c.put.ensures (wrote_then c.put_lines.ensures.written c.put-then-is_error.ensures))

pub returns-else-is_error-clause-written : goal.returns-else-is_error-clause-written
returns-else-is_error-clause-written g c =
    wrote_line g.W.Sink.written c.args.page.now c.put_lines-else-is_error.new.self c.args.style.now c.args.whole.now c.requires false
    (ap is_error (sym (c.without_line_feed.ensures c.requires.line c.requires.bytes_are)) ∙ sym c.is_error.ensures ∙ c.if-is_error.false)
    c.put_lines-else-is_error.ensures.written
