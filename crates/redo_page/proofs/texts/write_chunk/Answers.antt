use Rattle.std.proofs.Common.{◌+◌, [], ◌++◌, length, sym, ◌∙◌, ap, subst}
use Rattle.std.specs.List.{flat_map}
use Rattle.std.proofs.lemmas.List.{append-nil}
use Rattle.redo_html.specs.declared.style.Style.{Style}
use Rattle.redo_html.specs.Lines.{lines_html, style_after_lines}
use Rattle.redo_html.specs.Parts.{part_html}
use Rattle.redo_line.specs.Lines.{ended}
use Rattle.redo_page.specs.declared.block.Block.{Block}
use Rattle.redo_page.specs.declared.block.Pending.TheVariants as pending
use Rattle.redo_page.specs.Private.Streaming.{line_start}
use Rattle.redo_page.specs.Private.Texts.{WroteUpTo, lines_parts}
use Rattle.redo_page.proofs.TextLemmas.{after_chunk, chunk_html}
use Rattle.redo_page.proofs.UpTo.{failed_part, wrote_all, wrote_more, wrote_none}
use Rattle.redo_page.proofs.texts.write_chunk.Goals as goal

pub returns-in_err-write_log_lines-clause-written : goal.returns-in_err-write_log_lines-clause-written
returns-in_err-write_log_lines-clause-written g c =
    let before = g.W.Sink.written c.args.out.now in
    let middle = g.W.Sink.written c.write_line_start.new.out in
    let after = g.W.Sink.written c.write_log_lines.new.out in
    let lines = ended c.args.lines.now in
    let text = flat_map part_html (lines_parts c.args.pending.now lines) in
    let start = flat_map part_html (line_start c.args.pending.now c.args.first) in
    let html = lines_html c.block_for-block.result.style lines in
    let whole = ap (λ (b : Block). start ++ lines_html b.style lines) c.block_for-block.ensures
    ∙ chunk_html c.args.pending.now c.args.first c.args.lines.now c.args.count c.requires in
    let begun : WroteUpTo before before text (start ++ html) = subst (WroteUpTo before before text) (sym whole) (wrote_none before text) in
    let so_far : WroteUpTo before middle text (html ++ []) =
    subst (WroteUpTo before middle text) (sym (append-nil html))
    (wrote_more before before middle text start html begun c.in_ok-write_line_start.ensures) in
    failed_part before middle after text html [] c.in_err-write_log_lines.field-0.0 c.from_residual-in_err-write_log_lines.result
    c.from_residual-in_err-write_log_lines.ensures.0 so_far c.in_err-write_log_lines.ensures.written

pub returns-clause-written : goal.returns-clause-written
returns-clause-written g c =
    let before = g.W.Sink.written c.args.out.now in
    let middle = g.W.Sink.written c.write_line_start.new.out in
    let after = g.W.Sink.written c.write_log_lines.new.out in
    let lines = ended c.args.lines.now in
    let text = flat_map part_html (lines_parts c.args.pending.now lines) in
    let start = flat_map part_html (line_start c.args.pending.now c.args.first) in
    let html = lines_html c.block_for-block.result.style lines in
    let whole = ap (λ (b : Block). start ++ lines_html b.style lines) c.block_for-block.ensures
    ∙ chunk_html c.args.pending.now c.args.first c.args.lines.now c.args.count c.requires in
    let begun : WroteUpTo before before text (start ++ html) = subst (WroteUpTo before before text) (sym whole) (wrote_none before text) in
    let so_far : WroteUpTo before middle text (html ++ []) =
    subst (WroteUpTo before middle text) (sym (append-nil html))
    (wrote_more before before middle text start html begun c.in_ok-write_line_start.ensures) in
    wrote_all before after text (wrote_more before middle after text html [] so_far c.in_ok-write_log_lines.ensures.written)

pub returns-clause-state : goal.returns-clause-state
returns-clause-state g c =
    let block = c.block_for-block.result in
    let lines = c.args.lines.now in
    ap (λ (s : Style). pending.Text (record { lines = block.lines + c.args.count; bytes = block.bytes + length lines; style = s }))
    c.in_ok-write_log_lines.ensures.style
    ∙ ap (λ (b : Block). pending.Text (record
    { lines = b.lines + c.args.count; bytes = b.bytes + length lines; style = style_after_lines b.style (ended lines) }))
    c.block_for-block.ensures
    ∙ sym (after_chunk c.args.pending.now c.args.first lines c.args.count c.requires)
