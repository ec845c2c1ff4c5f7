use Rattle.std.proofs.Common.{◌≡◌, ℕ, List, [], ◌++◌, Err, take, drop, sym, ◌∙◌, ap, subst, arith}
use Rattle.std.specs.List.{flat_map}
use Rattle.std.proofs.lemmas.List.{take_rest, length-drop, drop-drop, drop_all}
use Rattle.redo_device.specs.Sink.{Writes, append_output}
use Rattle.redo_html.specs.Parts.{part_html}
use Rattle.redo_line.specs.Lines.{ended, rest}
use Rattle.redo_line.proofs.LineLemmas.{ended-free}
use Rattle.redo_page.specs.declared.block.Pending.{Pending}
use Rattle.redo_page.specs.Private.Texts.{BeginsChunk, WroteUpTo, after_lines, lines_parts}
use Rattle.redo_page.proofs.TextLemmas.{after_then, html_then}
use Rattle.redo_page.proofs.UpTo.{failed_part, wrote_all, wrote_more}
use Rattle.redo_page.proofs.texts.write_lines.Goals as goal

pub returns-in_err-write_chunk-clause-written : goal.returns-in_err-write_chunk-clause-written
returns-in_err-write_chunk-clause-written g c =
    let lines = c.args.lines.now in
    let left = drop c.chunks.done lines in
    let chunk = c.next_chunk-chunk.result in
    let before = g.W.Sink.written c.args.out.now in
    let middle = g.W.Sink.written c.chunks.out in
    let after = g.W.Sink.written c.write_chunk.new.out in
    let text = flat_map part_html (lines_parts c.args.pending.now (ended lines)) in
    let begins : BeginsChunk c.chunks.pending left chunk =
    subst (λ (l : List ℕ). BeginsChunk c.chunks.pending l chunk) (take_rest lines c.chunks.done) c.next_chunk-chunk.ensures in
    let front = ended (take chunk.len left) in
    let part = flat_map part_html (lines_parts c.chunks.pending front) in
    let others = flat_map part_html (lines_parts (after_lines c.chunks.pending front) (ended (drop chunk.len left))) in
    let so_far : WroteUpTo before middle text (part ++ others) =
    subst (WroteUpTo before middle text) (sym (html_then c.chunks.pending left chunk.len begins.are.complete)) c.chunks.invariant.wrote in
    let wrote : Writes middle after part (Err c.in_err-write_chunk.field-0.0) =
    subst (λ (l : List ℕ). Writes middle after (flat_map part_html (lines_parts c.chunks.pending (ended (take chunk.len l))))
    (Err c.in_err-write_chunk.field-0.0)) (take_rest lines c.chunks.done) c.in_err-write_chunk.ensures.written in
    failed_part before middle after text part others c.in_err-write_chunk.field-0.0 c.from_residual.result c.from_residual.ensures.0
    so_far wrote

pub chunks-preserved : goal.chunks-preserved
chunks-preserved g c =
    let lines = c.args.lines.now in
    let done = c.chunks.done in
    let left = drop done lines in
    let chunk = c.next_chunk-chunk.result in
    let before = g.W.Sink.written c.args.out.now in
    let middle = g.W.Sink.written c.chunks.out in
    let after = g.W.Sink.written c.write_chunk.new.out in
    let text = flat_map part_html (lines_parts c.args.pending.now (ended lines)) in
    let begins : BeginsChunk c.chunks.pending left chunk =
    subst (λ (l : List ℕ). BeginsChunk c.chunks.pending l chunk) (take_rest lines done) c.next_chunk-chunk.ensures in
    let next = after_lines c.chunks.pending (ended (take chunk.len left)) in
    let part = flat_map part_html (lines_parts c.chunks.pending (ended (take chunk.len left))) in
    let others = flat_map part_html (lines_parts next (ended (drop chunk.len left))) in
    let so_far : WroteUpTo before middle text (part ++ others) =
    subst (WroteUpTo before middle text) (sym (html_then c.chunks.pending left chunk.len begins.are.complete)) c.chunks.invariant.wrote in
    let wrote : after ≡ append_output middle part 0 =
    subst (λ (l : List ℕ). after ≡ append_output middle (flat_map part_html (lines_parts c.chunks.pending (ended (take chunk.len l)))) 0)
    (take_rest lines done) c.in_ok-write_chunk.ensures.written in
    let state : c.write_chunk.new.pending ≡ next =
    subst (λ (l : List ℕ). c.write_chunk.new.pending ≡ after_lines c.chunks.pending (ended (take chunk.len l)))
    (take_rest lines done) c.in_ok-write_chunk.ensures.state in
    let behind = drop-drop chunk.len done lines in
    let within = begins.within in
    let size = length-drop done lines in
    record {
      within = omega arith;
      complete = ap rest (sym behind) ∙ begins.complete;
      wrote = subst (λ (l : List ℕ). WroteUpTo before after text
          (flat_map part_html (lines_parts c.write_chunk.new.pending (ended l)))) behind
          (subst (λ (p : Pending). WroteUpTo before after text (flat_map part_html (lines_parts p (ended (drop chunk.len left)))))
          (sym state)
          (wrote_more before middle after text part others so_far wrote));
      state = ap (λ (l : List ℕ). after_lines c.write_chunk.new.pending (ended l)) (sym behind)
          ∙ ap (λ (p : Pending). after_lines p (ended (drop chunk.len left))) state
          ∙ after_then c.chunks.pending left chunk.len begins.are.complete ∙ c.chunks.invariant.state;
    }

pub returns-clause-written : goal.returns-clause-written
returns-clause-written g c =
    let before = g.W.Sink.written c.args.out.now in
    let after = g.W.Sink.written c.chunks.out in
    let text = flat_map part_html (lines_parts c.args.pending.now (ended c.args.lines.now)) in
    wrote_all before after text (subst (λ (ls : List (List ℕ)).
    WroteUpTo before after text (flat_map part_html (lines_parts c.chunks.pending ls)))
    (ap ended (drop_all c.chunks.done c.args.lines.now c.chunks-test.false) ∙ ended-free [] tt) c.chunks.invariant.wrote)

pub returns-clause-state : goal.returns-clause-state
returns-clause-state g c =
    sym (ap (after_lines c.chunks.pending) (ap ended (drop_all c.chunks.done c.args.lines.now c.chunks-test.false) ∙ ended-free [] tt))
    ∙ c.chunks.invariant.state
