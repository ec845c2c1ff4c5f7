use Rattle.std.proofs.Common.{◌+◌, sym, ap, ◌∙◌, arith}
use Rattle.redo_outline.specs.Facts.{entries_at, texts_of}
use Rattle.redo_page.specs.Excerpt.{excerpt_parts, is_kept}
use Rattle.redo_page.specs.declared.excerpt.OpenStretch.TheVariants.{Nothing}
use Rattle.redo_page.specs.Private.Excerpting.{open_count, parts_from, step_parts}
use Rattle.redo_page.proofs.ExcerptLemmas.{line_by_line, next_line, open_next}
use Rattle.redo_page.proofs.PartLoops.{upto_next, upto_start}
use Rattle.redo_page.proofs.excerpt.write_excerpt.Goals as goal

pub lines-init : goal.lines-init
lines-init g c =
    let position = c.args.position in
    let lines = texts_of (entries_at c.args.number c.args.table.now) in
    let count = c.of-extent.result.count in
    let error = c.of-extent.result.error in
    record {
      counted = sym c.new-printed.ensures.done;
      small = omega arith;
      wrote = upto_start g.W.Sink.written c.args.page.now (excerpt_parts position lines)
          (parts_from position (is_kept count error) Nothing 0 c.new-printed.result.left)
          (line_by_line position lines count error c.of-extent.ensures.count c.of-extent.ensures.error
          ∙ ap (parts_from position (is_kept count error) Nothing 0) (sym c.new-printed.ensures.left));
    }

pub lines-preserved : goal.lines-preserved
lines-preserved g c =
    let position = c.args.position in
    let lines = texts_of (entries_at c.args.number c.args.table.now) in
    let kept = is_kept c.of-extent.result.count c.of-extent.result.error in
    let at = c.lines.at in
    let line = c.in-Some.line.now in
    let left = c.next_line.new.self.left in
    let shown = c.shows-shown.result in
    let next = c.after-current.result in
    let small = open_next c.lines.current shown at c.lines.invariant.small in
    let next_is = ap open_count c.after-current.ensures in
    let done = c.in-Some.ensures.done in
    let counted = c.lines.invariant.counted in
    record {
      counted = omega (arith, done, counted);
      small = omega (arith, small, next_is);
      wrote = upto_next g.W.Sink.written c.args.page.now c.lines.page c.write_step.new.page (excerpt_parts position lines)
          (parts_from position kept c.lines.current at c.lines.printed.left)
          (step_parts position c.lines.current shown line)
          (parts_from position kept next (at + 1) left) c.lines.invariant.wrote c.write_step.ensures
          (next_line position kept c.lines.current next at shown c.lines.printed.left line left c.in-Some.ensures.line c.shows-shown.ensures
          c.after-current.ensures);
    }
