use Rattle.std.proofs.Common.{rules, refl, sym, ◌∙◌}
use Rattle.std.proofs.lemmas.Result.{err_from_is_err_and}
use Rattle.redo_view.specs.Private.Viewing.{rendering_of}
use Rattle.redo_view.proofs.Walking.{entry_stopped, goes_deeper, goes_first, goes_further, goes_out, goes_over, gone_through, less_back, less_deeper, less_further, less_over, lines_rest, lines_stopped, log_end_stopped, memory_lacked, same_context, stands_then, stopped_there}
use Rattle.redo_view.proofs.viewer.Viewer.show_log.Goals as goal

pub entries-init : goal.entries-init
entries-init g c =
    let begin = c.begin_log.ensures in record {
      context = same_context refl refl refl refl;
      goes = goes_first g.F.Form.bytes g.F.Form.after c.args.self.now.logs.now c.args.self.now.options c.args.number
          c.args.self.now.visited.now _ _ _ c.requires.log_in_range c.requires.unopened c.requires.fits begin.fits begin.opened begin.begins
          c.new-outer.ensures.items;
    }

pub show_lines-requires-clause-complete : goal.show_lines-requires-clause-complete
show_lines-requires-clause-complete g c = lines_rest _ _ _ _ _ c.lines-count.ensures.lines

pub returns-in_err-show_lines : goal.returns-in_err-show_lines
returns-in_err-show_lines g c =
    let given = err_from_is_err_and c.from_residual.result c.from_residual.ensures.1 in
    let stopped = c.in_err-show_lines.ensures in
    rw (given.1, given.2) (stopped_there c.entries.invariant stopped.context
    (lines_stopped c.entries.invariant.goes c.lines-count.result.0.now c.lines-count.result.1 c.lines-count.ensures.lines c.len-depth.result
    (rendering_of g.W.Sink.written c.show_lines.new.self) c.show_lines.new.self.visited.now c.in_err-show_lines.field-0.0
    (search rules) stopped.lines))

pub entries-smaller-then-count-gt0 : goal.entries-smaller-then-count-gt0
entries-smaller-then-count-gt0 g c =
    let shown = c.in_ok-show_lines.ensures in
    rw (shown.context.logs, shown.visited)
    (less_over c.entries.invariant.goes c.lines-count.result.0.now c.lines-count.result.1 c.lines-count.ensures.lines c.if-count-gt0.true)

pub entries-preserved-then-count-gt0 : goal.entries-preserved-then-count-gt0
entries-preserved-then-count-gt0 g c =
    let shown = c.in_ok-show_lines.ensures in
    stands_then c.entries.invariant shown.context
    (rw shown.visited (goes_over c.entries.invariant.goes c.lines-count.result.0.now c.lines-count.result.1 c.lines-count.ensures.lines
    c.len-depth.result (rendering_of g.W.Sink.written c.show_lines.new.self) (search rules) shown.lines))

pub returns-in_err-inner : goal.returns-in_err-inner
returns-in_err-inner g c =
    let given = err_from_is_err_and c.from_residual-in_err-inner.result c.from_residual-in_err-inner.ensures.1 in
    rw (given.1, given.2) (stopped_there c.entries.invariant c.in_err-inner.ensures.context
    (entry_stopped c.entries.invariant.goes c.in-Some.entry (sym c.in-Some.ensures.entry) c.in-Some.ensures.numbered
    c.len-depth.result (rendering_of g.W.Sink.written c.show_entry.new.self) c.show_entry.new.self.visited.now c.in_err-inner.field-0.0
    (search rules) c.in_err-inner.ensures.own_events))

pub returns-in_err-push : goal.returns-in_err-push
returns-in_err-push g c =
    let given = err_from_is_err_and c.from_residual-in_err-push.result c.from_residual-in_err-push.ensures.1 in
    let kept = c.in_ok-inner.ensures.context in
    rw (given.1, given.2) (stopped_there c.entries.invariant (same_context kept.logs kept.options kept.form kept.out)
    (memory_lacked c.entries.invariant.goes c.in-Some.entry (sym c.in-Some.ensures.entry) c.in-Some.ensures.numbered
    c.len-depth.result (rendering_of g.W.Sink.written c.show_entry.new.self) c.begin_log-in-Some-2.new.self
    (search rules) c.in_ok-inner.ensures.own_events))

pub entries-smaller-in-Some-2 : goal.entries-smaller-in-Some-2
entries-smaller-in-Some-2 g c =
    let shown = c.in_ok-inner.ensures in
    rw shown.context.logs (less_deeper c.entries.invariant.goes c.in-Some.entry (sym c.in-Some.ensures.entry) c.in-Some.ensures.numbered
    c.in-Some-2.inner c.show_entry.new.self.visited.now c.begin_log-in-Some-2.new.self c.push.new.self.items
    (sym shown.nested_log ∙ c.in-Some-2.is) shown.opened c.begin_log-in-Some-2.ensures.opened c.in_ok-push.ensures.items)

pub entries-preserved-in-Some-2 : goal.entries-preserved-in-Some-2
entries-preserved-in-Some-2 g c =
    let shown = c.in_ok-inner.ensures in
    let opens = sym shown.nested_log ∙ c.in-Some-2.is in
    let begin = c.begin_log-in-Some-2.ensures in
    let kept = shown.context in
    stands_then c.entries.invariant (same_context kept.logs kept.options kept.form kept.out)
    (goes_deeper c.entries.invariant.goes c.in-Some.entry (sym c.in-Some.ensures.entry) c.in-Some.ensures.numbered
    c.in-Some-2.inner c.len-depth.result _ c.show_entry.new.self.visited.now c.begin_log-in-Some-2.new.self _
    (search rules) opens shown.own_events shown.named shown.opened begin.opened
    (rw (sym kept.logs) begin.fits) (rw (sym kept.logs) begin.begins) c.in_ok-push.ensures.items)

pub entries-smaller-in_default-2 : goal.entries-smaller-in_default-2
entries-smaller-in_default-2 g c =
    let shown = c.in_ok-inner.ensures in
    rw shown.context.logs (less_further c.entries.invariant.goes c.in-Some.entry
    (sym c.in-Some.ensures.entry) c.in-Some.ensures.numbered c.show_entry.new.self.visited.now shown.opened)

pub entries-preserved-in_default-2 : goal.entries-preserved-in_default-2
entries-preserved-in_default-2 g c =
    let shown = c.in_ok-inner.ensures in
    stands_then c.entries.invariant shown.context
    (goes_further c.entries.invariant.goes c.in-Some.entry (sym c.in-Some.ensures.entry) c.in-Some.ensures.numbered
    c.len-depth.result _ _ (search rules) (sym shown.nested_log ∙ c.in_default-2.is) shown.own_events shown.named shown.opened)

pub entries-smaller : goal.entries-smaller
entries-smaller g c =
    let shown = c.in_ok-show_event.ensures in
    rw (shown.context.logs, shown.visited)
    (less_back c.entries.self.logs.now.logs c.entries.self.visited.now.opened.items c.entries.outer.items _ c.entries.frame
    c.in-Some-pop.back c.in-Some-pop.ensures.items)

pub entries-preserved : goal.entries-preserved
entries-preserved g c =
    let shown = c.in_ok-show_event.ensures in
    stands_then c.entries.invariant shown.context
    (rw shown.visited (goes_out c.entries.invariant.goes c.len-depth.result _ _ _ (search rules) shown.event c.in-Some-pop.ensures.items
    (sym c.in_default.ensures.entry)))

pub returns-in_err-show_event : goal.returns-in_err-show_event
returns-in_err-show_event g c =
    let given = err_from_is_err_and c.from_residual-in_err-show_event.result c.from_residual-in_err-show_event.ensures.1 in
    let stopped = c.in_err-show_event.ensures in
    rw (given.1, given.2) (stopped_there c.entries.invariant stopped.context
    (log_end_stopped c.entries.invariant.goes c.len-depth.result
    (rendering_of g.W.Sink.written c.show_event.new.self) c.show_event.new.self.visited.now c.in_err-show_event.field-0.0 (search rules)
    (sym c.in_default.ensures.entry) stopped.event))

pub returns-in-None : goal.returns-in-None
returns-in-None g c =
    let shown = c.in_ok-show_event.ensures in
    stopped_there c.entries.invariant shown.context
    (rw shown.visited (gone_through c.entries.invariant.goes c.len-depth.result _ tt (search rules) shown.event (search rules)
    (sym c.in_default.ensures.entry)))
