use Rattle.std.proofs.Common.{◌++◌, [], Err, ap, subst, ◌∙◌}
use Rattle.std.specs.List.{flat_map}
use Rattle.std.proofs.lemmas.Result.{err_from_is_err_and}
use Rattle.redo_html.specs.Parts.{part_html}
use Rattle.redo_view.specs.Expansion.{shown_events}
use Rattle.redo_view.specs.Form.{FormWrites, bytes_of, state_after}
use Rattle.redo_view.specs.Written.{WroteAll}
use Rattle.redo_trim.specs.Trim.{trimmed}
use Rattle.redo_page.specs.Tree.{section_end}
use Rattle.redo_page.specs.Private.Streaming.{end_parts}
use Rattle.redo_page.specs.Private.Referring.{build_value}
use Rattle.redo_page.specs.Private.Walking.{Walk, after_event, start_of, tree_bytes}
use Rattle.redo_page.proofs.FormLemmas.{form_stops, form_then}
use Rattle.redo_page.proofs.tree.write_all.Goals as goal

pub returns-in_err-write_events : goal.returns-in_err-write_events
returns-in_err-write_events g c =
    let given = err_from_is_err_and c.from_residual.result c.from_residual.ensures.1 in
    let before = g.W.Sink.written c.args.out.now in
    let after = g.W.Sink.written c.write_events.new.out in
    let shown = shown_events c.args.build.table.now c.args.build.options.now c.args.requested.now in
    let events = trimmed c.args.limits.now [] shown in
    let start = start_of (build_value c.args.build) in
    let start_is = c.new-trimmed.ensures.form ∙ c.new-form.ensures in
    let events_are = ap (λ limits. trimmed limits [] shown) c.new-trimmed.ensures.limits in
    rw (given.1, given.2) (form_stops before after (bytes_of tree_bytes after_event start events)
    (flat_map part_html (end_parts (state_after after_event start events).before ++ section_end)) c.in_err-write_events.field-0.0
    (subst (λ text. FormWrites before after text (Err c.in_err-write_events.field-0.0))
    (λ i. bytes_of tree_bytes after_event (start_is i) (events_are i)) c.in_err-write_events.ensures.wrote))

pub returns : goal.returns
returns g c =
    let before = g.W.Sink.written c.args.out.now in
    let middle = g.W.Sink.written c.write_events.new.out in
    let after = g.W.Sink.written c.end-2.new.out in
    let shown = shown_events c.args.build.table.now c.args.build.options.now c.args.requested.now in
    let events = trimmed c.args.limits.now [] shown in
    let start = start_of (build_value c.args.build) in
    let start_is = c.new-trimmed.ensures.form ∙ c.new-form.ensures in
    let events_are = ap (λ limits. trimmed limits [] shown) c.new-trimmed.ensures.limits in
    form_then before middle after (bytes_of tree_bytes after_event start events)
    (flat_map part_html (end_parts (state_after after_event start events).before ++ section_end)) c.end-2.result
    (subst (λ text. WroteAll before middle text)
    (λ i. bytes_of tree_bytes after_event (start_is i) (events_are i)) c.in_ok-write_events.ensures.wrote)
    (subst (λ (walk : Walk). FormWrites middle after (flat_map part_html (end_parts walk.before ++ section_end)) c.end-2.result)
    (c.into_form.ensures ∙ c.in_ok-write_events.ensures.state ∙ (λ i. state_after after_event (start_is i) (events_are i))) c.end-2.ensures)
