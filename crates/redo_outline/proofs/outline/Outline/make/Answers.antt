use Rattle.std.proofs.Common.{Err, length, arith, sym, ap, ◌∙◌}
use Rattle.std.proofs.lemmas.Option.{none-some}
use Rattle.redo_view.specs.Form.{state_after}
use Rattle.redo_view.specs.Expansion.{shown_events}
use Rattle.redo_outline.specs.Private.Sweeping.{collected_nodes}
use Rattle.redo_outline.proofs.CollectingLemmas.{after, bytes_none}
use Rattle.redo_outline.proofs.OutlineLemmas.{outline_is}
use Rattle.redo_outline.proofs.outline.Outline.make.Goals as goal

pub unreachable-requires : goal.unreachable-requires
unreachable-requires c =
    let position = c.in-Err-Unknown.field-0-0 in
    none-some position (sym c.requires.known
    ∙ (c.view_as.ensures.unknown position).0 (c.in-Err-Unknown.is ∙ ap Err c.in-Err-Unknown.field-0-is))

pub unreachable-requires-in-Err-Write : goal.unreachable-requires-in-Err-Write
unreachable-requires-in-Err-Write c =
    let written = c.view_as.ensures.write (c.in-Err-Write.is ∙ ap Err c.in-Err-Write.field-0-is) in
    let none = ap length (bytes_none (shown_events c.args.table.now c.args.options.now c.args.requested.now) c.in_ok-collector.collector) in
    omega (arith, written.1, none)

pub returns : goal.returns
returns c =
    let events = shown_events c.args.table.now c.args.options.now c.args.requested.now in
    c.in_ok-nodes.ensures ∙ ap (collected_nodes c.args.with_warnings)
    (c.in-Ok.ensures.state ∙ ap (λ collected. state_after after collected events) c.in_ok-collector.ensures)
    ∙ outline_is c.args.table.now events c.args.with_warnings
    (c.events_are_in_contents.ensures c.args.table.now c.args.options.now c.args.requested.now c.requires.known)
