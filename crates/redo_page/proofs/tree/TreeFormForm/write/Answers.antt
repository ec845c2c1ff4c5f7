use Rattle.std.proofs.Common.{subst}
use Rattle.std.specs.List.{flat_map}
use Rattle.redo_device.specs.Sink.{Writes}
use Rattle.std.proofs.lemmas.Result.{err_from_is_err_and}
use Rattle.redo_html.specs.Parts.{part_html}
use Rattle.redo_view.specs.EventRef.{event_value}
use Rattle.redo_page.specs.Private.Walking.{walk_parts}
use Rattle.redo_page.proofs.FormLemmas.{all_is_prefix}
use Rattle.redo_page.proofs.tree.TreeFormForm.write.Goals as goal

pub returns-in_err-done-clause-wrote : goal.returns-in_err-done-clause-wrote
returns-in_err-done-clause-wrote g c =
    let given = err_from_is_err_and c.from_residual-in_err-done.result c.from_residual-in_err-done.ensures.1 in
    let before = g.W.Sink.written c.args.out.now in
    let after = g.W.Sink.written c.write_event-wrote.new.out in
    let text = flat_map part_html (walk_parts c.args.self.now (event_value c.args.event)) in
    rw (given.1, given.2) (all_is_prefix before after text
    (subst (λ done. Writes before after text done) c.in_ok-wrote.was c.write_event-wrote.ensures.wrote))
