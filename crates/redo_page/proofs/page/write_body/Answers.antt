use Rattle.std.proofs.Common.{List, subst, sym}
use Rattle.std.specs.List.{flat_map}
use Rattle.std.proofs.lemmas.Result.{err_from_is_err_and}
use Rattle.redo_html.specs.Parts.{part_html}
use Rattle.redo_outline.specs.declared.node.Node.{Node}
use Rattle.redo_view.specs.Form.{FormWrites}
use Rattle.redo_page.specs.Page.{tree_contents}
use Rattle.redo_page.specs.Private.Viewing.{view_of}
use Rattle.redo_page.specs.Timeline.{timeline_parts}
use Rattle.redo_page.specs.Private.Streaming.{streamed_tree}
use Rattle.redo_page.proofs.PageLemmas.{next_stage, stage_fails}
use Rattle.redo_page.proofs.page.write_body.Goals as goal

pub returns-in_err-write_timeline : goal.returns-in_err-write_timeline
returns-in_err-write_timeline g c =
    let view = view_of c.args.scope.now in
    let contents = tree_contents view.logs c.args.options.now c.args.scope.now.request.now.max_bytes c.args.requested.now view.nodes in
    let given = err_from_is_err_and c.from_residual.result c.from_residual.ensures.1 in
    rw (given.1, given.2) (stage_fails _ _ (timeline_parts view) (streamed_tree view.logs c.args.options.now view.nodes contents)
    c.in_err-write_timeline.field-0.0 c.in_err-write_timeline.ensures)

pub returns : goal.returns
returns g c =
    let view = view_of c.args.scope.now in
    let tree = λ (nodes : List Node). streamed_tree view.logs c.args.options.now nodes
    (tree_contents view.logs c.args.options.now c.args.scope.now.request.now.max_bytes c.args.requested.now nodes) in
    next_stage _ _ _ (timeline_parts view) (tree view.nodes) c.write_tree.result c.in_ok-write_timeline.ensures
    (subst (λ (nodes : List Node). FormWrites (g.W.Sink.written c.write_timeline.new.out) (g.W.Sink.written c.write_tree.new.out)
    (flat_map part_html (tree nodes)) c.write_tree.result) (sym c.requires.nodes) c.write_tree.ensures)
