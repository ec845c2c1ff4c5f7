use Rattle.std.proofs.Common.{◌++◌, Ok, Err}
use Rattle.std.proofs.lemmas.Result.{err_from_is_err_and}
use Rattle.redo_view.specs.declared.form.FormFault.TheVariants.{Write}
use Rattle.redo_page.specs.Frame.{footer_parts}
use Rattle.redo_page.specs.Page.{top_parts}
use Rattle.redo_page.specs.Private.Streaming.{streamed_body}
use Rattle.redo_page.specs.Private.Viewing.{view_of}
use Rattle.redo_page.proofs.PageLemmas.{next_stage, stage_fails}
use Rattle.redo_page.proofs.page.write_stages.Goals as goal

pub returns-in_err-write_top : goal.returns-in_err-write_top
returns-in_err-write_top g c =
    let view = view_of c.args.scope.now in
    let body = streamed_body view c.args.options.now c.args.scope.now.request.now.max_bytes c.args.requested.now in
    let given = err_from_is_err_and c.from_residual.result c.from_residual.ensures.1 in
    rw (given.1, given.2) (stage_fails _ _ (top_parts view) (body ++ footer_parts view) Write c.in_err-write_top.ensures)

pub returns-in_err-write_body : goal.returns-in_err-write_body
returns-in_err-write_body g c =
    let view = view_of c.args.scope.now in
    let body = streamed_body view c.args.options.now c.args.scope.now.request.now.max_bytes c.args.requested.now in
    let given = err_from_is_err_and c.from_residual-in_err-write_body.result c.from_residual-in_err-write_body.ensures.1 in
    let fault = c.in_err-write_body.field-0.0 in
    rw (given.1, given.2) (next_stage _ _ _ (top_parts view) (body ++ footer_parts view) (Err fault) c.in_ok-write_top.ensures
    (stage_fails _ _ body (footer_parts view) fault c.in_err-write_body.ensures))

pub returns-in_err-write_template : goal.returns-in_err-write_template
unfolding footer_parts
returns-in_err-write_template g c =
    let view = view_of c.args.scope.now in
    let body = streamed_body view c.args.options.now c.args.scope.now.request.now.max_bytes c.args.requested.now in
    let given = err_from_is_err_and c.from_residual-in_err-write_template.result c.from_residual-in_err-write_template.ensures.1 in
    rw (given.1, given.2) (next_stage _ _ _ (top_parts view) (body ++ footer_parts view) (Err Write) c.in_ok-write_top.ensures
    (next_stage _ _ _ body (footer_parts view) (Err Write) c.in_ok-write_body.ensures c.in_err-write_template.ensures))

pub returns : goal.returns
unfolding footer_parts
returns g c =
    let view = view_of c.args.scope.now in
    let body = streamed_body view c.args.options.now c.args.scope.now.request.now.max_bytes c.args.requested.now in
    next_stage _ _ _ (top_parts view) (body ++ footer_parts view) (Ok tt) c.in_ok-write_top.ensures
    (next_stage _ _ _ body (footer_parts view) (Ok tt) c.in_ok-write_body.ensures c.in_ok-write_template.ensures)
