use Rattle.std.proofs.Common.{ℕ, List, ◌∙◌, subst}
use Rattle.redo_view.specs.Form.{FormWrites}
use Rattle.redo_json.specs.Build.{request_of}
use Rattle.redo_json.proofs.BuildLemmas.{build_text, no_memory}
use Rattle.redo_json.proofs.build.write_build.Goals as goal

pub returns-in_err-outline : goal.returns-in_err-outline
returns-in_err-outline g c = no_memory _ _ _ c.from_residual.ensures.1

pub returns : goal.returns
returns g c =
    subst (λ (text : List ℕ). FormWrites (g.W.Sink.written c.args.out.now) (g.W.Sink.written c.write_logs.new.out) text c.write_logs.result)
    (build_text (request_of c.args.request.now) c.args.table.now c.args.requested.now _ _ c.json_options.ensures
    (c.nodes.ensures ∙ c.in_ok-outline.ensures)) c.write_logs.ensures
