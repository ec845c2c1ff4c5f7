use Rattle.std.proofs.Common.{ℕ, List, Bor, map, ap, ◌∙◌, subst}
use Rattle.redo_line.specs.Lines.{with_line_feed}
use Rattle.redo_view.specs.Form.{FormWrites}
use Rattle.redo_json.specs.Build.{object_text, request_of}
use Rattle.redo_json.specs.Object.{LogValues}
use Rattle.redo_json.proofs.BuildLemmas.{no_memory, values_path}
use Rattle.redo_json.proofs.build.write_log.Goals as goal

abbrev names_in : List (Bor (List ℕ)) → List (List ℕ)
names_in names = map (λ (name : Bor (List ℕ)). name.now) names

pub returns-in_err-commands : goal.returns-in_err-commands
returns-in_err-commands g c = no_memory _ _ _ c.from_residual.ensures.1

pub returns-in_err-needs : goal.returns-in_err-needs
returns-in_err-needs g c = no_memory _ _ _ c.from_residual-in_err-needs.ensures.1

pub returns-in_err-changes : goal.returns-in_err-changes
returns-in_err-changes g c = no_memory _ _ _ c.from_residual-in_err-changes.ensures.1

pub returns : goal.returns
returns g c =
    subst (λ (values : LogValues). FormWrites (g.W.Sink.written c.args.out.now) (g.W.Sink.written c.write_object.new.out)
    (with_line_feed (object_text values)) c.write_object.result)
    (values_path (request_of c.args.request.now) c.args.table.now c.args.nodes.now c.args.node.now _ _ _ _ _ _ _
    c.target_at.ensures c.parent_of.ensures c.times_at-times.ensures c.recipe_at-recipe.ensures (ap names_in
    c.as_slice-command_texts.ensures.value ∙ c.in_ok-commands.ensures)
    (ap names_in c.as_slice-names.ensures.value ∙ c.in_ok-needs.ensures) (c.as_ref.ensures.value ∙ c.in_ok-changes.ensures))
    c.write_object.ensures
