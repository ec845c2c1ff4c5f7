use Rattle.std.proofs.Common.{ℕ, Option, sym, ap, ◌∙◌}
use Rattle.json.specs.Print.{print}
use Rattle.json.specs.Tree.{json_tokens}
use Rattle.redo_json.specs.Fields.{number_value}
use Rattle.redo_json.proofs.DiagnosticLemmas.{column_is, no_column}
use Rattle.redo_json.proofs.WritingLemmas.{writes_as}
use Rattle.redo_json.proofs.diagnostics.write_column.Goals as goal

pub returns-in-None : goal.returns-in-None
returns-in-None g c =
    writes_as _ _ _ (print (json_tokens (number_value c.args.column))) _
    (no_column ∙ ap (λ (column : Option ℕ). print (json_tokens (number_value column))) (sym c.in-None.is)) c.push_all.ensures

pub returns-in-Some : goal.returns-in-Some
returns-in-Some g c =
    writes_as _ _ _ (print (json_tokens (number_value c.args.column))) _
    (column_is c.in-Some.column ∙ ap (λ (column : Option ℕ). print (json_tokens (number_value column))) (sym c.in-Some.is))
    c.write_parts.ensures
