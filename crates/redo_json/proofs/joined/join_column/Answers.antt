use Rattle.std.proofs.Common.{ℕ, Option, sym, ap, ◌∙◌}
use Rattle.std.proofs.lemmas.List.{append-nil}
use Rattle.json.specs.Print.{print}
use Rattle.json.specs.Tree.{json_tokens}
use Rattle.redo_json.specs.Fields.{number_value}
use Rattle.redo_json.proofs.DiagnosticLemmas.{column_is, no_column}
use Rattle.redo_json.proofs.JoinLemmas.{appended_as}
use Rattle.redo_json.proofs.joined.join_column.Goals as goal

pub returns-in-None : goal.returns-in-None
returns-in-None c =
    appended_as _ _ _ _ _
    (no_column ∙ ap (λ (column : Option ℕ). print (json_tokens (number_value column))) (sym c.in-None.is)) c.join_bytes.ensures

pub returns-in-Some : goal.returns-in-Some
returns-in-Some c =
    appended_as _ _ _ _ _
    (sym (append-nil _) ∙ column_is c.in-Some.column
    ∙ ap (λ (column : Option ℕ). print (json_tokens (number_value column))) (sym c.in-Some.is)) c.join_number.ensures
