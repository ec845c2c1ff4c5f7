use Rattle.std.proofs.Common.{◌∙◌, Bool, sym, ap}
use Rattle.json.specs.Json.{boolean}
use Rattle.json.specs.Print.{print}
use Rattle.json.specs.Tree.{json_tokens}
use Rattle.redo_json.proofs.ChangeLemmas.{false_text, true_text}
use Rattle.redo_json.proofs.changes.boolean.Goals as goal

pub returns-then-value : goal.returns-then-value
returns-then-value c = true_text ∙ ap (λ (value : Bool). print (json_tokens (boolean value))) (sym c.if-value.true)

pub returns-else-value : goal.returns-else-value
returns-else-value c = false_text ∙ ap (λ (value : Bool). print (json_tokens (boolean value))) (sym c.if-value.false)
