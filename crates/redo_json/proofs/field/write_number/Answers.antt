use Rattle.std.proofs.Common.{ℕ, Option, sym, ap, ◌∙◌}
use Rattle.std.specs.Prelude.{decimal}
use Rattle.redo_json.specs.Fields.{field, number_value}
use Rattle.redo_json.specs.Private.Parts.{comma_field}
use Rattle.redo_json.proofs.PartLemmas.{named_number}
use Rattle.redo_json.proofs.WritingLemmas.{writes_as}
use Rattle.redo_json.proofs.field.write_number.Goals as goal

pub returns : goal.returns
returns g c =
    let text = decimal c.in-Some.value in
    writes_as _ _ _ (comma_field (field c.args.name.now (number_value c.args.value))) _
    (named_number c.args.name.now text
    ∙ ap (λ (value : Option ℕ). comma_field (field c.args.name.now (number_value value))) (sym c.in-Some.is))
    c.write_parts.ensures
