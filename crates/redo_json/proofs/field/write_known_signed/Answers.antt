use Rattle.std.proofs.Common.{ℤ, [], ◌∷◌, ◌++◌, ap, ◌∙◌}
use Rattle.std.specs.Fmt.{signed_decimal}
use mir.Syntax.{w32}
use Rattle.std.proofs.lemmas.Int.{to_z-of_z}
use Rattle.json.specs.Json.{number}
use Rattle.json.specs.Print.{escape}
use Rattle.redo_json.specs.Fields.{field}
use Rattle.redo_json.specs.Private.Parts.{comma_field}
use Rattle.redo_json.proofs.PartLemmas.{named_number}
use Rattle.redo_json.proofs.WritingLemmas.{writes_as}
use Rattle.redo_json.proofs.field.write_known_signed.Goals as goal

pub returns : goal.returns
returns g c =
    let name = c.args.name.now in
    writes_as _ _ _ (comma_field (field name (number (signed_decimal c.args.value)))) _
    (ap (λ (value : ℤ). 44 ∷ 34 ∷ (escape name ++ (34 ∷ 58 ∷ (signed_decimal value ++ [])))) (to_z-of_z w32 c.args.value c.ranges.value)
    ∙ named_number name (signed_decimal c.args.value)) c.write_parts.ensures
