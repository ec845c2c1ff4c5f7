use Rattle.std.proofs.Common.{ℕ, List, Option, Bor, sym, ap, ◌∙◌}
use Rattle.std.specs.Option.{option_copied}
use Rattle.std.proofs.lemmas.List.{append-nil}
use Rattle.json.specs.Json.{null}
use Rattle.redo_json.specs.Fields.{field, optional_bytes_fields}
use Rattle.redo_json.specs.Private.Parts.{comma_field, comma_fields}
use Rattle.redo_json.proofs.WritingLemmas.{writes_as}
use Rattle.redo_json.proofs.field.write_optional_bytes.Goals as goal

pub returns-in-None : goal.returns-in-None
returns-in-None g c =
    let name = c.args.name.now in
    writes_as _ _ _ (comma_fields (optional_bytes_fields name (option_copied c.args.bytes))) _
    (sym (append-nil (comma_field (field name null)))
    ∙ ap (λ (bytes : Option (Bor (List ℕ))). comma_fields (optional_bytes_fields name (option_copied bytes))) (sym c.in-None.is))
    c.write_null.ensures
