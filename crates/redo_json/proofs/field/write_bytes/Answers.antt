use Rattle.std.proofs.Common.{Ok, Err, refl, sym, ◌∙◌}
use Rattle.json.specs.Json.{string}
use Rattle.redo_device.proofs.WritesLemmas.{at_first, at_last}
use Rattle.redo_json.specs.Fields.{bytes_fields, exact_fields, exact_name, field}
use Rattle.redo_json.specs.Text.{exact_of, text_of}
use Rattle.redo_json.specs.Private.Parts.{comma_field, comma_fields}
use Rattle.redo_json.proofs.PartLemmas.{named_string, text_member_from}
use Rattle.redo_json.proofs.WritingLemmas.{writes_as}
use Rattle.redo_json.proofs.field.write_bytes.Goals as goal

pub returns-then-is_text : goal.returns-then-is_text
returns-then-is_text g c =
    let name = c.args.name.now in
    let bytes = c.args.bytes.now in
    writes_as _ _ _ (comma_fields (bytes_fields name bytes)) _
    (text_member_from name c.args.start.now bytes c.requires (sym c.is_text.ensures ∙ c.if-is_text.true)) c.write_parts.ensures

pub returns-in_err-write_parts : goal.returns-in_err-write_parts
returns-in_err-write_parts g c =
    let name = c.args.name.now in
    let bytes = c.args.bytes.now in
    at_first _ (comma_fields (bytes_fields name bytes)) _ (comma_field (field name (string (text_of bytes))))
    (comma_fields (exact_fields (exact_name name) (exact_of bytes))) _ _ c.from_residual.ensures.0
    (writes_as _ _ _ _ (Err _) (named_string name (text_of bytes)) c.in_err-write_parts.ensures) refl

pub returns : goal.returns
returns g c =
    let name = c.args.name.now in
    let bytes = c.args.bytes.now in
    at_last _ (comma_fields (bytes_fields name bytes)) _ _ (comma_field (field name (string (text_of bytes))))
    (comma_fields (exact_fields (exact_name name) (exact_of bytes))) _
    (writes_as _ _ _ _ (Ok tt) (named_string name (text_of bytes)) c.in_ok-write_parts.ensures) c.write_exact.ensures refl
