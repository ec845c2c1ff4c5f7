use Rattle.std.proofs.Common.{List, sym, ap, ◌∙◌}
use Rattle.redo_device.specs.Sink.{append_output}
use Rattle.redo_device.proofs.WritesLemmas.{append_nothing}
use Rattle.redo_json.specs.Fields.{Field, exact_fields, exact_name}
use Rattle.redo_json.specs.Text.{exact_of}
use Rattle.redo_json.specs.Private.Parts.{comma_fields}
use Rattle.redo_json.proofs.PartLemmas.{exact_member, no_exact}
use Rattle.redo_json.proofs.WritingLemmas.{writes_as}
use Rattle.redo_json.proofs.field.write_exact.Goals as goal

pub returns-then-is_text : goal.returns-then-is_text
returns-then-is_text g c =
    let before = g.W.Sink.written c.args.out.now in
    let none = no_exact (exact_name c.args.name.now) c.args.bytes.now (sym c.is_text.ensures ∙ c.if-is_text.true) in
    append_nothing before ∙ ap (λ (fields : List Field). append_output before (comma_fields fields) 0) (sym none)

pub returns : goal.returns
returns g c =
    let name = c.args.name.now in
    let bytes = c.args.bytes.now in
    writes_as _ _ _ (comma_fields (exact_fields (exact_name name) (exact_of bytes))) _
    (exact_member name bytes (sym c.is_text.ensures ∙ c.if-is_text.false)) c.write_parts.ensures
