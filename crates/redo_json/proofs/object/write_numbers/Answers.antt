use Rattle.std.proofs.Common.{[], ◌++◌, refl, sym}
use Rattle.std.specs.Prelude.{codes}
use Rattle.std.proofs.lemmas.List.{append-nil}
use Rattle.redo_json.specs.Fields.{field, number_value, signed_value}
use Rattle.redo_json.specs.Object.{number_fields}
use Rattle.redo_json.specs.Private.Parts.{comma_field, comma_fields}
use Rattle.redo_json.specs.Private.Values.{values_of}
use Rattle.redo_json.proofs.WritingLemmas.{begin, failed_part, writes_as, wrote_more, wrote_rest}
use Rattle.redo_json.proofs.object.write_numbers.Goals as goal

pub returns-in_err-write_signed : goal.returns-in_err-write_signed
returns-in_err-write_signed g c =
    let values = values_of c.args.log.now in
    let whole = comma_fields (number_fields values) in
    failed_part _ _ _ whole (comma_field (field (codes "status") (signed_value values.status))) _ _ _ c.from_residual.ensures.0
    (begin (g.W.Sink.written c.args.out.now) whole _ refl) c.in_err-write_signed.ensures

pub returns-in_err-write_number : goal.returns-in_err-write_number
returns-in_err-write_number g c =
    let values = values_of c.args.log.now in
    let whole = comma_fields (number_fields values) in
    failed_part _ _ _ whole
    (comma_field (field (codes "start_ms") (number_value values.start_ms))) _ _ _ c.from_residual-in_err-write_number.ensures.0
    (wrote_more _ _ _ _ (comma_field (field (codes "status") (signed_value values.status))) _
    (begin (g.W.Sink.written c.args.out.now) whole _ refl) c.in_ok-write_signed.ensures) c.in_err-write_number.ensures

pub returns-in_err-write_number-2 : goal.returns-in_err-write_number-2
returns-in_err-write_number-2 g c =
    let values = values_of c.args.log.now in
    let whole = comma_fields (number_fields values) in
    failed_part _ _ _ whole
    (comma_field (field (codes "end_ms") (number_value values.end_ms))) _ _ _ c.from_residual-in_err-write_number-2.ensures.0
    (wrote_more _ _ _ _ (comma_field (field (codes "start_ms") (number_value values.start_ms))) _
    (wrote_more _ _ _ _ (comma_field (field (codes "status") (signed_value values.status))) _
    (begin (g.W.Sink.written c.args.out.now) whole _ refl) c.in_ok-write_signed.ensures) c.in_ok-write_number.ensures)
    c.in_err-write_number-2.ensures

pub returns-in_err-write_number-3 : goal.returns-in_err-write_number-3
returns-in_err-write_number-3 g c =
    let values = values_of c.args.log.now in
    let whole = comma_fields (number_fields values) in
    failed_part _ _ _ whole
    (comma_field (field (codes "cpu_ms") (number_value values.cpu_ms))) _ _ _ c.from_residual-in_err-write_number-3.ensures.0
    (wrote_more _ _ _ _ (comma_field (field (codes "end_ms") (number_value values.end_ms))) _
    (wrote_more _ _ _ _ (comma_field (field (codes "start_ms") (number_value values.start_ms))) _
    (wrote_more _ _ _ _ (comma_field (field (codes "status") (signed_value values.status))) _
    (begin (g.W.Sink.written c.args.out.now) whole _ refl) c.in_ok-write_signed.ensures) c.in_ok-write_number.ensures)
    c.in_ok-write_number-2.ensures) c.in_err-write_number-3.ensures

pub returns : goal.returns
returns g c =
    let values = values_of c.args.log.now in
    let whole = comma_fields (number_fields values) in
    wrote_rest _ _ _ whole ((comma_field (field (codes "peak_kb") (number_value values.peak_kb))) ++ []) _
    (wrote_more _ _ _ _ (comma_field (field (codes "cpu_ms") (number_value values.cpu_ms))) _
    (wrote_more _ _ _ _ (comma_field (field (codes "end_ms") (number_value values.end_ms))) _
    (wrote_more _ _ _ _ (comma_field (field (codes "start_ms") (number_value values.start_ms))) _
    (wrote_more _ _ _ _ (comma_field (field (codes "status") (signed_value values.status))) _
    (begin (g.W.Sink.written c.args.out.now) whole _ refl) c.in_ok-write_signed.ensures) c.in_ok-write_number.ensures)
    c.in_ok-write_number-2.ensures) c.in_ok-write_number-3.ensures)
    (writes_as _ _ _ _ _ (sym (append-nil (comma_field (field (codes "peak_kb") (number_value values.peak_kb))))) c.write_number-4.ensures)
