use Rattle.std.proofs.Common.{ℕ, List, ◌++◌, Some, Ok, Err, ap}
use Rattle.std.specs.Prelude.{codes}
use Rattle.json.specs.Print.{print}
use Rattle.json.specs.Tree.{json_tokens}
use Rattle.redo_json.specs.Fields.{bytes_fields, number_value}
use Rattle.redo_json.specs.Private.Parts.{comma_fields, place_text}
use Rattle.redo_json.proofs.DiagnosticLemmas.{file_start, place_parts, row_text}
use Rattle.redo_json.proofs.WritingLemmas.{begin, failed_part, writes_as, wrote_more, wrote_rest}
use Rattle.redo_json.proofs.diagnostics.write_known_place.Goals as goal

pub write_bytes-requires : goal.write_bytes-requires
write_bytes-requires g c = file_start

pub returns-in_err-write_bytes : goal.returns-in_err-write_bytes
returns-in_err-write_bytes g c =
    let place = c.args.place.now in
    let file = comma_fields (bytes_fields (codes "file") place.file) in
    let column = print (json_tokens (number_value place.column)) in
    let whole = place_text (Some place) in
    failed_part _ _ _ whole file (row_text place.row ++ column) _ _ c.from_residual.ensures.0
    (begin (g.W.Sink.written c.args.out.now) whole _ (place_parts place))
    (writes_as _ _ _ file (Err _) (ap (λ (b : List ℕ). comma_fields (bytes_fields (codes "file") b)) c.file.ensures)
    c.in_err-write_bytes.ensures)

pub returns-in_err-write_parts : goal.returns-in_err-write_parts
returns-in_err-write_parts g c =
    let place = c.args.place.now in
    let file = comma_fields (bytes_fields (codes "file") place.file) in
    let column = print (json_tokens (number_value place.column)) in
    let whole = place_text (Some place) in
    failed_part _ _ _ whole (row_text place.row) column _ _ c.from_residual-in_err-write_parts.ensures.0
    (wrote_more _ _ _ _ file (row_text place.row ++ column)
    (begin (g.W.Sink.written c.args.out.now) whole _ (place_parts place))
    (writes_as _ _ _ file (Ok tt) (ap (λ (b : List ℕ). comma_fields (bytes_fields (codes "file") b)) c.file.ensures)
    c.in_ok-write_bytes.ensures))
    (writes_as _ _ _ (row_text place.row) (Err _) (ap row_text c.row.ensures) c.in_err-write_parts.ensures)

pub returns : goal.returns
returns g c =
    let place = c.args.place.now in
    let file = comma_fields (bytes_fields (codes "file") place.file) in
    let column = print (json_tokens (number_value place.column)) in
    let whole = place_text (Some place) in
    wrote_rest _ _ _ whole column _
    (wrote_more _ _ _ _ (row_text place.row) column
    (wrote_more _ _ _ _ file (row_text place.row ++ column)
    (begin (g.W.Sink.written c.args.out.now) whole _ (place_parts place))
    (writes_as _ _ _ file (Ok tt) (ap (λ (b : List ℕ). comma_fields (bytes_fields (codes "file") b)) c.file.ensures)
    c.in_ok-write_bytes.ensures))
    (writes_as _ _ _ (row_text place.row) (Ok tt) (ap row_text c.row.ensures) c.in_ok-write_parts.ensures))
    (writes_as _ _ _ column _ (ap (λ (n : _). print (json_tokens (number_value n))) c.column.ensures) c.write_column.ensures)
