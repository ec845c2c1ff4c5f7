use Rattle.std.proofs.Common.{refl}
use Rattle.redo_json.specs.Private.Parts.{commands_part, directory_part, exact_target, first_part, from_commands, from_directory, from_exact, from_needs, from_numbers, from_parent, front_text, lines_part, needs_part, numbers_part, parent_part}
use Rattle.redo_json.specs.Private.Values.{values_of}
use Rattle.redo_json.proofs.WritingLemmas.{begin, failed_part, wrote_more, wrote_rest}
use Rattle.redo_json.proofs.ObjectLemmas.{directory_start, parent_start}
use Rattle.redo_json.proofs.object.write_front.Goals as goal

pub write_optional_bytes-requires : goal.write_optional_bytes-requires
write_optional_bytes-requires g c = parent_start

pub write_optional_bytes-requires-2 : goal.write_optional_bytes-requires-2
write_optional_bytes-requires-2 g c = directory_start

pub returns-in_err-write_parts : goal.returns-in_err-write_parts
returns-in_err-write_parts g c =
    let values = values_of c.args.log.now in
    let whole = front_text values in
    failed_part _ _ _ whole (first_part values) (from_exact values) _ _ c.from_residual.ensures.0
    (begin (g.W.Sink.written c.args.out.now) whole _ refl) c.in_err-write_parts.ensures

pub returns-in_err-write_exact : goal.returns-in_err-write_exact
returns-in_err-write_exact g c =
    let values = values_of c.args.log.now in
    let whole = front_text values in
    failed_part _ _ _ whole (exact_target values) (from_parent values) _ _ c.from_residual-in_err-write_exact.ensures.0
    (wrote_more _ _ _ _ (first_part values) (from_exact values) (begin (g.W.Sink.written c.args.out.now) whole _ refl)
    c.in_ok-write_parts.ensures) c.in_err-write_exact.ensures

pub returns-in_err-write_optional_bytes : goal.returns-in_err-write_optional_bytes
returns-in_err-write_optional_bytes g c =
    let values = values_of c.args.log.now in
    let whole = front_text values in
    failed_part _ _ _ whole (parent_part values) (from_numbers values) _ _ c.from_residual-in_err-write_optional_bytes.ensures.0
    (wrote_more _ _ _ _ (exact_target values) (from_parent values) (wrote_more _ _ _ _ (first_part values) (from_exact values)
    (begin (g.W.Sink.written c.args.out.now) whole _ refl) c.in_ok-write_parts.ensures) c.in_ok-write_exact.ensures)
    c.in_err-write_optional_bytes.ensures

pub returns-in_err-write_numbers : goal.returns-in_err-write_numbers
returns-in_err-write_numbers g c =
    let values = values_of c.args.log.now in
    let whole = front_text values in
    failed_part _ _ _ whole (numbers_part values) (from_directory values) _ _ c.from_residual-in_err-write_numbers.ensures.0
    (wrote_more _ _ _ _ (parent_part values) (from_numbers values) (wrote_more _ _ _ _ (exact_target values) (from_parent values)
    (wrote_more _ _ _ _ (first_part values) (from_exact values) (begin (g.W.Sink.written c.args.out.now) whole _ refl)
    c.in_ok-write_parts.ensures) c.in_ok-write_exact.ensures) c.in_ok-write_optional_bytes.ensures) c.in_err-write_numbers.ensures

pub returns-in_err-write_optional_bytes-2 : goal.returns-in_err-write_optional_bytes-2
returns-in_err-write_optional_bytes-2 g c =
    let values = values_of c.args.log.now in
    let whole = front_text values in
    failed_part _ _ _ whole (directory_part values) (from_commands values) _ _ c.from_residual-in_err-write_optional_bytes-2.ensures.0
    (wrote_more _ _ _ _ (numbers_part values) (from_directory values) (wrote_more _ _ _ _ (parent_part values) (from_numbers values)
    (wrote_more _ _ _ _ (exact_target values) (from_parent values) (wrote_more _ _ _ _ (first_part values) (from_exact values)
    (begin (g.W.Sink.written c.args.out.now) whole _ refl) c.in_ok-write_parts.ensures) c.in_ok-write_exact.ensures)
    c.in_ok-write_optional_bytes.ensures) c.in_ok-write_numbers.ensures) c.in_err-write_optional_bytes-2.ensures

pub returns-in_err-write_list : goal.returns-in_err-write_list
returns-in_err-write_list g c =
    let values = values_of c.args.log.now in
    let whole = front_text values in
    failed_part _ _ _ whole (commands_part values) (from_needs values) _ _ c.from_residual-in_err-write_list.ensures.0
    (wrote_more _ _ _ _ (directory_part values) (from_commands values) (wrote_more _ _ _ _ (numbers_part values) (from_directory values)
    (wrote_more _ _ _ _ (parent_part values) (from_numbers values) (wrote_more _ _ _ _ (exact_target values) (from_parent values)
    (wrote_more _ _ _ _ (first_part values) (from_exact values) (begin (g.W.Sink.written c.args.out.now) whole _ refl)
    c.in_ok-write_parts.ensures) c.in_ok-write_exact.ensures) c.in_ok-write_optional_bytes.ensures) c.in_ok-write_numbers.ensures)
    c.in_ok-write_optional_bytes-2.ensures) c.in_err-write_list.ensures

pub returns-in_err-write_list-2 : goal.returns-in_err-write_list-2
returns-in_err-write_list-2 g c =
    let values = values_of c.args.log.now in
    let whole = front_text values in
    failed_part _ _ _ whole (needs_part values) (lines_part values) _ _ c.from_residual-in_err-write_list-2.ensures.0
    (wrote_more _ _ _ _ (commands_part values) (from_needs values) (wrote_more _ _ _ _ (directory_part values) (from_commands values)
    (wrote_more _ _ _ _ (numbers_part values) (from_directory values) (wrote_more _ _ _ _ (parent_part values) (from_numbers values)
    (wrote_more _ _ _ _ (exact_target values) (from_parent values) (wrote_more _ _ _ _ (first_part values) (from_exact values)
    (begin (g.W.Sink.written c.args.out.now) whole _ refl) c.in_ok-write_parts.ensures) c.in_ok-write_exact.ensures)
    c.in_ok-write_optional_bytes.ensures) c.in_ok-write_numbers.ensures) c.in_ok-write_optional_bytes-2.ensures)
    c.in_ok-write_list.ensures) c.in_err-write_list-2.ensures

pub returns : goal.returns
returns g c =
    let values = values_of c.args.log.now in
    let whole = front_text values in
    wrote_rest _ _ _ whole (lines_part values) _ (wrote_more _ _ _ _ (needs_part values) (lines_part values)
    (wrote_more _ _ _ _ (commands_part values) (from_needs values) (wrote_more _ _ _ _ (directory_part values) (from_commands values)
    (wrote_more _ _ _ _ (numbers_part values) (from_directory values) (wrote_more _ _ _ _ (parent_part values) (from_numbers values)
    (wrote_more _ _ _ _ (exact_target values) (from_parent values) (wrote_more _ _ _ _ (first_part values) (from_exact values)
    (begin (g.W.Sink.written c.args.out.now) whole _ refl) c.in_ok-write_parts.ensures) c.in_ok-write_exact.ensures)
    c.in_ok-write_optional_bytes.ensures) c.in_ok-write_numbers.ensures) c.in_ok-write_optional_bytes-2.ensures)
    c.in_ok-write_list.ensures) c.in_ok-write_list-2.ensures) c.write_lines.ensures
