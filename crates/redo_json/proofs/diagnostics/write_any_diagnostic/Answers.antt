use Rattle.std.proofs.Common.{ℕ, List, ◌++◌, Option, Ok, Err, ap}
use Rattle.std.specs.Prelude.{codes}
use Rattle.json.specs.Json.{string}
use Rattle.redo_diagnostics.specs.declared.severity.Severity.{Severity}
use Rattle.redo_json.specs.Diagnostics.{LogDiagnostic, severity_name}
use Rattle.redo_json.specs.Fields.{bytes_fields, field, optional_bytes_fields}
use Rattle.redo_json.specs.Private.Parts.{comma_field, comma_fields, diagnostic_text, place_text}
use Rattle.redo_json.proofs.DiagnosticLemmas.{diagnostic_parts, first_is, first_text, key_start, last_is, last_text, message_start}
use Rattle.redo_json.proofs.WritingLemmas.{begin, failed_part, writes_as, wrote_more, wrote_rest}
use Rattle.redo_json.proofs.diagnostics.write_any_diagnostic.Goals as goal

pub write_bytes-requires : goal.write_bytes-requires
write_bytes-requires g c = message_start

pub write_bytes-requires-2 : goal.write_bytes-requires-2
write_bytes-requires-2 g c = key_start

pub returns-in_err-write_parts : goal.returns-in_err-write_parts
returns-in_err-write_parts g c =
    let value = c.args.diagnostic.now in
    let one : LogDiagnostic = record { line = c.args.position; value = value; nth = c.args.nth } in
    let first = first_text c.args.is_first c.args.position in
    let severity = comma_field (field (codes "severity") (string (severity_name value.severity))) in
    let place = place_text value.place in
    let message = comma_fields (bytes_fields (codes "message") value.message) in
    let flag = comma_fields (optional_bytes_fields (codes "flag") value.flag) in
    let key = comma_fields (bytes_fields (codes "key") value.key) in
    let last = last_text c.args.nth c.args.new in
    let whole = diagnostic_text c.args.is_first (one, c.args.new) in
    failed_part _ _ _ whole first (severity ++ (place ++ (message ++ (flag ++ (key ++ last))))) _ _ c.from_residual.ensures.0
    (begin (g.W.Sink.written c.args.out.now) whole _ (diagnostic_parts one c.args.new c.args.is_first))
    (writes_as _ _ _ first (Err _) (first_is c.args.is_first c.args.position _ c.object_start.ensures)
    c.in_err-write_parts.ensures)

pub returns-in_err-write_severity : goal.returns-in_err-write_severity
returns-in_err-write_severity g c =
    let value = c.args.diagnostic.now in
    let one : LogDiagnostic = record { line = c.args.position; value = value; nth = c.args.nth } in
    let first = first_text c.args.is_first c.args.position in
    let severity = comma_field (field (codes "severity") (string (severity_name value.severity))) in
    let place = place_text value.place in
    let message = comma_fields (bytes_fields (codes "message") value.message) in
    let flag = comma_fields (optional_bytes_fields (codes "flag") value.flag) in
    let key = comma_fields (bytes_fields (codes "key") value.key) in
    let last = last_text c.args.nth c.args.new in
    let whole = diagnostic_text c.args.is_first (one, c.args.new) in
    failed_part _ _ _ whole severity (place ++ (message ++ (flag ++ (key ++ last)))) _ _ c.from_residual-in_err-write_severity.ensures.0
    (wrote_more _ _ _ _ first (severity ++ (place ++ (message ++ (flag ++ (key ++ last)))))
    (begin (g.W.Sink.written c.args.out.now) whole _ (diagnostic_parts one c.args.new c.args.is_first))
    (writes_as _ _ _ first (Ok tt) (first_is c.args.is_first c.args.position _ c.object_start.ensures)
    c.in_ok-write_parts.ensures))
    (writes_as _ _ _ severity (Err _) (ap (λ (s : Severity). comma_field (field (codes "severity") (string (severity_name s)))) c.severity.ensures)
    c.in_err-write_severity.ensures)

pub returns-in_err-write_place : goal.returns-in_err-write_place
returns-in_err-write_place g c =
    let value = c.args.diagnostic.now in
    let one : LogDiagnostic = record { line = c.args.position; value = value; nth = c.args.nth } in
    let first = first_text c.args.is_first c.args.position in
    let severity = comma_field (field (codes "severity") (string (severity_name value.severity))) in
    let place = place_text value.place in
    let message = comma_fields (bytes_fields (codes "message") value.message) in
    let flag = comma_fields (optional_bytes_fields (codes "flag") value.flag) in
    let key = comma_fields (bytes_fields (codes "key") value.key) in
    let last = last_text c.args.nth c.args.new in
    let whole = diagnostic_text c.args.is_first (one, c.args.new) in
    failed_part _ _ _ whole place (message ++ (flag ++ (key ++ last))) _ _ c.from_residual-in_err-write_place.ensures.0
    (wrote_more _ _ _ _ severity (place ++ (message ++ (flag ++ (key ++ last))))
    (wrote_more _ _ _ _ first (severity ++ (place ++ (message ++ (flag ++ (key ++ last)))))
    (begin (g.W.Sink.written c.args.out.now) whole _ (diagnostic_parts one c.args.new c.args.is_first))
    (writes_as _ _ _ first (Ok tt) (first_is c.args.is_first c.args.position _ c.object_start.ensures)
    c.in_ok-write_parts.ensures))
    (writes_as _ _ _ severity (Ok tt) (ap (λ (s : Severity). comma_field (field (codes "severity") (string (severity_name s)))) c.severity.ensures)
    c.in_ok-write_severity.ensures))
    (writes_as _ _ _ place (Err _) (ap place_text c.place.ensures)
    c.in_err-write_place.ensures)

pub returns-in_err-write_bytes : goal.returns-in_err-write_bytes
returns-in_err-write_bytes g c =
    let value = c.args.diagnostic.now in
    let one : LogDiagnostic = record { line = c.args.position; value = value; nth = c.args.nth } in
    let first = first_text c.args.is_first c.args.position in
    let severity = comma_field (field (codes "severity") (string (severity_name value.severity))) in
    let place = place_text value.place in
    let message = comma_fields (bytes_fields (codes "message") value.message) in
    let flag = comma_fields (optional_bytes_fields (codes "flag") value.flag) in
    let key = comma_fields (bytes_fields (codes "key") value.key) in
    let last = last_text c.args.nth c.args.new in
    let whole = diagnostic_text c.args.is_first (one, c.args.new) in
    failed_part _ _ _ whole message (flag ++ (key ++ last)) _ _ c.from_residual-in_err-write_bytes.ensures.0
    (wrote_more _ _ _ _ place (message ++ (flag ++ (key ++ last)))
    (wrote_more _ _ _ _ severity (place ++ (message ++ (flag ++ (key ++ last))))
    (wrote_more _ _ _ _ first (severity ++ (place ++ (message ++ (flag ++ (key ++ last)))))
    (begin (g.W.Sink.written c.args.out.now) whole _ (diagnostic_parts one c.args.new c.args.is_first))
    (writes_as _ _ _ first (Ok tt) (first_is c.args.is_first c.args.position _ c.object_start.ensures)
    c.in_ok-write_parts.ensures))
    (writes_as _ _ _ severity (Ok tt) (ap (λ (s : Severity). comma_field (field (codes "severity") (string (severity_name s)))) c.severity.ensures)
    c.in_ok-write_severity.ensures))
    (writes_as _ _ _ place (Ok tt) (ap place_text c.place.ensures)
    c.in_ok-write_place.ensures))
    (writes_as _ _ _ message (Err _) (ap (λ (b : List ℕ). comma_fields (bytes_fields (codes "message") b)) c.message_and_flag.ensures.message)
    c.in_err-write_bytes.ensures)

pub returns-in_err-write_flag : goal.returns-in_err-write_flag
returns-in_err-write_flag g c =
    let value = c.args.diagnostic.now in
    let one : LogDiagnostic = record { line = c.args.position; value = value; nth = c.args.nth } in
    let first = first_text c.args.is_first c.args.position in
    let severity = comma_field (field (codes "severity") (string (severity_name value.severity))) in
    let place = place_text value.place in
    let message = comma_fields (bytes_fields (codes "message") value.message) in
    let flag = comma_fields (optional_bytes_fields (codes "flag") value.flag) in
    let key = comma_fields (bytes_fields (codes "key") value.key) in
    let last = last_text c.args.nth c.args.new in
    let whole = diagnostic_text c.args.is_first (one, c.args.new) in
    failed_part _ _ _ whole flag (key ++ last) _ _ c.from_residual-in_err-write_flag.ensures.0
    (wrote_more _ _ _ _ message (flag ++ (key ++ last))
    (wrote_more _ _ _ _ place (message ++ (flag ++ (key ++ last)))
    (wrote_more _ _ _ _ severity (place ++ (message ++ (flag ++ (key ++ last))))
    (wrote_more _ _ _ _ first (severity ++ (place ++ (message ++ (flag ++ (key ++ last)))))
    (begin (g.W.Sink.written c.args.out.now) whole _ (diagnostic_parts one c.args.new c.args.is_first))
    (writes_as _ _ _ first (Ok tt) (first_is c.args.is_first c.args.position _ c.object_start.ensures)
    c.in_ok-write_parts.ensures))
    (writes_as _ _ _ severity (Ok tt) (ap (λ (s : Severity). comma_field (field (codes "severity") (string (severity_name s)))) c.severity.ensures)
    c.in_ok-write_severity.ensures))
    (writes_as _ _ _ place (Ok tt) (ap place_text c.place.ensures)
    c.in_ok-write_place.ensures))
    (writes_as _ _ _ message (Ok tt) (ap (λ (b : List ℕ). comma_fields (bytes_fields (codes "message") b)) c.message_and_flag.ensures.message)
    c.in_ok-write_bytes.ensures))
    (writes_as _ _ _ flag (Err _) (ap (λ (b : Option (List ℕ)). comma_fields (optional_bytes_fields (codes "flag") b)) c.message_and_flag.ensures.flag)
    c.in_err-write_flag.ensures)

pub returns-in_err-write_bytes-2 : goal.returns-in_err-write_bytes-2
returns-in_err-write_bytes-2 g c =
    let value = c.args.diagnostic.now in
    let one : LogDiagnostic = record { line = c.args.position; value = value; nth = c.args.nth } in
    let first = first_text c.args.is_first c.args.position in
    let severity = comma_field (field (codes "severity") (string (severity_name value.severity))) in
    let place = place_text value.place in
    let message = comma_fields (bytes_fields (codes "message") value.message) in
    let flag = comma_fields (optional_bytes_fields (codes "flag") value.flag) in
    let key = comma_fields (bytes_fields (codes "key") value.key) in
    let last = last_text c.args.nth c.args.new in
    let whole = diagnostic_text c.args.is_first (one, c.args.new) in
    failed_part _ _ _ whole key last _ _ c.from_residual-in_err-write_bytes-2.ensures.0
    (wrote_more _ _ _ _ flag (key ++ last)
    (wrote_more _ _ _ _ message (flag ++ (key ++ last))
    (wrote_more _ _ _ _ place (message ++ (flag ++ (key ++ last)))
    (wrote_more _ _ _ _ severity (place ++ (message ++ (flag ++ (key ++ last))))
    (wrote_more _ _ _ _ first (severity ++ (place ++ (message ++ (flag ++ (key ++ last)))))
    (begin (g.W.Sink.written c.args.out.now) whole _ (diagnostic_parts one c.args.new c.args.is_first))
    (writes_as _ _ _ first (Ok tt) (first_is c.args.is_first c.args.position _ c.object_start.ensures)
    c.in_ok-write_parts.ensures))
    (writes_as _ _ _ severity (Ok tt) (ap (λ (s : Severity). comma_field (field (codes "severity") (string (severity_name s)))) c.severity.ensures)
    c.in_ok-write_severity.ensures))
    (writes_as _ _ _ place (Ok tt) (ap place_text c.place.ensures)
    c.in_ok-write_place.ensures))
    (writes_as _ _ _ message (Ok tt) (ap (λ (b : List ℕ). comma_fields (bytes_fields (codes "message") b)) c.message_and_flag.ensures.message)
    c.in_ok-write_bytes.ensures))
    (writes_as _ _ _ flag (Ok tt) (ap (λ (b : Option (List ℕ)). comma_fields (optional_bytes_fields (codes "flag") b)) c.message_and_flag.ensures.flag)
    c.in_ok-write_flag.ensures))
    (writes_as _ _ _ key (Err _) (ap (λ (b : List ℕ). comma_fields (bytes_fields (codes "key") b)) c.requires)
    c.in_err-write_bytes-2.ensures)

pub returns : goal.returns
returns g c =
    let value = c.args.diagnostic.now in
    let one : LogDiagnostic = record { line = c.args.position; value = value; nth = c.args.nth } in
    let first = first_text c.args.is_first c.args.position in
    let severity = comma_field (field (codes "severity") (string (severity_name value.severity))) in
    let place = place_text value.place in
    let message = comma_fields (bytes_fields (codes "message") value.message) in
    let flag = comma_fields (optional_bytes_fields (codes "flag") value.flag) in
    let key = comma_fields (bytes_fields (codes "key") value.key) in
    let last = last_text c.args.nth c.args.new in
    let whole = diagnostic_text c.args.is_first (one, c.args.new) in
    wrote_rest _ _ _ whole last _
    (wrote_more _ _ _ _ key last
    (wrote_more _ _ _ _ flag (key ++ last)
    (wrote_more _ _ _ _ message (flag ++ (key ++ last))
    (wrote_more _ _ _ _ place (message ++ (flag ++ (key ++ last)))
    (wrote_more _ _ _ _ severity (place ++ (message ++ (flag ++ (key ++ last))))
    (wrote_more _ _ _ _ first (severity ++ (place ++ (message ++ (flag ++ (key ++ last)))))
    (begin (g.W.Sink.written c.args.out.now) whole _ (diagnostic_parts one c.args.new c.args.is_first))
    (writes_as _ _ _ first (Ok tt) (first_is c.args.is_first c.args.position _ c.object_start.ensures)
    c.in_ok-write_parts.ensures))
    (writes_as _ _ _ severity (Ok tt) (ap (λ (s : Severity). comma_field (field (codes "severity") (string (severity_name s)))) c.severity.ensures)
    c.in_ok-write_severity.ensures))
    (writes_as _ _ _ place (Ok tt) (ap place_text c.place.ensures)
    c.in_ok-write_place.ensures))
    (writes_as _ _ _ message (Ok tt) (ap (λ (b : List ℕ). comma_fields (bytes_fields (codes "message") b)) c.message_and_flag.ensures.message)
    c.in_ok-write_bytes.ensures))
    (writes_as _ _ _ flag (Ok tt) (ap (λ (b : Option (List ℕ)). comma_fields (optional_bytes_fields (codes "flag") b)) c.message_and_flag.ensures.flag)
    c.in_ok-write_flag.ensures))
    (writes_as _ _ _ key (Ok tt) (ap (λ (b : List ℕ). comma_fields (bytes_fields (codes "key") b)) c.requires)
    c.in_ok-write_bytes-2.ensures))
    (writes_as _ _ _ _ _ (last_is c.args.nth c.args.new _ c.object_end.ensures) c.write_parts-2.ensures)
