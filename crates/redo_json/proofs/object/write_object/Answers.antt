use Rattle.std.proofs.Common.{Bool, List, [], ◌∷◌, ◌++◌, Option, Ok, Err, ap}
use Rattle.std.proofs.lemmas.Result.{err_from_is_err_and}
use Rattle.redo_line.specs.Lines.{with_line_feed}
use Rattle.redo_json.specs.Build.{object_text}
use Rattle.redo_json.specs.Diagnostics.{diagnostics_field}
use Rattle.redo_json.specs.Object.{baseline_field, new_flags}
use Rattle.redo_json.specs.Private.Parts.{comma_field, front_text}
use Rattle.redo_json.specs.Private.Values.{values_of}
use Rattle.redo_json.proofs.FormLemmas.{forms_as, part_failed, write_failed}
use Rattle.redo_json.proofs.ObjectLemmas.{line_parts}
use Rattle.redo_json.proofs.WritingLemmas.{begin, wrote_all, wrote_more}
use Rattle.redo_json.proofs.object.write_object.Goals as goal

pub returns-in_err-write_front : goal.returns-in_err-write_front
returns-in_err-write_front g c =
    let values = values_of c.args.log.now in
    let whole = with_line_feed (object_text values) in
    let found = comma_field (diagnostics_field (new_flags values.changes) values.lines) in
    let baseline = comma_field (baseline_field values.changes) in
    let given = err_from_is_err_and c.from_residual.result c.from_residual.ensures.1 in
    rw (given.1, given.2) (write_failed _ _ _ whole (front_text values) (found ++ (baseline ++ 125 ∷ 10 ∷ [])) _
    (begin (g.W.Sink.written c.args.out.now) whole _ (line_parts values)) c.in_err-write_front.ensures)

pub returns-in_err-write_diagnostics : goal.returns-in_err-write_diagnostics
returns-in_err-write_diagnostics g c =
    let values = values_of c.args.log.now in
    let whole = with_line_feed (object_text values) in
    let found = comma_field (diagnostics_field (new_flags values.changes) values.lines) in
    let baseline = comma_field (baseline_field values.changes) in
    let given = err_from_is_err_and c.from_residual-in_err-write_diagnostics.result c.from_residual-in_err-write_diagnostics.ensures.1 in
    rw (given.1, given.2) (part_failed _ _ _ whole found (baseline ++ 125 ∷ 10 ∷ []) _ (wrote_more _ _ _ _ (front_text values) (found ++
    (baseline ++ 125 ∷ 10 ∷ []))
    (begin (g.W.Sink.written c.args.out.now) whole _ (line_parts values)) c.in_ok-write_front.ensures)
    (forms_as _ _ _ found (Err _) (ap (λ (flags : Option (List Bool)). comma_field (diagnostics_field flags values.lines))
    c.new_flags.ensures)
    c.in_err-write_diagnostics.ensures))

pub returns-in_err-write_baseline : goal.returns-in_err-write_baseline
returns-in_err-write_baseline g c =
    let values = values_of c.args.log.now in
    let whole = with_line_feed (object_text values) in
    let found = comma_field (diagnostics_field (new_flags values.changes) values.lines) in
    let baseline = comma_field (baseline_field values.changes) in
    let given = err_from_is_err_and c.from_residual-in_err-write_baseline.result c.from_residual-in_err-write_baseline.ensures.1 in
    rw (given.1, given.2) (write_failed _ _ _ whole baseline (125 ∷ 10 ∷ []) _ (wrote_more _ _ _ _ found (baseline ++ 125 ∷ 10 ∷ [])
    (wrote_more _ _ _ _ (front_text values) (found ++ (baseline ++ 125 ∷ 10 ∷ []))
    (begin (g.W.Sink.written c.args.out.now) whole _ (line_parts values)) c.in_ok-write_front.ensures)
    (forms_as _ _ _ found (Ok tt) (ap (λ (flags : Option (List Bool)). comma_field (diagnostics_field flags values.lines))
    c.new_flags.ensures)
    c.in_ok-write_diagnostics.ensures)) c.in_err-write_baseline.ensures)

pub returns-in_err-push_all : goal.returns-in_err-push_all
returns-in_err-push_all g c =
    let values = values_of c.args.log.now in
    let whole = with_line_feed (object_text values) in
    let found = comma_field (diagnostics_field (new_flags values.changes) values.lines) in
    let baseline = comma_field (baseline_field values.changes) in
    let given = err_from_is_err_and c.from_residual-in_err-push_all.result c.from_residual-in_err-push_all.ensures.1 in
    rw (given.1, given.2) (write_failed _ _ _ whole (125 ∷ 10 ∷ []) [] _ (wrote_more _ _ _ _ baseline (125 ∷ 10 ∷ []) (wrote_more _ _ _ _
    found (baseline ++ 125 ∷ 10 ∷ []) (wrote_more _ _ _ _ (front_text values) (found ++ (baseline ++ 125 ∷ 10 ∷ []))
    (begin (g.W.Sink.written c.args.out.now) whole _ (line_parts values)) c.in_ok-write_front.ensures)
    (forms_as _ _ _ found (Ok tt) (ap (λ (flags : Option (List Bool)). comma_field (diagnostics_field flags values.lines))
    c.new_flags.ensures)
    c.in_ok-write_diagnostics.ensures)) c.in_ok-write_baseline.ensures) c.in_err-push_all.ensures)

pub returns : goal.returns
returns g c =
    let values = values_of c.args.log.now in
    let whole = with_line_feed (object_text values) in
    let found = comma_field (diagnostics_field (new_flags values.changes) values.lines) in
    let baseline = comma_field (baseline_field values.changes) in
    wrote_all _ _ whole (wrote_more _ _ _ _ (125 ∷ 10 ∷ []) [] (wrote_more _ _ _ _ baseline (125 ∷ 10 ∷ []) (wrote_more _ _ _ _ found
    (baseline ++ 125 ∷ 10 ∷ []) (wrote_more _ _ _ _ (front_text values) (found ++ (baseline ++ 125 ∷ 10 ∷ []))
    (begin (g.W.Sink.written c.args.out.now) whole _ (line_parts values)) c.in_ok-write_front.ensures)
    (forms_as _ _ _ found (Ok tt) (ap (λ (flags : Option (List Bool)). comma_field (diagnostics_field flags values.lines))
    c.new_flags.ensures)
    c.in_ok-write_diagnostics.ensures)) c.in_ok-write_baseline.ensures)
    c.in_ok-push_all.ensures)
