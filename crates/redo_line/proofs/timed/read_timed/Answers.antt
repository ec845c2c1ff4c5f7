use Rattle.std.proofs.Common.{ap, ◌∙◌}
use Rattle.std.specs.Prelude.{option_map}
use Rattle.redo_line.specs.Record.{record_prefix, timed_parts}
use Rattle.redo_line.proofs.FieldLemmas.{behind_prefix, if_none, no_prefix, timed_found}
use Rattle.redo_line.proofs.Stripping.{strips, strips_not}
use Rattle.redo_line.proofs.timed.read_timed.Goals as goal

pub returns-in_err-bytes-clause-none : goal.returns-in_err-bytes-clause-none
returns-in_err-bytes-clause-none c =
    if_none c.from_residual.result _ (no_prefix c.args.line.now (strips_not record_prefix c.args.line.now c.in_err-bytes.ensures.cases))

pub returns-in_err-fields-clause-none : goal.returns-in_err-fields-clause-none
returns-in_err-fields-clause-none c =
    let line = c.args.line.now in
    let bytes = c.in_ok-bytes.bytes.now in
    if_none c.from_residual-in_err-fields.result _
    (behind_prefix line bytes (strips record_prefix line bytes c.in_ok-bytes.ensures.cases.0 c.in_ok-bytes.ensures.cases.1)
    ∙ c.in_err-fields.ensures.none)

pub returns-clause-some : goal.returns-clause-some
returns-clause-some c =
    let line = c.args.line.now in
    let bytes = c.in_ok-bytes.bytes.now in
    ap (option_map timed_parts) (behind_prefix line bytes
    (strips record_prefix line bytes c.in_ok-bytes.ensures.cases.0 c.in_ok-bytes.ensures.cases.1))
    ∙ timed_found _ _ _ _ _ c.in_ok-fields.ensures.some c.in_ok-fields.ensures.time
