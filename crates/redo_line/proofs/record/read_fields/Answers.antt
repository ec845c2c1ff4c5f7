use Rattle.std.proofs.Common.{[], ◌∷◌, sym, ◌∙◌}
use Rattle.redo_line.specs.Record.{at_sign, space}
use Rattle.redo_line.proofs.FieldLemmas.{if_none, no_kind, no_number, no_pid, no_time, no_text, fields_found, time_found, fields_refused, kind_fails, pid_fails, time_fails}
use Rattle.redo_line.proofs.Stripping.{strips, strips_not}
use Rattle.redo_line.proofs.record.read_fields.Goals as goal
use Rattle.redo_line.proofs.record.read_fields.Goals.{else-is_kind-via-then-is_kind+else-is_time, else-is_kind-via-else-is_kind}

pub returns-in_err-kind-clause-none : goal.returns-in_err-kind-clause-none
returns-in_err-kind-clause-none c = if_none c.from_residual.result _ (no_kind c.args.bytes.now c.in_err-kind.ensures.none)

pub returns-in_err-pid-clause-none : goal.returns-in_err-pid-clause-none
returns-in_err-pid-clause-none c =
    if_none c.from_residual-in_err-pid.result _
    (no_pid c.args.bytes.now c.in_ok-kind.kind.now c.in_ok-kind.rest.now c.in_ok-kind.ensures.some c.in_err-pid.ensures.none)

pub returns-in_err-time-clause-none : goal.returns-in_err-time-clause-none
returns-in_err-time-clause-none c =
    if_none c.from_residual-in_err-time.result _
    (no_time c.args.bytes.now c.in_ok-kind.kind.now c.in_ok-kind.rest.now c.in_ok-kind.ensures.some c.in_ok-pid.pid.now
    c.in_ok-pid.rest.now c.in_ok-pid.ensures.some c.in_err-time.ensures.none)

pub returns-in_err-text-clause-none : goal.returns-in_err-text-clause-none
returns-in_err-text-clause-none c =
    if_none c.from_residual-in_err-text.result _
    (no_text c.args.bytes.now c.in_ok-kind.kind.now c.in_ok-kind.rest.now c.in_ok-kind.ensures.some c.in_ok-pid.pid.now
    c.in_ok-pid.rest.now c.in_ok-pid.ensures.some
    c.in_ok-time.time.now c.in_ok-time.rest.now c.in_ok-time.ensures.some
    (strips_not (at_sign ∷ space ∷ []) c.in_ok-time.rest.now c.in_err-text.ensures.cases))

pub returns-in_err-number-clause-none : goal.returns-in_err-number-clause-none
returns-in_err-number-clause-none c =
    if_none c.from_residual-in_err-number.result _
    (fields_refused c.args.bytes.now c.in_ok-kind.kind.now c.in_ok-kind.rest.now c.in_ok-kind.ensures.some c.in_ok-pid.pid.now
    c.in_ok-pid.rest.now c.in_ok-pid.ensures.some
    c.in_ok-time.time.now c.in_ok-time.rest.now c.in_ok-time.ensures.some c.in_ok-text.text.now
    (strips (at_sign ∷ space ∷ []) c.in_ok-time.rest.now c.in_ok-text.text.now c.in_ok-text.ensures.cases.0 c.in_ok-text.ensures.cases.1)
    (pid_fails c.in_ok-kind.kind.now c.in_ok-pid.pid.now c.in_ok-time.time.now
    (no_number c.in_ok-pid.pid.now (sym c.read_pid.ensures ∙ c.in_err-number.was))))

pub returns-then-is_time-clause-some : goal.returns-then-is_time-clause-some
returns-then-is_time-clause-some c =
    fields_found c.args.bytes.now c.in_ok-kind.kind.now c.in_ok-kind.rest.now c.in_ok-kind.ensures.some c.in_ok-pid.pid.now
    c.in_ok-pid.rest.now c.in_ok-pid.ensures.some
    c.in_ok-time.time.now c.in_ok-time.rest.now c.in_ok-time.ensures.some c.in_ok-text.text.now
    (strips (at_sign ∷ space ∷ []) c.in_ok-time.rest.now c.in_ok-text.text.now c.in_ok-text.ensures.cases.0 c.in_ok-text.ensures.cases.1)
    c.in_ok-number.number (sym c.is_kind.ensures ∙ c.if-is_kind.true) (sym c.read_pid.ensures ∙ c.in_ok-number.was)
    (sym c.is_time.ensures ∙ c.if-is_time.true)

pub returns-then-is_time-clause-time : goal.returns-then-is_time-clause-time
returns-then-is_time-clause-time c =
    time_found c.args.bytes.now c.in_ok-kind.kind.now c.in_ok-kind.rest.now c.in_ok-kind.ensures.some c.in_ok-pid.pid.now
    c.in_ok-pid.rest.now c.in_ok-pid.ensures.some
    c.in_ok-time.time.now c.in_ok-time.rest.now c.in_ok-time.ensures.some c.in_ok-text.text.now
    (strips (at_sign ∷ space ∷ []) c.in_ok-time.rest.now c.in_ok-text.text.now c.in_ok-text.ensures.cases.0 c.in_ok-text.ensures.cases.1)
    c.in_ok-number.number (sym c.is_kind.ensures ∙ c.if-is_kind.true) (sym c.read_pid.ensures ∙ c.in_ok-number.was)
    (sym c.is_time.ensures ∙ c.if-is_time.true)

pub returns-else-is_kind-clause-none : goal.returns-else-is_kind-clause-none
returns-else-is_kind-clause-none c =
    fields_refused c.args.bytes.now c.in_ok-kind.kind.now c.in_ok-kind.rest.now c.in_ok-kind.ensures.some c.in_ok-pid.pid.now
    c.in_ok-pid.rest.now c.in_ok-pid.ensures.some
    c.in_ok-time.time.now c.in_ok-time.rest.now c.in_ok-time.ensures.some c.in_ok-text.text.now
    (strips (at_sign ∷ space ∷ []) c.in_ok-time.rest.now c.in_ok-text.text.now c.in_ok-text.ensures.cases.0 c.in_ok-text.ensures.cases.1)
    (elim c.else-is_kind.branch [
      | else-is_kind-via-then-is_kind+else-is_time w ↦ time_fails c.in_ok-kind.kind.now c.in_ok-pid.pid.now c.in_ok-time.time.now
          (sym w.is_time.ensures ∙ w.if-is_time.false)
      | else-is_kind-via-else-is_kind w ↦ kind_fails c.in_ok-kind.kind.now c.in_ok-pid.pid.now c.in_ok-time.time.now
          (sym c.is_kind.ensures ∙ w.if-is_kind.false)
    ])
