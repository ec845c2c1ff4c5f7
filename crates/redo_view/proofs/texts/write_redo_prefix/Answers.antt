use Rattle.std.proofs.Common.{◌++◌, refl}
use Rattle.redo_view.specs.Text.{indent, pid_column}
use Rattle.redo_device.proofs.WritesLemmas.{at_first, at_last}
use Rattle.redo_view.proofs.texts.write_redo_prefix.Goals as goal

pub returns-in_err-write_pid : goal.returns-in_err-write_pid
returns-in_err-write_pid g c =
    let column = pid_column c.args.options.now c.args.pid in
    at_first _ (column ++ indent c.args.depth) _ column (indent c.args.depth) _ _ c.from_residual.ensures.0 c.in_err-write_pid.ensures refl

pub returns : goal.returns
returns g c =
    let column = pid_column c.args.options.now c.args.pid in
    at_last _ (column ++ indent c.args.depth) _ _ column (indent c.args.depth) _ c.in_ok-write_pid.ensures c.write_indent.ensures refl
