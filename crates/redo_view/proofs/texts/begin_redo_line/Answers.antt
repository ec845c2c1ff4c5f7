use Rattle.std.proofs.Common.{◌++◌, Some, refl}
use Rattle.redo_view.specs.Text.{indent, pid_column}
use Rattle.redo_device.proofs.WritesLemmas.{at_first, at_last}
use Rattle.redo_view.proofs.texts.begin_redo_line.Goals as goal

pub returns-in_err-write_redo_prefix : goal.returns-in_err-write_redo_prefix
returns-in_err-write_redo_prefix g c =
    let line_start = pid_column c.args.options.now (Some c.args.pid) ++ indent c.args.depth in
    at_first _ (line_start ++ c.args.text.now) _ line_start c.args.text.now _ _ c.from_residual.ensures.0
    c.in_err-write_redo_prefix.ensures refl

pub returns : goal.returns
returns g c =
    let line_start = pid_column c.args.options.now (Some c.args.pid) ++ indent c.args.depth in
    at_last _ (line_start ++ c.args.text.now) _ _ line_start c.args.text.now _ c.in_ok-write_redo_prefix.ensures c.push_all.ensures refl
