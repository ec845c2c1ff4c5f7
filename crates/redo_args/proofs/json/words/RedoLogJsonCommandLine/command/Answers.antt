use Rattle.std.proofs.Common.{◌≡◌, ◌∙◌, ap, codes, refl}
use Rattle.std.proofs.lemmas.Result.{IfOk-weaker}
use Rattle.redo_args.specs.CommandLine.{plain, with_rules}
use Rattle.redo_args.specs.JsonCommandLine.{redo_log_json, json_rules}
use Rattle.redo_args.proofs.json.words.RedoLogJsonCommandLine.command.Goals as goal

redo_log_json_is : with_rules json_rules (plain (codes "redo-log-json")) ≡ redo_log_json
unfolding redo_log_json
redo_log_json_is = refl

pub returns : goal.returns
returns c =
    IfOk-weaker c.command_line.result _ _
    (λ command is. is ∙ ap (λ json_rules. with_rules json_rules (plain (codes "redo-log-json"))) c.in_ok-arguments.ensures.0 ∙ redo_log_json_is)
    c.command_line.ensures
