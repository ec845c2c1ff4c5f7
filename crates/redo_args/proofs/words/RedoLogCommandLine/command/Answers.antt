use Rattle.std.proofs.Common.{◌≡◌, ◌∙◌, ◌++◌, ap, codes, refl}
use Rattle.std.proofs.lemmas.Result.{IfOk-weaker}
use Rattle.redo_args.specs.CommandLine.{flags, plain, redo_log, values, with_rules}
use Rattle.redo_args.proofs.words.RedoLogCommandLine.command.Goals as goal

redo_log_is : with_rules (flags ++ values) (plain (codes "redo-log")) ≡ redo_log
unfolding redo_log
redo_log_is = refl

pub returns : goal.returns
returns c =
    IfOk-weaker c.command_line.result _ _
    (λ command is. is ∙ ap (λ rules. with_rules rules (plain (codes "redo-log"))) c.in_ok-arguments.ensures.0 ∙ redo_log_is)
    c.command_line.ensures
