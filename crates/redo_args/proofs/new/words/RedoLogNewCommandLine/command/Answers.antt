use Rattle.std.proofs.Common.{◌≡◌, ◌∙◌, ap, codes, refl}
use Rattle.std.proofs.lemmas.Result.{IfOk-weaker}
use Rattle.redo_args.specs.CommandLine.{plain, with_rules}
use Rattle.redo_args.specs.NewCommandLine.{redo_log_new, new_rules}
use Rattle.redo_args.proofs.new.words.RedoLogNewCommandLine.command.Goals as goal

redo_log_new_is : with_rules new_rules (plain (codes "redo-log-new")) ≡ redo_log_new
unfolding redo_log_new
redo_log_new_is = refl

pub returns : goal.returns
returns c =
    IfOk-weaker c.command_line.result _ _
    (λ command is. is ∙ ap (λ new_rules. with_rules new_rules (plain (codes "redo-log-new"))) c.in_ok-arguments.ensures.0 ∙ redo_log_new_is)
    c.command_line.ensures
