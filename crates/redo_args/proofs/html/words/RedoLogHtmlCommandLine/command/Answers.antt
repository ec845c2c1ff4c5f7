use Rattle.std.proofs.Common.{◌≡◌, ◌∙◌, ap, codes, refl}
use Rattle.std.proofs.lemmas.Result.{IfOk-weaker}
use Rattle.redo_args.specs.CommandLine.{plain, with_rules}
use Rattle.redo_args.specs.HtmlCommandLine.{redo_log_html, html_rules}
use Rattle.redo_args.proofs.html.words.RedoLogHtmlCommandLine.command.Goals as goal

redo_log_html_is : with_rules html_rules (plain (codes "redo-log-html")) ≡ redo_log_html
unfolding redo_log_html
redo_log_html_is = refl

pub returns : goal.returns
returns c =
    IfOk-weaker c.command_line.result _ _
    (λ command is. is ∙ ap (λ html_rules. with_rules html_rules (plain (codes "redo-log-html"))) c.in_ok-arguments.ensures.0 ∙ redo_log_html_is)
    c.command_line.ensures
