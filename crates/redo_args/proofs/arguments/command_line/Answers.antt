use Rattle.std.proofs.Common.{◌≡◌, ◌∙◌, ap, map, true, refl}
use Rattle.std.proofs.lemmas.Result.{IfOk-weaker}
use Rattle.clap.specs.Simple.{Shape, app_of, on_top}
use Rattle.clap.specs.Walk.{rule_of}
use Rattle.redo_args.specs.CommandLine.{plain, with_rules}
use Rattle.redo_args.proofs.CommandLemmas.{added}
use Rattle.redo_args.proofs.arguments.command_line.Goals as goal

pub returns : goal.returns
returns c =
    let rules = map rule_of c.args.arguments.items in
    let start : app_of c.no_binary_name.result ≡ plain c.args.name.now =
    rw (c.no_binary_name.ensures, c.after_help.ensures, c.about.ensures)
    (ap (on_top (λ (shape : Shape). record shape { no_binary_name = true })) c.new.ensures.app) in
    IfOk-weaker c.args-2.result _ _
    (λ more adds. added rules c.no_binary_name.result more c.args.arguments.items (refl, c.requires.local) adds
    ∙ ap (with_rules rules) start)
    c.args-2.ensures
