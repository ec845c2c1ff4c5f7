-- The arguments of the command line, before they are added to a command.
use Rattle.std.specs.Prelude.{◌≡◌, false, List, map}
use Rattle.std.specs.List.{AllByRecursion}
use Rattle.clap.specs.Walk.{Rule, rule_of}
use Rattle.clap.specs.declared.builder.arg.Arg.{Arg}

-- Whether the arguments have these rules, and each belongs to this command only, not to subcommands.
abbrev pub AreArguments : List Rule → List Arg → Type 0
AreArguments rules arguments = (map rule_of arguments ≡ rules) × AllByRecursion (λ argument. argument.global ≡ false) arguments
