-- The definition of the command line of `redo-log-new` for `clap`: seven arguments, each with a rule.
--
-- `CommandLine` defines the kinds of rules, and says what their fields mean.
use Rattle.std.specs.Prelude.{true, List, [], ◌∷◌, codes}
use Rattle.clap.specs.Simple.{App}
use Rattle.clap.specs.Walk.{Rule}
use Rattle.clap.specs.declared.builder.action.ArgAction.TheVariants.{SetTrue}
use Rattle.redo_args.specs.CommandLine.{flag_rule, letter_rule, number_rule, optional_words_rule, plain, text_rule, with_rules}

-- `--baseline DIR`, which must be given.
abbrev pub baseline_rule : Rule
baseline_rule = record (text_rule (codes "baseline")) { required = true }

-- `--baseline DIR`, `--dir DIR`, `-u` and `--unchanged`, `--every`, `--output FILE`, `--senders N`, `TARGET..`
abbrev pub new_rules : List Rule
new_rules =
    baseline_rule ∷
    text_rule (codes "dir") ∷
    letter_rule (codes "unchanged") 117 ∷
    flag_rule (codes "every") (codes "every") SetTrue ∷
    text_rule (codes "output") ∷
    number_rule (codes "senders") 64 ∷
    optional_words_rule (codes "target") ∷
    []

unfoldable pub redo_log_new : App
redo_log_new = with_rules new_rules (plain (codes "redo-log-new"))
