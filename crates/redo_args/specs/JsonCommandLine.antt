-- The definition of the command line of `redo-log-json` for `clap`: seven arguments, each with a rule.
--
-- `CommandLine` defines the kinds of rules, and says what their fields mean.
use Rattle.std.specs.Prelude.{List, [], ◌∷◌, codes}
use Rattle.clap.specs.Simple.{App}
use Rattle.clap.specs.Walk.{Rule}
use Rattle.clap.specs.declared.builder.action.ArgAction.TheVariants.{SetTrue}
use Rattle.redo_args.specs.CommandLine.{flag_rule, letter_rule, number_rule, optional_words_rule, plain, text_rule, with_rules}

-- `--dir DIR`, `--baseline DIR`, `-u` and `--unchanged`, `--every`, `--output FILE`, `--senders N`, `TARGET..`
abbrev pub json_rules : List Rule
json_rules =
    text_rule (codes "dir") ∷
    text_rule (codes "baseline") ∷
    letter_rule (codes "unchanged") 117 ∷
    flag_rule (codes "every") (codes "every") SetTrue ∷
    text_rule (codes "output") ∷
    number_rule (codes "senders") 64 ∷
    optional_words_rule (codes "target") ∷
    []

unfoldable pub redo_log_json : App
redo_log_json = with_rules json_rules (plain (codes "redo-log-json"))
