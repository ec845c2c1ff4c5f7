-- The definition of the command line of `redo-log-html` for `clap`: nine arguments, each with a rule.
--
-- `CommandLine` defines the kinds of rules, and says what their fields mean.
use Rattle.std.specs.Prelude.{List, [], ◌∷◌, codes}
use Rattle.clap.specs.Simple.{App}
use Rattle.clap.specs.Walk.{Rule, Text}
use Rattle.clap.specs.declared.builder.action.ArgAction.TheVariants.{SetTrue}
use Rattle.clap.specs.declared.builder.value_parser.ValueParser.TheVariants as parser
use Rattle.redo_args.specs.CommandLine.{checked_rule, flag_rule, letter_rule, number_rule, optional_words_rule, plain, text_rule, with_rules}

-- An option with a number that `u64` can hold.
abbrev pub unsigned_rule : Text → Rule
unsigned_rule id = checked_rule id (parser.Unsigned 0 18446744073709551615)

-- `--dir DIR`, `--baseline DIR`, `--output FILE`, `--title TEXT`, `-u` and `--unchanged`, `--debug-locks`, `--max-bytes N`, `--senders N`,
-- `TARGET..`
abbrev pub html_rules : List Rule
html_rules =
    text_rule (codes "dir") ∷
    text_rule (codes "baseline") ∷
    text_rule (codes "output") ∷
    text_rule (codes "title") ∷
    letter_rule (codes "unchanged") 117 ∷
    flag_rule (codes "debug_locks") (codes "debug-locks") SetTrue ∷
    unsigned_rule (codes "max-bytes") ∷
    number_rule (codes "senders") 64 ∷
    optional_words_rule (codes "target") ∷
    []

unfoldable pub redo_log_html : App
redo_log_html = with_rules html_rules (plain (codes "redo-log-html"))
