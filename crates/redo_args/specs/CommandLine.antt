-- The definition of the command line for `clap`: nine arguments, each with a rule.
--
-- The contract of `clap` calls a command an `App`. It begins as `new_app` with a name; `with_rule` adds an argument, and
-- `on_top` changes a setting of it. A rule begins as `new_rule` with an id, by which the values found are looked up later.
-- Such a rule takes no value and has no name on the command line. The definitions here set these fields:
--   `long`, `short`: the option's name after `--`, and its letter after `-`. Without them, it takes the arguments that are
--   not options.
--   `value_names`: how many values have a name in the help text. If it is 0, `action` says that the option takes no value.
--   `action`: what happens with the value. Without it, the value is stored, and the option may be given once.
--   `parser`: which values are accepted. Without it, every text is.
--   `required`: the command line is rejected without this argument.
use Rattle.std.specs.Prelude.{ℕ, true, pos, List, [], ◌∷◌, Some, codes, fold}
use Rattle.clap.specs.Simple.{App, new_app, new_rule, on_top, with_rule}
use Rattle.clap.specs.Walk.{Rule, Text}
use Rattle.clap.specs.declared.builder.action.ArgAction.{ArgAction}
use Rattle.clap.specs.declared.builder.action.ArgAction.TheVariants.{Append, SetFalse, SetTrue}
use Rattle.clap.specs.declared.builder.value_parser.ValueParser.{ValueParser}
use Rattle.clap.specs.declared.builder.value_parser.ValueParser.TheVariants as parser

-- ---- the kinds of arguments

-- An option without a value. If it is given, it is true by `SetTrue` and false by `SetFalse`; otherwise it is the opposite.
abbrev pub flag_rule : Text → Text → ArgAction → Rule
flag_rule id long action = record (new_rule id) { long = Some long; action = Some action; parser = Some parser.Bool }

-- An option without a value that is true if it is given, by its id or by a letter.
abbrev pub letter_rule : Text → ℕ → Rule
letter_rule id letter = record (flag_rule id id SetTrue) { short = Some letter }

-- An option with a text as its value.
abbrev pub text_rule : Text → Rule
text_rule id = record (new_rule id) { long = Some id; value_names = 1 }

-- An option with a text that `check` must accept.
abbrev pub checked_rule : Text → ValueParser → Rule
checked_rule id check = record (text_rule id) { parser = Some check }

-- An option with a number from 1 to `greatest`.
abbrev pub number_rule : Text → ℕ → Rule
number_rule id max = checked_rule id (parser.Signed (pos 1) (pos max))

-- The arguments that are not options: at least one.
abbrev pub words_rule : Text → Rule
words_rule id = record (new_rule id) { value_names = 1; action = Some Append; required = true }

-- The arguments that are not options: any number of them.
abbrev pub optional_words_rule : Text → Rule
optional_words_rule id = record (new_rule id) { value_names = 1; action = Some Append }

-- ---- the arguments

-- `-r` and `--recursive`, `-u` and `--unchanged`, `--no-details`, `--debug-locks`, `--debug-pids`
abbrev pub flags : List Rule
flags =
    letter_rule (codes "recursive") 114 ∷
    letter_rule (codes "unchanged") 117 ∷
    flag_rule (codes "details") (codes "no-details") SetFalse ∷
    flag_rule (codes "debug_locks") (codes "debug-locks") SetTrue ∷
    flag_rule (codes "debug_pids") (codes "debug-pids") SetTrue ∷
    []

-- `--dir DIR`, `--senders N`, `--capacity N`, `TARGET..`
abbrev pub values : List Rule
values =
    text_rule (codes "dir") ∷
    number_rule (codes "senders") 64 ∷
    number_rule (codes "capacity") 65536 ∷
    words_rule (codes "target") ∷
    []

-- ---- the command

-- Adds arguments with these rules after the ones that the command has.
abbrev pub with_rules : List Rule → App → App
with_rules rules app = fold with_rule app rules

-- A command without arguments. The name of the program is not part of what it parses.
abbrev pub plain : Text → App
plain name = on_top (λ shape. record shape { no_binary_name = true }) (new_app name)

unfoldable pub redo_log : App
redo_log = with_rules values (with_rules flags (plain (codes "redo-log")))
