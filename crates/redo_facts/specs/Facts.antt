-- The facts of a target.
use Rattle.std.specs.Prelude.{ℕ, ◌==◌, Bool, true, false, List, [], ◌∷◌, ◌++◌, Option, None, Some, filter, filter_map, if◌then◌else◌}
use Rattle.std.specs.Option.{option_or}
use Rattle.std.specs.Str.{bytes_eq}
use Rattle.redo_line.specs.Lines.{line_feed}
use Rattle.redo_name.specs.Names.{normal}
use Rattle.redo_facts.specs.declared.statement.Form.{Form}
use Rattle.redo_facts.specs.declared.statement.Form.TheVariants.{Log, Directory, Command, Truncated, More, Took}
use Rattle.redo_facts.specs.declared.statement.Usage.{Usage}
use Rattle.redo_facts.specs.Statement.{Statement, statement_of}

-- A command of a recipe, and whether it is whole. Otherwise only its first part is known.
pub record RecipeCommand : Type 0 where
  pub text : List ℕ
  pub is_whole : Bool

-- The facts about a target's recipe. `has_log` says whether the last `log` line with its number names the target.
pub record RecipeFacts : Type 0 where
  pub has_log : Bool
  pub directory : Option (List ℕ)
  pub commands : List RecipeCommand
  pub usage : Option Usage

-- Nothing is known.
abbrev pub nothing : RecipeFacts
nothing = record { has_log = false; directory = None; commands = []; usage = None }

-- The statements of these lines, in order.
abbrev pub statements_of : List (List ℕ) → List Statement
statements_of lines = filter_map statement_of lines

-- The statements with this number.
abbrev pub numbered : ℕ → List Statement → List Statement
numbered number statements = filter (λ statement. statement.number == number) statements

abbrev pub is_log : Form → Bool
is_log Log = true
is_log Directory = false
is_log Command = false
is_log Truncated = false
is_log More = false
is_log (Took usage) = false

-- The name in the last `log` line, and the statements after that line.
abbrev pub since_log : List Statement → Option (List ℕ × List Statement)
since_log [] = None
since_log (statement ∷ others) = option_or (since_log others) (if is_log statement.form then Some (statement.text, others) else None)

-- The last of the values that some statements have, if any has one.
abbrev pub last_of : {A : Type 0} → (Statement → Option A) → List Statement → Option A
last_of value [] = None
last_of value (statement ∷ others) = option_or (last_of value others) (value statement)

abbrev pub directory_if : Form → List ℕ → Option (List ℕ)
directory_if Log text = None
directory_if Directory text = Some text
directory_if Command text = None
directory_if Truncated text = None
directory_if More text = None
directory_if (Took usage) text = None

abbrev pub usage_if : Form → Option Usage
usage_if Log = None
usage_if Directory = None
usage_if Command = None
usage_if Truncated = None
usage_if More = None
usage_if (Took usage) = Some usage

-- Whether a line begins a command that is whole, or one that is not.
abbrev pub command_if : Form → Option Bool
command_if Log = None
command_if Directory = None
command_if Command = Some true
command_if Truncated = Some false
command_if More = None
command_if (Took usage) = None

-- The text that a line adds to the command before it.
abbrev pub more_if : Form → List ℕ → List ℕ
more_if Log text = []
more_if Directory text = []
more_if Command text = []
more_if Truncated text = []
more_if More text = line_feed ∷ text
more_if (Took usage) text = []

abbrev pub continuation_from : Option Bool → List ℕ → List ℕ → List ℕ
continuation_from None more after = more ++ after
continuation_from (Some is_whole) more after = []

-- The rest of a command after its first line: a line feed and the text of each `more` line, up to the next command.
abbrev pub continuation : List Statement → List ℕ
continuation [] = []
continuation (statement ∷ others) =
    continuation_from (command_if statement.form) (more_if statement.form statement.text) (continuation others)

abbrev pub commands_from : Option Bool → List ℕ → List RecipeCommand → List RecipeCommand
commands_from None text after = after
commands_from (Some is_whole) text after = record { text = text; is_whole = is_whole } ∷ after

-- The commands that these statements have.
abbrev pub commands_in : List Statement → List RecipeCommand
commands_in [] = []
commands_in (statement ∷ others) = commands_from (command_if statement.form) (statement.text ++ continuation others) (commands_in others)

-- The facts about a recipe, by these statements.
abbrev pub facts_in : List Statement → RecipeFacts
facts_in statements = record {
  has_log = true;
  directory = last_of (λ statement. directory_if statement.form statement.text) statements;
  commands = commands_in statements;
  usage = last_of (λ statement. usage_if statement.form) statements;
}

-- Whether a name has this normal form, relative to the base directory.
abbrev pub is_name_of : List ℕ → Option (List ℕ) → Bool
is_name_of target None = false
is_name_of target (Some name) = bytes_eq name target

abbrev pub facts_since : List ℕ → Option (List ℕ × List Statement) → RecipeFacts
facts_since target None = nothing
facts_since target (Some since) = if is_name_of target (normal None since.0) then facts_in since.1 else nothing

-- The facts of a target, by the statements with its number: the statements after the last `log` line, if that line names the
-- target.
abbrev pub facts_by : List ℕ → List Statement → RecipeFacts
facts_by target statements = facts_since target (since_log statements)

-- The facts of the target with this number and this name, by these lines.
abbrev pub facts_of : ℕ → List ℕ → List (List ℕ) → RecipeFacts
facts_of number target lines = facts_by target (numbered number (statements_of lines))
