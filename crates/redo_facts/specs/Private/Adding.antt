-- The facts of targets after one more statement.
use Rattle.std.specs.Prelude.{◌≡◌, ℕ, true, false, List, [], ◌∷◌, ◌++◌, Some, map, if◌then◌else◌}
use Rattle.redo_line.specs.Lines.{line_feed}
use Rattle.redo_index.specs.declared.index_entry.IndexEntry.{IndexEntry}
use Rattle.redo_facts.specs.declared.statement.Form.{Form}
use Rattle.redo_facts.specs.declared.statement.Form.TheVariants.{Log, Directory, Command, Truncated, More, Took}
use Rattle.redo_facts.specs.Facts.{RecipeCommand, RecipeFacts, facts_by, facts_since, is_log, numbered}
use Rattle.redo_facts.specs.Statement.{Statement}

-- The last command goes on with a line feed and this text.
abbrev pub with_more : List ℕ → List RecipeCommand → List RecipeCommand
with_more text [] = []
with_more text (command ∷ []) = record command { text = command.text ++ line_feed ∷ text } ∷ []
with_more text (command ∷ other ∷ others) = command ∷ with_more text (other ∷ others)

-- The facts after one more statement, if it is not a `log` line.
abbrev pub with_fact : Form → List ℕ → RecipeFacts → RecipeFacts
with_fact Log text facts = facts
with_fact Directory text facts = record facts { directory = Some text }
with_fact Command text facts = record facts { commands = facts.commands ++ record { text = text; is_whole = true } ∷ [] }
with_fact Truncated text facts = record facts { commands = facts.commands ++ record { text = text; is_whole = false } ∷ [] }
with_fact More text facts = record facts { commands = with_more text facts.commands }
with_fact (Took usage) text facts = record facts { usage = Some usage }

-- The facts of a target after one more statement with its number.
abbrev pub with_statement : List ℕ → Form → List ℕ → RecipeFacts → RecipeFacts
with_statement target form text facts =
    if is_log form then facts_since target (Some (text, [])) else if facts.has_log then with_fact form text facts else facts

-- The targets of an index have these facts, by these statements.
abbrev pub AreFacts : List IndexEntry → List Statement → List RecipeFacts → Type 0
AreFacts index statements facts = facts ≡ map (λ entry. facts_by entry.target (numbered entry.number statements)) index
