-- What an article says about the recipe of its target: the directory in which it ran, and its commands.
use Rattle.std.specs.Prelude.{ℕ, ◌-◌, ◌==◌, ◌&&◌, nat_le, not, Bool, List, [], ◌∷◌, ◌++◌, Option, None, Some, codes, drop, length, slice_index_or, if◌then◌else◌}
use Rattle.std.specs.List.{flat_map}
use Rattle.redo_facts.specs.Facts.{RecipeCommand, RecipeFacts, nothing}
use Rattle.redo_html.specs.declared.markup.Markup.TheVariants.{Code, CutParagraph, EndCode, EndDetails, EndParagraph, EndPre, EndSummary, MetaParagraph, MoreDetails, Pre, Summary}
use Rattle.redo_html.specs.Parts.{Part}
use Rattle.redo_html.specs.Parts.Part.{MarkupPart, NumberPart, TextPart}
use Rattle.redo_page.specs.declared.labels.TheConstants.{DIRECTORY, MORE_BEFORE_THESE, REST_LEFT_OUT}
use Rattle.redo_page.specs.Excerpt.{cut_to, max_excerpt_line}
use Rattle.redo_page.specs.Targets.{name_parts, parts_if}

-- What is known of the recipe of the target of the log with this number. Nothing is known of a target past the end of the list.
abbrev pub recipe_at : List RecipeFacts → ℕ → RecipeFacts
recipe_at recipes number = slice_index_or recipes number nothing

abbrev pub ran_in_parts : List ℕ → List Part
ran_in_parts path = MarkupPart MetaParagraph ∷ TextPart DIRECTORY.now ∷ (name_parts path ++ MarkupPart EndParagraph ∷ [])

abbrev pub directory_parts : Option (List ℕ) → List Part
directory_parts None = []
directory_parts (Some path) = ran_in_parts path

-- The maximum number of bytes of a command that are shown.
abbrev pub max_command : ℕ
max_command = 40000

abbrev pub text_block : List ℕ → List Part
text_block text = MarkupPart Pre ∷ TextPart text ∷ MarkupPart EndPre ∷ []

-- What follows a command, unless it is shown to its end.
abbrev pub rest_parts : Bool → List Part
rest_parts is_complete = parts_if (not is_complete) (MarkupPart CutParagraph ∷ TextPart REST_LEFT_OUT.now ∷ MarkupPart EndParagraph ∷ [])

unfoldable pub command_block : RecipeCommand → List Part
command_block command =
    text_block (cut_to max_command command.text) ++ rest_parts (command.is_whole && nat_le (length command.text) max_command)

-- What is shown of a long command until it is opened.
abbrev pub beginning_parts : List ℕ → List Part
beginning_parts text =
    MarkupPart MoreDetails ∷ MarkupPart Summary ∷ MarkupPart Code ∷ TextPart text ∷ MarkupPart EndCode ∷ TextPart (codes " ...")
    ∷ MarkupPart EndSummary ∷ []

unfoldable pub collapsed_parts : RecipeCommand → List Part
collapsed_parts command = beginning_parts (cut_to 160 command.text) ++ (command_block command ++ MarkupPart EndDetails ∷ [])

unfoldable pub command_parts : RecipeCommand → List Part
command_parts command = if nat_le (length command.text) max_excerpt_line then command_block command else collapsed_parts command

-- How many commands there are before those that are shown.
abbrev pub earlier_parts : ℕ → List Part
earlier_parts count =
    parts_if (not (count == 0)) (MarkupPart CutParagraph ∷ NumberPart count ∷ TextPart MORE_BEFORE_THESE.now ∷ MarkupPart EndParagraph ∷ [])

-- The last ten commands of a recipe.
unfoldable pub commands_parts : List RecipeCommand → List Part
commands_parts commands = earlier_parts (length commands - 10) ++ flat_map command_parts (drop (length commands - 10) commands)

unfoldable pub recipe_parts : RecipeFacts → List Part
recipe_parts recipe = directory_parts recipe.directory ++ commands_parts recipe.commands
