-- What articles say about recipes has no references, and its elements nest.
use Rattle.std.proofs.Common.{ℕ, ◌-◌, Bool, true, false, List, [], ◌∷◌, ◌++◌, Option, None, Some, length, drop, refl}
use Rattle.std.specs.Prelude.{◌==◌, ◌&&◌, codes, nat_le, not, if◌then◌else◌}
use Rattle.std.specs.List.{flat_map}
use Rattle.redo_facts.specs.Facts.{RecipeCommand, RecipeFacts}
use Rattle.redo_html.specs.declared.markup.Markup.TheVariants.{EndDetails}
use Rattle.redo_html.specs.Parts.Part.{MarkupPart}
use Rattle.redo_page.specs.Excerpt.{cut_to, max_excerpt_line}
use Rattle.redo_page.specs.Recipe.{beginning_parts, collapsed_parts, command_block, command_parts, commands_parts, directory_parts, earlier_parts, max_command, recipe_parts, rest_parts, text_block}
use Rattle.redo_page.proofs.Ids.{Bare, bare_each, bare_if, bare_then}
use Rattle.redo_page.proofs.Nesting.{Nest, lead_in, nest_each, nest_if, then_lead}

-- ---- references

directory_bare : (directory : Option (List ℕ)) → Bare (directory_parts directory)
directory_bare None = refl
directory_bare (Some path) = refl

rest_bare : (is_complete : Bool) → Bare (rest_parts is_complete)
rest_bare is_complete = bare_if (not is_complete) _ refl

block_bare : (command : RecipeCommand) → Bare (command_block command)
unfolding command_block
block_bare command =
    let is_complete = command.is_whole && nat_le (length command.text) max_command in
    bare_then (text_block (cut_to max_command command.text)) (rest_parts is_complete) refl (rest_bare is_complete)

collapsed_bare : (command : RecipeCommand) → Bare (collapsed_parts command)
unfolding collapsed_parts
collapsed_bare command =
    bare_then (beginning_parts (cut_to 160 command.text)) (command_block command ++ MarkupPart EndDetails ∷ []) refl
    (bare_then (command_block command) (MarkupPart EndDetails ∷ []) (block_bare command) refl)

command_bare : (command : RecipeCommand) → Bare (command_parts command)
unfolding command_parts
command_bare command = by (nat_le (length command.text) max_excerpt_line)
  where
    by : (is_open : Bool) → Bare (if is_open then command_block command else collapsed_parts command)
    by true = block_bare command
    by false = collapsed_bare command

earlier_bare : (count : ℕ) → Bare (earlier_parts count)
earlier_bare count = bare_if (not (count == 0)) _ refl

commands_bare : (commands : List RecipeCommand) → Bare (commands_parts commands)
unfolding commands_parts
commands_bare commands =
    let earlier = length commands - 10 in
    bare_then (earlier_parts earlier) (flat_map command_parts (drop earlier commands)) (earlier_bare earlier)
    (bare_each command_parts command_bare (drop earlier commands))

pub recipe_bare : (recipe : RecipeFacts) → Bare (recipe_parts recipe)
unfolding recipe_parts
recipe_bare recipe =
    bare_then (directory_parts recipe.directory) (commands_parts recipe.commands) (directory_bare recipe.directory)
    (commands_bare recipe.commands)

-- ---- elements

directory_nests : (directory : Option (List ℕ)) → Nest (directory_parts directory)
directory_nests None = record { leads = λ around tags. refl }
directory_nests (Some path) = record { leads = λ around tags. refl }

rest_nests : (is_complete : Bool) → Nest (rest_parts is_complete)
rest_nests is_complete = nest_if (not is_complete) (record { leads = λ around tags. refl })

block_nests : (command : RecipeCommand) → Nest (command_block command)
unfolding command_block
block_nests command =
    then_lead {middle = []} {parts = text_block (cut_to max_command command.text)} (record { leads = λ around tags. refl })
    (rest_nests (command.is_whole && nat_le (length command.text) max_command))

collapsed_nests : (command : RecipeCommand) → Nest (collapsed_parts command)
unfolding collapsed_parts
collapsed_nests command =
    then_lead {middle = codes "details" ∷ []} {parts = beginning_parts (cut_to 160 command.text)} (record { leads = λ around tags. refl })
    (then_lead {middle = codes "details" ∷ []} {others = MarkupPart EndDetails ∷ []} (lead_in (codes "details" ∷ []) (block_nests command))
    (record { leads = λ around tags. refl }))

command_nests : (command : RecipeCommand) → Nest (command_parts command)
unfolding command_parts
command_nests command = by (nat_le (length command.text) max_excerpt_line)
  where
    by : (is_open : Bool) → Nest (if is_open then command_block command else collapsed_parts command)
    by true = block_nests command
    by false = collapsed_nests command

earlier_nests : (count : ℕ) → Nest (earlier_parts count)
earlier_nests count = nest_if (not (count == 0)) (record { leads = λ around tags. refl })

commands_nest : (commands : List RecipeCommand) → Nest (commands_parts commands)
unfolding commands_parts
commands_nest commands =
    then_lead (earlier_nests (length commands - 10)) (nest_each command_parts command_nests (drop (length commands - 10) commands))

pub recipe_nests : (recipe : RecipeFacts) → Nest (recipe_parts recipe)
unfolding recipe_parts
recipe_nests recipe = then_lead (directory_nests recipe.directory) (commands_nest recipe.commands)
