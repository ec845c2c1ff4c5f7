-- The parts of an article that show the directory and the commands of a recipe.
use Rattle.std.proofs.Common.{◌≡◌, ℕ, ◌-◌, ◌≤◌, Bool, true, false, List, [], ◌∷◌, ◌++◌, Option, length, drop, refl, sym, ap, subst}
use Rattle.std.specs.Prelude.{◌&&◌, nat_le, take, if◌then◌else◌}
use Rattle.std.specs.List.{AllByRecursion, flat_map}
use Rattle.std.proofs.lemmas.Bool.{le-leb}
use Rattle.redo_facts.specs.Facts.{RecipeCommand, RecipeFacts}
use Rattle.redo_html.specs.Cut.{last_where, may_cut}
use Rattle.redo_html.specs.declared.markup.Markup.TheVariants as markup
use Rattle.redo_html.specs.Parts.{Part}
use Rattle.redo_html.specs.Parts.Part.{MarkupPart, TextPart}
use Rattle.redo_logs.specs.Logs.{Log}
use Rattle.redo_outline.specs.declared.node.Node.{Node}
use Rattle.redo_page.specs.declared.labels.TheConstants.{DIRECTORY, PLACE_IN_TREE}
use Rattle.redo_page.specs.Article.{article_took, max_path, name_of, output_parts, path_parts}
use Rattle.redo_page.specs.Excerpt.{cut_to, in_tree_parts, max_excerpt_line}
use Rattle.redo_page.specs.Laws.{IsPartOf, ShowsRecipe}
use Rattle.redo_page.specs.Recipe.{beginning_parts, collapsed_parts, command_block, command_parts, commands_parts, directory_parts, earlier_parts, max_command, recipe_at, recipe_parts, rest_parts, text_block}
use Rattle.redo_page.specs.Targets.{badge_parts, name_parts}
use Rattle.redo_page.specs.Tree.{node_at}
use Rattle.redo_page.proofs.ElementParts.{article_inside}
use Rattle.redo_page.proofs.PagePartLemmas.{part_earlier, part_later}

whole_text : (text : List ℕ) → length text ≤ max_command → cut_to max_command text ≡ text
unfolding cut_to
whole_text text few =
    ap (λ (b : Bool). if b then text else take (last_where (may_cut text) max_command) text) (le-leb (length text) max_command few)

-- A command shows its bytes.
block_has_text : (command : RecipeCommand) → length command.text ≤ max_command
    → IsPartOf (text_block command.text) (command_block command)
unfolding command_block
block_has_text command few =
    let rest = rest_parts (command.is_whole && nat_le (length command.text) max_command) in
    record {
      before = [];
      after = rest;
      splits = ap (λ (text : List ℕ). text_block text ++ rest) (sym (whole_text command.text few));
    }

collapsed_has_text : (command : RecipeCommand) → IsPartOf (text_block command.text) (command_block command)
    → IsPartOf (text_block command.text) (collapsed_parts command)
unfolding collapsed_parts
collapsed_has_text command part =
    part_later (beginning_parts (cut_to 160 command.text)) (part_earlier (MarkupPart markup.EndDetails ∷ []) part)

command_has_text : (command : RecipeCommand) → length command.text ≤ max_command
    → IsPartOf (text_block command.text) (command_parts command)
unfolding command_parts
command_has_text command few = by (nat_le (length command.text) max_excerpt_line) (block_has_text command few)
  where
    by : (is_open : Bool) → IsPartOf (text_block command.text) (command_block command) → IsPartOf (text_block command.text)
        (if is_open then command_block command else collapsed_parts command)
    by true part = part
    by false part = collapsed_has_text command part

-- Parts with all parts of some commands show their bytes.
commands_have_texts : (commands : List RecipeCommand) (parts : List Part)
    → ((inner : List Part) → IsPartOf inner (flat_map command_parts commands) → IsPartOf inner parts)
    → AllByRecursion (λ (command : RecipeCommand). length command.text ≤ 40000 → IsPartOf (text_block command.text) parts) commands
commands_have_texts [] parts in_parts = tt
commands_have_texts (command ∷ commands) parts in_parts = (
  λ few. in_parts (text_block command.text) (part_earlier (flat_map command_parts commands) (command_has_text command few)),
  commands_have_texts commands parts (λ inner part. in_parts inner (part_later (command_parts command) part)),
)

-- The parts of a recipe show it.
recipe_is_shown : (recipe : RecipeFacts) → ShowsRecipe recipe (recipe_parts recipe)
unfolding recipe_parts commands_parts
recipe_is_shown recipe =
    let earlier = length recipe.commands - 10 in
    record {
      directory = λ path is. part_earlier (commands_parts recipe.commands)
          (subst (λ (found : Option (List ℕ)). IsPartOf (TextPart DIRECTORY.now ∷ name_parts path) (directory_parts found)) (sym is)
          (record {
            before = MarkupPart markup.MetaParagraph ∷ [];
            after = MarkupPart markup.EndParagraph ∷ [];
            splits = refl;
          }));
      commands = commands_have_texts (drop earlier recipe.commands) (recipe_parts recipe)
          (λ inner part. part_later (directory_parts recipe.directory) (part_later (earlier_parts earlier) part));
    }

each_in : (commands : List RecipeCommand) (parts whole : List Part) → ((inner : List Part) → IsPartOf inner parts → IsPartOf inner whole)
    → AllByRecursion (λ (command : RecipeCommand). length command.text ≤ 40000 → IsPartOf (text_block command.text) parts) commands
    → AllByRecursion (λ (command : RecipeCommand). length command.text ≤ 40000 → IsPartOf (text_block command.text) whole) commands
each_in [] parts whole in_whole all = tt
each_in (command ∷ commands) parts whole in_whole all =
    (λ few. in_whole (text_block command.text) (all.0 few), each_in commands parts whole in_whole all.1)

-- What some parts show is shown by parts that have them.
shown_in : {recipe : RecipeFacts} {parts whole : List Part} → ((inner : List Part) → IsPartOf inner parts → IsPartOf inner whole)
    → ShowsRecipe recipe parts → ShowsRecipe recipe whole
shown_in {recipe} {parts} {whole} in_whole shows = record {
  directory = λ path is. in_whole (TextPart DIRECTORY.now ∷ name_parts path) (shows.directory path is);
  commands = each_in (drop (length recipe.commands - 10) recipe.commands) parts whole in_whole shows.commands;
}

-- An article shows the recipe of its target.
pub article_shows_recipe : (logs : List Log) (nodes : List Node) (recipes : List RecipeFacts) (position : ℕ)
    → ShowsRecipe (recipe_at recipes (node_at nodes position).number) (article_inside logs nodes recipes position)
article_shows_recipe logs nodes recipes position =
    let node = node_at nodes position in
    shown_in
    (λ inner part. part_later (MarkupPart markup.Title3 ∷ [])
    (part_later (name_parts (name_of logs node))
    (part_later (badge_parts node.status)
    (part_later (MarkupPart markup.EndTitle3 ∷ MarkupPart markup.MetaParagraph ∷ [])
    (part_later (article_took node.took)
    (part_later (path_parts logs nodes (max_path logs nodes) node.parent)
    (part_later (in_tree_parts position PLACE_IN_TREE.now)
    (part_later (MarkupPart markup.EndParagraph ∷ []) (part_earlier (output_parts logs position node) part)))))))))
    (recipe_is_shown (recipe_at recipes node.number))
