-- Rows of what articles say about recipes, as HTML.
use Rattle.std.proofs.Common.{◌≡◌, ℕ, true, false, List, [], ◌∷◌, ◌++◌, Option, None, Some, length, pos, replicate, refl}
use Rattle.std.specs.Char.{encode_utf8}
use Rattle.std.specs.Fmt.{digits}
use Rattle.std.specs.List.{flat_map}
use Rattle.std.specs.Prelude.{bytes_eq, codes}
use Rattle.redo_facts.specs.Facts.{RecipeCommand, RecipeFacts, nothing}
use Rattle.redo_html.specs.Cut.{begins_at}
use Rattle.redo_html.specs.declared.markup.Markup.TheVariants as markup
use Rattle.redo_html.specs.Parts.{Part, part_html}
use Rattle.redo_html.specs.Parts.Part.{MarkupPart, TextPart}
use Rattle.redo_html.specs.Passage.{passage_html}
use Rattle.redo_html.specs.Shown.{is_unprintable, number_text, unprintable_text, notation}
use Rattle.redo_html.specs.Symbols.{first_code_point, first_symbol, is_sequence, code_point_len, sequence_len, sequence_numbers, symbol_len, symbols_after}
use Rattle.redo_logs.specs.declared.log_state.LogState.TheVariants.{Ended}
use Rattle.redo_logs.specs.Logs.{Log}
use Rattle.redo_page.specs.Article.{article_of, article_parts, nothing_parts, output_parts, path_parts}
use Rattle.redo_page.specs.Excerpt.{cut_to, in_tree_parts}
use Rattle.redo_page.specs.Recipe.{collapsed_parts, command_block, command_parts, commands_parts, recipe_at, recipe_parts}
use Rattle.redo_page.specs.Tree.{no_node}

abbrev html : List Part → List ℕ
html parts = flat_map part_html parts

abbrev whole : List ℕ → RecipeCommand
whole text = record { text = text; is_whole = true }

abbrev recipe : Option (List ℕ) → List RecipeCommand → RecipeFacts
recipe directory commands = record { has_log = true; directory = directory; commands = commands; usage = None }

-- Nothing is shown of a recipe of which nothing is known.
nothing_known : recipe_parts nothing ≡ []
unfolding recipe_parts commands_parts
nothing_known = refl

-- The directory, and a command that a shell reads: as they are, on several lines.
known :
    bytes_eq (html (recipe_parts (recipe (Some (codes "d/<e>")) (whole (codes "cc -c \\\n\tx.c && echo \"a\"") ∷ []))))
    (codes "<p class=\"meta\">Directory: <bdi>d/&lt;e&gt;</bdi></p><pre>\ncc -c \\\n\tx.c &amp;&amp; echo \"a\"</pre>")
    ≡ true
unfolding recipe_parts commands_parts command_parts collapsed_parts command_block cut_to symbols_after first_symbol symbol_len is_sequence sequence_len sequence_numbers first_code_point code_point_len is_unprintable notation unprintable_text number_text encode_utf8 digits passage_html
known = refl

-- A command without its directory, and one of which the rest isn't known. Colours of a command are shown as bytes.
in_parts :
    bytes_eq (html (recipe_parts (recipe None (whole [] ∷ record { text = 27 ∷ codes "[31m a"; is_whole = false } ∷ []))))
    (codes "<pre>\n</pre><pre>\n<i>^[</i>[31m a</pre><p class=\"cut\">The rest of this command is left out.</p>")
    ≡ true
unfolding recipe_parts commands_parts command_parts collapsed_parts command_block cut_to symbols_after first_symbol symbol_len is_sequence sequence_len sequence_numbers first_code_point code_point_len is_unprintable notation unprintable_text number_text encode_utf8 digits passage_html
in_parts = refl

-- ---- long commands

-- A command of 1,000 bytes is open.
open_command :
    command_parts (whole (replicate 1000 97)) ≡ MarkupPart markup.Pre ∷ TextPart (replicate 1000 97) ∷ MarkupPart markup.EndPre ∷ []
unfolding command_parts collapsed_parts command_block cut_to
open_command = refl

-- Of one of 1,001 bytes, 160 are shown until it is opened. No character is cut in two.
collapsed_command :
    command_parts (whole (replicate 159 97 ++ 0xC3 ∷ 0xA4 ∷ replicate 840 97))
    ≡ MarkupPart markup.MoreDetails ∷ MarkupPart markup.Summary ∷ MarkupPart markup.Code ∷ TextPart (replicate 159 97)
    ∷ MarkupPart markup.EndCode ∷ TextPart (codes " ...") ∷ MarkupPart markup.EndSummary ∷ MarkupPart markup.Pre
    ∷ TextPart (replicate 159 97 ++ 0xC3 ∷ 0xA4 ∷ replicate 840 97) ∷ MarkupPart markup.EndPre ∷ MarkupPart markup.EndDetails ∷ []
unfolding command_parts collapsed_parts command_block cut_to begins_at symbol_len is_sequence sequence_len code_point_len
collapsed_command = refl

abbrev text_sizes : List Part → List ℕ
text_sizes [] = []
text_sizes (TextPart text ∷ parts) = length text ∷ text_sizes parts
text_sizes (part ∷ parts) = text_sizes parts

-- Of a command, up to 40,000 bytes from its start are shown. No character is cut in two. The sentence that says that its rest is left out
-- has 37 bytes.
long_commands :
    (text_sizes (command_block (whole (replicate 40000 97))) ≡ 40000 ∷ [])
    × (text_sizes (command_block (whole (replicate 39999 97 ++ 0xC3 ∷ 0xA4 ∷ []))) ≡ 39999 ∷ 37 ∷ [])
unfolding command_block cut_to begins_at symbol_len is_sequence sequence_len code_point_len
long_commands = (refl, refl)

-- A command is three parts, six if its rest is left out, and eight more if it is collapsed.
part_counts :
    (length (command_parts (whole (replicate 1000 97))) ≡ 3)
    × (length (command_parts (whole (replicate 1001 97))) ≡ 11)
    × (length (command_block (whole (replicate 40000 97))) ≡ 3)
    × (length (command_block (whole (replicate 40001 97))) ≡ 6)
    × (length (command_parts (whole (replicate 40001 97))) ≡ 14)
unfolding command_parts collapsed_parts command_block cut_to begins_at symbol_len is_sequence sequence_len code_point_len
part_counts = (refl, refl, refl, refl, refl)

-- ---- many commands

abbrev times : ℕ → RecipeCommand → List RecipeCommand
times count command = replicate count command

-- Ten commands are shown; of more, the last ones.
ten_commands :
    bytes_eq (html (commands_parts (whole (codes "a") ∷ times 9 (whole (codes "b")))))
    (codes "<pre>\na</pre>" ++ flat_map (λ text. text) (replicate 9 (codes "<pre>\nb</pre>")))
    ≡ true
unfolding commands_parts command_parts collapsed_parts command_block cut_to symbols_after first_symbol symbol_len is_sequence sequence_len sequence_numbers first_code_point code_point_len is_unprintable notation unprintable_text number_text encode_utf8 digits passage_html
ten_commands = refl

twelve_commands :
    bytes_eq (html (commands_parts (times 3 (whole (codes "a")) ++ times 9 (whole (codes "b")))))
    (codes "<p class=\"cut\">2 more before these</p><pre>\na</pre>" ++ flat_map (λ text. text) (replicate 9 (codes "<pre>\nb</pre>")))
    ≡ true
unfolding commands_parts command_parts collapsed_parts command_block cut_to symbols_after first_symbol symbol_len is_sequence sequence_len sequence_numbers first_code_point code_point_len is_unprintable notation unprintable_text number_text encode_utf8 digits passage_html
twelve_commands = refl

-- ---- articles

abbrev log : List ℕ → Log
log target = record { target = target; entries = []; state = Ended }

abbrev recipes : List RecipeFacts
recipes = recipe (Some (codes "x")) [] ∷ recipe (Some (codes "y")) (whole (codes "c") ∷ []) ∷ []

recipes_are : (recipe_at recipes 0 ≡ recipe (Some (codes "x")) []) × (recipe_at recipes 2 ≡ nothing) × (recipe_at [] 0 ≡ nothing)
recipes_are = (refl, refl, refl)

-- The recipe of the target's own log is between the path and the output.
article_has_recipe :
    bytes_eq (html (article_parts (log (codes "all") ∷ log (codes "b") ∷ []) (record no_node { number = 1; status = Some (pos 2) } ∷ []) recipes 0))
    (codes "<article id=\"f0\"><h3><bdi>b</bdi> <strong class=\"x\">exit 2</strong></h3><p class=\"meta\"><a href=\"#t0\">its place in the tree</a></p><p class=\"meta\">Directory: <bdi>y</bdi></p><pre>\nc</pre><p class=\"quiet\">It printed nothing that was captured.</p></article>")
    ≡ true
unfolding article_parts article_of recipe_parts commands_parts command_parts collapsed_parts command_block cut_to path_parts output_parts nothing_parts in_tree_parts symbols_after first_symbol symbol_len is_sequence sequence_len sequence_numbers first_code_point code_point_len is_unprintable notation unprintable_text number_text encode_utf8 digits passage_html
article_has_recipe = refl
