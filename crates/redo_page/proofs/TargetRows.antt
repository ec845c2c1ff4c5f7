-- Rows of names, statuses and counts, as the parts that are written.
use Rattle.std.proofs.Common.{◌≡◌, ℕ, true, false, List, [], ◌∷◌, None, Some, pos, negsuc, refl}
use Rattle.std.specs.Prelude.{codes}
use Rattle.redo_line.specs.declared.entry.How.TheVariants.{Made, Waiting, Locked, Unlocked, Unchanged}
use Rattle.redo_html.specs.declared.markup.Markup.{Markup}
use Rattle.redo_html.specs.declared.markup.Markup.TheVariants as markup
use Rattle.redo_html.specs.Parts.{Part}
use Rattle.redo_html.specs.Parts.Part.{MarkupPart, TextPart, NumberPart}
use Rattle.redo_outline.specs.declared.node.Node.{Node}
use Rattle.redo_page.specs.declared.labels.TheConstants.{WARNING, WARNING_BELOW, WARNINGS, WARNINGS_BELOW}
use Rattle.redo_page.specs.Targets.{badge_parts, below_parts, exit_parts, facts_parts, how_parts, lines_parts, linked_parts, name_parts, parts_if, took_parts, warnings_parts}
use Rattle.redo_units.specs.Durations.{duration_words}
use Rattle.redo_page.specs.Tree.{no_node}

-- A middle dot (U+00B7) in UTF-8, and a space.
abbrev fact_dot : List ℕ
fact_dot = 0xC2 ∷ 0xB7 ∷ codes " "

abbrev tag : Markup → Part
tag markup = MarkupPart markup

abbrev words : List ℕ → Part
words text = TextPart text

abbrev number : ℕ → Part
number value = NumberPart value

parts_are : (parts_if true (number 1 ∷ []) ≡ number 1 ∷ []) × (parts_if false (number 1 ∷ []) ≡ [])
parts_are = (refl, refl)

-- ---- names

name_is : name_parts (codes "a") ≡ tag markup.Bdi ∷ words (codes "a") ∷ tag markup.EndBdi ∷ []
name_is = refl

links_are :
    (linked_parts None (codes "a") ≡ tag markup.Bdi ∷ words (codes "a") ∷ tag markup.EndBdi ∷ [])
    × (linked_parts (Some 3) (codes "a")
    ≡ tag (markup.TargetLink 3) ∷ tag markup.Bdi ∷ words (codes "a") ∷ tag markup.EndBdi ∷ tag markup.EndLink ∷ [])
links_are = (refl, refl)

-- ---- statuses

exits_are :
    (exit_parts (pos 2) ≡ words (codes " ") ∷ tag markup.ExitBadge ∷ words (codes "exit ") ∷ words [] ∷ number 2 ∷ tag markup.EndBadge ∷ [])
    × (exit_parts (negsuc 0) ≡ words (codes " ") ∷ tag markup.ExitBadge ∷ words (codes "exit ") ∷ words (codes "-") ∷ number 1
    ∷ tag markup.EndBadge ∷ [])
exits_are = (refl, refl)

badges_are :
    (badge_parts None ≡ words (codes " ") ∷ tag markup.OpenBadge ∷ words (codes "unfinished") ∷ tag markup.EndBadge ∷ [])
    × (badge_parts (Some (pos 0)) ≡ [])
    × (badge_parts (Some (pos 1)) ≡ words (codes " ") ∷ tag markup.ExitBadge ∷ words (codes "exit ") ∷ words [] ∷ number 1
    ∷ tag markup.EndBadge ∷ [])
    × (badge_parts (Some (negsuc 1)) ≡ words (codes " ") ∷ tag markup.ExitBadge ∷ words (codes "exit ") ∷ words (codes "-") ∷ number 2
    ∷ tag markup.EndBadge ∷ [])
badges_are = (refl, refl, refl, refl)

-- ---- counts

lines_are :
    (lines_parts 0 ≡ [])
    × (lines_parts 1 ≡ words (codes " ") ∷ tag markup.Small ∷ words fact_dot ∷ number 1 ∷ words (codes " line") ∷ tag markup.EndSmall ∷ [])
    × (lines_parts 2 ≡ words (codes " ") ∷ tag markup.Small ∷ words fact_dot ∷ number 2 ∷ words (codes " lines") ∷ tag markup.EndSmall ∷ [])
lines_are = (refl, refl, refl)

warnings_are :
    (warnings_parts 0 (codes "a") (codes "b") ≡ [])
    × (warnings_parts 1 (codes "a") (codes "b") ≡ words (codes " ") ∷ tag markup.Small ∷ words fact_dot ∷ tag markup.Emphasis ∷ number 1
    ∷ words (codes "a") ∷ tag markup.EndEmphasis ∷ tag markup.EndSmall ∷ [])
    × (warnings_parts 2 (codes "a") (codes "b") ≡ words (codes " ") ∷ tag markup.Small ∷ words fact_dot ∷ tag markup.Emphasis ∷ number 2
    ∷ words (codes "b") ∷ tag markup.EndEmphasis ∷ tag markup.EndSmall ∷ [])
warnings_are = (refl, refl, refl)

words_for_warnings_are :
    (WARNING.now ≡ codes " warning") × (WARNINGS.now ≡ codes " warnings")
    × (WARNING_BELOW.now ≡ codes " warning below") × (WARNINGS_BELOW.now ≡ codes " warnings below")
words_for_warnings_are = (refl, refl, refl, refl)

below_are :
    (below_parts 0 ≡ []) × (below_parts 1
    ≡ words (codes " ") ∷ tag markup.Small ∷ words fact_dot ∷ number 1 ∷ words (codes " below") ∷ tag markup.EndSmall ∷ [])
below_are = (refl, refl)

took_are :
    (took_parts None ≡ [])
    × (took_parts (Some 1234)
    ≡ words (codes " ") ∷ tag markup.Small ∷ words fact_dot ∷ number 1 ∷ words (codes ".") ∷ number 2 ∷ number 3 ∷ words (codes " s")
    ∷ tag markup.EndSmall ∷ [])
unfolding duration_words
took_are = (refl, refl)

-- It took 61 seconds and printed three lines. Two of them are warnings. Four targets are below it, with one warning.
abbrev node : Node
node = record no_node {
  status = Some (pos 5);
  lines = 3;
  bytes = 9;
  warnings = 2;
  below = 4;
  children = 1;
  others = true;
  warnings_below = 1;
  took = Some 61000;
}

facts_are :
    facts_parts node
    ≡ words (codes " ") ∷ tag markup.ExitBadge ∷ words (codes "exit ") ∷ words [] ∷ number 5 ∷ tag markup.EndBadge
    ∷ words (codes " ") ∷ tag markup.Small ∷ words fact_dot ∷ number 1 ∷ words (codes " min ") ∷ number 0 ∷ number 1 ∷ words (codes " s")
    ∷ tag markup.EndSmall
    ∷ words (codes " ") ∷ tag markup.Small ∷ words fact_dot ∷ number 3 ∷ words (codes " lines") ∷ tag markup.EndSmall
    ∷ words (codes " ") ∷ tag markup.Small ∷ words fact_dot ∷ tag markup.Emphasis ∷ number 2 ∷ words (codes " warnings") ∷ tag markup.EndEmphasis
    ∷ tag markup.EndSmall
    ∷ words (codes " ") ∷ tag markup.Small ∷ words fact_dot ∷ number 4 ∷ words (codes " below") ∷ tag markup.EndSmall
    ∷ words (codes " ") ∷ tag markup.Small ∷ words fact_dot ∷ tag markup.Emphasis ∷ number 1 ∷ words (codes " warning below")
    ∷ tag markup.EndEmphasis ∷ tag markup.EndSmall
    ∷ []
unfolding duration_words
facts_are = refl

-- ---- locks

abbrev done : List ℕ → List Part
done word = words (codes " ") ∷ tag markup.Small ∷ words fact_dot ∷ words word ∷ tag markup.EndSmall ∷ []

hows_are :
    (how_parts false Made ≡ []) × (how_parts true Made ≡ done (codes "made")) × (how_parts true Waiting ≡ done (codes "waiting"))
    × (how_parts true Locked ≡ done (codes "locked")) × (how_parts true Unlocked ≡ done (codes "unlocked"))
    × (how_parts true Unchanged ≡ done (codes "unchanged"))
hows_are = (refl, refl, refl, refl, refl, refl)
