-- How targets are shown: names, statuses and counts.
use Rattle.std.specs.Prelude.{ℕ, ◌==◌, Bool, not, ℤ, pos, negsuc, nat_abs, List, [], ◌∷◌, ◌++◌, Option, None, Some, codes, if◌then◌else◌}
use Rattle.redo_line.specs.declared.entry.How.{How}
use Rattle.redo_line.specs.declared.entry.How.TheVariants.{Made, Waiting, Locked, Unlocked, Unchanged}
use Rattle.redo_html.specs.declared.markup.Markup.TheVariants.{Bdi, EndBdi, OutputLink, ExitBadge, OpenBadge, EndBadge, Small, EndSmall, Emphasis, EndEmphasis, TargetLink, EndLink}
use Rattle.redo_html.specs.Parts.{Part}
use Rattle.redo_html.specs.Parts.Part.{MarkupPart, TextPart, NumberPart}
use Rattle.redo_outline.specs.declared.node.Node.{Node}
use Rattle.redo_outline.specs.Facts.{is_failure}
use Rattle.redo_page.specs.declared.labels.TheConstants.{BELOW, EXIT, FACT_DOT, LINE, LINES, LOCKED, MADE, NOT_CLOSED, UNCHANGED, UNLOCKED, WAITING, WARNING, WARNING_BELOW, WARNINGS, WARNINGS_BELOW}
use Rattle.redo_page.specs.Words.{words_parts}
use Rattle.redo_units.specs.Durations.{duration_words}

abbrev pub parts_if : Bool → List Part → List Part
parts_if condition parts = if condition then parts else []

abbrev pub name_parts : List ℕ → List Part
name_parts name = MarkupPart Bdi ∷ TextPart name ∷ MarkupPart EndBdi ∷ []

-- A status in decimal is its sign, if it is negative, and its absolute value.
abbrev pub sign : ℤ → List ℕ
sign (pos value) = []
sign (negsuc value) = codes "-"

-- The badge of a target that failed or is unfinished.
abbrev pub exit_parts : ℤ → List Part
exit_parts status = TextPart (codes " ") ∷ MarkupPart ExitBadge ∷ TextPart EXIT.now ∷ TextPart (sign status) ∷ NumberPart (nat_abs status) ∷ MarkupPart EndBadge ∷ []

abbrev pub badge_parts : Option ℤ → List Part
badge_parts None = TextPart (codes " ") ∷ MarkupPart OpenBadge ∷ TextPart NOT_CLOSED.now ∷ MarkupPart EndBadge ∷ []
badge_parts (Some status) = parts_if (is_failure (Some status)) (exit_parts status)

-- A word that depends on a number.
abbrev pub plural : ℕ → List ℕ → List ℕ → List ℕ
plural number one many = if number == 1 then one else many

-- A fact beside a name, with a middle dot (U+00B7) before it.
abbrev pub fact_parts : List Part → List Part
fact_parts parts = TextPart (codes " ") ∷ MarkupPart Small ∷ TextPart FACT_DOT.now ∷ (parts ++ MarkupPart EndSmall ∷ [])

-- The counts beside a name.
abbrev pub lines_parts : ℕ → List Part
lines_parts lines = parts_if (not (lines == 0)) (fact_parts (NumberPart lines ∷ TextPart (plural lines LINE.now LINES.now) ∷ []))

abbrev pub warnings_parts : ℕ → List ℕ → List ℕ → List Part
warnings_parts warnings one many =
    parts_if (not (warnings == 0))
    (fact_parts (MarkupPart Emphasis ∷ NumberPart warnings ∷ TextPart (plural warnings one many) ∷ MarkupPart EndEmphasis ∷ []))

abbrev pub below_parts : ℕ → List Part
below_parts below = parts_if (not (below == 0)) (fact_parts (NumberPart below ∷ TextPart BELOW.now ∷ []))

-- How long a target took, if this is known.
abbrev pub took_parts : Option ℕ → List Part
took_parts None = []
took_parts (Some ms) = fact_parts (words_parts (duration_words ms))

-- The facts that follow the name of a target.
abbrev pub facts_parts : Node → List Part
facts_parts node =
    badge_parts node.status
    ++ (took_parts node.took ++ (lines_parts node.lines ++ (warnings_parts node.warnings WARNING.now WARNINGS.now
    ++ (below_parts node.below ++ warnings_parts node.warnings_below WARNING_BELOW.now WARNINGS_BELOW.now))))

-- What was done about a target's lock, as a word.
abbrev pub how_word : How → List ℕ
how_word Made = MADE.now
how_word Waiting = WAITING.now
how_word Locked = LOCKED.now
how_word Unlocked = UNLOCKED.now
how_word Unchanged = UNCHANGED.now

abbrev pub how_parts : Bool → How → List Part
how_parts shown how = parts_if shown (fact_parts (TextPart (how_word how) ∷ []))

-- A name that leads to the position of a target in the tree, if it is there.
abbrev pub linked_parts : Option ℕ → List ℕ → List Part
linked_parts None name = name_parts name
linked_parts (Some position) name = MarkupPart (TargetLink position) ∷ (name_parts name ++ MarkupPart EndLink ∷ [])

-- A name that leads to the article of the target at a position.
abbrev pub article_link_parts : ℕ → List ℕ → List Part
article_link_parts position name = MarkupPart (OutputLink position) ∷ (name_parts name ++ MarkupPart EndLink ∷ [])
