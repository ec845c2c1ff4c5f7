-- The elements of names, statuses and counts nest.
use Rattle.std.proofs.Common.{ℕ, Bool, List, [], ◌∷◌, ◌++◌, ℤ, Option, None, Some, refl}
use Rattle.std.specs.Prelude.{◌==◌, codes, not}
use Rattle.redo_html.specs.declared.markup.Markup.TheVariants.{Small, EndSmall}
use Rattle.redo_html.specs.Parts.{Part}
use Rattle.redo_html.specs.Parts.Part.{MarkupPart, TextPart}
use Rattle.redo_line.specs.declared.entry.How.{How}
use Rattle.redo_outline.specs.declared.node.Node.{Node}
use Rattle.redo_outline.specs.Facts.{is_failure}
use Rattle.redo_page.specs.declared.labels.TheConstants.{FACT_DOT, WARNING, WARNING_BELOW, WARNINGS, WARNINGS_BELOW}
use Rattle.redo_page.specs.Targets.{name_parts, exit_parts, badge_parts, lines_parts, warnings_parts, below_parts, facts_parts, how_parts, linked_parts, took_parts}
use Rattle.redo_page.specs.Words.{word_part, words_parts}
use Rattle.redo_units.specs.Durations.{duration_words}
use Rattle.redo_units.specs.Words.{WordValue}
use Rattle.redo_units.specs.Words.WordValue.{NumberWord, TextWord}
use Rattle.redo_page.proofs.Nesting.{Leads, Nest, joined, lead_in, nest_each, nest_if, then_lead}

pub name_nests : (name : List ℕ) → Nest (name_parts name)
name_nests name = record { leads = λ around tags. refl }

pub exit_nests : (status : ℤ) → Nest (exit_parts status)
exit_nests status = record { leads = λ around tags. refl }

pub badge_nests : (status : Option ℤ) → Nest (badge_parts status)
badge_nests None = record { leads = λ around tags. refl }
badge_nests (Some status) = nest_if (is_failure (Some status)) (exit_nests status)

lines_nest : (lines : ℕ) → Nest (lines_parts lines)
lines_nest lines = nest_if (not (lines == 0)) (record { leads = λ around tags. refl })

warnings_nest : (warnings : ℕ) (one many : List ℕ) → Nest (warnings_parts warnings one many)
warnings_nest warnings one many = nest_if (not (warnings == 0)) (record { leads = λ around tags. refl })

below_nests : (below : ℕ) → Nest (below_parts below)
below_nests below = nest_if (not (below == 0)) (record { leads = λ around tags. refl })

pub word_nests : (word : WordValue) → Nest (word_part word)
word_nests (NumberWord number) = record { leads = λ around tags. refl }
word_nests (TextWord text) = record { leads = λ around tags. refl }

-- Words between tags.
pub words_nest : {inside : List (List ℕ)} (before after : List Part) (words : List WordValue) → Leads [] before inside
    → Leads inside after [] → Nest (before ++ (words_parts words ++ after))
words_nest {inside} before after words first last = then_lead first (then_lead (lead_in inside (nest_each word_part word_nests words)) last)

pub took_nests : (took : Option ℕ) → Nest (took_parts took)
took_nests None = record { leads = λ around tags. refl }
took_nests (Some ms) =
    words_nest {inside = codes "small" ∷ []} (TextPart (codes " ") ∷ MarkupPart Small ∷ TextPart FACT_DOT.now ∷ []) (MarkupPart EndSmall ∷ []) (duration_words ms)
    (record { leads = λ around tags. refl }) (record { leads = λ around tags. refl })

pub facts_nest : (node : Node) → Nest (facts_parts node)
facts_nest node = record {
  leads = λ around tags. simp (
    joined,
    (badge_nests node.status).leads,
    (took_nests node.took).leads,
    (lines_nest node.lines).leads,
    (warnings_nest node.warnings WARNING.now WARNINGS.now).leads,
    (below_nests node.below).leads,
    (warnings_nest node.warnings_below WARNING_BELOW.now WARNINGS_BELOW.now).leads,
  );
}

pub how_nests : (shown : Bool) (how : How) → Nest (how_parts shown how)
how_nests shown how = nest_if shown (record { leads = λ around tags. refl })

pub linked_nests : (position : Option ℕ) (name : List ℕ) → Nest (linked_parts position name)
linked_nests None name = name_nests name
linked_nests (Some position) name = record { leads = λ around tags. refl }
