-- The ids and the links of parts of a page.
use Rattle.std.proofs.Common.{◌≡◌, ℕ, Bool, true, false, List, [], ◌∷◌, ◌++◌, ℤ, Option, None, Some, refl, sym, ◌∙◌, ap}
use Rattle.std.specs.Prelude.{◌==◌, codes, not, nat_lt, if◌then◌else◌}
use Rattle.std.specs.List.{flat_map, list_all}
use Rattle.std.proofs.lemmas.Bool.{and_from}
use Rattle.std.proofs.lemmas.List.{append-nil}
use Rattle.std.proofs.lemmas.List.Folds.{list_all-append}
use Rattle.std.proofs.lemmas.Grind.{flat_map-append}
use Rattle.redo_html.specs.declared.markup.Markup.{Markup}
use Rattle.redo_html.specs.declared.markup.Markup.TheVariants.{FailedSection, NewSection, SummarySection, TimelineSection, TreeSection, FailedLink, NewLink, SummaryLink, TimelineLink, TreeLink, TargetLink, OutputLink, Article, TargetItem, Details, OpenDetails, Ordered, OrderedFrom, RowHeading, Title1, DescriptionList, Small, EndSmall}
use Rattle.redo_html.specs.Chart.{drawing_links}
use Rattle.redo_html.specs.Parts.{Part}
use Rattle.redo_html.specs.Parts.Part.{MarkupPart, LogPart, TextPart, NumberPart, TitlePart, StylePart, ChartPart, MeterPart}
use Rattle.redo_page.specs.declared.labels.TheConstants.{FACT_DOT, WARNING, WARNING_BELOW, WARNINGS, WARNINGS_BELOW}
use Rattle.redo_page.specs.Laws.{target_id, target_link, article_id, article_link}
use Rattle.redo_page.specs.Tree.{is_among}
use Rattle.redo_page.proofs.PartNames.{target_ids, target_links, article_ids, article_links}
use Rattle.redo_line.specs.declared.entry.How.{How}
use Rattle.redo_outline.specs.declared.node.Node.{Node}
use Rattle.redo_outline.specs.Facts.{is_failure}
use Rattle.redo_page.specs.Targets.{name_parts, exit_parts, badge_parts, lines_parts, warnings_parts, below_parts, facts_parts, how_parts, linked_parts, parts_if, took_parts}
use Rattle.redo_page.specs.Words.{word_part, words_parts}
use Rattle.redo_units.specs.Durations.{duration_words}
use Rattle.redo_units.specs.Words.{WordValue}
use Rattle.redo_units.specs.Words.WordValue.{NumberWord, TextWord}

-- Whether a tag begins a section, or leads to one, or begins a heading of the page or a list of terms.
abbrev pub is_section : Markup → Bool
is_section FailedSection = true
is_section NewSection = true
is_section SummarySection = true
is_section TimelineSection = true
is_section TreeSection = true
is_section FailedLink = true
is_section NewLink = true
is_section SummaryLink = true
is_section TimelineLink = true
is_section TreeLink = true
is_section Title1 = true
is_section DescriptionList = true
is_section markup = false

-- Such tags, and charts.
abbrev pub section : Part → List Part
section (MarkupPart markup) = if is_section markup then MarkupPart markup ∷ [] else []
section (ChartPart drawing) = ChartPart drawing ∷ []
section part = []

-- Whether a tag has an id of a target, of an article or of a section, or leads to one, or begins a list of targets or a row of a table.
abbrev pub is_reference : Markup → Bool
is_reference (TargetLink number) = true
is_reference (OutputLink number) = true
is_reference (Article number) = true
is_reference (TargetItem number) = true
is_reference (Details number) = true
is_reference (OpenDetails number) = true
is_reference Ordered = true
is_reference (OrderedFrom number) = true
is_reference RowHeading = true
is_reference markup = is_section markup

-- Such tags, text of logs, and charts.
abbrev pub reference : Part → List Part
reference (MarkupPart markup) = if is_reference markup then MarkupPart markup ∷ [] else []
reference (LogPart style text) = LogPart style text ∷ []
reference (TextPart text) = []
reference (NumberPart number) = []
reference (TitlePart title) = []
reference StylePart = []
reference (ChartPart drawing) = ChartPart drawing ∷ []
reference (MeterPart width) = []

abbrev pub references : List Part → List Part
references parts = flat_map reference parts

-- Items that are found in references are found in all parts.
pub in_references : {X : Type 0} (f : Part → List X) → ((part : Part) → flat_map f (reference part) ≡ f part) → (parts : List Part)
    → flat_map f parts ≡ flat_map f (references parts)
in_references f each [] = refl
in_references f each (part ∷ parts) =
    ap (λ t. t ++ flat_map f parts) (sym (each part)) ∙ ap (λ t. flat_map f (reference part) ++ t) (in_references f each parts)
    ∙ sym (flat_map-append f (reference part) (references parts))

pub target_id_part : (part : Part) → flat_map target_id (reference part) ≡ target_id part
target_id_part (MarkupPart markup) = by markup
  where
    by : (markup : Markup) → flat_map target_id (reference (MarkupPart markup)) ≡ target_id (MarkupPart markup)
    by (TargetLink number) = refl
    by markup = refl
target_id_part part = refl

pub section_part : (part : Part) → flat_map section (reference part) ≡ section part
section_part (MarkupPart markup) = by markup
  where
    by : (markup : Markup) → flat_map section (reference (MarkupPart markup)) ≡ section (MarkupPart markup)
    by (TargetLink number) = refl
    by markup = refl
section_part part = refl

-- The references in parts: the ids of targets and of articles in them, and tags of sections, and charts. Links lead to targets below
-- `count`, and to these articles.
pub record Refers (count : ℕ) (articles : List ℕ) (parts : List Part) (targets ids : List ℕ) (sections : List Part) : Type 0 where
  pub target_ids_are : target_ids parts ≡ targets
  pub article_ids_are : article_ids parts ≡ ids
  pub target_links_lead : list_all (λ number. nat_lt number count) (target_links parts) ≡ true
  pub article_links_lead : list_all (is_among articles) (article_links parts) ≡ true
  pub sections_are : flat_map section parts ≡ sections

-- The references, without tags of sections and without charts.
abbrev pub Refer : ℕ → List ℕ → List Part → List ℕ → List ℕ → Type 0
Refer count articles parts targets ids = Refers count articles parts targets ids []

pub then_refer : {count : ℕ} {articles : List ℕ} {parts others : List Part} {targets ids more_targets more_ids : List ℕ}
    {sections more_sections : List Part}
    → Refers count articles parts targets ids sections → Refers count articles others more_targets more_ids more_sections
    → Refers count articles (parts ++ others) (targets ++ more_targets) (ids ++ more_ids) (sections ++ more_sections)
then_refer {count} {articles} {parts} {others} {targets} {ids} {more_targets} {more_ids} {sections} {more_sections} first last = record {
  sections_are = flat_map-append section parts others ∙ ap (λ t. t ++ flat_map section others) first.sections_are
      ∙ ap (λ t. sections ++ t) last.sections_are;
  target_ids_are = flat_map-append target_id parts others ∙ ap (λ t. t ++ target_ids others) first.target_ids_are
      ∙ ap (λ t. targets ++ t) last.target_ids_are;
  article_ids_are = flat_map-append article_id parts others ∙ ap (λ t. t ++ article_ids others) first.article_ids_are
      ∙ ap (λ t. ids ++ t) last.article_ids_are;
  target_links_lead =
      ap (list_all (λ number. nat_lt number count)) (flat_map-append target_link parts others)
      ∙ list_all-append (λ number. nat_lt number count) (target_links parts) (target_links others)
      ∙ and_from (list_all (λ number. nat_lt number count) (target_links parts))
      (list_all (λ number. nat_lt number count) (target_links others)) first.target_links_lead last.target_links_lead;
  article_links_lead =
      ap (list_all (is_among articles)) (flat_map-append article_link parts others)
      ∙ list_all-append (is_among articles) (article_links parts) (article_links others)
      ∙ and_from (list_all (is_among articles) (article_links parts))
      (list_all (is_among articles) (article_links others)) first.article_links_lead last.article_links_lead;
}

pub target_link_part : (part : Part) → flat_map target_link (reference part) ≡ target_link part
target_link_part (MarkupPart markup) = by markup
  where
    by : (markup : Markup) → flat_map target_link (reference (MarkupPart markup)) ≡ target_link (MarkupPart markup)
    by (TargetLink number) = refl
    by markup = refl
target_link_part (ChartPart drawing) = append-nil (drawing_links drawing)
target_link_part part = refl

article_id_part : (part : Part) → flat_map article_id (reference part) ≡ article_id part
article_id_part (MarkupPart markup) = by markup
  where
    by : (markup : Markup) → flat_map article_id (reference (MarkupPart markup)) ≡ article_id (MarkupPart markup)
    by (TargetLink number) = refl
    by markup = refl
article_id_part part = refl

article_link_part : (part : Part) → flat_map article_link (reference part) ≡ article_link part
article_link_part (MarkupPart markup) = by markup
  where
    by : (markup : Markup) → flat_map article_link (reference (MarkupPart markup)) ≡ article_link (MarkupPart markup)
    by (TargetLink number) = refl
    by markup = refl
article_link_part part = refl

-- Parts with the same references.
pub same_found : {X : Type 0} (f : Part → List X) → ((part : Part) → flat_map f (reference part) ≡ f part) → (parts others : List Part)
    → references parts ≡ references others → flat_map f parts ≡ flat_map f others
same_found f each parts others same = in_references f each parts ∙ ap (flat_map f) same ∙ sym (in_references f each others)

pub same_refer : {count : ℕ} {articles : List ℕ} {parts others : List Part} {targets ids : List ℕ} {sections : List Part}
    → references parts ≡ references others → Refers count articles others targets ids sections
    → Refers count articles parts targets ids sections
same_refer {count} {articles} {parts} {others} {targets} {ids} {sections} same refer = record {
  sections_are = same_found section section_part parts others same ∙ refer.sections_are;
  target_ids_are = same_found target_id target_id_part parts others same ∙ refer.target_ids_are;
  article_ids_are = same_found article_id article_id_part parts others same ∙ refer.article_ids_are;
  target_links_lead = ap (list_all (λ number. nat_lt number count)) (same_found target_link target_link_part parts others same)
      ∙ refer.target_links_lead;
  article_links_lead = ap (list_all (is_among articles)) (same_found article_link article_link_part parts others same)
      ∙ refer.article_links_lead;
}

-- Parts without references.
abbrev pub Bare : List Part → Type 0
Bare parts = references parts ≡ []

pub bare_refers : {count : ℕ} {articles : List ℕ} (parts : List Part) → Bare parts → Refer count articles parts [] []
bare_refers {count} {articles} parts bare =
    same_refer {others = []} bare (record
    { target_ids_are = refl; article_ids_are = refl; target_links_lead = refl; article_links_lead = refl; sections_are = refl })

pub bare_if : (condition : Bool) (parts : List Part) → Bare parts → Bare (parts_if condition parts)
bare_if true parts bare = bare
bare_if false parts bare = refl

pub bare_then : (parts others : List Part) → Bare parts → Bare others → Bare (parts ++ others)
bare_then parts others first last = flat_map-append reference parts others ∙ ap (λ t. t ++ references others) first ∙ last

pub bare_each : {X : Type 0} (f : X → List Part) → ((x : X) → Bare (f x)) → (xs : List X) → Bare (flat_map f xs)
bare_each f each [] = refl
bare_each f each (x ∷ xs) = bare_then (f x) (flat_map f xs) (each x) (bare_each f each xs)

pub refer_if : {count : ℕ} {articles : List ℕ} (condition : Bool) {parts : List Part} → Refer count articles parts [] []
    → Refer count articles (parts_if condition parts) [] []
refer_if true refer = refer
refer_if false refer = bare_refers [] refl

pub refer_each : {X : Type 0} {count : ℕ} {articles : List ℕ} (f : X → List Part) → ((x : X) → Refer count articles (f x) [] [])
    → (xs : List X) → Refer count articles (flat_map f xs) [] []
refer_each f each [] = bare_refers [] refl
refer_each f each (x ∷ xs) = then_refer (each x) (refer_each f each xs)

pub link_refers : {count : ℕ} {articles : List ℕ} (number : ℕ) → nat_lt number count ≡ true
    → Refer count articles (MarkupPart (TargetLink number) ∷ []) [] []
link_refers {count} number leads = record {
  target_ids_are = refl;
  article_ids_are = refl;
  target_links_lead = and_from (nat_lt number count) true leads refl;
  article_links_lead = refl;
  sections_are = refl;
}

pub article_link_refers : {count : ℕ} {articles : List ℕ} (number : ℕ) → is_among articles number ≡ true
    → Refer count articles (MarkupPart (OutputLink number) ∷ []) [] []
article_link_refers {count} {articles} number leads =
    record {
      target_ids_are = refl;
      article_ids_are = refl;
      target_links_lead = refl;
      article_links_lead = and_from (is_among articles number) true leads refl;
      sections_are = refl;
    }

-- ---- names, statuses and counts

pub exit_bare : (status : ℤ) → Bare (exit_parts status)
exit_bare status = refl

pub badge_bare : (status : Option ℤ) → Bare (badge_parts status)
badge_bare None = refl
badge_bare (Some status) = bare_if (is_failure (Some status)) (exit_parts status) refl

lines_bare : (lines : ℕ) → Bare (lines_parts lines)
lines_bare lines = bare_if (not (lines == 0)) _ refl

warnings_bare : (warnings : ℕ) (one many : List ℕ) → Bare (warnings_parts warnings one many)
warnings_bare warnings one many = bare_if (not (warnings == 0)) _ refl

below_bare : (below : ℕ) → Bare (below_parts below)
below_bare below = bare_if (not (below == 0)) _ refl

pub word_bare : (word : WordValue) → Bare (word_part word)
word_bare (NumberWord number) = refl
word_bare (TextWord text) = refl

-- Words between parts without references.
pub words_bare : (before after : List Part) (words : List WordValue) → Bare before → Bare after
    → Bare (before ++ (words_parts words ++ after))
words_bare before after words first last =
    bare_then before (words_parts words ++ after) first (bare_then (words_parts words) after (bare_each word_part word_bare words) last)

pub took_bare : (took : Option ℕ) → Bare (took_parts took)
took_bare None = refl
took_bare (Some ms) = words_bare (TextPart (codes " ") ∷ MarkupPart Small ∷ TextPart FACT_DOT.now ∷ []) (MarkupPart EndSmall ∷ []) (duration_words ms) refl refl

pub facts_bare : (node : Node) → Bare (facts_parts node)
facts_bare node = simp (
  flat_map-append,
  badge_bare node.status,
  took_bare node.took,
  lines_bare node.lines,
  warnings_bare node.warnings WARNING.now WARNINGS.now,
  below_bare node.below,
  warnings_bare node.warnings_below WARNING_BELOW.now WARNINGS_BELOW.now,
)

pub how_bare : (shown : Bool) (how : How) → Bare (how_parts shown how)
how_bare shown how = bare_if shown _ refl

-- A position, if there is one, is below a number.
abbrev pub IsBelow : ℕ → Option ℕ → Type 0
IsBelow count None = Unit {0}
IsBelow count (Some position) = nat_lt position count ≡ true

pub linked_refers : {count : ℕ} {articles : List ℕ} (position : Option ℕ) (name : List ℕ) → IsBelow count position
    → Refer count articles (linked_parts position name) [] []
linked_refers None name below = bare_refers (name_parts name) refl
linked_refers (Some position) name below = same_refer {others = MarkupPart (TargetLink position) ∷ []} refl (link_refers position below)
