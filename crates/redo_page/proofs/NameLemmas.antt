-- The names of targets in a page: names in links, and names with facts where logs and articles begin.
use Rattle.std.proofs.Common.{◌≡◌, ℕ, Bool, true, false, List, [], ◌∷◌, ◌++◌, Option, None, Some, refl, sym, ◌∙◌, ap, subst, inl, inr}
use Rattle.std.specs.List.{flat_map, list_all}
use Rattle.std.proofs.lemmas.Bool.{and_parts}
use Rattle.std.proofs.lemmas.List.{append_assoc}
use Rattle.std.proofs.lemmas.List.Folds.{list_all-append}
use Rattle.redo_facts.specs.Facts.{RecipeFacts}
use Rattle.redo_html.specs.declared.markup.Markup.{Markup}
use Rattle.redo_html.specs.declared.markup.Markup.TheVariants as markup
use Rattle.redo_html.specs.Parts.{Part}
use Rattle.redo_html.specs.Parts.Part.{MarkupPart, TextPart}
use Rattle.redo_logs.specs.Logs.{Log}
use Rattle.redo_outline.specs.declared.node.Node.{Node}
use Rattle.redo_page.specs.declared.labels.TheConstants.{IN_ITS_LOG, PLACE_IN_TREE, SHOWN_ABOVE}
use Rattle.redo_page.specs.Laws.{TellsItsTarget, target_name}
use Rattle.redo_page.specs.Targets.{linked_parts, name_parts, parts_if}
use Rattle.redo_timeline.specs.declared.span.Span.{Span}
use Rattle.redo_page.proofs.Ids.{Bare, reference, references}

-- Whether a part is no link to a target or to an article, has no id of one, and begins no list and no row of targets.
abbrev pub is_calm_tag : Markup → Bool
is_calm_tag (markup.TargetLink number) = false
is_calm_tag (markup.OutputLink number) = false
is_calm_tag (markup.Article number) = false
is_calm_tag (markup.TargetItem number) = false
is_calm_tag (markup.Details number) = false
is_calm_tag (markup.OpenDetails number) = false
is_calm_tag markup.Ordered = false
is_calm_tag (markup.OrderedFrom number) = false
is_calm_tag markup.RowHeading = false
is_calm_tag tag = true

abbrev pub is_calm : Part → Bool
is_calm (MarkupPart tag) = is_calm_tag tag
is_calm part = true

-- Something holds of the parts from each place on.
abbrev pub FromEach : (List Part → Type 0) → List Part → Type 0
FromEach Holds [] = Unit {0}
FromEach Holds (part ∷ parts) = Holds (part ∷ parts) × FromEach Holds parts

pub from_here : (Holds : List Part → Type 0) (before : List Part) (part : Part) (after : List Part)
    → FromEach Holds (before ++ (part ∷ after)) → Holds (part ∷ after)
from_here Holds [] part after all = all.0
from_here Holds (other ∷ before) part after all = from_here Holds before part after all.1

-- What is known of recipes: their facts, by the numbers of their logs, and the spans of those that ran no others.
pub record KnownRecipes : Type 0 where
  pub facts : List RecipeFacts
  pub spans : List Span

module _ (recipes : KnownRecipes) (logs : List Log) (nodes : List Node) where
  abbrev pub TellHere : List Part → Type 0
  TellHere (MarkupPart tag ∷ after) = TellsItsTarget logs nodes recipes.facts recipes.spans tag after
  TellHere parts = Unit {0}

  abbrev pub Tell : List Part → Type 0
  Tell parts = FromEach TellHere parts

  -- Parts that tell their targets before any parts.
  pub record Tells (parts : List Part) : Type 0 where
    pub before : (rest : List Part) → Tell rest → Tell (parts ++ rest)

  pub then_tell : {parts others : List Part} → Tells parts → Tells others → Tells (parts ++ others)
  then_tell {parts} {others} first last = record {
    before = λ rest tell. subst Tell (sym (append_assoc parts others rest)) (first.before (others ++ rest) (last.before rest tell));
  }

  pub none_tell : Tells []
  none_tell = record { before = λ rest tell. tell }

  calm_part : (part : Part) (rest : List Part) → is_calm part ≡ true → Tell rest → Tell (part ∷ rest)
  calm_part (MarkupPart tag) rest calm tell = by tag calm
    where
      by : (tag : Markup) → is_calm_tag tag ≡ true → Tell (MarkupPart tag ∷ rest)
      by (markup.TargetLink number) calm = absurd (cc)
      by (markup.OutputLink number) calm = absurd (cc)
      by (markup.Article number) calm = absurd (cc)
      by (markup.TargetItem number) calm = absurd (cc)
      by (markup.Details number) calm = absurd (cc)
      by (markup.OpenDetails number) calm = absurd (cc)
      by markup.Ordered calm = absurd (cc)
      by (markup.OrderedFrom number) calm = absurd (cc)
      by markup.RowHeading calm = absurd (cc)
      by tag calm = (tt, tell)
  calm_part part rest calm tell = (tt, tell)

  -- Parts without links and ids have no name to check.
  pub calm_tell : (parts : List Part) → list_all is_calm parts ≡ true → Tells parts
  calm_tell [] calm = none_tell
  calm_tell (part ∷ parts) calm =
      let both = and_parts (is_calm part) (list_all is_calm parts) calm in
      record { before = λ rest tell. calm_part part (parts ++ rest) both.0 ((calm_tell parts both.1).before rest tell) }

  calm_reference : (part : Part) → list_all is_calm (reference part) ≡ true → is_calm part ≡ true
  calm_reference (MarkupPart tag) calm = by tag calm
    where
      by : (tag : Markup) → list_all is_calm (reference (MarkupPart tag)) ≡ true → is_calm_tag tag ≡ true
      by (markup.TargetLink number) calm = absurd (cc)
      by (markup.OutputLink number) calm = absurd (cc)
      by (markup.Article number) calm = absurd (cc)
      by (markup.TargetItem number) calm = absurd (cc)
      by (markup.Details number) calm = absurd (cc)
      by (markup.OpenDetails number) calm = absurd (cc)
      by markup.Ordered calm = absurd (cc)
      by (markup.OrderedFrom number) calm = absurd (cc)
      by markup.RowHeading calm = absurd (cc)
      by tag calm = refl
  calm_reference part calm = refl

  -- It is enough that no reference is a link or an id.
  pub references_tell : (parts : List Part) → list_all is_calm (references parts) ≡ true → Tells parts
  references_tell [] calm = none_tell
  references_tell (part ∷ parts) calm =
      let both = and_parts (list_all is_calm (reference part)) (list_all is_calm (references parts))
      (sym (list_all-append is_calm (reference part) (references parts)) ∙ calm) in
      record {
        before = λ rest tell. calm_part part (parts ++ rest) (calm_reference part both.0) ((references_tell parts both.1).before rest tell);
      }

  pub bare_tell : (parts : List Part) → Bare parts → Tells parts
  bare_tell parts bare = references_tell parts (ap (list_all is_calm) bare)

  pub tell_if : (condition : Bool) {parts : List Part} → Tells parts → Tells (parts_if condition parts)
  tell_if true tells = tells
  tell_if false tells = none_tell

  pub tell_each : {X : Type 0} (f : X → List Part) → ((x : X) → Tells (f x)) → (xs : List X) → Tells (flat_map f xs)
  tell_each f each [] = none_tell
  tell_each f each (x ∷ xs) = then_tell (each x) (tell_each f each xs)

  -- ---- links

  pub target_link_tells : (position : ℕ)
      → Tells (MarkupPart (markup.TargetLink position) ∷ (name_parts (target_name logs nodes position) ++ MarkupPart markup.EndLink ∷ []))
  target_link_tells position = record { before = λ rest tell. (inl (rest, refl), (tt, (tt, (tt, (tt, tell))))) }

  pub article_link_tells : (position : ℕ)
      → Tells (MarkupPart (markup.OutputLink position) ∷ (name_parts (target_name logs nodes position) ++ MarkupPart markup.EndLink ∷ []))
  article_link_tells position = record { before = λ rest tell. (inl (rest, refl), (tt, (tt, (tt, (tt, tell))))) }

  pub place_link_tells : (position : ℕ)
      → Tells (MarkupPart (markup.TargetLink position) ∷ TextPart PLACE_IN_TREE.now ∷ MarkupPart markup.EndLink ∷ [])
  place_link_tells position = record { before = λ rest tell. (inr (PLACE_IN_TREE.now, refl, (rest, refl)), (tt, (tt, tell))) }

  pub log_link_tells : (position : ℕ)
      → Tells (MarkupPart (markup.TargetLink position) ∷ TextPart IN_ITS_LOG.now ∷ MarkupPart markup.EndLink ∷ [])
  log_link_tells position = record { before = λ rest tell. (inr (IN_ITS_LOG.now, refl, (rest, refl)), (tt, (tt, tell))) }

  pub above_link_tells : (position : ℕ)
      → Tells (MarkupPart (markup.OutputLink position) ∷ TextPart SHOWN_ABOVE.now ∷ MarkupPart markup.EndLink ∷ [])
  above_link_tells position = record { before = λ rest tell. (inr (SHOWN_ABOVE.now, refl, (rest, refl)), (tt, (tt, tell))) }

  -- If a link has a position, its name is the name of the target there.
  abbrev pub IsNameAt : Option ℕ → List ℕ → Type 0
  IsNameAt None name = Unit {0}
  IsNameAt (Some position) name = target_name logs nodes position ≡ name

  pub linked_tells : (position : Option ℕ) (name : List ℕ) → IsNameAt position name → Tells (linked_parts position name)
  linked_tells None name same = bare_tell (name_parts name) refl
  linked_tells (Some position) name same =
      subst (λ (n : List ℕ). Tells (MarkupPart (markup.TargetLink position) ∷ (name_parts n ++ MarkupPart markup.EndLink ∷ []))) same
      (target_link_tells position)
