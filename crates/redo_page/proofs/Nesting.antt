-- Which elements are open after parts of a page.
use Rattle.std.proofs.Common.{◌≡◌, ℕ, Bool, true, false, List, [], ◌∷◌, ◌++◌, map, refl, sym, ◌∙◌, ap}
use Rattle.std.specs.List.{flat_map}
use Rattle.std.proofs.lemmas.List.{append_assoc, append-nil}
use Rattle.std.proofs.lemmas.Grind.{flat_map-append}
use Rattle.redo_html.specs.Html.{tags_of, nests_in}
use Rattle.redo_html.specs.Html.Token.{Character}
use Rattle.redo_html.specs.Laws.{markup_tag}
use Rattle.redo_html.specs.Parts.{Part}
use Rattle.redo_page.specs.Targets.{parts_if}

pub characters_tags : (text : List ℕ) → tags_of (map Character text) ≡ []
characters_tags [] = refl
characters_tags (byte ∷ text) = characters_tags text

-- With the elements `before` open, parts lead to the elements `after`, the innermost first. Elements around these stay open.
pub record Leads (before : List (List ℕ)) (parts : List Part) (after : List (List ℕ)) : Type 0 where
  pub leads : (around tags : List (List ℕ))
      → nests_in (before ++ around) (flat_map markup_tag parts ++ tags) ≡ nests_in (after ++ around) tags

-- Each element that begins in these parts ends in them.
abbrev pub Nest : List Part → Type 0
Nest parts = Leads [] parts []

pub then_lead : {before middle after : List (List ℕ)} {parts others : List Part} → Leads before parts middle → Leads middle others after
    → Leads before (parts ++ others) after
then_lead {before} {middle} {after} {parts} {others} first last = record {
  leads = λ around tags.
      ap (λ (t : List (List ℕ)). nests_in (before ++ around) (t ++ tags)) (flat_map-append markup_tag parts others)
      ∙ ap (nests_in (before ++ around)) (append_assoc (flat_map markup_tag parts) (flat_map markup_tag others) tags)
      ∙ first.leads around (flat_map markup_tag others ++ tags) ∙ last.leads around tags;
}

-- Parts whose elements end in them, with more elements open around.
pub lead_in : {parts : List Part} (outer : List (List ℕ)) → Nest parts → Leads outer parts outer
lead_in outer nest = record { leads = λ around tags. nest.leads (outer ++ around) tags }

pub lead_around : {before after : List (List ℕ)} {parts : List Part} (outer : List (List ℕ)) → Leads before parts after
    → Leads (before ++ outer) parts (after ++ outer)
lead_around {before} {after} {parts} outer inner = record {
  leads = λ around tags.
      ap (λ (names : List (List ℕ)). nests_in names (flat_map markup_tag parts ++ tags)) (append_assoc before outer around)
      ∙ inner.leads (outer ++ around) tags
      ∙ ap (λ (names : List (List ℕ)). nests_in names tags) (sym (append_assoc after outer around));
}

pub nest_if : (condition : Bool) {parts : List Part} → Nest parts → Nest (parts_if condition parts)
nest_if true nest = nest
nest_if false nest = record { leads = λ around tags. refl }

pub nest_each : {X : Type 0} (f : X → List Part) → ((x : X) → Nest (f x)) → (xs : List X) → Nest (flat_map f xs)
nest_each f each [] = record { leads = λ around tags. refl }
nest_each f each (x ∷ xs) = then_lead (each x) (nest_each f each xs)

-- The tags of parts that are joined, one after the other.
pub ruleset joined = (flat_map-append, append_assoc)
