-- Which elements are open after a template, computed from its tags.
use Rattle.std.proofs.Common.{◌≡◌, ℕ, ◌/◌, Bool, true, false, List, [], ◌∷◌, ◌++◌, Option, None, Some, refl, ◌∙◌, ap, subst}
use Rattle.std.specs.Prelude.{◌==◌, ◌&&◌, bytes_eq, codes, not, take, if◌then◌else◌}
use Rattle.std.specs.List.{flat_map}
use Rattle.redo_html.specs.Html.{after_end_tag, is_void, nests_in, start_name}
use Rattle.redo_html.specs.Laws.{markup_tag}
use Rattle.redo_html.specs.Parts.{Part}
use Rattle.redo_html.specs.Parts.Part.{MarkupPart}
use Rattle.redo_html.specs.Tags.{markup_text}
use Rattle.redo_page.specs.declared.template.Around.{Around}
use Rattle.redo_page.specs.declared.template.Around.TheVariants.{If, Unless, Each, EachTarget, EachOf}
use Rattle.redo_page.specs.declared.template.Item.{Item}
use Rattle.redo_page.specs.declared.template.Item.TheVariants as item
use Rattle.redo_page.specs.declared.scope.Listed.TheVariants as listed
use Rattle.redo_page.specs.declared.verdict.Verdict.{Verdict}
use Rattle.redo_page.specs.declared.verdict.Verdict.TheVariants.{Failed, Unfinished, Made}
use Rattle.redo_page.specs.Article.{article_parts}
use Rattle.redo_page.specs.Scope.{View, began_parts, date_parts, holds, max_rows, measure_words, position_view, positions_of, row_name, row_view, rows_of, target_view}
use Rattle.redo_page.specs.Template.{Block, Template, around_parts, block_parts, parts_of_item, parts_of_items, nothing, template_parts, tile_end, tile_start}
use Rattle.redo_page.specs.Verdict.{body_markup}
use Rattle.redo_page.specs.Words.{word_part}
use Rattle.redo_page.proofs.FailedNesting.{article_nests, cause_of_node_nests, line_of_node_nests}
use Rattle.redo_page.proofs.Nesting.{Leads, Nest, lead_in, nest_each, nest_if, then_lead}
use Rattle.redo_page.proofs.TargetNesting.{badge_nests, linked_nests, name_nests, word_nests}
use Rattle.redo_timeline.specs.declared.span.Window.{Window}
use Rattle.redo_units.specs.Dates.{date_text_of}

-- The names of the open elements, the innermost first, or nothing if an end tag has another name.
abbrev pub Open : Type 0
Open = Option (List (List ℕ))

abbrev then_open : Open → (List (List ℕ) → Open) → Open
then_open None after = None
then_open (Some stack) after = after stack

abbrev after_end : List ℕ → List (List ℕ) → Open
after_end name [] = None
after_end name (inner ∷ outer) = if bytes_eq name inner then Some outer else None

abbrev after_tag : List (List ℕ) → List ℕ → Open
after_tag stack [] = None
after_tag stack (byte ∷ bytes) =
    if byte == 47 then after_end bytes stack
    else if is_void (start_name (byte ∷ bytes)) then Some stack
    else Some (start_name (byte ∷ bytes) ∷ stack)

abbrev after_tags : List (List ℕ) → List (List ℕ) → Open
after_tags stack [] = Some stack
after_tags stack (tag ∷ tags) = then_open (after_tag stack tag) (λ next. after_tags next tags)

-- The fixed tags of an item. The start tag of the body has a class.
abbrev item_tags : {T B : Type 0} → Item T B → List (List ℕ)
item_tags (item.Tag markup) = markup_text markup ∷ []
item_tags item.Body = codes "body" ∷ []
item_tags (item.Tile term) = flat_map markup_tag (tile_start [])
item_tags item.EndTile = flat_map markup_tag tile_end
item_tags item = []

-- The block in an item ends the elements that it begins.
abbrev if_closed : Open → List (List ℕ) → Open
if_closed None stack = None
if_closed (Some []) stack = Some stack
if_closed (Some (name ∷ names)) stack = None

module _ {T B : Type 0} (inner : B → Open) where
  abbrev after_item : List (List ℕ) → Item T B → Open
  after_item stack (item.In around block) = if_closed (inner block) stack
  after_item stack item = after_tags stack (item_tags item)

  abbrev after_items : List (List ℕ) → List (Item T B) → Open
  after_items stack [] = Some stack
  after_items stack (item ∷ items) = then_open (after_item stack item) (λ next. after_items next items)

abbrev pub after_nothing : Unit {0} → Open
after_nothing block = Some []

abbrev pub after_block : {B : Type 0} → (B → Open) → List (List ℕ) → Block B → Open
after_block inner stack block = after_items inner stack block.now

-- The open elements after a template.
abbrev in_template : Block (Block (Block (Unit {0}))) → Open
in_template = after_block (after_block (after_block after_nothing []) []) []

abbrev pub after_template : List (List ℕ) → Template → Open
after_template = after_block in_template

-- ---- the computed elements are open

abbrev stack_of : Open → List (List ℕ)
stack_of None = []
stack_of (Some stack) = stack

end_leads : (name : List ℕ) (stack next around tags : List (List ℕ)) → after_end name stack ≡ Some next
    → after_end_tag name (stack ++ around) (λ outer. nests_in outer tags) ≡ nests_in (next ++ around) tags
end_leads name [] next around tags is = absurd (cc)
end_leads name (inner ∷ outer) next around tags is = by (bytes_eq name inner) is
  where
    by : (same : Bool) → (if same then Some outer else None) ≡ Some next
        → (same && nests_in (outer ++ around) tags) ≡ nests_in (next ++ around) tags
    by true is = ap (λ stack. nests_in (stack_of stack ++ around) tags) is
    by false is = absurd (cc)

tag_leads : (tag : List ℕ) (stack next around tags : List (List ℕ)) → after_tag stack tag ≡ Some next
    → nests_in (stack ++ around) (tag ∷ tags) ≡ nests_in (next ++ around) tags
tag_leads [] stack next around tags is = absurd (cc)
tag_leads (byte ∷ bytes) stack next around tags is = by (byte == 47) (is_void (start_name (byte ∷ bytes))) is
  where
    by : (ends void : Bool)
        → (if ends then after_end bytes stack else if void then Some stack else Some (start_name (byte ∷ bytes) ∷ stack)) ≡ Some next
        → (if ends then after_end_tag bytes (stack ++ around) (λ outer. nests_in outer tags)
        else if void then nests_in (stack ++ around) tags
        else nests_in (start_name (byte ∷ bytes) ∷ (stack ++ around)) tags) ≡ nests_in (next ++ around) tags
    by true void is = end_leads bytes stack next around tags is
    by false true is = ap (λ stack. nests_in (stack_of stack ++ around) tags) is
    by false false is = ap (λ stack. nests_in (stack_of stack ++ around) tags) is

tags_lead : (texts stack next around tags : List (List ℕ)) → after_tags stack texts ≡ Some next
    → nests_in (stack ++ around) (texts ++ tags) ≡ nests_in (next ++ around) tags
tags_lead [] stack next around tags is = ap (λ stack. nests_in (stack_of stack ++ around) tags) is
tags_lead (text ∷ texts) stack next around tags is =
    by (after_tag stack text) refl is (λ middle rest. tags_lead texts middle next around tags rest)
  where
    by : (opened : Open) → after_tag stack text ≡ opened → then_open opened (λ middle. after_tags middle texts) ≡ Some next
        → ((middle : List (List ℕ)) → after_tags middle texts ≡ Some next
        → nests_in (middle ++ around) (texts ++ tags) ≡ nests_in (next ++ around) tags)
        → nests_in (stack ++ around) ((text ∷ texts) ++ tags) ≡ nests_in (next ++ around) tags
    by None first is others = absurd (cc)
    by (Some middle) first is others = tag_leads text stack middle around (texts ++ tags) first ∙ others middle is

stays : {parts : List Part} (stack next : List (List ℕ)) → Nest parts → Some stack ≡ Some next → Leads stack parts next
stays {parts} stack next nests is = subst (λ opened. Leads stack parts (stack_of opened)) is (lead_in stack nests)

closed : (opened : Open) (stack next : List (List ℕ)) → if_closed opened stack ≡ Some next → opened ≡ Some []
closed None stack next is = absurd (cc)
closed (Some []) stack next is = refl
closed (Some (name ∷ names)) stack next is = absurd (cc)

closed_stays : (opened : Open) (stack next : List (List ℕ)) → if_closed opened stack ≡ Some next → Some stack ≡ Some next
closed_stays None stack next is = absurd (cc)
closed_stays (Some []) stack next is = is
closed_stays (Some (name ∷ names)) stack next is = absurd (cc)

pub record Nests {B : Type 0} (parts : B → View → List Part) (opened : B → Open) : Type 0 where
  pub nests : (block : B) → opened block ≡ Some [] → (view : View) → Nest (parts block view)

date_nests : (date : Option (List ℕ)) → Nest (date_parts date)
date_nests None = record { leads = λ around tags. refl }
date_nests (Some date) = record { leads = λ around tags. refl }

began_nests : (window : Option Window) → Nest (began_parts window)
began_nests None = record { leads = λ around tags. refl }
began_nests (Some window) = date_nests (date_text_of (window.began / 1000))

body_leads : (verdict : Verdict) (stack : List (List ℕ)) → Leads stack (MarkupPart (body_markup verdict) ∷ []) (codes "body" ∷ stack)
body_leads Failed stack = record { leads = λ around tags. refl }
body_leads Unfinished stack = record { leads = λ around tags. refl }
body_leads Made stack = record { leads = λ around tags. refl }

module _ {B : Type 0} (inner : B → View → List Part) (opened : B → Open) (inner_nests : Nests inner opened) (view : View) where
  around_nests : (around : Around) (block : B) → opened block ≡ Some [] → Nest (around_parts inner view around block)
  around_nests (If test) block is = nest_if (holds view test) (inner_nests.nests block is view)
  around_nests (Unless test) block is = nest_if (not (holds view test)) (inner_nests.nests block is view)
  around_nests EachTarget block is =
      nest_each (λ node. inner block (target_view view node)) (λ node. inner_nests.nests block is (target_view view node)) view.nodes
  around_nests (Each rows) block is =
      nest_each (λ rank. inner block (row_view view (rows_of view rows) rank))
      (λ rank. inner_nests.nests block is (row_view view (rows_of view rows) rank)) (rows_of view rows)
  around_nests (EachOf these) block is =
      nest_each (λ position. inner block (position_view view position))
      (λ position. inner_nests.nests block is (position_view view position)) (take max_rows (positions_of view these))

  item_leads : {T : Type 0} (text_of : T → List ℕ) (item : Item T B) (stack next : List (List ℕ))
      → after_item opened stack item ≡ Some next → Leads stack (parts_of_item text_of inner view item) next
  item_leads text_of (item.Tag markup) stack next is =
      record { leads = λ around tags. tags_lead (markup_text markup ∷ []) stack next around tags is }
  item_leads text_of (item.Tile term) stack next is =
      record { leads = λ around tags. tags_lead (flat_map markup_tag (tile_start [])) stack next around tags is }
  item_leads text_of item.EndTile stack next is =
      record { leads = λ around tags. tags_lead (flat_map markup_tag tile_end) stack next around tags is }
  item_leads text_of item.Body stack next is =
      subst (λ opened. Leads stack (MarkupPart (body_markup view.verdict) ∷ []) (stack_of opened)) is (body_leads view.verdict stack)
  item_leads text_of (item.Text text) stack next is = stays stack next (record { leads = λ around tags. refl }) is
  item_leads text_of (item.Phrase phrase) stack next is = stays stack next (record { leads = λ around tags. refl }) is
  item_leads text_of item.TabTitle stack next is = stays stack next (record { leads = λ around tags. refl }) is
  item_leads text_of item.StyleSheet stack next is = stays stack next (record { leads = λ around tags. refl }) is
  item_leads text_of item.Date stack next is = stays stack next (began_nests view.facts.window) is
  item_leads text_of item.Name stack next is = stays stack next (name_nests (row_name view)) is
  item_leads text_of (item.Number count) stack next is = stays stack next (record { leads = λ around tags. refl }) is
  item_leads text_of item.Meter stack next is = stays stack next (record { leads = λ around tags. refl }) is
  item_leads text_of (item.Measure measure) stack next is =
      stays stack next (nest_each word_part word_nests (measure_words view measure)) is
  item_leads text_of item.Link stack next is = stays stack next (linked_nests (Some view.rank.position) (row_name view)) is
  item_leads text_of item.ArticleLink stack next is = stays stack next (record { leads = λ around tags. refl }) is
  item_leads text_of item.Badge stack next is = stays stack next (badge_nests view.node.status) is
  item_leads text_of item.Cause stack next is = stays stack next (cause_of_node_nests view.logs view.node) is
  item_leads text_of item.Line stack next is = stays stack next (line_of_node_nests view.logs view.node view.rank.value) is
  item_leads text_of item.Articles stack next is =
      stays stack next (nest_each (article_parts view.logs view.nodes view.recipes) (article_nests view.logs view.nodes view.recipes)
      (positions_of view listed.Articles)) is
  item_leads text_of (item.In around block) stack next is =
      stays stack next (around_nests around block (closed (opened block) stack next is)) (closed_stays (opened block) stack next is)

  items_lead : {T : Type 0} (text_of : T → List ℕ) (items : List (Item T B)) (stack next : List (List ℕ))
      → after_items opened stack items ≡ Some next → Leads stack (parts_of_items text_of inner view items) next
  items_lead text_of [] stack next is = stays stack next (record { leads = λ around tags. refl }) is
  items_lead {T} text_of (item ∷ items) stack next is =
      by (after_item opened stack item) refl is (λ middle rest. items_lead text_of items middle next rest)
    where
      by : (found : Open) → after_item opened stack item ≡ found → then_open found (λ middle. after_items opened middle items) ≡ Some next
          → ((middle : List (List ℕ)) → after_items opened middle items ≡ Some next
          → Leads middle (parts_of_items text_of inner view items) next)
          → Leads stack (parts_of_items text_of inner view (item ∷ items)) next
      by None first is others = absurd (cc)
      by (Some middle) first is others = then_lead (item_leads text_of item stack middle first) (others middle is)

nothing_nests : Nests nothing after_nothing
nothing_nests = record { nests = λ block is view. record { leads = λ around tags. refl } }

block_nests : {B : Type 0} (inner : B → View → List Part) (opened : B → Open) → Nests inner opened
    → Nests (block_parts inner) (after_block opened [])
block_nests inner opened inner_nests =
    record { nests = λ block is view. items_lead inner opened inner_nests view (λ text. text.now) block.now [] [] is }

pub template_leads : (template : Template) (view : View) (stack next : List (List ℕ)) → after_template stack template ≡ Some next
    → Leads stack (template_parts template view) next
template_leads template view stack next is =
    items_lead _ in_template (block_nests _ _ (block_nests _ _ (block_nests nothing after_nothing nothing_nests))) view (λ text. text.now)
    template.now stack next is
