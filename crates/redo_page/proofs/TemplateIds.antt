-- The links of a template, the ids of articles, and the tags of sections in it.
use Rattle.std.proofs.Common.{◌≡◌, ℕ, ◌/◌, Bool, true, false, List, [], ◌∷◌, ◌++◌, Option, None, Some, refl}
use Rattle.std.specs.Prelude.{◌||◌, ◌&&◌, nat_lt, not, take, if◌then◌else◌}
use Rattle.std.specs.List.{flat_map, list_all}
use Rattle.std.proofs.lemmas.Bool.{and_parts, lt-ltb}
use Rattle.redo_outline.specs.declared.node.Node.{Node}
use Rattle.redo_html.specs.declared.markup.Markup.{Markup}
use Rattle.redo_html.specs.declared.markup.Markup.TheVariants.{TargetLink, OutputLink, Article, TargetItem, Details, OpenDetails, Ordered, OrderedFrom, RowHeading}
use Rattle.redo_html.specs.Parts.{Part}
use Rattle.redo_html.specs.Parts.Part.{MarkupPart}
use Rattle.redo_page.specs.declared.scope.Listed.{Listed}
use Rattle.redo_page.specs.declared.scope.Listed.TheVariants as listed
use Rattle.redo_page.specs.declared.scope.Rows.{Rows}
use Rattle.redo_page.specs.declared.template.Around.TheVariants.{If, Unless, Each, EachTarget, EachOf}
use Rattle.redo_page.specs.declared.template.Item.{Item}
use Rattle.redo_page.specs.declared.template.Item.TheVariants as item
use Rattle.redo_page.specs.declared.verdict.Verdict.{Verdict}
use Rattle.redo_page.specs.declared.verdict.Verdict.TheVariants.{Failed, Unfinished, Made}
use Rattle.redo_page.specs.Tree.{is_among}
use Rattle.redo_page.specs.Scope.{View, began_parts, date_parts, holds, max_rows, measure_words, position_view, positions_of, row_name, row_view, rows_of, target_view}
use Rattle.redo_page.specs.Targets.{parts_if}
use Rattle.redo_page.specs.Template.{Block, Template, block_parts, parts_of_item, parts_of_items, nothing, template_parts}
use Rattle.redo_page.specs.Verdict.{body_markup}
use Rattle.redo_page.specs.Words.{word_part}
use Rattle.redo_page.proofs.FailedIds.{AreBelow, all_take, articles_refer, cause_of_node_refers, line_of_node_refers}
use Rattle.redo_page.proofs.Ids.{article_link_refers, same_refer, Bare, Refer, Refers, badge_bare, bare_each, bare_refers, is_reference, is_section, linked_refers, section, then_refer, word_bare}
use Rattle.redo_summary.specs.declared.rank.Rank.{Rank}
use Rattle.redo_summary.specs.Laws.{AreRanksBelow}
use Rattle.redo_timeline.specs.declared.span.Window.{Window}
use Rattle.redo_units.specs.Dates.{date_text_of}

-- Where an item is: outside of loops, in a section with lists of targets or not, or in a loop over targets, the rows of a table, or a list.
pub data Place : Type 0 where
  Outside : Place
  Failing : Place
  InTargets : Place
  InRows : Rows → Place
  InList : Listed → Place

-- Whether a tag begins a row of a table.
abbrev pub is_row : Markup → Bool
is_row RowHeading = true
is_row markup = false

-- Whether a tag begins a list of targets.
abbrev is_list : Markup → Bool
is_list Ordered = true
is_list (OrderedFrom number) = true
is_list markup = false

-- Whether an item has no references, except for tags of sections and of lists outside of loops, and for links to the targets of rows.
abbrev pub only_tag : Place → Markup → Bool
only_tag Outside markup = not (is_reference markup) || is_section markup
only_tag Failing markup = not (is_reference markup) || (is_section markup || is_list markup)
only_tag InTargets markup = not (is_reference markup)
only_tag (InList these) markup = not (is_reference markup)
only_tag (InRows rows) markup = not (is_reference markup) || is_row markup

abbrev only_link : Place → Bool
only_link (InRows rows) = true
only_link (InList listed.Articles) = false
only_link (InList these) = true
only_link place = false

abbrev only_article_link : Place → Bool
only_article_link (InList listed.Articles) = true
only_article_link place = false

abbrev only_cause : Place → Bool
only_cause (InList these) = true
only_cause place = false

abbrev only_failing : Place → Bool
only_failing Failing = true
only_failing place = false

module _ {T B : Type 0} (inner : Place → B → Bool) where
  abbrev pub only_known : Place → Item T B → Bool
  only_known place (item.Tag markup) = only_tag place markup
  only_known place item.Link = only_link place
  only_known place item.ArticleLink = only_article_link place
  only_known place item.Cause = only_cause place
  only_known place item.Articles = only_failing place
  only_known place (item.In (If test) block) = inner place block
  only_known place (item.In (Unless test) block) = inner place block
  only_known place (item.In (Each rows) block) = inner (InRows rows) block
  only_known place (item.In EachTarget block) = inner InTargets block
  only_known place (item.In (EachOf these) block) = only_failing place && inner (InList these) block
  only_known place item = true

abbrev pub none_refer : Place → Unit {0} → Bool
none_refer place block = true

abbrev pub block_only : {B : Type 0} → (Place → B → Bool) → Place → Block B → Bool
block_only inner place block = list_all (only_known inner place) block.now

abbrev pub template_only : Place → Template → Bool
template_only = block_only (block_only (block_only (block_only none_refer)))

-- The tags of sections outside of loops, or the ids of articles. A block without such tags has none under any condition.
abbrev pub some_if : {X : Type 0} → Bool → List X → List X
some_if condition [] = []
some_if condition (x ∷ xs) = if condition then x ∷ xs else []

module _ {T B : Type 0} (inner : B → View → List Part) (view : View) where
  abbrev item_sections : Item T B → List Part
  item_sections (item.Tag markup) = section (MarkupPart markup)
  item_sections (item.In (If test) block) = some_if (holds view test) (inner block view)
  item_sections (item.In (Unless test) block) = some_if (not (holds view test)) (inner block view)
  item_sections item = []

abbrev block_sections : {B : Type 0} → (B → View → List Part) → Block B → View → List Part
block_sections inner block view = flat_map (item_sections inner view) block.now

abbrev pub template_sections : Template → View → List Part
template_sections = block_sections (block_sections (block_sections (block_sections nothing)))

module _ {T B : Type 0} (inner : B → View → List ℕ) (view : View) where
  abbrev item_ids : Item T B → List ℕ
  item_ids item.Articles = positions_of view listed.Articles
  item_ids (item.In (If test) block) = some_if (holds view test) (inner block view)
  item_ids (item.In (Unless test) block) = some_if (not (holds view test)) (inner block view)
  item_ids item = []

abbrev block_ids : {B : Type 0} → (B → View → List ℕ) → Block B → View → List ℕ
block_ids inner block view = flat_map (item_ids inner view) block.now

abbrev no_ids : Unit {0} → View → List ℕ
no_ids block view = []

abbrev pub template_ids : Template → View → List ℕ
template_ids = block_ids (block_ids (block_ids (block_ids no_ids)))

abbrev at : {X : Type 0} → Place → List X → List X
at Outside xs = xs
at Failing xs = xs
at place xs = []

tag_bare : (markup : Markup) → not (is_reference markup) ≡ true → Bare (MarkupPart markup ∷ [])
tag_bare markup is = by (is_reference markup) refl is
  where
    by : (found : Bool) → is_reference markup ≡ found → not found ≡ true → Bare (MarkupPart markup ∷ [])
    by true reference is = absurd (cc)
    by false reference is = rw (reference) refl

pub body_bare : (verdict : Verdict) → Bare (MarkupPart (body_markup verdict) ∷ [])
body_bare Failed = refl
body_bare Unfinished = refl
body_bare Made = refl

date_bare : (date : Option (List ℕ)) → Bare (date_parts date)
date_bare None = refl
date_bare (Some date) = refl

pub began_bare : (window : Option Window) → Bare (began_parts window)
began_bare None = refl
began_bare (Some window) = date_bare (date_text_of (window.began / 1000))

module _ (count : ℕ) (articles : List ℕ) where
  -- Whether a link to the target at a position leads somewhere.
  abbrev pub is_listed : Listed → ℕ → Bool
  is_listed listed.Articles position = is_among articles position
  is_listed these position = nat_lt position count

  abbrev IsRow : Place → View → Type 0
  IsRow (InRows rows) view = nat_lt view.rank.position count ≡ true
  IsRow (InList these) view = is_listed these view.rank.position ≡ true
  IsRow place view = Unit {0}

  -- The rows of tables and the targets of lists have positions of nodes, and targets with articles are among these.
  abbrev pub AreRows : View → Type 0
  AreRows view =
      ((rows : Rows) → AreRanksBelow count (rows_of view rows))
      × ((these : Listed) → list_all (is_listed these) (positions_of view these) ≡ true)
      × AreBelow count (positions_of view listed.Articles)

  -- The references, if only tags of sections and ids outside of loops count.
  abbrev RefersAt : Place → List Part → List ℕ → List Part → Type 0
  RefersAt place parts ids sections = Refers count articles parts [] (at place ids) (at place sections)

  refer_at : (place : Place) {parts : List Part} → Refer count articles parts [] [] → RefersAt place parts [] []
  refer_at Outside refer = refer
  refer_at Failing refer = refer
  refer_at InTargets refer = refer
  refer_at (InRows rows) refer = refer
  refer_at (InList these) refer = refer

  bare_at : (place : Place) (parts : List Part) → Bare parts → RefersAt place parts [] []
  bare_at place parts bare = refer_at place (bare_refers parts bare)

  then_at : (place : Place) {parts others : List Part} (ids more_ids : List ℕ) (sections more : List Part)
      → RefersAt place parts ids sections → RefersAt place others more_ids more
      → RefersAt place (parts ++ others) (ids ++ more_ids) (sections ++ more)
  then_at Outside ids more_ids sections more first last = then_refer first last
  then_at Failing ids more_ids sections more first last = then_refer first last
  then_at InTargets ids more_ids sections more first last = then_refer first last
  then_at (InRows rows) ids more_ids sections more first last = then_refer first last
  then_at (InList these) ids more_ids sections more first last = then_refer first last

  tag_refers : (place : Place) (markup : Markup) → only_tag place markup ≡ true
      → RefersAt place (MarkupPart markup ∷ []) [] (section (MarkupPart markup))
  tag_refers Outside (TargetLink number) is = absurd (cc)
  tag_refers Outside (OutputLink number) is = absurd (cc)
  tag_refers Outside (Article number) is = absurd (cc)
  tag_refers Outside (TargetItem number) is = absurd (cc)
  tag_refers Outside (Details number) is = absurd (cc)
  tag_refers Outside (OpenDetails number) is = absurd (cc)
  tag_refers Outside markup is =
      record { target_ids_are = refl; article_ids_are = refl; target_links_lead = refl; article_links_lead = refl; sections_are = refl }
  tag_refers Failing (TargetLink number) is = absurd (cc)
  tag_refers Failing (OutputLink number) is = absurd (cc)
  tag_refers Failing (Article number) is = absurd (cc)
  tag_refers Failing (TargetItem number) is = absurd (cc)
  tag_refers Failing (Details number) is = absurd (cc)
  tag_refers Failing (OpenDetails number) is = absurd (cc)
  tag_refers Failing markup is =
      record { target_ids_are = refl; article_ids_are = refl; target_links_lead = refl; article_links_lead = refl; sections_are = refl }
  tag_refers InTargets markup is = bare_refers (MarkupPart markup ∷ []) (tag_bare markup is)
  tag_refers (InList these) markup is = bare_refers (MarkupPart markup ∷ []) (tag_bare markup is)
  tag_refers (InRows rows) (TargetLink number) is = absurd (cc)
  tag_refers (InRows rows) (OutputLink number) is = absurd (cc)
  tag_refers (InRows rows) (Article number) is = absurd (cc)
  tag_refers (InRows rows) (TargetItem number) is = absurd (cc)
  tag_refers (InRows rows) (Details number) is = absurd (cc)
  tag_refers (InRows rows) (OpenDetails number) is = absurd (cc)
  tag_refers (InRows rows) RowHeading is =
      record { target_ids_are = refl; article_ids_are = refl; target_links_lead = refl; article_links_lead = refl; sections_are = refl }
  tag_refers (InRows rows) markup is = bare_refers (MarkupPart markup ∷ []) (tag_bare markup is)

  pub record LeadToRows {B : Type 0} (parts : B → View → List Part) (ids : B → View → List ℕ) (sections : B → View → List Part)
      (only : Place → B → Bool) : Type 0 where
    pub refer : (place : Place) (block : B) → only place block ≡ true → (view : View) → IsRow place view → AreRows view
        → RefersAt place (parts block view) (ids block view) (sections block view)

  if_at : (place : Place) (condition : Bool) (parts : List Part) (ids : List ℕ) (sections : List Part) → RefersAt place parts ids sections
      → RefersAt place (parts_if condition parts) (some_if condition ids) (some_if condition sections)
  if_at place true parts [] [] refers = refers
  if_at place true parts [] (part ∷ sections) refers = refers
  if_at place true parts (id ∷ ids) [] refers = refers
  if_at place true parts (id ∷ ids) (part ∷ sections) refers = refers
  if_at place false parts [] [] refers = bare_at place [] refl
  if_at place false parts [] (part ∷ sections) refers = bare_at place [] refl
  if_at place false parts (id ∷ ids) [] refers = bare_at place [] refl
  if_at place false parts (id ∷ ids) (part ∷ sections) refers = bare_at place [] refl

  module _ {B : Type 0} (inner : B → View → List Part) (ids : B → View → List ℕ) (sections : B → View → List Part)
      (only : Place → B → Bool) (inner_refers : LeadToRows inner ids sections only)
      (view : View) (rows_are : AreRows view) where
    each_row : (rows : Rows) (block : B) → only (InRows rows) block ≡ true → (all ranks : List Rank) → AreRanksBelow count ranks
        → Refer count articles (flat_map (λ rank. inner block (row_view view all rank)) ranks) [] []
    each_row rows block is all [] below = bare_refers [] refl
    each_row rows block is all (rank ∷ ranks) below =
        then_refer (inner_refers.refer (InRows rows) block is (row_view view all rank) (lt-ltb rank.position count below.0) rows_are)
        (each_row rows block is all ranks below.1)

    each_target : (block : B) → only InTargets block ≡ true → (nodes : List Node)
        → Refer count articles (flat_map (λ node. inner block (target_view view node)) nodes) [] []
    each_target block is [] = bare_refers [] refl
    each_target block is (node ∷ nodes) =
        then_refer (inner_refers.refer InTargets block is (target_view view node) tt rows_are) (each_target block is nodes)

    each_of : (these : Listed) (block : B) → only (InList these) block ≡ true → (positions : List ℕ)
        → list_all (is_listed these) positions ≡ true
        → Refer count articles (flat_map (λ position. inner block (position_view view position)) positions) [] []
    each_of these block is [] all = bare_refers [] refl
    each_of these block is (position ∷ positions) all =
        let both = and_parts (is_listed these position) (list_all (is_listed these) positions) all in
        then_refer (inner_refers.refer (InList these) block is (position_view view position) both.0 rows_are)
        (each_of these block is positions both.1)

    item_refers : {T : Type 0} (text_of : T → List ℕ) (place : Place) (item : Item T B) → only_known only place item ≡ true
        → IsRow place view
        → RefersAt place (parts_of_item text_of inner view item) (item_ids ids view item) (item_sections sections view item)
    item_refers text_of place (item.Tag markup) is row = tag_refers place markup is
    item_refers text_of place item.Body is row = bare_at place _ (body_bare view.verdict)
    item_refers text_of place item.TabTitle is row = bare_at place _ refl
    item_refers text_of place item.StyleSheet is row = bare_at place _ refl
    item_refers text_of place (item.Text text) is row = bare_at place _ refl
    item_refers text_of place (item.Phrase phrase) is row = bare_at place _ refl
    item_refers text_of place item.Date is row = bare_at place _ (began_bare view.facts.window)
    item_refers text_of place (item.Tile term) is row = bare_at place _ refl
    item_refers text_of place item.EndTile is row = bare_at place _ refl
    item_refers text_of place (item.Number number) is row = bare_at place _ refl
    item_refers text_of place (item.Measure measure) is row = bare_at place _ (bare_each word_part word_bare (measure_words view measure))
    item_refers text_of place item.Name is row = bare_at place _ refl
    item_refers text_of (InRows rows) item.Link is row = linked_refers (Some view.rank.position) (row_name view) row
    item_refers text_of Outside item.Link is row = absurd (cc)
    item_refers text_of InTargets item.Link is row = absurd (cc)
    item_refers text_of Failing item.Link is row = absurd (cc)
    item_refers text_of (InList listed.Articles) item.Link is row = absurd (cc)
    item_refers text_of (InList listed.Others) item.Link is row = linked_refers (Some view.rank.position) (row_name view) row
    item_refers text_of (InList listed.Dependents) item.Link is row = linked_refers (Some view.rank.position) (row_name view) row
    item_refers text_of (InList listed.Unclosed) item.Link is row = linked_refers (Some view.rank.position) (row_name view) row
    item_refers text_of (InList listed.NewlyFailing) item.Link is row = linked_refers (Some view.rank.position) (row_name view) row
    item_refers text_of (InList listed.Fixed) item.Link is row = linked_refers (Some view.rank.position) (row_name view) row
    item_refers text_of (InList listed.Articles) item.ArticleLink is row =
        same_refer {others = MarkupPart (OutputLink view.rank.position) ∷ []} refl (article_link_refers view.rank.position row)
    item_refers text_of (InList listed.Others) item.ArticleLink is row = absurd (cc)
    item_refers text_of (InList listed.Dependents) item.ArticleLink is row = absurd (cc)
    item_refers text_of (InList listed.Unclosed) item.ArticleLink is row = absurd (cc)
    item_refers text_of (InList listed.NewlyFailing) item.ArticleLink is row = absurd (cc)
    item_refers text_of (InList listed.Fixed) item.ArticleLink is row = absurd (cc)
    item_refers text_of Outside item.ArticleLink is row = absurd (cc)
    item_refers text_of Failing item.ArticleLink is row = absurd (cc)
    item_refers text_of InTargets item.ArticleLink is row = absurd (cc)
    item_refers text_of (InRows rows) item.ArticleLink is row = absurd (cc)
    item_refers text_of place item.Cause is row = refer_at place (cause_of_node_refers count articles view.logs view.node)
    item_refers text_of place item.Line is row =
        refer_at place (line_of_node_refers count articles view.logs view.node view.rank.value)
    item_refers text_of Failing item.Articles is row =
        articles_refer count articles view.logs view.nodes view.recipes (positions_of view listed.Articles) rows_are.2
    item_refers text_of Outside item.Articles is row = absurd (cc)
    item_refers text_of InTargets item.Articles is row = absurd (cc)
    item_refers text_of (InRows rows) item.Articles is row = absurd (cc)
    item_refers text_of (InList these) item.Articles is row = absurd (cc)
    item_refers text_of place item.Badge is row = bare_at place _ (badge_bare view.node.status)
    item_refers text_of place item.Meter is row = bare_at place _ refl
    item_refers text_of place (item.In (If test) block) is row =
        if_at place (holds view test) (inner block view) (ids block view) (sections block view)
        (inner_refers.refer place block is view row rows_are)
    item_refers text_of place (item.In (Unless test) block) is row =
        if_at place (not (holds view test)) (inner block view) (ids block view) (sections block view)
        (inner_refers.refer place block is view row rows_are)
    item_refers text_of place (item.In (Each rows) block) is row =
        refer_at place (each_row rows block is (rows_of view rows) (rows_of view rows) (rows_are.0 rows))
    item_refers text_of place (item.In EachTarget block) is row = refer_at place (each_target block is view.nodes)
    item_refers text_of place (item.In (EachOf these) block) is row =
        refer_at place (each_of these block (and_parts (only_failing place) (only (InList these) block) is).1
        (take max_rows (positions_of view these))
        (all_take (is_listed these) max_rows (positions_of view these) (rows_are.1 these)))

    items_refer : {T : Type 0} (text_of : T → List ℕ) (place : Place) (items : List (Item T B))
        → list_all (only_known only place) items ≡ true → IsRow place view
        → RefersAt place (parts_of_items text_of inner view items) (flat_map (item_ids ids view) items)
        (flat_map (item_sections sections view) items)
    items_refer text_of place [] is row = bare_at place [] refl
    items_refer text_of place (item ∷ items) is row =
        let both = and_parts (only_known only place item) (list_all (only_known only place) items) is in
        then_at place (item_ids ids view item) (flat_map (item_ids ids view) items)
        (item_sections sections view item) (flat_map (item_sections sections view) items)
        (item_refers text_of place item both.0 row) (items_refer text_of place items both.1 row)

  block_refers : {B : Type 0} (inner : B → View → List Part) (ids : B → View → List ℕ) (sections : B → View → List Part)
      (only : Place → B → Bool) → LeadToRows inner ids sections only
      → LeadToRows (block_parts inner) (block_ids ids) (block_sections sections) (block_only only)
  block_refers inner ids sections only inner_refers = record {
    refer = λ place block is view row rows_are.
        items_refer inner ids sections only inner_refers view rows_are (λ text. text.now) place block.now is row;
  }

  nothing_refers : LeadToRows nothing no_ids nothing none_refer
  nothing_refers = record { refer = λ place block is view row rows_are. bare_at place [] refl }

  pub template_refers : (place : Place) (template : Template) → template_only place template ≡ true → (view : View) → IsRow place view
      → AreRows view → RefersAt place (template_parts template view) (template_ids template view) (template_sections template view)
  template_refers place template is view row rows_are =
      (block_refers _ _ _ _ (block_refers _ _ _ _ (block_refers _ _ _ _ (block_refers nothing no_ids nothing none_refer
      nothing_refers)))).refer place template is view row rows_are
