-- Rows of whole pages, as the parts that are written. The model in tests/page gives the same tags and texts.
use Rattle.std.proofs.Common.{Bor, ◌≡◌, ℕ, zero, suc, Bool, true, false, List, [], ◌∷◌, ◌++◌, map, Option, None, Some, pos, length, replicate, refl, sym, ◌∙◌, ap, inl, inr, ◌⊎◌}
use Rattle.std.specs.Fmt.{digits}
use Rattle.std.specs.List.{filter, flat_map, list_all, starts_with}
use Rattle.std.specs.Prelude.{◌==◌, bytes_eq, codes, nat_eq, sum_by, take, if◌then◌else◌}
use Rattle.std.proofs.lemmas.Bool.{and_from, and_parts}
use Rattle.std.proofs.lemmas.List.{append_assoc}
use Rattle.std.proofs.lemmas.List.Folds.{list_all-append}
use Rattle.redo_compare.specs.Baseline.{BaselineValue}
use Rattle.redo_facts.specs.Facts.{RecipeFacts}
use Rattle.redo_line.specs.declared.entry.Entry.{Entry}
use Rattle.redo_line.specs.declared.entry.Entry.TheVariants.{Text, Mention, Closing}
use Rattle.redo_line.specs.declared.entry.How.TheVariants.{Made}
use Rattle.redo_logs.specs.declared.log_state.LogState.TheVariants.{Ended}
use Rattle.redo_logs.specs.Logs.{Log}
use Rattle.redo_view.specs.declared.event.Opening.TheVariants.{OpensHere}
use Rattle.redo_view.specs.Event.Event.{Requested, Mentioned, EntryShown, LogEnds}
use Rattle.redo_outline.specs.Contents.{Contents}
use Rattle.redo_outline.specs.Contents.Contents.{Nothing, Shown, Opened}
use Rattle.redo_outline.specs.declared.node.Node.{Node}
use Rattle.redo_outline.specs.declared.node.RunTimes.{RunTimes}
use Rattle.redo_view.specs.Expansion.{show_log, show_log_within}
use Rattle.redo_html.specs.Html.{is_one_of}
use Rattle.redo_html.specs.Laws.{markup_tag}
use Rattle.redo_html.specs.Passage.{passage_html}
use Rattle.redo_html.specs.Shown.{is_unprintable, number_text, unprintable_text, notation}
use Rattle.redo_html.specs.Style.{plain_style}
use Rattle.redo_html.specs.StyleSheet.{style_sheet}
use Rattle.redo_html.specs.Symbols.{first_code_point, first_symbol, is_sequence, code_point_len, sequence_len, sequence_numbers, symbol_len, symbols_after}
use Rattle.redo_html.specs.declared.markup.Markup.{Markup}
use Rattle.redo_html.specs.declared.markup.Markup.TheVariants as markup
use Rattle.redo_html.specs.Parts.{Part}
use Rattle.redo_html.specs.Parts.Part.{MarkupPart, LogPart, TextPart, NumberPart, TitlePart, StylePart, ChartPart}
use Rattle.redo_page.specs.Excerpt.{in_tree_parts}
use Rattle.redo_page.specs.Article.{article_of, article_parts, cause_of_node, cause_parts, nothing_parts, output_parts, path_parts, whole_parts}
use Rattle.redo_page.specs.Errors.{begins_with}
use Rattle.redo_page.specs.Failed.{failed_parts}
use Rattle.redo_page.specs.Command.{is_safe}
use Rattle.redo_page.specs.Frame.{footer_parts}
use Rattle.redo_page.specs.Recipe.{commands_parts, recipe_parts}
use Rattle.redo_page.specs.Summary.{summary_parts}
use Rattle.redo_page.specs.Targets.{parts_if}
use Rattle.redo_page.specs.Laws.{AreBeginnings, HasSameShape, page_processor, positioned_lines, BeginWith, IsList, cause_at, item_with, line_item, line_list, article_id, article_link, log_text}
use Rattle.redo_summary.specs.Summary.{is_timed}
use Rattle.redo_summary.specs.declared.rank.Rank.{Rank}
use Rattle.redo_page.specs.NewSection.{news_parts}
use Rattle.redo_page.specs.Page.{Request, body_parts, options_of, page_contents, page_events, page_facts, page_html, page_outline, page_parts, page_view, request_of, run_times, top_parts, tree_contents}
use Rattle.redo_timeline.specs.declared.span.Window.{Window}
use Rattle.redo_units.specs.Dates as dates
use Rattle.redo_units.specs.Durations.{duration_words}
use Rattle.redo_units.specs.Sizes.{size_words, tenths_words}
use Rattle.redo_times.specs.declared.times.Times.{Times}

-- A middle dot (U+00B7) in UTF-8, and a space.
abbrev fact_dot : List ℕ
fact_dot = 0xC2 ∷ 0xB7 ∷ codes " "

abbrev tag : Markup → Part
tag markup = MarkupPart markup

abbrev words : List ℕ → Part
words text = TextPart text

abbrev name : List ℕ → List Part → List Part
name text rest = tag markup.Bdi ∷ words text ∷ tag markup.EndBdi ∷ rest

abbrev is_text : Part → Bool
is_text (TextPart text) = true
is_text part = false

abbrev text_bytes : Part → List ℕ
text_bytes (TextPart text) = text
text_bytes part = []

abbrev begins_row : Part → Bool
begins_row (MarkupPart markup.RowHeading) = true
begins_row part = false

abbrev begins_list : Part → Bool
begins_list (MarkupPart markup.Ordered) = true
begins_list part = false

abbrev begins_item : Part → Bool
begins_item (MarkupPart markup.Item) = true
begins_item part = false

abbrev first_text : List Part → List ℕ
first_text [] = []
first_text (TextPart text ∷ parts) = text
first_text (part ∷ parts) = first_text parts

-- The parts before the first one of a kind, and after it.
abbrev before_first : (Part → Bool) → List Part → List Part
before_first is [] = []
before_first is (part ∷ parts) = if is part then [] else part ∷ before_first is parts

abbrev after_first : (Part → Bool) → List Part → List Part
after_first is [] = []
after_first is (part ∷ parts) = if is part then parts else after_first is parts

abbrev begins_tree : Part → Bool
begins_tree (MarkupPart markup.TreeSection) = true
begins_tree part = false

abbrev begins_article : ℕ → Part → Bool
begins_article position (MarkupPart (markup.Article number)) = number == position
begins_article position part = false

abbrev begins_log : ℕ → Part → Bool
begins_log position (MarkupPart (markup.Details number)) = number == position
begins_log position (MarkupPart (markup.OpenDetails number)) = number == position
begins_log position part = false

abbrev is_tag : List ℕ → Part → Bool
is_tag tag part = is_one_of tag (markup_tag part)

-- What the first element of a kind contains, and what follows it.
abbrev inside_first : (Part → Bool) → List ℕ → List Part → List Part
inside_first begins end parts = before_first (is_tag end) (after_first begins parts)

abbrev rest_after : (Part → Bool) → List ℕ → List Part → List Part
rest_after begins end parts = after_first (is_tag end) (after_first begins parts)

abbrev in_tree : List Part → List Part
in_tree parts = inside_first begins_tree (codes "/section") parts

abbrev after_tree : List Part → List Part
after_tree parts = rest_after begins_tree (codes "/section") parts

abbrev in_article : ℕ → List Part → List Part
in_article position parts = inside_first (begins_article position) (codes "/article") parts

abbrev after_article : ℕ → List Part → List Part
after_article position parts = rest_after (begins_article position) (codes "/article") parts

abbrev in_log : ℕ → List Part → List Part
in_log position parts = inside_first (begins_log position) (codes "/details") parts

abbrev after_log : ℕ → List Part → List Part
after_log position parts = rest_after (begins_log position) (codes "/details") parts

take_passes : (p : ℕ → Bool) (size : ℕ) (line : List ℕ) → list_all p line ≡ true → list_all p (take size line) ≡ true
take_passes p zero line all = refl
take_passes p (suc size) [] all = refl
take_passes p (suc size) (byte ∷ line) all =
    let parts = and_parts (p byte) (list_all p line) all in
    and_from (p byte) (list_all p (take size line)) parts.0 (take_passes p size line parts.1)

-- What all bytes of lines pass is passed by the bytes of their beginnings.
pub begins_pass : (p : ℕ → Bool) (lines : List (List ℕ)) (bytes : List ℕ) → AreBeginnings bytes lines → list_all (list_all p) lines ≡ true
    → list_all p bytes ≡ true
begins_pass p [] bytes is all = ap (list_all p) is
begins_pass p (line ∷ lines) bytes (inl later) all =
    begins_pass p lines bytes later (and_parts (list_all p line) (list_all (list_all p) lines) all).1
begins_pass p (line ∷ lines) bytes (inr found) all =
    let parts = and_parts (list_all p line) (list_all (list_all p) lines) all in
    ap (list_all p) found.2 ∙ list_all-append p (take found.0 line) found.1
    ∙ and_from (list_all p (take found.0 line)) (list_all p found.1) (take_passes p found.0 line parts.0)
    (begins_pass p lines found.1 found.3 parts.1)

abbrev log : List ℕ → List Entry → Log
log target entries = record { target = target; entries = entries; state = Ended }

abbrev pub list_item : List Log → List Node → (ℕ → Markup) → Bool → ℕ → List Part
list_item logs nodes link causes position = item_with logs nodes (parts_if causes (cause_at logs nodes position)) link position

-- The first item of a list, or its end.
module _ {T : Type 0} (item_of : T → List Part) (after : List Part) where
  pub first_of : (items : List T) → BeginWith (flat_map item_of items ++ MarkupPart markup.EndOrdered ∷ []) after
      → ((item : T) × BeginWith (item_of item) after) ⊎ BeginWith (MarkupPart markup.EndOrdered ∷ []) after
  first_of [] begins = inr begins
  first_of (item ∷ items) begins =
      let others = flat_map item_of items in
      let end = MarkupPart markup.EndOrdered ∷ [] in
      inl (
        item,
        (
          (others ++ end) ++ begins.0,
          sym (ap (λ (t : List Part). t ++ begins.0) (append_assoc (item_of item) others end)
              ∙ append_assoc (item_of item) (others ++ end) begins.0)
              ∙ begins.1,
        ),
      )

module _ (logs : List Log) (nodes : List Node) (link : ℕ → Markup) (after : List Part) where
  abbrev FirstItem : Type 0
  FirstItem =
      ((causes : Bool) × (position : ℕ) × BeginWith (list_item logs nodes link causes position) after)
      ⊎ BeginWith (MarkupPart markup.EndOrdered ∷ []) after

  pub first_item : IsList logs nodes link after → FirstItem
  first_item (causes, positions, begins) =
      elim (first_of (list_item logs nodes link causes) after positions begins)
      [ inl item ↦ inl (causes, item.0, item.1) | inr end ↦ inr end ]

module _ (logs : List Log) (nodes : List Node) (after : List Part) where
  pub first_line : (lines : List Rank) × BeginWith (line_list logs nodes lines) after
      → ((rank : Rank) × BeginWith (line_item logs nodes rank) after) ⊎ BeginWith (MarkupPart markup.EndOrdered ∷ []) after
  first_line (lines, begins) = first_of (line_item logs nodes) after lines begins

-- ---- the parameters

abbrev request : List ℕ → Bool → Bool → Request
request title unchanged locks = record {
  title = title;
  dir = codes "d";
  unchanged = unchanged;
  debug_locks = locks;
  max_bytes = 0;
  times = [];
  recipes = [];
  baseline = None;
}

abbrev at : {A : Type 0} → List A → Bor (List A)
at items = record { ref_ptr = (0, 0); now = items }

-- The times of a target that hasn't ended.
abbrev begun : Times
begun = record { began = Some 7; ended = None; ran_others = false }

abbrev known : RecipeFacts
known = record { has_log = true; directory = Some (codes "x"); commands = []; usage = None }

abbrev earlier : BaselineValue
earlier = record { logs = log (codes "a") [] ∷ []; nodes = [] }

requests_are :
    (request_of (record {
      title = at (codes "t");
      dir = at (codes "d");
      unchanged = true;
      debug_locks = false;
      max_bytes = 0;
      times = at [];
      recipes = at [];
      baseline = None;
    }) ≡ request (codes "t") true false)
    × (request_of (record {
      title = at [];
      dir = at (codes "d");
      unchanged = false;
      debug_locks = true;
      max_bytes = 5;
      times = at (begun ∷ []);
      recipes = at (known ∷ []);
      baseline = Some (record { ref_ptr = (0, 0); now = earlier });
    })
    ≡ record (request [] false true) { max_bytes = 5; times = begun ∷ []; recipes = known ∷ []; baseline = Some earlier })
requests_are = (refl, refl)

-- What is known of recipes reaches the page.
recipes_are : (page_view (record (request [] false false) { recipes = known ∷ [] }) [] []).recipes ≡ known ∷ []
recipes_are = refl

options_are :
    (options_of (request [] true false)
    ≡ record { recursive = true; unchanged = true; details = true; debug_locks = false; debug_pids = false })
    × (options_of (request [] false true)
    ≡ record { recursive = true; unchanged = false; details = true; debug_locks = true; debug_pids = false })
options_are = (refl, refl)

-- ---- the contents

abbrev made : List Log
made = log (codes "a") (Text (codes "x") ∷ Mention 9 Made (codes "b") ∷ Closing 9 (pos 0) ∷ []) ∷ log (codes "b") (Closing 9 (pos 0) ∷ [])
    ∷ log (codes "c") [] ∷ []

-- The logs of mentioned targets, and all text lines.
events_are :
    page_events (request [] false false) made (codes "a" ∷ [])
    ≡ Requested (codes "a") (OpensHere 0) ∷ EntryShown 1 (Text (codes "x")) ∷ Mentioned 1 9 Made (codes "b") (OpensHere 1)
    ∷ EntryShown 2 (Closing 9 (pos 0)) ∷ LogEnds 2
    ∷ EntryShown 1 (Closing 9 (pos 0)) ∷ LogEnds 1 ∷ []
unfolding show_log show_log_within
events_are = refl

outline_is :
    page_outline (request [] false false) made (codes "a" ∷ [])
    ≡ record {
      number = 0;
      parent = None;
      status = Some (pos 0);
      lines = 1;
      bytes = 2;
      warnings = 0;
      below = 1;
      children = 1;
      others = true;
      warnings_below = 0;
      fails_below = false;
      silent = 0;
      took = None;
      ended = None;
    }
    ∷ record {
      number = 1;
      parent = Some 0;
      status = Some (pos 0);
      lines = 0;
      bytes = 0;
      warnings = 0;
      below = 0;
      children = 0;
      others = false;
      warnings_below = 0;
      fails_below = false;
      silent = 1;
      took = None;
      ended = None;
    }
    ∷ []
unfolding show_log show_log_within
outline_is = refl

-- ---- times

abbrev ran : ℕ → ℕ → Times
ran began ended = record { began = Some began; ended = Some ended; ran_others = false }

abbrev run : Option ℕ → Option ℕ → RunTimes
run took ended = record { took = took; ended = ended }

-- Both times of a target are needed for how long it took.
run_times_are :
    map run_times (ran 1000 5000 ∷ begun ∷ record { began = None; ended = Some 8; ran_others = false } ∷ ran 7 7 ∷ [])
    ≡ run (Some 4000) (Some 5000) ∷ run None None ∷ run None (Some 8) ∷ run (Some 0) (Some 7) ∷ []
run_times_are = refl

-- A target that ran another one. Nothing is known of the third one, which isn't shown.
abbrev timed : Request
timed = record (request [] false false) {
  times = record (ran 1795829211000 1795829213500) { ran_others = true } ∷ ran 1795829211200 1795829213000 ∷ [];
}

-- How long each target took, and when it ended, is in the outline.
abbrev node_times : Node → RunTimes
node_times node = run node.took node.ended

timed_outline_is :
    (map node_times (page_outline timed made (codes "a" ∷ []))
    ≡ run (Some 2500) (Some 1795829213500) ∷ run (Some 1800) (Some 1795829213000) ∷ [])
    × (map node_times (page_outline (record timed { times = begun ∷ ran 3 9 ∷ [] }) made (codes "a" ∷ []))
    ≡ run None None ∷ run (Some 6) (Some 9) ∷ [])
unfolding show_log show_log_within
timed_outline_is = (refl, refl)

abbrev window : Window
window = record { began = 1795829211000; width = 2500 }

facts_are :
    page_facts timed made (codes "a" ∷ []) ≡ record {
      window = Some window;
      took = 2500;
      callers = record { began = 1795829211000; position = 0; ended = 1795829213500; failed = false } ∷ [];
      recipes = record { began = 1795829211200; position = 1; ended = 1795829213000; failed = false } ∷ [];
      marks = [];
      sum = 1800;
      most = 1;
      warnings = 0;
      bytes = 2;
      longest = record { value = 1800; position = 1 } ∷ [];
      alone = record { value = 1800; position = 1 } ∷ [];
      warned = [];
    }
unfolding show_log show_log_within
facts_are = refl

-- Nine targets that ran, and one that only began. Nothing is known of the one that mentions them.
abbrev crowd_names : List (List ℕ)
crowd_names = map (λ letter. letter ∷ []) (codes "bcdefghijk")

abbrev crowd : List Log
crowd = log (codes "a") (map (λ name. Mention 9 Made name) crowd_names) ∷ map (λ name. log name []) crowd_names

abbrev crowded : Request
crowded =
    let all : List Times = replicate 9 (ran 1795829211000 1795829213500) ++ record begun { began = Some 1795829212000 } ∷ [] in
    record timed { times = record begun { began = None } ∷ all }

crowd_facts_are :
    ((page_facts crowded crowd (codes "a" ∷ [])).window ≡ Some window)
    × ((page_facts crowded crowd (codes "a" ∷ [])).marks
    ≡ record { began = 1795829212000; position = 10; ended = 1795829212000; failed = false } ∷ [])
    × (is_timed (page_facts crowded crowd (codes "a" ∷ [])) ≡ true)
unfolding show_log show_log_within
crowd_facts_are = (refl, refl, refl)

-- Two pages have one shape if the bytes of a line differ.
abbrev one_line : List ℕ → List Log
one_line line = log (codes "a") (Text line ∷ []) ∷ []

same_shape :
    HasSameShape (request [] false false) (one_line (codes "x")) (codes "a" ∷ []) (λ target. target) (request [] false false)
    (one_line (codes "y")) (codes "a" ∷ [])
unfolding show_log show_log_within
same_shape = record { options = refl; numbers = λ target. refl; outline = refl; contents = refl }

abbrev used : ℕ → ℕ → ℕ → RecipeFacts
used user system peak = record known { usage = Some (record { user_ms = user; system_ms = system; peak_kb = peak }) }

abbrev with_usage : Request
with_usage = record timed { recipes = used 9 9 9000 ∷ used 30 5 2000 ∷ [] }

-- The first target ran the second one, so its usage includes the usage of the second one.
usage_is :
    (page_processor with_usage made (codes "a" ∷ []) ≡ Some 35)
    × ((page_view with_usage made (codes "a" ∷ [])).usage ≡ record { processor = Some 35; memory = record { value = 2000; position = 1 } ∷ [] })
    × (page_processor timed made (codes "a" ∷ []) ≡ None)
unfolding show_log show_log_within
usage_is = (refl, refl, refl)

-- ---- contents

-- Five lines of 1,001 bytes, with their line feeds.
abbrev long : List Log
long = log (codes "a") (replicate 5 (Text (replicate 1000 120))) ∷ []

abbrev limited : ℕ → Request
limited bytes = record (request [] false false) { max_bytes = bytes }

abbrev line_count : Contents → ℕ
line_count contents = length (positioned_lines None 0 contents)

-- Without a limit, or within it, all lines are shown. Otherwise, the first line ends in the first 1,024 bytes, and three lines begin in the
-- last 3,072.
contents_are :
    (line_count (page_contents (limited 0) long (codes "a" ∷ [])) ≡ 5)
    × (line_count (page_contents (limited 5005) long (codes "a" ∷ [])) ≡ 5)
    × (line_count (page_contents (limited 4096) long (codes "a" ∷ [])) ≡ 4)
    × (line_count (page_contents (limited 1) long (codes "a" ∷ [])) ≡ 4)
    × (line_count (tree_contents long (options_of (limited 1)) 0 (codes "a" ∷ []) (page_outline (limited 1) long (codes "a" ∷ []))) ≡ 5)
unfolding show_log show_log_within
contents_are = (refl, refl, refl, refl, refl)

-- The tree shows the requested targets, with the text lines of all shown logs.
made_contents :
    page_contents (request [] false false) made (codes "a" ∷ [])
    ≡ Opened (Requested (codes "a") (OpensHere 0)) 0
    (Shown (EntryShown 1 (Text (codes "x")))
    (Opened (Mentioned 1 9 Made (codes "b") (OpensHere 1)) 1 (Shown (EntryShown 2 (Closing 9 (pos 0))) Nothing)
    (Shown (EntryShown 1 (Closing 9 (pos 0))) Nothing))) Nothing
unfolding show_log show_log_within
made_contents = refl

-- ---- pages

abbrev head : List ℕ → Markup → List Part → List Part
head title body rest =
    tag markup.Doctype ∷ tag markup.Html ∷ tag markup.Head ∷ tag markup.Charset ∷ tag markup.Viewport ∷ tag markup.ColorScheme
    ∷ tag markup.Referrer ∷ tag markup.Policy ∷ TitlePart title ∷ StylePart
    ∷ tag markup.EndHead ∷ tag body ∷ rest

abbrev item : Markup → List ℕ → List Part → List Part
item link text rest = tag markup.Item ∷ tag link ∷ words text ∷ tag markup.EndLink ∷ tag markup.EndItem ∷ rest

abbrev tree : List Part → List Part
tree rest =
    tag markup.TreeSection ∷ tag markup.TreeHeading ∷ words (codes "All logs") ∷ tag markup.EndHeading ∷ tag markup.QuietParagraph
    ∷ words (codes "Each log is shown where its target is first mentioned. Logs of targets that failed are open.") ∷ tag markup.EndParagraph
    ∷ tag markup.Tree ∷ rest

abbrev end : List ℕ → List Part
end command =
    tag markup.Code ∷ words (codes "d") ∷ tag markup.EndCode ∷ words (codes ". As one text: ") ∷ tag markup.Code ∷ words command
    ∷ tag markup.EndCode ∷ tag markup.EndParagraph
    ∷ tag markup.EndFooter ∷ tag markup.EndBody ∷ tag markup.EndHtml ∷ words (codes "\n") ∷ []

abbrev footer : List Part → List Part
footer rest =
    tag markup.EndUnordered ∷ tag markup.EndSection ∷ tag markup.EndMain ∷ tag markup.Footer ∷ tag markup.Paragraph
    ∷ words (codes "Made by ") ∷ tag markup.Code ∷ words (codes "redo-log-html") ∷ tag markup.EndCode ∷ words (codes " of ") ∷ rest

abbrev tile : List ℕ → List Part → List Part
tile term rest = tag markup.Div ∷ tag markup.Term ∷ words term ∷ tag markup.EndTerm ∷ tag markup.Description ∷ rest

abbrev tile_end : List Part → List Part
tile_end rest = tag markup.EndDescription ∷ tag markup.EndDiv ∷ rest

-- The summary of a page without times and warnings.
abbrev summary : ℕ → ℕ → ℕ → List Part → List Part
summary targets failures bytes rest =
    tag markup.SummarySection ∷ tag markup.SummaryHeading ∷ words (codes "Summary") ∷ tag markup.EndHeading ∷ tag markup.DescriptionList
    ∷ tile (codes "Targets") (NumberPart targets
    ∷ tile_end (tile (codes "Failed") (NumberPart failures ∷ tile_end (tile (codes "Lines with warning:") (NumberPart 0 ∷ tile_end
    (tile (codes "Logs") (NumberPart bytes ∷ words (codes " bytes") ∷ words [] ∷ words [] ∷ tile_end
    (tag markup.EndDescriptionList ∷ tag markup.QuietParagraph
    ∷ words (codes "There is no timeline: the logs do not say when the targets ran.") ∷ tag markup.EndParagraph
    ∷ tag markup.EndSection ∷ rest))))))))

-- A build of two targets, with a title. `C2 B7` is a middle dot.
made_page :
    page_parts (request (codes "t") false false) made (codes "a" ∷ [])
    ≡ head (0xE2 ∷ 0x9C ∷ 0x93 ∷ (codes " t " ++ 0xC2 ∷ 0xB7 ∷ codes " 2 targets made, none failed")) markup.BodyGood
    (tag markup.Header ∷ tag markup.Title1 ∷ tag markup.Sign ∷ words (0xE2 ∷ 0x9C ∷ 0x93 ∷ []) ∷ tag markup.EndSign ∷ words (codes " ")
    ∷ words (codes "2 targets made, none failed") ∷ tag markup.EndTitle1
    ∷ tag markup.Paragraph ∷ words (codes "t") ∷ tag markup.EndParagraph ∷ tag markup.Paragraph ∷ name (codes "a") (tag markup.EndParagraph
    ∷ tag markup.EndHeader ∷ tag markup.Nav ∷ tag markup.Unordered
    ∷ item markup.SummaryLink (codes "Summary")
    (item markup.TreeLink (codes "All logs") (tag markup.EndUnordered ∷ tag markup.EndNav ∷ tag markup.Main
    ∷ summary 2 0 2 (tree (tag markup.Item ∷ tag (markup.OpenDetails 0) ∷ tag markup.Summary ∷ name (codes "a")
    (words (codes " ") ∷ tag markup.Small ∷ words fact_dot ∷ NumberPart 1 ∷ words (codes " line") ∷ tag markup.EndSmall ∷ words (codes " ")
    ∷ tag markup.Small ∷ words fact_dot ∷ NumberPart 1 ∷ words (codes " below") ∷ tag markup.EndSmall
    ∷ tag markup.EndSummary ∷ tag markup.Unordered ∷ tag markup.Item ∷ tag markup.Pre ∷ LogPart plain_style (codes "x\n")
    ∷ tag markup.EndPre ∷ tag markup.EndItem
    ∷ tag (markup.TargetItem 1) ∷ name (codes "b")
    (tag markup.EndItem ∷ tag markup.EndUnordered ∷ tag markup.EndDetails ∷ tag markup.EndItem
    ∷ footer (NumberPart 2 ∷ words (codes " logs in ") ∷ end (codes "redo-log -r --dir=d a"))))))))))
unfolding page_parts top_parts summary_parts size_words footer_parts failed_parts news_parts is_safe number_text digits show_log show_log_within symbols_after first_symbol symbol_len is_sequence first_code_point code_point_len is_unprintable
made_page = refl

abbrev badge : List Part → List Part
badge rest = words (codes " ") ∷ tag markup.ExitBadge ∷ words (codes "exit ") ∷ words [] ∷ NumberPart 2 ∷ tag markup.EndBadge ∷ rest

abbrev failed : List Log
failed = log (codes "a") (Text (codes "x") ∷ Closing 9 (pos 2) ∷ []) ∷ []

-- A target that failed, without a title, with what was done about locks, and with unchanged targets.
failed_page :
    page_parts (request [] true true) failed (codes "a" ∷ [])
    ≡ head (0xE2 ∷ 0x9C ∷ 0x97 ∷ codes " 1 of 1 target failed") markup.BodyBad
    (tag markup.Header ∷ tag markup.Title1 ∷ tag markup.Sign ∷ words (0xE2 ∷ 0x9C ∷ 0x97 ∷ []) ∷ tag markup.EndSign ∷ words (codes " ")
    ∷ words (codes "1 of 1 target failed") ∷ tag markup.EndTitle1
    ∷ tag markup.Paragraph ∷ name (codes "a") (badge (tag markup.EndParagraph
    ∷ tag markup.EndHeader ∷ tag markup.Nav ∷ tag markup.Unordered
    ∷ item markup.FailedLink (codes "What failed")
    (item markup.SummaryLink (codes "Summary")
    (item markup.TreeLink (codes "All logs") (tag markup.EndUnordered ∷ tag markup.EndNav ∷ tag markup.Main
    ∷ tag markup.FailedSection ∷ tag markup.FailedHeading ∷ words (codes "What failed") ∷ tag markup.EndHeading
    ∷ tag (markup.Article 0) ∷ tag markup.Title3
    ∷ name (codes "a") (badge (tag markup.EndTitle3 ∷ tag markup.MetaParagraph ∷ tag (markup.TargetLink 0)
    ∷ words (codes "its place in the tree") ∷ tag markup.EndLink ∷ tag markup.EndParagraph
    ∷ tag markup.Pre ∷ LogPart plain_style (codes "x\n") ∷ tag markup.EndPre ∷ tag markup.EndArticle ∷ tag markup.EndSection
    ∷ summary 1 1 2 (tree (tag markup.Item ∷ tag (markup.OpenDetails 0) ∷ tag markup.Summary ∷ name (codes "a") (badge
    (words (codes " ") ∷ tag markup.Small ∷ words fact_dot ∷ NumberPart 1 ∷ words (codes " line") ∷ tag markup.EndSmall ∷ tag markup.EndSummary
    ∷ tag markup.Unordered
    ∷ tag markup.NoteItem ∷ tag (markup.OutputLink 0) ∷ words (codes "What it printed is shown above") ∷ tag markup.EndLink
    ∷ tag markup.EndItem ∷ tag markup.EndUnordered ∷ tag markup.EndDetails ∷ tag markup.EndItem
    ∷ footer (NumberPart 1 ∷ words (codes " log in ") ∷ end (codes "redo-log -r -u --debug-locks --dir=d a"))))))))))))))
unfolding page_parts top_parts summary_parts size_words footer_parts failed_parts news_parts article_parts article_of recipe_parts commands_parts path_parts in_tree_parts output_parts whole_parts begins_with sequence_len is_safe number_text digits show_log show_log_within symbols_after first_symbol symbol_len is_sequence first_code_point code_point_len is_unprintable
failed_page = refl

-- The parts of these pages in short: where each section begins, the title, the first words, and the command.
abbrev milestone : Part → List Markup
milestone (MarkupPart markup.Head) = markup.Head ∷ []
milestone (MarkupPart markup.Header) = markup.Header ∷ []
milestone (MarkupPart markup.Nav) = markup.Nav ∷ []
milestone (MarkupPart markup.Main) = markup.Main ∷ []
milestone (MarkupPart markup.FailedSection) = markup.FailedSection ∷ []
milestone (MarkupPart markup.NewSection) = markup.NewSection ∷ []
milestone (MarkupPart markup.SummarySection) = markup.SummarySection ∷ []
milestone (MarkupPart markup.TimelineSection) = markup.TimelineSection ∷ []
milestone (MarkupPart markup.TreeSection) = markup.TreeSection ∷ []
milestone (MarkupPart markup.Footer) = markup.Footer ∷ []
milestone (MarkupPart markup.EndHtml) = markup.EndHtml ∷ []
milestone part = []

made_milestones :
    flat_map milestone (page_parts (request (codes "t") false false) made (codes "a" ∷ []))
    ≡ markup.Head ∷ markup.Header ∷ markup.Nav ∷ markup.Main ∷ markup.SummarySection ∷ markup.TreeSection ∷ markup.Footer
    ∷ markup.EndHtml ∷ []
unfolding page_parts top_parts summary_parts size_words footer_parts failed_parts news_parts is_safe number_text digits show_log show_log_within symbols_after first_symbol symbol_len is_sequence first_code_point code_point_len is_unprintable
made_milestones = refl

failed_milestones :
    flat_map milestone (page_parts (request [] true true) failed (codes "a" ∷ []))
    ≡ markup.Head ∷ markup.Header ∷ markup.Nav ∷ markup.Main ∷ markup.FailedSection ∷ markup.SummarySection ∷ markup.TreeSection
    ∷ markup.Footer ∷ markup.EndHtml ∷ []
unfolding page_parts top_parts summary_parts size_words footer_parts failed_parts news_parts article_parts article_of recipe_parts commands_parts path_parts in_tree_parts output_parts whole_parts begins_with sequence_len is_safe number_text digits show_log show_log_within symbols_after first_symbol symbol_len is_sequence first_code_point code_point_len is_unprintable
failed_milestones = refl

-- What is new follows what failed.
compared_milestones :
    flat_map milestone
    (page_parts (record (request [] true true) { baseline = Some earlier }) (log (codes "a") (Closing 9 (pos 2) ∷ []) ∷ []) (codes "a" ∷ []))
    ≡ markup.Head ∷ markup.Header ∷ markup.Nav ∷ markup.Main ∷ markup.FailedSection ∷ markup.NewSection ∷ markup.SummarySection
    ∷ markup.TreeSection ∷ markup.Footer ∷ markup.EndHtml ∷ []
unfolding page_parts top_parts summary_parts size_words footer_parts failed_parts news_parts article_parts article_of recipe_parts commands_parts path_parts in_tree_parts output_parts nothing_parts is_safe number_text digits show_log show_log_within symbols_after first_symbol symbol_len is_sequence first_code_point code_point_len is_unprintable
compared_milestones = refl

-- Two targets that failed. The second one ended first.
abbrev both_failed : List Log
both_failed =
    log (codes "a") (Mention 9 Made (codes "b") ∷ Mention 9 Made (codes "c") ∷ []) ∷ log (codes "b") (Closing 9 (pos 2) ∷ [])
    ∷ log (codes "c") (Closing 9 (pos 2) ∷ []) ∷ []

abbrev both_ended : Request
both_ended = record (request [] false false) { times = begun ∷ ran 1795829211000 1795829213500 ∷ ran 1795829211200 1795829213000 ∷ [] }

failures_in_order :
    (flat_map article_id (page_parts both_ended both_failed (codes "a" ∷ [])) ≡ 2 ∷ 1 ∷ [])
    × (flat_map article_link (page_parts both_ended both_failed (codes "a" ∷ [])) ≡ 2 ∷ 1 ∷ [])
unfolding page_parts top_parts summary_parts size_words tenths_words duration_words dates.date_text_of dates.date_parts dates.period_of footer_parts failed_parts news_parts cause_of_node cause_parts article_parts article_of recipe_parts commands_parts path_parts in_tree_parts output_parts nothing_parts is_safe number_text digits show_log show_log_within symbols_after first_symbol symbol_len is_sequence first_code_point code_point_len is_unprintable
failures_in_order = (refl, refl)

-- If most times are known, there is a timeline.
timed_milestones :
    flat_map milestone (page_parts timed made (codes "a" ∷ []))
    ≡ markup.Head ∷ markup.Header ∷ markup.Nav ∷ markup.Main ∷ markup.SummarySection ∷ markup.TimelineSection ∷ markup.TreeSection
    ∷ markup.Footer ∷ markup.EndHtml ∷ []
unfolding page_parts top_parts summary_parts size_words tenths_words duration_words dates.date_text_of dates.date_parts dates.period_of footer_parts failed_parts news_parts is_safe number_text digits show_log show_log_within symbols_after first_symbol symbol_len is_sequence first_code_point code_point_len is_unprintable
timed_milestones = refl

-- The timeline is followed by the tree of the contents.
body_is :
    flat_map milestone (body_parts (page_view timed made (codes "a" ∷ [])) (options_of timed) 0 (codes "a" ∷ []))
    ≡ markup.TimelineSection ∷ markup.TreeSection ∷ []
unfolding duration_words show_log show_log_within
body_is = refl

-- The number of charts.
abbrev chart_count : Part → ℕ
chart_count (ChartPart drawing) = 1
chart_count part = 0

charts_are :
    (sum_by chart_count (page_parts timed made (codes "a" ∷ [])) ≡ 1)
    × (sum_by chart_count (page_parts (request [] false false) made (codes "a" ∷ [])) ≡ 0)
unfolding page_parts top_parts summary_parts size_words tenths_words duration_words dates.date_text_of dates.date_parts dates.period_of footer_parts failed_parts news_parts is_safe number_text digits show_log show_log_within symbols_after first_symbol symbol_len is_sequence first_code_point code_point_len is_unprintable
charts_are = (refl, refl)

-- The tree of a page shows these lines.
limited_page :
    (length (flat_map log_text (page_parts (limited 0) long (codes "a" ∷ []))) ≡ 5005)
    × (length (flat_map log_text (page_parts (limited 1) long (codes "a" ∷ []))) ≡ 4004)
unfolding page_parts top_parts summary_parts size_words footer_parts failed_parts news_parts is_safe number_text digits show_log show_log_within symbols_after first_symbol symbol_len is_sequence first_code_point code_point_len is_unprintable
limited_page = (refl, refl)

abbrev title_of : Part → List (List ℕ)
title_of (TitlePart title) = title ∷ []
title_of part = []

abbrev words_of : Part → List (List ℕ)
words_of (TextPart text) = text ∷ []
words_of part = []

title_is : flat_map title_of (page_parts (request (codes "t") false false) made (codes "a" ∷ []))
    ≡ (0xE2 ∷ 0x9C ∷ 0x93 ∷ (codes " t " ++ 0xC2 ∷ 0xB7 ∷ codes " 2 targets made, none failed")) ∷ []
unfolding page_parts top_parts summary_parts size_words footer_parts failed_parts news_parts is_safe number_text digits show_log show_log_within symbols_after first_symbol symbol_len is_sequence first_code_point code_point_len is_unprintable
title_is = refl

made_words :
    take 6 (flat_map words_of (page_parts (request (codes "t") false false) made (codes "a" ∷ [])))
    ≡ (0xE2 ∷ 0x9C ∷ 0x93 ∷ []) ∷ codes " " ∷ codes "2 targets made, none failed" ∷ codes "t" ∷ codes "a" ∷ codes "Summary" ∷ []
unfolding page_parts top_parts summary_parts size_words footer_parts failed_parts news_parts is_safe number_text digits show_log show_log_within symbols_after first_symbol symbol_len is_sequence first_code_point code_point_len is_unprintable
made_words = refl

failed_words :
    take 3 (flat_map words_of (page_parts (request [] true true) failed (codes "a" ∷ [])))
    ≡ (0xE2 ∷ 0x9C ∷ 0x97 ∷ []) ∷ codes " " ∷ codes "1 of 1 target failed" ∷ []
unfolding page_parts top_parts summary_parts size_words footer_parts failed_parts news_parts article_parts article_of recipe_parts commands_parts path_parts in_tree_parts output_parts whole_parts is_safe number_text digits show_log show_log_within symbols_after first_symbol symbol_len is_sequence first_code_point code_point_len is_unprintable
failed_words = refl

command_is :
    filter (λ text. starts_with nat_eq text (codes "redo-log -r"))
    (flat_map words_of (page_parts (request [] true true) failed (codes "a" ∷ []))) ≡ codes "redo-log -r -u --debug-locks --dir=d a" ∷ []
unfolding page_parts top_parts summary_parts size_words footer_parts failed_parts news_parts article_parts article_of recipe_parts commands_parts path_parts in_tree_parts output_parts whole_parts begins_with sequence_len is_safe number_text digits show_log show_log_within symbols_after first_symbol symbol_len is_sequence first_code_point code_point_len is_unprintable
command_is = refl

-- A page has the bytes of its parts.
page_begins :
    bytes_eq (take 42 (page_html (request [] false false) [] []))
    (codes "<!doctype html><html lang=\"en\"><head><meta")
    ≡ true
unfolding page_parts top_parts summary_parts size_words footer_parts failed_parts news_parts is_safe style_sheet symbols_after first_symbol symbol_len is_sequence sequence_len sequence_numbers first_code_point code_point_len is_unprintable notation unprintable_text number_text digits passage_html show_log show_log_within
page_begins = refl
