-- Rows of what is new since a baseline, and of the section that says so.
use Rattle.std.proofs.Common.{◌≡◌, ℕ, Bool, true, false, List, [], ◌∷◌, None, Some, ℤ, pos, length, replicate, refl}
use Rattle.std.specs.Char.{encode_utf8}
use Rattle.std.specs.Fmt.{digits}
use Rattle.std.specs.Prelude.{bytes_eq, codes, drop}
use Rattle.std.specs.List.{flat_map, range_with_len}
use Rattle.redo_compare.specs.Baseline.{BaselineValue}
use Rattle.redo_compare.specs.Source.{source_of}
use Rattle.redo_diagnostics.specs.Diagnostic.{before_bracket, diagnostic_of, first_place, masked_after, place_of, split_flag}
use Rattle.redo_diagnostics.specs.Plain.{plain_after}
use Rattle.redo_html.specs.declared.markup.Markup.TheVariants as markup
use Rattle.redo_html.specs.Passage.{passage_html}
use Rattle.redo_html.specs.Parts.{Part, part_html}
use Rattle.redo_html.specs.Parts.Part.{MarkupPart, NumberPart}
use Rattle.redo_html.specs.Shown.{is_unprintable, number_text, unprintable_text, notation}
use Rattle.redo_html.specs.Symbols.{first_code_point, first_symbol, is_sequence, code_point_len, sequence_len, sequence_numbers, symbol_len, symbols_after}
use Rattle.redo_line.specs.Decimal.{number}
use Rattle.redo_line.specs.Parts.{after_prefix, split_once}
use Rattle.redo_line.specs.declared.entry.Entry.{Entry}
use Rattle.redo_line.specs.declared.entry.Entry.TheVariants.{Text, Closing}
use Rattle.redo_logs.specs.declared.log_state.LogState.TheVariants.{Ended}
use Rattle.redo_logs.specs.Logs.{Log}
use Rattle.redo_outline.specs.declared.node.Node.{Node}
use Rattle.redo_page.specs.declared.news.TheConstants.{FAILING_NOW, FIXED_NOW, LINES}
use Rattle.redo_page.specs.Article.{cause_parts, line_of_node}
use Rattle.redo_page.specs.Excerpt.{cut_to}
use Rattle.redo_page.specs.Laws.{values_at}
use Rattle.redo_page.specs.NewSection.{news_of, news_parts, no_news}
use Rattle.redo_page.specs.News.{NewsValue, has_news}
use Rattle.redo_page.specs.Page.{build_view}
use Rattle.redo_page.specs.Scope.{View}
use Rattle.redo_page.specs.Template.{Block, block_parts, nothing}
use Rattle.redo_page.specs.Tree.{no_node}

abbrev log : List ℕ → List Entry → Log
log target entries = record { target = target; entries = entries; state = Ended }

abbrev node : ℕ → ℤ → Bool → Node
node number status fails_below = record no_node { number = number; status = Some status; fails_below = fails_below }

-- ---- what is new

-- In the earlier build, `b` failed, and `e` was built, too. Since then, `a` has another line with `x` before the first one, and `d` is new:
-- it fails, and so does `all`, because of it.
abbrev baseline : BaselineValue
baseline = record {
  logs =
      log (codes "a") (Text (codes "a.c:1: warning: x") ∷ []) ∷ log (codes "b") (Text (codes "error: y") ∷ Text (codes "error: y") ∷ [])
      ∷ log (codes "e") (Text (codes "error: z") ∷ []) ∷ log (codes "all") [] ∷ [];
  nodes = node 3 (pos 2) true ∷ node 0 (pos 0) false ∷ node 1 (pos 1) false ∷ node 2 (pos 0) false ∷ [];
}

abbrev logs : List Log
logs =
    log (codes "all") []
    ∷ log (codes "a") (Text (codes "cc a.c") ∷ Text (codes "a.c:5: warning: x") ∷ Closing 9 (pos 0) ∷ Text (codes "a.c:9: warning: w") ∷ [])
    ∷ log (codes "b") (Text (codes "error: y") ∷ []) ∷ log (codes "d") (Text (codes "d.c:1: error: v") ∷ []) ∷ []

abbrev nodes : List Node
nodes = node 0 (pos 2) true ∷ node 1 (pos 0) false ∷ node 2 (pos 0) false ∷ node 3 (pos 1) false ∷ []

abbrev news : NewsValue
news = record {
  is_compared = true;
  lines = record { value = 2; position = 1 } ∷ record { value = 0; position = 3 } ∷ [];
  gone = 1;
  failing = 3 ∷ [];
  fixed = 2 ∷ [];
}

news_are : news_of (Some baseline) logs nodes ≡ news
unfolding after_prefix split_once number is_sequence sequence_len plain_after first_place place_of before_bracket split_flag masked_after diagnostic_of source_of
news_are = refl

no_news_are : news_of None logs nodes ≡ record { is_compared = false; lines = []; gone = 0; failing = []; fixed = [] }
no_news_are = refl

-- Whether anything is new: nothing, one line, one target that newly fails, and only what is gone and fixed.
have_news :
    has_news no_news ∷ has_news (record no_news { lines = record { value = 0; position = 0 } ∷ [] })
    ∷ has_news (record no_news { failing = 0 ∷ [] }) ∷ has_news (record no_news { gone = 1; fixed = 0 ∷ [] }) ∷ []
    ≡ false ∷ true ∷ true ∷ false ∷ []
have_news = refl

values_are : values_at 1 (record { value = 7; position = 1 } ∷ record { value = 8; position = 2 } ∷ record { value = 5; position = 1 } ∷ [])
    ≡ 7 ∷ 5 ∷ []
values_are = refl

-- ---- the section

abbrev html : List Part → List ℕ
html parts = flat_map part_html parts

abbrev view : NewsValue → View
view some = build_view [] [] [] [] logs nodes
    (record {
      window = None;
      took = 0;
      callers = [];
      recipes = [];
      marks = [];
      sum = 0;
      most = 0;
      warnings = 0;
      bytes = 0;
      longest = [];
      alone = [];
      warned = [];
    })
    some

section_is :
    bytes_eq (html (news_parts (view news)))
    (codes "<section id=\"new\" aria-labelledby=\"h-new\"><h2 id=\"h-new\">New since the baseline</h2><p class=\"quiet\">New warnings and errors: 2. Gone: 1. Targets that newly fail: 1. Fixed: 1.</p><ol class=\"list\"><li><a href=\"#t1\"><bdi>a</bdi></a> <code>a.c:9: warning: w</code></li><li><a href=\"#t3\"><bdi>d</bdi></a> <strong class=\"x\">exit 1</strong> <code>d.c:1: error: v</code></li></ol><details class=\"more\"><summary>1 newly failing</summary><ol class=\"list\"><li><a href=\"#t3\"><bdi>d</bdi></a> <strong class=\"x\">exit 1</strong></li></ol></details><details class=\"more\"><summary>1 fixed</summary><ol class=\"list\"><li><a href=\"#t2\"><bdi>b</bdi></a></li></ol></details></section>")
    ≡ true
unfolding news_parts line_of_node cause_parts cut_to symbols_after first_symbol symbol_len is_sequence sequence_len sequence_numbers first_code_point code_point_len is_unprintable notation unprintable_text number_text encode_utf8 digits passage_html
section_is = refl

-- Nothing is new. There is no list.
nothing_new_is :
    bytes_eq (html (news_parts (view (record no_news { is_compared = true; gone = 30 }))))
    (codes "<section id=\"new\" aria-labelledby=\"h-new\"><h2 id=\"h-new\">New since the baseline</h2><p class=\"quiet\">No warning or error is new, and no target newly fails. New warnings and errors: 0. Gone: 30. Targets that newly fail: 0. Fixed: 0.</p></section>")
    ≡ true
unfolding news_parts line_of_node cause_parts cut_to symbols_after first_symbol symbol_len is_sequence sequence_len sequence_numbers first_code_point code_point_len is_unprintable notation unprintable_text number_text encode_utf8 digits passage_html
nothing_new_is = refl

-- A target newly fails, and nothing else is new: there is no list of lines.
list_only_with_lines :
    bytes_eq (html (news_parts (view (record no_news { is_compared = true; failing = 2 ∷ [] }))))
    (codes "<section id=\"new\" aria-labelledby=\"h-new\"><h2 id=\"h-new\">New since the baseline</h2><p class=\"quiet\">New warnings and errors: 0. Gone: 0. Targets that newly fail: 1. Fixed: 0.</p><details class=\"more\"><summary>1 newly failing</summary><ol class=\"list\"><li><a href=\"#t2\"><bdi>b</bdi></a></li></ol></details></section>")
    ≡ true
unfolding news_parts line_of_node cause_parts cut_to symbols_after first_symbol symbol_len is_sequence sequence_len sequence_numbers first_code_point code_point_len is_unprintable notation unprintable_text number_text encode_utf8 digits passage_html
list_only_with_lines = refl

-- Without a baseline, there is no section.
no_section_is : news_parts (view no_news) ≡ []
unfolding news_parts
no_section_is = refl

-- ---- long lists

abbrev in_list : Block (Block (Unit {0})) → View → List Part
in_list list some = block_parts (block_parts nothing) list some

abbrev many : ℕ → View
many count = record (view (record no_news {
  is_compared = true;
  lines = replicate count (record { value = 0; position = 3 });
  failing = range_with_len 0 count;
  fixed = range_with_len 0 count;
})) { nodes = [] }

abbrev items_of : Part → List ℕ
items_of (MarkupPart markup.Item) = 1 ∷ []
items_of part = []

at_most_200 :
    bytes_eq
    (length (flat_map items_of (in_list LINES (many 201))) ∷ length (flat_map items_of (in_list FAILING_NOW (many 201)))
    ∷ length (flat_map items_of (in_list FIXED_NOW (many 201))) ∷ [])
    (200 ∷ 200 ∷ 200 ∷ [])
    ≡ true
unfolding line_of_node cause_parts
at_most_200 = refl

abbrev numbers_of : Part → List ℕ
numbers_of (NumberPart number) = number ∷ []
numbers_of part = []

-- The sentence counts all of them, and so do the headings. The ends of the lists count those that aren't listed.
all_counted :
    bytes_eq (flat_map numbers_of (news_parts (many 201))) (201 ∷ 0 ∷ 201 ∷ 201 ∷ 1 ∷ 201 ∷ 1 ∷ 201 ∷ 1 ∷ []) ≡ true
unfolding news_parts line_of_node cause_parts
all_counted = refl

all_listed : bytes_eq (flat_map numbers_of (news_parts (many 200))) (200 ∷ 0 ∷ 200 ∷ 200 ∷ 200 ∷ 200 ∷ []) ≡ true
unfolding news_parts line_of_node cause_parts
all_listed = refl

-- What follows the rows of two lists. Each row has eleven parts.
ends_are :
    (bytes_eq (html (drop 2201 (in_list LINES (many 1234)))) (codes "</ol><p class=\"quiet\">and 1034 more, in the logs</p>") ≡ true)
    × (bytes_eq (html (drop 2206 (in_list FIXED_NOW (many 1234))))
    (codes "</ol><p class=\"quiet\">and 1034 more, in the tree</p></details>") ≡ true)
unfolding line_of_node cause_parts symbols_after first_symbol symbol_len is_sequence sequence_len sequence_numbers first_code_point code_point_len is_unprintable notation unprintable_text number_text encode_utf8 digits passage_html
ends_are = (refl, refl)
