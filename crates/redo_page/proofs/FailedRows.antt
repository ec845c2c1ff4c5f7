-- Rows of the section of targets that failed, as HTML.
use Rattle.std.proofs.Common.{◌≡◌, ℕ, ◌+◌, Bool, true, false, List, [], ◌∷◌, ◌++◌, Option, None, Some, ℤ, pos, length, replicate, refl}
use Rattle.std.specs.Char.{encode_utf8}
use Rattle.std.specs.Prelude.{◌==◌, bytes_eq, codes, drop, take}
use Rattle.std.specs.Fmt.{digits}
use Rattle.std.specs.List.{flat_map, list_all, range_with_len}
use Rattle.redo_line.specs.declared.entry.Entry.{Entry}
use Rattle.redo_line.specs.declared.entry.Entry.TheVariants.{Text, Mention, Closing}
use Rattle.redo_line.specs.declared.entry.How.TheVariants.{Made}
use Rattle.redo_logs.specs.declared.log_state.LogState.TheVariants.{Ended}
use Rattle.redo_logs.specs.Logs.{Log}
use Rattle.redo_html.specs.Cut.{begins_at}
use Rattle.redo_html.specs.declared.markup.Markup.TheVariants as markup
use Rattle.redo_html.specs.Passage.{passage_html}
use Rattle.redo_html.specs.Parts.{Part, part_html}
use Rattle.redo_html.specs.Parts.Part.{MarkupPart, TextPart, NumberPart}
use Rattle.redo_html.specs.Shown.{is_unprintable, number_text, unprintable_text, notation}
use Rattle.redo_html.specs.Symbols.{first_code_point, first_symbol, is_sequence, code_point_len, sequence_len, sequence_numbers, symbol_len, symbols_after}
use Rattle.redo_diagnostics.specs.Plain.{plain_after}
use Rattle.redo_outline.specs.declared.node.Node.{Node}
use Rattle.redo_page.specs.Laws.{target_link}
use Rattle.redo_page.specs.Errors.{begins_with}
use Rattle.redo_page.specs.Excerpt.{cut_to, excerpt_line_end, excerpt_line_parts, excerpt_parts, in_tree_parts, left_out_parts}
use Rattle.redo_page.specs.declared.failed.Failures.{Failures}
use Rattle.redo_page.specs.declared.labels.TheConstants.{MORE_ABOVE, PATH_SEPARATOR}
use Rattle.redo_page.specs.Article.{article_of, article_parts, article_took, cause_of_node, cause_parts, nothing_parts, output_parts, path_parts, whole_parts}
use Rattle.redo_page.specs.Private.PageTexts.{AreFailures}
use Rattle.redo_page.specs.Failed.{is_dependent_failure, failed_parts, is_unclosed}
use Rattle.redo_page.specs.declared.failed.TheConstants.{DEPENDENTS, OTHERS, UNCLOSED}
use Rattle.redo_page.specs.NewSection.{no_news}
use Rattle.redo_page.specs.Page.{build_view}
use Rattle.redo_page.specs.Recipe.{commands_parts, recipe_parts}
use Rattle.redo_page.specs.Scope.{View}
use Rattle.redo_page.specs.Template.{Block, block_parts, nothing}
use Rattle.redo_units.specs.Durations.{duration_words}
use Rattle.redo_page.specs.Tree.{no_node, positions_where}

abbrev log : List ℕ → List Entry → Log
log target entries = record { target = target; entries = entries; state = Ended }

abbrev printed : List ℕ → Entry
printed text = Text text

-- `b` fails with an error, `c` prints nothing, and `d` prints one line in red and one line that goes on in red.
abbrev logs : List Log
logs =
    log (codes "all") []
    ∷ log (codes "b") (Text (codes "cc b.c") ∷ Mention 9 Made (codes "c") ∷ Text (codes "b.c:1: error: x") ∷ Closing 9 (pos 1) ∷ [])
    ∷ log (codes "c") (Closing 9 (pos 2) ∷ [])
    ∷ log (codes "d") (Text (27 ∷ codes "[31mone") ∷ Text (codes "two") ∷ [])
    ∷ []

-- The facts about log `number`. It is in the log at `parent`.
abbrev node : ℕ → Option ℕ → Option ℤ → ℕ → ℕ → Bool → Node
node number parent status lines below fails =
    record no_node {
      number = number;
      parent = parent;
      status = status;
      lines = lines;
      bytes = lines;
      below = below;
      children = below;
      fails_below = fails;
    }

abbrev b : Node
b = node 1 (Some 0) (Some (pos 1)) 2 0 false

abbrev c : Node
c = node 2 (Some 0) (Some (pos 2)) 0 0 false

abbrev html : List Part → List ℕ
html parts = flat_map part_html parts

-- The view of some targets, for a page without times.
abbrev view : List Log → List Node → View
view some nodes = build_view [] [] [] [] some nodes
    (record {
      window = None;
      took = 0;
      callers = [];
      recipes = [];
      marks = [];
      sum = 0;
      most = 0;
      warnings = 0;
      bytes = 0;
      longest = [];
      alone = [];
      warned = [];
    })
    no_news

abbrev failed : List Log → List Node → List Part
failed some nodes = failed_parts (view some nodes)

-- A list of the section.
abbrev in_list : Block (Block (Unit {0})) → View → List Part
in_list list view = block_parts (block_parts nothing) list view

-- ` › ` in UTF-8.
abbrev then : List ℕ → List ℕ
then text = 0x20 ∷ 0xE2 ∷ 0x80 ∷ 0xBA ∷ 0x20 ∷ text

-- ---- no failure, and one

no_failure : failed logs (node 0 None (Some (pos 0)) 0 1 false ∷ node 1 (Some 0) None 2 0 false ∷ []) ≡ []
unfolding failed_parts
no_failure = refl

-- An unfinished target makes no section.
no_section : take 1 (failed logs (node 0 None (Some (pos 0)) 0 1 false ∷ node 1 (Some 0) None 2 0 false ∷ [])) ≡ []
unfolding failed_parts
no_section = refl

one_failure :
    bytes_eq (html (failed logs (node 0 None (Some (pos 3)) 0 1 true ∷ b ∷ [])))
    (codes "<section id=\"failed\" aria-labelledby=\"h-failed\"><h2 id=\"h-failed\">What failed</h2><article id=\"f1\"><h3><bdi>b</bdi> <strong class=\"x\">exit 1</strong></h3><p class=\"meta\"><bdi>all</bdi>"
    ++ then (codes "<a href=\"#t1\">its place in the tree</a></p><pre>\ncc b.c\n<em>b.c:1: error: x\n</em></pre></article><details class=\"more\"><summary>1 failed because of these</summary><ol class=\"list\"><li><a href=\"#t0\"><bdi>all</bdi></a> <strong class=\"x\">exit 3</strong></li></ol></details></section>"))
    ≡ true
unfolding failed_parts cause_of_node cause_parts cut_to begins_with plain_after article_parts article_of recipe_parts commands_parts path_parts output_parts whole_parts in_tree_parts symbols_after first_symbol symbol_len is_sequence sequence_len sequence_numbers first_code_point code_point_len is_unprintable notation unprintable_text number_text encode_utf8 digits passage_html
one_failure = refl

-- Below the article, there is a list of those above, and then one of unfinished targets.
one_unclosed :
    bytes_eq (html (failed logs (node 0 None (Some (pos 3)) 0 2 true ∷ b ∷ node 3 (Some 0) None 2 0 false ∷ [])))
    (codes "<section id=\"failed\" aria-labelledby=\"h-failed\"><h2 id=\"h-failed\">What failed</h2><article id=\"f1\"><h3><bdi>b</bdi> <strong class=\"x\">exit 1</strong></h3><p class=\"meta\"><bdi>all</bdi>"
    ++ then (codes "<a href=\"#t1\">its place in the tree</a></p><pre>\ncc b.c\n<em>b.c:1: error: x\n</em></pre></article><details class=\"more\"><summary>1 failed because of these</summary><ol class=\"list\"><li><a href=\"#t0\"><bdi>all</bdi></a> <strong class=\"x\">exit 3</strong></li></ol></details><details class=\"more\"><summary>1 unfinished</summary><ol class=\"list\"><li><a href=\"#t2\"><bdi>d</bdi></a> <strong class=\"o\">unfinished</strong></li></ol></details></section>"))
    ≡ true
unfolding failed_parts cause_of_node cause_parts cut_to begins_with plain_after article_parts article_of recipe_parts commands_parts path_parts output_parts whole_parts in_tree_parts symbols_after first_symbol symbol_len is_sequence sequence_len sequence_numbers first_code_point code_point_len is_unprintable notation unprintable_text number_text encode_utf8 digits passage_html
one_unclosed = refl

-- ---- lists

-- After the heading, the list of those with articles has 32 parts.
two_failures :
    bytes_eq (html (take 32 (drop 4 (failed logs (node 0 None None 0 2 true ∷ b ∷ c ∷ [])))))
    (codes "<ol class=\"list\"><li><a href=\"#f1\"><bdi>b</bdi></a> <strong class=\"x\">exit 1</strong> <code>b.c:1: error: x</code></li><li><a href=\"#f2\"><bdi>c</bdi></a> <strong class=\"x\">exit 2</strong></li></ol>")
    ≡ true
unfolding failed_parts cause_of_node cause_parts cut_to begins_with plain_after symbols_after first_symbol symbol_len is_sequence sequence_len sequence_numbers first_code_point code_point_len is_unprintable notation unprintable_text number_text encode_utf8 digits passage_html
two_failures = refl

more_with_causes :
    bytes_eq (html (in_list OTHERS (record (view logs (b ∷ [])) { roots = replicate 11 0 })))
    (codes "<details class=\"more\"><summary>1 more that failed</summary><ol class=\"list\" start=\"11\"><li><a href=\"#t0\"><bdi>b</bdi></a> <strong class=\"x\">exit 1</strong> <code>b.c:1: error: x</code></li></ol></details>")
    ≡ true
unfolding cause_of_node cause_parts cut_to begins_with plain_after symbols_after first_symbol symbol_len is_sequence sequence_len sequence_numbers first_code_point code_point_len is_unprintable notation unprintable_text number_text encode_utf8 digits passage_html
more_with_causes = refl

more_without_causes :
    bytes_eq (html (in_list DEPENDENTS (record (view logs (b ∷ [])) { dependents = 0 ∷ [] })))
    (codes "<details class=\"more\"><summary>1 failed because of these</summary><ol class=\"list\"><li><a href=\"#t0\"><bdi>b</bdi></a> <strong class=\"x\">exit 1</strong></li></ol></details>")
    ≡ true
unfolding cause_of_node cause_parts cut_to begins_with plain_after symbols_after first_symbol symbol_len is_sequence sequence_len sequence_numbers first_code_point code_point_len is_unprintable notation unprintable_text number_text encode_utf8 digits passage_html
more_without_causes = refl

-- Each row has the link, the name and the status of its own target.
more_than_one :
    bytes_eq (html (in_list UNCLOSED (record (view logs (node 0 None None 0 2 true ∷ b ∷ c ∷ [])) { unclosed = 1 ∷ 2 ∷ [] })))
    (codes "<details class=\"more\"><summary>2 unfinished</summary><ol class=\"list\"><li><a href=\"#t1\"><bdi>b</bdi></a> <strong class=\"x\">exit 1</strong></li><li><a href=\"#t2\"><bdi>c</bdi></a> <strong class=\"x\">exit 2</strong></li></ol></details>")
    ≡ true
unfolding cause_of_node cause_parts cut_to begins_with plain_after symbols_after first_symbol symbol_len is_sequence sequence_len sequence_numbers first_code_point code_point_len is_unprintable notation unprintable_text number_text encode_utf8 digits passage_html
more_than_one = refl

-- The starts of articles and of lists, and the links to articles.
abbrev marks_of : Part → List Part
marks_of (MarkupPart (markup.Article position)) = MarkupPart (markup.Article position) ∷ []
marks_of (MarkupPart markup.Ordered) = MarkupPart markup.Ordered ∷ []
marks_of (MarkupPart (markup.OrderedFrom first)) = MarkupPart (markup.OrderedFrom first) ∷ []
marks_of (MarkupPart (markup.OutputLink position)) = MarkupPart (markup.OutputLink position) ∷ []
marks_of (MarkupPart markup.MoreDetails) = MarkupPart markup.MoreDetails ∷ []
marks_of part = []

abbrev marks : List Part → List ℕ
marks parts = html (flat_map marks_of parts)

abbrev outputs : List ℕ → List ℕ
outputs positions = flat_map (λ position. codes "<a href=\"#f" ++ (number_text position ++ codes "\">")) positions

abbrev articles : List ℕ → List ℕ
articles positions = flat_map (λ position. codes "<article id=\"f" ++ (number_text position ++ codes "\">")) positions

abbrev cs : ℕ → List Node
cs count = replicate count c

eleven_failures :
    bytes_eq (marks (failed logs (cs 11)))
    (codes "<ol class=\"list\">" ++ (outputs (range_with_len 0 10)
    ++ (articles (range_with_len 0 10) ++ codes "<details class=\"more\"><ol class=\"list\" start=\"11\">")))
    ≡ true
unfolding failed_parts article_parts article_of recipe_parts commands_parts path_parts output_parts nothing_parts in_tree_parts cause_of_node cause_parts number_text digits
eleven_failures = refl

ten_failures :
    bytes_eq (marks (failed logs (cs 10)))
    (codes "<ol class=\"list\">" ++ (outputs (range_with_len 0 10) ++ articles (range_with_len 0 10)))
    ≡ true
unfolding failed_parts article_parts article_of recipe_parts commands_parts path_parts output_parts nothing_parts in_tree_parts cause_of_node cause_parts number_text digits
ten_failures = refl

-- Ten targets that printed nothing, then one that printed an error, then another one that printed nothing.
abbrev twelve : List Node
twelve = replicate 10 (record c { parent = None }) ++ record b { parent = None } ∷ record c { parent = None } ∷ []

abbrev listed : ℕ → List ℕ
listed position = codes "<li><a href=\"#f" ++ (number_text position ++ codes "\"><bdi>c</bdi></a> <strong class=\"x\">exit 2</strong></li>")

abbrev article : ℕ → List ℕ
article position =
    codes "<article id=\"f"
    ++ (number_text position
    ++ (codes "\"><h3><bdi>c</bdi> <strong class=\"x\">exit 2</strong></h3><p class=\"meta\"><a href=\"#t"
    ++ (number_text position ++ codes "\">its place in the tree</a></p><p class=\"quiet\">It printed nothing that was captured.</p></article>")))

-- The first ten have articles. The list of the others goes on with number 11, and says why they failed.
twelve_failures :
    bytes_eq (html (failed logs twelve))
    (codes "<section id=\"failed\" aria-labelledby=\"h-failed\"><h2 id=\"h-failed\">What failed</h2><ol class=\"list\">"
    ++ (flat_map listed (range_with_len 0 10)
    ++ (codes "</ol>"
    ++ (flat_map article (range_with_len 0 10)
    ++ codes "<details class=\"more\"><summary>2 more that failed</summary><ol class=\"list\" start=\"11\"><li><a href=\"#t10\"><bdi>b</bdi></a> <strong class=\"x\">exit 1</strong> <code>b.c:1: error: x</code></li><li><a href=\"#t11\"><bdi>c</bdi></a> <strong class=\"x\">exit 2</strong></li></ol></details></section>"))))
    ≡ true
unfolding failed_parts cause_of_node cause_parts cut_to begins_with plain_after article_parts article_of recipe_parts commands_parts path_parts output_parts nothing_parts in_tree_parts symbols_after first_symbol symbol_len is_sequence sequence_len sequence_numbers first_code_point code_point_len is_unprintable notation unprintable_text number_text encode_utf8 digits passage_html
twelve_failures = refl

abbrev items_of : Part → List Part
items_of (MarkupPart markup.Item) = MarkupPart markup.Item ∷ []
items_of part = []

-- More than 200 targets in each list.
abbrev many : ℕ → View
many count = record (view [] []) {
  roots = range_with_len 0 (10 + count);
  dependents = range_with_len 0 count;
  unclosed = range_with_len 0 count;
}

abbrev lists : List (Block (Block (Unit {0})))
lists = OTHERS ∷ DEPENDENTS ∷ UNCLOSED ∷ []

at_most_200 : list_all (λ list. length (flat_map items_of (in_list list (many 201))) == 200) lists ≡ true
unfolding cause_of_node cause_parts
at_most_200 = refl

abbrev numbers_of : Part → List ℕ
numbers_of (NumberPart number) = number ∷ []
numbers_of part = []

abbrev numbers : ℕ → List ℕ
numbers count = flat_map (λ list. flat_map numbers_of (in_list list (many count))) lists

-- The heading counts all of them, and the end those that aren't listed.
all_counted : bytes_eq (numbers 201) (201 ∷ 1 ∷ 201 ∷ 1 ∷ 201 ∷ 1 ∷ []) ≡ true
unfolding cause_of_node cause_parts
all_counted = refl

all_listed : bytes_eq (numbers 200) (200 ∷ 200 ∷ 200 ∷ []) ≡ true
unfolding cause_of_node cause_parts
all_listed = refl

-- The parts after the items. Each item has eleven parts.
one_unlisted :
    list_all (λ list. bytes_eq (html (drop 2206 (in_list list (many 201))))
    (codes "</ol><p class=\"quiet\">and 1 more, in the tree</p></details>")) lists
    ≡ true
unfolding cause_of_node cause_parts symbols_after first_symbol symbol_len is_sequence sequence_len sequence_numbers first_code_point code_point_len is_unprintable notation unprintable_text number_text encode_utf8 digits passage_html
one_unlisted = refl

-- ---- which targets are named

-- The first one failed and so did the second one, which is in it. The third one is unfinished; the fourth one is made.
abbrev nodes : List Node
nodes = node 0 None (Some (pos 2)) 0 3 true ∷ b ∷ node 2 (Some 0) None 0 0 false ∷ node 3 (Some 0) (Some (pos 0)) 0 0 false ∷ []

dependents_are : positions_where is_dependent_failure 0 nodes ≡ 0 ∷ []
dependents_are = refl

-- A target that is made, though one below it failed.
no_dependents : positions_where is_dependent_failure 0 (node 0 None (Some (pos 0)) 0 1 true ∷ b ∷ []) ≡ []
no_dependents = refl

unclosed_are : positions_where is_unclosed 0 nodes ≡ 2 ∷ []
unclosed_are = refl

failures_are : (failures : Failures) → failures.roots.items ≡ 1 ∷ [] → failures.dependents.items ≡ 0 ∷ [] → failures.unclosed.items ≡ 2 ∷ []
    → AreFailures nodes failures
failures_are failures roots dependents unclosed = record { roots = roots; dependents = dependents; unclosed = unclosed }

-- A requested target, and one with others below it, are not at the end of a path.
none_unclosed : positions_where is_unclosed 0 (node 0 None None 0 0 false ∷ node 1 (Some 0) None 0 1 false ∷ []) ≡ []
none_unclosed = refl

-- ---- outputs

-- The second line goes on in the colour of the first one.
whole_output :
    bytes_eq (html (output_parts logs 5 (node 3 None (Some (pos 1)) 2 0 false)))
    (codes "<pre>\n<span class=\"r\">one\n</span><span class=\"r\">two\n</span></pre>")
    ≡ true
unfolding output_parts whole_parts begins_with symbols_after first_symbol symbol_len is_sequence sequence_len sequence_numbers first_code_point code_point_len is_unprintable notation unprintable_text number_text encode_utf8 digits passage_html
whole_output = refl

-- Lines that report errors are emphasized, with their line feeds. A style goes on in them, and after them.
abbrev errors : List (List ℕ)
errors =
    (27 ∷ codes "[31mone") ∷ codes "an error" ∷ codes "two" ∷ (27 ∷ codes "[mcannot") ∷ (27 ∷ codes "[1mFAIL") ∷ codes "three" ∷ codes "terror"
    ∷ (27 ∷ codes "[merror") ∷ []

output_with_errors :
    bytes_eq (html (whole_parts errors))
    (codes "<pre>\n<span class=\"r\">one\n</span><em><span class=\"r\">an error\n</span></em><span class=\"r\">two\n</span><em>cannot\n</em><em><b>FAIL\n</b></em><b>three\n</b><b>terror\n</b><em>error\n</em></pre>")
    ≡ true
unfolding whole_parts begins_with symbols_after first_symbol symbol_len is_sequence sequence_len sequence_numbers first_code_point code_point_len is_unprintable notation unprintable_text number_text encode_utf8 digits passage_html
output_with_errors = refl

-- An output of more than 300 lines is shown in part: each line begins without a colour.
long_output :
    bytes_eq (html (output_parts logs 5 (node 3 None (Some (pos 1)) 301 0 false)))
    (codes "<pre>\n<span class=\"r\">one</span>\ntwo\n</pre>")
    ≡ true
unfolding output_parts whole_parts excerpt_parts excerpt_line_parts excerpt_line_end cut_to begins_with symbols_after first_symbol symbol_len is_sequence sequence_len sequence_numbers first_code_point code_point_len is_unprintable notation unprintable_text number_text encode_utf8 digits passage_html
long_output = refl

-- Line 20 of 106 reports an error: lines are left out before the lines around it, and after them.
abbrev many_lines : List Log
many_lines = log (codes "e") (replicate 20 (Text (codes "a")) ++ Text (codes "error") ∷ replicate 85 (Text (codes "a"))) ∷ []

-- If lines are left out, a link leads to the position of the target.
excerpt_links : flat_map target_link (output_parts many_lines 5 (node 0 None (Some (pos 1)) 301 0 false)) ≡ 5 ∷ 5 ∷ []
unfolding output_parts excerpt_parts excerpt_line_parts excerpt_line_end cut_to left_out_parts in_tree_parts begins_with sequence_len
excerpt_links = refl

no_output :
    bytes_eq (html (output_parts logs 5 c))
    (codes "<p class=\"quiet\">It printed nothing that was captured.</p>")
    ≡ true
unfolding output_parts nothing_parts symbols_after first_symbol symbol_len is_sequence sequence_len sequence_numbers first_code_point code_point_len is_unprintable notation unprintable_text number_text encode_utf8 digits passage_html
no_output = refl

no_failure_below_it :
    bytes_eq (html (output_parts logs 5 (node 0 None (Some (pos 2)) 0 3 false)))
    (codes "<p class=\"quiet\">It printed nothing that was captured. No target below it failed: make or redo reported the cause on the terminal.</p>")
    ≡ true
unfolding output_parts nothing_parts symbols_after first_symbol symbol_len is_sequence sequence_len sequence_numbers first_code_point code_point_len is_unprintable notation unprintable_text number_text encode_utf8 digits passage_html
no_failure_below_it = refl

-- ---- how long targets took

-- `C2 B7` is a middle dot.
took_are :
    (article_took None ≡ [])
    × (article_took (Some 1234)
    ≡ NumberPart 1 ∷ TextPart (codes ".") ∷ NumberPart 2 ∷ NumberPart 3 ∷ TextPart (codes " s")
    ∷ TextPart (32 ∷ 0xC2 ∷ 0xB7 ∷ 32 ∷ []) ∷ [])
unfolding duration_words
took_are = (refl, refl)

-- It precedes the path.
article_begins :
    bytes_eq (html (take 22 (article_parts logs (node 0 None None 0 2 true ∷ record b { took = Some 61000 } ∷ []) [] 1)))
    (codes "<article id=\"f1\"><h3><bdi>b</bdi> <strong class=\"x\">exit 1</strong></h3><p class=\"meta\">1 min 01 s " ++ 0xC2 ∷ 0xB7
    ∷ codes " <bdi>all</bdi>")
    ≡ true
unfolding article_parts article_of recipe_parts commands_parts path_parts output_parts whole_parts in_tree_parts duration_words symbols_after first_symbol symbol_len is_sequence sequence_len sequence_numbers first_code_point code_point_len is_unprintable notation unprintable_text number_text encode_utf8 digits passage_html
article_begins = refl

-- ---- paths

-- Each log is in the one before it.
abbrev chain : List Node
chain =
    node 0 None None 0 5 false ∷ node 1 (Some 0) None 0 4 false ∷ node 2 (Some 1) None 0 3 false ∷ node 3 (Some 2) None 0 2 false
    ∷ node 0 (Some 3) None 0 1 false
    ∷ node 1 (Some 4) None 0 0 false ∷ []

short_path :
    bytes_eq (html (path_parts logs chain 4 (Some 3)))
    (codes "<bdi>all</bdi>" ++ then (codes "<bdi>b</bdi>" ++ then (codes "<bdi>c</bdi>" ++ then (codes "<bdi>d</bdi>" ++ then []))))
    ≡ true
unfolding path_parts symbols_after first_symbol symbol_len is_sequence sequence_len sequence_numbers first_code_point code_point_len is_unprintable notation unprintable_text number_text encode_utf8 digits passage_html
short_path = refl

-- The path to the article of a target at the end of a long path begins with `…`.
long_path :
    bytes_eq (html (article_parts logs chain [] 5))
    (codes "<article id=\"f5\"><h3><bdi>b</bdi> <strong class=\"o\">unfinished</strong></h3><p class=\"meta\">"
    ++ (0xE2 ∷ 0x80 ∷ 0xA6
    ∷ then (codes "<bdi>b</bdi>" ++ then (codes "<bdi>c</bdi>" ++ then (codes "<bdi>d</bdi>" ++ then (codes "<bdi>all</bdi>"
    ++ then (codes "<a href=\"#t5\">its place in the tree</a></p><p class=\"quiet\">It printed nothing that was captured.</p></article>")))))))
    ≡ true
unfolding article_parts article_of recipe_parts commands_parts path_parts output_parts nothing_parts in_tree_parts symbols_after first_symbol symbol_len is_sequence sequence_len sequence_numbers first_code_point code_point_len is_unprintable notation unprintable_text number_text encode_utf8 digits passage_html
long_path = refl

no_path : path_parts logs chain 4 None ≡ []
unfolding path_parts
no_path = refl

separator_is : PATH_SEPARATOR.now ≡ 32 ∷ (encode_utf8 0x203A ++ 32 ∷ [])
unfolding encode_utf8
separator_is = refl

more_is : MORE_ABOVE.now ≡ encode_utf8 0x2026 ++ 32 ∷ (encode_utf8 0x203A ++ 32 ∷ [])
unfolding encode_utf8
more_is = refl

-- ---- causes

no_cause : html (cause_parts None) ≡ []
unfolding cause_parts symbols_after first_symbol symbol_len is_sequence sequence_len sequence_numbers first_code_point code_point_len is_unprintable notation unprintable_text number_text encode_utf8 digits passage_html
no_cause = refl

long_cause :
    bytes_eq (html (cause_parts (Some (replicate 161 97))))
    (codes " <code>" ++ (replicate 160 97 ++ codes "</code>"))
    ≡ true
unfolding cause_parts cut_to begins_at symbols_after first_symbol symbol_len is_sequence sequence_len sequence_numbers first_code_point code_point_len is_unprintable notation unprintable_text number_text encode_utf8 digits passage_html
long_cause = refl
