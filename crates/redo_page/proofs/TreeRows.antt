-- Rows of trees: the logs, the requested targets, the options, and the HTML of the tree. An independent program in Python wrote the HTML.
use Rattle.std.proofs.Common.{◌≡◌, ℕ, Bool, true, false, List, [], ◌∷◌, ◌++◌, Option, None, Some, ℤ, pos, negsuc, length, map, replicate, refl}
use Rattle.std.specs.Char.{encode_utf8}
use Rattle.std.specs.Prelude.{◌==◌, codes, drop, if◌then◌else◌}
use Rattle.std.specs.Fmt.{digits}
use Rattle.std.specs.List.{flat_map}
use Rattle.redo_line.specs.declared.entry.Entry.{Entry}
use Rattle.redo_line.specs.declared.entry.Entry.TheVariants.{Text, Mention, Done, Closing, Note}
use Rattle.redo_line.specs.declared.entry.How.TheVariants.{Made, Waiting, Locked, Unlocked, Unchanged}
use Rattle.redo_logs.specs.declared.log_state.LogState.TheVariants.{Ended}
use Rattle.redo_logs.specs.Logs.{Log}
use Rattle.redo_options.specs.declared.options.Options.{Options}
use Rattle.redo_view.specs.Event.{Event}
use Rattle.redo_view.specs.Expansion.{shown_events, show_log, show_log_within}
use Rattle.redo_html.specs.Passage.{passage_html}
use Rattle.redo_html.specs.declared.markup.Markup.TheVariants.{Pre, EndPre, EndItem}
use Rattle.redo_html.specs.Parts.{part_html}
use Rattle.redo_html.specs.Parts.Part.{MarkupPart, LogPart}
use Rattle.redo_html.specs.Shown.{is_unprintable, notation, number_text, unprintable_text}
use Rattle.redo_html.specs.Symbols.{first_code_point, code_point_len, sequence_len, sequence_numbers, is_sequence, first_symbol, symbol_len, symbols_after}
use Rattle.redo_outline.specs.Contents.{Contents, contents_of}
use Rattle.redo_outline.specs.Outline.{outline_of}
use Rattle.redo_html.specs.Style.{plain_style}
use Rattle.redo_outline.specs.declared.node.Node.{Node}
use Rattle.redo_outline.specs.Contents.Contents.{Nothing, Shown, Opened}
use Rattle.redo_view.specs.Event.Event.{Requested, Mentioned, EntryShown}
use Rattle.redo_view.specs.declared.event.Opening.TheVariants.{NotOpened, OpensHere}
use Rattle.redo_page.specs.declared.level.Level.{Level}
use Rattle.redo_page.specs.Tree.{Build, articles, is_short, items_of, items_parts, no_node, node_at, top_level, tree_parts}
use Rattle.redo_page.specs.Blocks.{lines_block, blocks_of, fit_together, text_item}

-- A text with middle dots (U+00B7) instead of its tildes.
abbrev dotted : List ℕ → List ℕ
dotted text = flat_map (λ byte. if byte == 126 then 0xC2 ∷ 0xB7 ∷ [] else byte ∷ []) text

record Row : Type 0 where
  logs : List Log
  requested : List (List ℕ)
  options : Options
  html : List ℕ

abbrev row : List Log → List (List ℕ) → Options → List ℕ → Row
row logs requested options html = record { logs = logs; requested = requested; options = options; html = html }

abbrev log : List ℕ → List Entry → Log
log target entries = record { target = target; entries = entries; state = Ended }

abbrev plain : Options
plain = record { recursive = true; unchanged = false; details = true; debug_locks = false; debug_pids = false }

abbrev locks : Options
locks = record { recursive = true; unchanged = true; details = true; debug_locks = true; debug_pids = false }

abbrev heading : List ℕ
heading = codes "<section id=\"tree\" aria-labelledby=\"h-tree\"><h2 id=\"h-tree\">All logs</h2><p class=\"quiet\">Each log is shown where its target is first mentioned. Logs of targets that failed are open.</p><ul class=\"tree\">"

abbrev html_of : List Event → Row → List ℕ
html_of events row = flat_map part_html (tree_parts row.logs row.options (outline_of row.logs events) (contents_of events))

abbrev IsRow : Row → Type 0
IsRow row = html_of (shown_events row.logs row.options row.requested) row ≡ heading ++ row.html

nothing : IsRow (row
    ([])
    ([]) plain
    (codes "</ul></section>"))
unfolding symbols_after first_symbol symbol_len is_sequence sequence_len sequence_numbers first_code_point code_point_len is_unprintable notation unprintable_text number_text encode_utf8 digits passage_html show_log show_log_within
nothing = refl

text : IsRow (row
    (log (codes "all") (Text (codes "a <b>") ∷ Text (codes "c & d") ∷ Closing 9 (pos 0) ∷ [])
    ∷ [])
    (codes "all" ∷ []) plain
    (dotted (codes "<li><details open id=\"t0\"><summary><bdi>all</bdi> <small>~ 2 lines</small></summary><ul><li><pre>\na &lt;b&gt;\nc &amp; d\n</pre></li></ul></details></li></ul></section>")))
unfolding symbols_after first_symbol symbol_len is_sequence sequence_len sequence_numbers first_code_point code_point_len is_unprintable notation unprintable_text number_text encode_utf8 digits passage_html show_log show_log_within
text = refl

seven : IsRow (row
    (log (codes "all") (Mention 9 Made (codes "a") ∷ Mention 9 Made (codes "s") ∷ Mention 9 Made (codes "t") ∷ Mention 9 Made (codes "u")
    ∷ Done 9 (pos 0) (codes "s") ∷ Mention 9 Made (codes "b") ∷ Done 9 (pos 2) (codes "b") ∷ Closing 9 (pos 1) ∷ [])
    ∷ log (codes "a") (Text (codes "cc a.c") ∷ Text (codes "a.c: warning: x") ∷ Mention 9 Made (codes "c") ∷ Done 9 (negsuc 0) (codes "c")
    ∷ Closing 9 (pos 0) ∷ [])
    ∷ log (codes "s") ([])
    ∷ log (codes "t") (Closing 9 (pos 0) ∷ [])
    ∷ log (codes "u") (Closing 9 (pos 0) ∷ [])
    ∷ log (codes "b") (Text (codes "error") ∷ Done 9 (negsuc 0) (codes "c") ∷ Done 9 (pos 3) (codes "x") ∷ [])
    ∷ log (codes "c") (Text (codes "warning") ∷ Text (codes "warning:warning:") ∷ Note 9 (codes "note") (codes "warning:")
    ∷ Closing 9 (negsuc 0) ∷ [])
    ∷ [])
    (codes "all" ∷ []) plain
    (dotted (codes "<li><details open id=\"t0\"><summary><bdi>all</bdi> <strong class=\"x\">exit 1</strong> <small>~ 6 below</small> <small>~ <em>2 warnings below</em></small></summary><ul><li><details open id=\"t1\"><summary><bdi>a</bdi> <small>~ 2 lines</small> <small>~ <em>1 warning</em></small> <small>~ 1 below</small> <small>~ <em>1 warning below</em></small></summary><ul><li><pre>\ncc a.c\na.c: warning: x\n</pre></li><li><details open id=\"t2\"><summary><bdi>c</bdi> <strong class=\"x\">exit -1</strong> <small>~ 2 lines</small> <small>~ <em>1 warning</em></small></summary><ul><li class=\"note\"><a href=\"#f2\">What it printed is shown above</a></li><li class=\"note\">redo: warning:</li></ul></details></li></ul></details></li><li id=\"t3\"><bdi>s</bdi></li><li id=\"t4\"><bdi>t</bdi></li><li id=\"t5\"><bdi>u</bdi></li><li><details open id=\"t6\"><summary><bdi>b</bdi> <strong class=\"x\">exit 2</strong> <small>~ 1 line</small></summary><ul><li class=\"note\"><a href=\"#f6\">What it printed is shown above</a></li><li class=\"note\">needs <a href=\"#t2\"><bdi>c</bdi></a> <strong class=\"x\">exit -1</strong></li><li class=\"note\">needs <bdi>x</bdi> <strong class=\"x\">exit 3</strong></li></ul></details></li></ul></details></li></ul></section>")))
unfolding symbols_after first_symbol symbol_len is_sequence sequence_len sequence_numbers first_code_point code_point_len is_unprintable notation unprintable_text number_text encode_utf8 digits passage_html show_log show_log_within
seven = refl

group : IsRow (row
    (log (codes "all") (Mention 9 Made (codes "a") ∷ Mention 9 Made (codes "b") ∷ Mention 9 Made (codes "c") ∷ Mention 9 Made (codes "d")
    ∷ Mention 9 Made (codes "e") ∷ Mention 9 Made (codes "f") ∷ Text (codes "x") ∷ Mention 9 Made (codes "g") ∷ Closing 9 (pos 0) ∷ [])
    ∷ log (codes "a") (Closing 9 (pos 0) ∷ [])
    ∷ log (codes "b") (Mention 9 Made (codes "h") ∷ Mention 9 Made (codes "i") ∷ Mention 9 Made (codes "j") ∷ Mention 9 Made (codes "k")
    ∷ Mention 9 Made (codes "l") ∷ Closing 9 (pos 0) ∷ [])
    ∷ log (codes "c") (Closing 9 (pos 0) ∷ [])
    ∷ log (codes "d") (Closing 9 (pos 0) ∷ [])
    ∷ log (codes "e") (Closing 9 (pos 0) ∷ [])
    ∷ log (codes "f") (Text (codes "y") ∷ Closing 9 (pos 0) ∷ [])
    ∷ log (codes "g") (Closing 9 (pos 0) ∷ [])
    ∷ log (codes "h") (Closing 9 (pos 0) ∷ [])
    ∷ log (codes "i") (Closing 9 (pos 0) ∷ [])
    ∷ log (codes "j") (Closing 9 (pos 0) ∷ [])
    ∷ log (codes "k") (Closing 9 (pos 0) ∷ [])
    ∷ log (codes "l") (Closing 9 (pos 0) ∷ [])
    ∷ [])
    (codes "all" ∷ []) plain
    (dotted (codes "<li><details open id=\"t0\"><summary><bdi>all</bdi> <small>~ 1 line</small> <small>~ 12 below</small></summary><ul><li><details class=\"s\"><summary>5 targets that printed nothing</summary><ul><li id=\"t1\"><bdi>a</bdi></li><li><details id=\"t2\"><summary><bdi>b</bdi> <small>~ 5 below</small></summary><ul><li id=\"t3\"><bdi>h</bdi></li><li id=\"t4\"><bdi>i</bdi></li><li id=\"t5\"><bdi>j</bdi></li><li id=\"t6\"><bdi>k</bdi></li><li id=\"t7\"><bdi>l</bdi></li></ul></details></li><li id=\"t8\"><bdi>c</bdi></li><li id=\"t9\"><bdi>d</bdi></li><li id=\"t10\"><bdi>e</bdi></li></ul></details></li><li><details id=\"t11\"><summary><bdi>f</bdi> <small>~ 1 line</small></summary><ul><li><pre>\ny\n</pre></li></ul></details></li><li><pre>\nx\n</pre></li><li id=\"t12\"><bdi>g</bdi></li></ul></details></li></ul></section>")))
unfolding symbols_after first_symbol symbol_len is_sequence sequence_len sequence_numbers first_code_point code_point_len is_unprintable notation unprintable_text number_text encode_utf8 digits passage_html show_log show_log_within
group = refl

four : IsRow (row
    (log (codes "all") (Mention 9 Made (codes "a") ∷ Mention 9 Made (codes "b") ∷ Mention 9 Made (codes "c") ∷ Mention 9 Made (codes "d")
    ∷ Text (codes "x") ∷ Closing 9 (pos 0) ∷ [])
    ∷ log (codes "a") (Closing 9 (pos 0) ∷ [])
    ∷ log (codes "b") (Closing 9 (pos 0) ∷ [])
    ∷ log (codes "c") (Closing 9 (pos 0) ∷ [])
    ∷ log (codes "d") (Closing 9 (pos 0) ∷ [])
    ∷ [])
    (codes "all" ∷ []) plain
    (dotted (codes "<li><details open id=\"t0\"><summary><bdi>all</bdi> <small>~ 1 line</small> <small>~ 4 below</small></summary><ul><li id=\"t1\"><bdi>a</bdi></li><li id=\"t2\"><bdi>b</bdi></li><li id=\"t3\"><bdi>c</bdi></li><li id=\"t4\"><bdi>d</bdi></li><li><pre>\nx\n</pre></li></ul></details></li></ul></section>")))
unfolding symbols_after first_symbol symbol_len is_sequence sequence_len sequence_numbers first_code_point code_point_len is_unprintable notation unprintable_text number_text encode_utf8 digits passage_html show_log show_log_within
four = refl

only_child : IsRow (row
    (log (codes "x") (Mention 9 Made (codes "y") ∷ Closing 9 (pos 0) ∷ [])
    ∷ log (codes "y") (Mention 9 Made (codes "z") ∷ Done 9 (pos 0) (codes "z") ∷ Closing 9 (pos 0) ∷ [])
    ∷ log (codes "z") (Text (codes "z") ∷ Mention 9 Made (codes "v") ∷ Closing 9 (pos 0) ∷ [])
    ∷ log (codes "v") (Text (codes "v") ∷ Closing 9 (pos 0) ∷ [])
    ∷ log (codes "w") (Text (codes "w") ∷ [])
    ∷ [])
    (codes "x" ∷ codes "w" ∷ []) plain
    (dotted (codes "<li><details open id=\"t0\"><summary><bdi>x</bdi> <small>~ 3 below</small></summary><ul><li><details open id=\"t1\"><summary><bdi>y</bdi> <small>~ 2 below</small></summary><ul><li><details open id=\"t2\"><summary><bdi>z</bdi> <small>~ 1 line</small> <small>~ 1 below</small></summary><ul><li><pre>\nz\n</pre></li><li><details id=\"t3\"><summary><bdi>v</bdi> <small>~ 1 line</small></summary><ul><li><pre>\nv\n</pre></li></ul></details></li></ul></details></li></ul></details></li></ul></details></li><li><details open id=\"t4\"><summary><bdi>w</bdi> <strong class=\"o\">unfinished</strong> <small>~ 1 line</small></summary><ul><li><pre>\nw\n</pre></li></ul></details></li></ul></section>")))
unfolding symbols_after first_symbol symbol_len is_sequence sequence_len sequence_numbers first_code_point code_point_len is_unprintable notation unprintable_text number_text encode_utf8 digits passage_html show_log show_log_within
only_child = refl

locked : IsRow (row
    (log (codes "x") (Mention 9 Waiting (codes "y") ∷ Mention 9 Locked (codes "y") ∷ Mention 9 Unlocked (codes "q")
    ∷ Mention 9 Unchanged (codes "y") ∷ Note 9 (codes "check") (codes "a < b") ∷ Text (codes "1") ∷ Note 9 (codes "note") (codes "2")
    ∷ Text (codes "3") ∷ Closing 9 (pos 0) ∷ [])
    ∷ log (codes "y") (Closing 9 (pos 0) ∷ [])
    ∷ [])
    (codes "x" ∷ []) locks
    (dotted (codes "<li><details open id=\"t0\"><summary><bdi>x</bdi> <small>~ 2 lines</small> <small>~ 1 below</small></summary><ul><li id=\"t1\"><bdi>y</bdi> <small>~ waiting</small></li><li><a href=\"#t1\"><bdi>y</bdi></a> <small>~ locked</small></li><li><bdi>q</bdi> <small>~ unlocked</small></li><li><a href=\"#t1\"><bdi>y</bdi></a> <small>~ unchanged</small></li><li class=\"note\">(a &lt; b)</li><li><pre>\n1\n</pre></li><li class=\"note\">redo: 2</li><li><pre>\n3\n</pre></li></ul></details></li></ul></section>")))
unfolding symbols_after first_symbol symbol_len is_sequence sequence_len sequence_numbers first_code_point code_point_len is_unprintable notation unprintable_text number_text encode_utf8 digits passage_html show_log show_log_within
locked = refl

six : IsRow (row
    (log (codes "all") (Mention 9 Made (codes "a") ∷ Mention 9 Made (codes "b") ∷ Mention 9 Made (codes "c") ∷ Mention 9 Made (codes "d")
    ∷ Mention 9 Made (codes "e") ∷ Mention 9 Made (codes "f") ∷ Closing 9 (pos 0) ∷ [])
    ∷ log (codes "a") (Closing 9 (pos 0) ∷ [])
    ∷ log (codes "b") (Closing 9 (pos 0) ∷ [])
    ∷ log (codes "c") (Closing 9 (pos 0) ∷ [])
    ∷ log (codes "d") (Closing 9 (pos 0) ∷ [])
    ∷ log (codes "e") (Closing 9 (pos 0) ∷ [])
    ∷ log (codes "f") (Closing 9 (pos 0) ∷ [])
    ∷ [])
    (codes "all" ∷ []) plain
    (dotted (codes "<li><details open id=\"t0\"><summary><bdi>all</bdi> <small>~ 6 below</small></summary><ul><li id=\"t1\"><bdi>a</bdi></li><li id=\"t2\"><bdi>b</bdi></li><li id=\"t3\"><bdi>c</bdi></li><li id=\"t4\"><bdi>d</bdi></li><li id=\"t5\"><bdi>e</bdi></li><li id=\"t6\"><bdi>f</bdi></li></ul></details></li></ul></section>")))
unfolding symbols_after first_symbol symbol_len is_sequence sequence_len sequence_numbers first_code_point code_point_len is_unprintable notation unprintable_text number_text encode_utf8 digits passage_html show_log show_log_within
six = refl

unseen : IsRow (row
    (log (codes "x") (Mention 9 Made (codes "a") ∷ Mention 9 Made (codes "b") ∷ Text (codes "x") ∷ Closing 9 (pos 0) ∷ [])
    ∷ log (codes "a") (Closing 9 (pos 0) ∷ [])
    ∷ log (codes "b") (Text (codes "1") ∷ Done 9 (pos 0) (codes "a") ∷ Text (codes "2") ∷ Mention 9 Made (codes "a") ∷ Text (codes "3")
    ∷ Closing 9 (pos 0) ∷ Text (codes "4") ∷ [])
    ∷ [])
    (codes "x" ∷ []) plain
    (dotted (codes "<li><details open id=\"t0\"><summary><bdi>x</bdi> <small>~ 1 line</small> <small>~ 2 below</small></summary><ul><li id=\"t1\"><bdi>a</bdi></li><li><details id=\"t2\"><summary><bdi>b</bdi> <small>~ 4 lines</small></summary><ul><li><pre>\n1\n2\n3\n4\n</pre></li></ul></details></li><li><pre>\nx\n</pre></li></ul></details></li></ul></section>")))
unfolding symbols_after first_symbol symbol_len is_sequence sequence_len sequence_numbers first_code_point code_point_len is_unprintable notation unprintable_text number_text encode_utf8 digits passage_html show_log show_log_within
unseen = refl

nested_children : IsRow (row
    (log (codes "x") (Mention 9 Made (codes "a") ∷ Text (codes "x") ∷ Closing 9 (pos 0) ∷ [])
    ∷ log (codes "a") (Mention 9 Made (codes "b") ∷ Closing 9 (pos 0) ∷ [])
    ∷ log (codes "b") (Text (codes "y") ∷ Closing 9 (pos 0) ∷ [])
    ∷ [])
    (codes "x" ∷ []) plain
    (dotted (codes "<li><details open id=\"t0\"><summary><bdi>x</bdi> <small>~ 1 line</small> <small>~ 2 below</small></summary><ul><li><details id=\"t1\"><summary><bdi>a</bdi> <small>~ 1 below</small></summary><ul><li><details id=\"t2\"><summary><bdi>b</bdi> <small>~ 1 line</small></summary><ul><li><pre>\ny\n</pre></li></ul></details></li></ul></details></li><li><pre>\nx\n</pre></li></ul></details></li></ul></section>")))
unfolding symbols_after first_symbol symbol_len is_sequence sequence_len sequence_numbers first_code_point code_point_len is_unprintable notation unprintable_text number_text encode_utf8 digits passage_html show_log show_log_within
nested_children = refl

groups : IsRow (row
    (log (codes "all") (Mention 9 Made (codes "a") ∷ Mention 9 Made (codes "b") ∷ Mention 9 Made (codes "c") ∷ Mention 9 Made (codes "d")
    ∷ Mention 9 Made (codes "e") ∷ Note 9 (codes "note") (codes "-") ∷ Mention 9 Made (codes "f") ∷ Mention 9 Made (codes "g")
    ∷ Mention 9 Made (codes "h") ∷ Mention 9 Made (codes "i") ∷ Mention 9 Made (codes "j") ∷ [])
    ∷ log (codes "a") (Closing 9 (pos 0) ∷ [])
    ∷ log (codes "b") (Closing 9 (pos 0) ∷ [])
    ∷ log (codes "c") (Closing 9 (pos 0) ∷ [])
    ∷ log (codes "d") (Closing 9 (pos 0) ∷ [])
    ∷ log (codes "e") (Closing 9 (pos 0) ∷ [])
    ∷ log (codes "f") (Closing 9 (pos 0) ∷ [])
    ∷ log (codes "g") (Closing 9 (pos 0) ∷ [])
    ∷ log (codes "h") (Closing 9 (pos 0) ∷ [])
    ∷ log (codes "i") (Closing 9 (pos 0) ∷ [])
    ∷ log (codes "j") (Closing 9 (pos 0) ∷ [])
    ∷ [])
    (codes "all" ∷ []) plain
    (dotted (codes "<li><details open id=\"t0\"><summary><bdi>all</bdi> <strong class=\"o\">unfinished</strong> <small>~ 10 below</small></summary><ul><li><details class=\"s\"><summary>5 targets that printed nothing</summary><ul><li id=\"t1\"><bdi>a</bdi></li><li id=\"t2\"><bdi>b</bdi></li><li id=\"t3\"><bdi>c</bdi></li><li id=\"t4\"><bdi>d</bdi></li><li id=\"t5\"><bdi>e</bdi></li></ul></details></li><li class=\"note\">redo: -</li><li><details class=\"s\"><summary>5 targets that printed nothing</summary><ul><li id=\"t6\"><bdi>f</bdi></li><li id=\"t7\"><bdi>g</bdi></li><li id=\"t8\"><bdi>h</bdi></li><li id=\"t9\"><bdi>i</bdi></li><li id=\"t10\"><bdi>j</bdi></li></ul></details></li></ul></details></li></ul></section>")))
unfolding symbols_after first_symbol symbol_len is_sequence sequence_len sequence_numbers first_code_point code_point_len is_unprintable notation unprintable_text number_text encode_utf8 digits passage_html show_log show_log_within
groups = refl

-- ---- limits

abbrev node : Option ℤ → ℕ → ℕ → Bool → Node
node status lines bytes fails_below =
    record no_node { status = status; lines = lines; bytes = bytes; others = true; fails_below = fails_below }

-- Which targets have an article: those that failed, and none below them.
abbrev failed : Node
failed = node (Some (pos 2)) 1 2 false

articles_are :
    (articles (node (Some (pos 0)) 0 0 false ∷ node (Some (pos 1)) 0 0 true ∷ failed ∷ node None 0 0 false
    ∷ node (Some (negsuc 0)) 0 0 false ∷ []) ≡ 2 ∷ 4 ∷ [])
    × (articles (failed ∷ failed ∷ failed ∷ failed ∷ failed ∷ failed ∷ failed ∷ failed ∷ failed ∷ failed ∷ failed ∷ [])
    ≡ 0 ∷ 1 ∷ 2 ∷ 3 ∷ 4 ∷ 5 ∷ 6 ∷ 7 ∷ 8 ∷ 9 ∷ [])
articles_are = (refl, refl)

-- The last one of eleven ended first.
articles_in_order :
    articles (failed ∷ failed ∷ failed ∷ failed ∷ failed ∷ failed ∷ failed ∷ failed ∷ failed ∷ failed
    ∷ record failed { ended = Some 5 } ∷ [])
    ≡ 10 ∷ 0 ∷ 1 ∷ 2 ∷ 3 ∷ 4 ∷ 5 ∷ 6 ∷ 7 ∷ 8 ∷ []
articles_in_order = refl

-- Which outputs are short.
short_are :
    (is_short (node None 0 0 false) ≡ false) × (is_short (node None 1 40000 false) ≡ true) × (is_short (node None 300 600 false) ≡ true)
    × (is_short (node None 301 600 false) ≡ false) × (is_short (node None 2 40001 false) ≡ false)
short_are = (refl, refl, refl, refl, refl)

-- The facts about a log that doesn't exist.
none_there :
    node_at (failed ∷ []) 1
    ≡ record {
      number = 0;
      parent = None;
      status = None;
      lines = 0;
      bytes = 0;
      warnings = 0;
      below = 0;
      children = 0;
      others = false;
      warnings_below = 0;
      fails_below = false;
      silent = 0;
      took = None;
      ended = None;
    }
none_there = refl

abbrev html_at : Build → Level → ℕ → Contents → List ℕ
html_at build level position contents = flat_map part_html (items_parts build level (items_of build level position contents))

-- A log at depth 59 is nested, and one at depth 60 isn't. The output of the second one is in an article.
abbrev one_log : List Node → ℕ → List ℕ
one_log nodes depth =
    html_at (record
    { logs = log (codes "a") [] ∷ []; options = plain; nodes = nodes; articles = articles nodes })
    (record { position = Some 7; expanded = true; depth = depth }) 0
    (Opened (Mentioned 1 9 Made (codes "a") (OpensHere 0)) 0
    (Shown (EntryShown 2 (Text (codes "x"))) (Shown (EntryShown 2 (Note 9 (codes "n") (codes "y"))) Nothing)) Nothing)

abbrev shown : Node
shown = node None 1 2 false

depths_are :
    (one_log (shown ∷ []) 59 ≡ dotted (codes "<li><details id=\"t0\"><summary><bdi>a</bdi> <strong class=\"o\">unfinished</strong> <small>~ 1 line</small></summary><ul><li><pre>\nx\n</pre></li><li class=\"note\">redo: y</li></ul></details></li>"))
    × (one_log (shown ∷ []) 60 ≡ dotted (codes "<li id=\"t0\"><bdi>a</bdi> <strong class=\"o\">unfinished</strong> <small>~ 1 line</small> <small>~ level 60</small></li><li><pre>\nx\n</pre></li><li class=\"note\">redo: y</li><li class=\"note\">end of <bdi>a</bdi></li>"))
    × (one_log (failed ∷ []) 60 ≡ dotted (codes
    "<li id=\"t0\"><bdi>a</bdi> <strong class=\"x\">exit 2</strong> <small>~ 1 line</small> <small>~ level 60</small></li><li class=\"note\"><a href=\"#f0\">What it printed is shown above</a></li><li class=\"note\">redo: y</li><li class=\"note\">end of <bdi>a</bdi></li>"))
unfolding symbols_after first_symbol symbol_len is_sequence sequence_len sequence_numbers first_code_point code_point_len is_unprintable notation unprintable_text number_text encode_utf8 digits passage_html
depths_are = (refl, refl, refl)

-- The output of the log at depth 60 is too long to be in its article.
long_is :
    one_log (node (Some (pos 2)) 301 602 false ∷ []) 60
    ≡ dotted (codes "<li id=\"t0\"><bdi>a</bdi> <strong class=\"x\">exit 2</strong> <small>~ 301 lines</small> <small>~ level 60</small></li><li><pre>\nx\n</pre></li><li class=\"note\">redo: y</li><li class=\"note\">end of <bdi>a</bdi></li>")
unfolding symbols_after first_symbol symbol_len is_sequence sequence_len sequence_numbers first_code_point code_point_len is_unprintable notation unprintable_text number_text encode_utf8 digits passage_html
long_is = refl

-- A log in the deepest log that is nested is not nested.
levels_are :
    html_at (record {
      logs = log (codes "a") [] ∷ log (codes "b") [] ∷ [];
      options = plain;
      nodes = shown ∷ record shown { number = 1 } ∷ [];
      articles = [];
    }) (record { position = Some 7; expanded = false; depth = 59 }) 0
    (Opened (Mentioned 1 9 Made (codes "a") (OpensHere 0)) 0
    (Opened (Mentioned 1 9 Made (codes "b") (OpensHere 1)) 1 (Shown (EntryShown 2 (Text (codes "x"))) Nothing) Nothing) Nothing)
    ≡ dotted (codes "<li><details id=\"t0\"><summary><bdi>a</bdi> <strong class=\"o\">unfinished</strong> <small>~ 1 line</small></summary><ul><li id=\"t1\"><bdi>b</bdi> <strong class=\"o\">unfinished</strong> <small>~ 1 line</small> <small>~ level 60</small></li><li><pre>\nx\n</pre></li><li class=\"note\">end of <bdi>b</bdi></li></ul></details></li>")
unfolding symbols_after first_symbol symbol_len is_sequence sequence_len sequence_numbers first_code_point code_point_len is_unprintable notation unprintable_text number_text encode_utf8 digits passage_html
levels_are = refl

-- A requested target whose log isn't opened.
requested_are :
    html_at (record { logs = []; options = plain; nodes = []; articles = [] }) top_level 0
    (Shown (Requested (codes "a") NotOpened) Nothing)
    ≡ codes "<li><bdi>a</bdi></li>"
unfolding symbols_after first_symbol symbol_len is_sequence sequence_len sequence_numbers first_code_point code_point_len is_unprintable notation unprintable_text number_text encode_utf8 digits passage_html
requested_are = refl

-- ---- blocks

-- 500 lines fit into a block, and lines with 65,536 bytes.
fits_are :
    (fit_together (replicate 500 []) ≡ true) × (fit_together (replicate 501 []) ≡ false)
    × (fit_together (replicate 64 (replicate 1023 120)) ≡ true)
    × (fit_together ([] ∷ replicate 64 (replicate 1023 120)) ≡ false)
fits_are = (refl, refl, refl, refl)

-- A line of 20,479 bytes, with its line feed 20,480.
abbrev long : List ℕ
long = replicate 20479 120

-- Three of these lines fit into a block, and 4,096 bytes more. A longer line than fits has a block of its own.
blocks_are :
    (map length (blocks_of (replicate 7 long)) ≡ 3 ∷ 3 ∷ 1 ∷ [])
    × (map length (blocks_of (replicate 3 long ++ replicate 4095 120 ∷ codes "x" ∷ [])) ≡ 4 ∷ 1 ∷ [])
    × (map length (blocks_of (codes "x" ∷ replicate 65536 120 ∷ codes "y" ∷ codes "z" ∷ [])) ≡ 1 ∷ 1 ∷ 2 ∷ [])
    × (map length (blocks_of (replicate 501 [])) ≡ 500 ∷ 1 ∷ [])
    × (blocks_of (codes "x" ∷ codes "y" ∷ []) ≡ (codes "x" ∷ codes "y" ∷ []) ∷ []) × (blocks_of [] ≡ [])
blocks_are = (refl, refl, refl, refl, refl, refl)

-- `ESC [31m` begins a red text, and `ESC [m` ends it.
abbrev red : List ℕ
red = 27 ∷ codes "[31m"

-- A line ends with a line feed. The style of a line lasts in those after it.
lines_are :
    (flat_map part_html (lines_block (codes "x" ∷ [] ∷ [])) ≡ codes "<pre>\nx\n\n</pre>")
    × (flat_map part_html (lines_block ((red ++ codes "x") ∷ codes "y" ∷ (27 ∷ codes "[mz") ∷ []))
    ≡ codes "<pre>\n<span class=\"r\">x\n</span><span class=\"r\">y\n</span>z\n</pre>")
    × (flat_map part_html (text_item (codes "x" ∷ codes "y" ∷ [])) ≡ codes "<li><pre>\nx\ny\n</pre></li>")
unfolding symbols_after first_symbol symbol_len is_sequence sequence_len sequence_numbers first_code_point code_point_len is_unprintable notation unprintable_text number_text encode_utf8 digits passage_html
lines_are = (refl, refl, refl)

-- A new block begins in the plain style, in the same item.
new_blocks_are :
    drop 502 (text_item (replicate 499 [] ++ red ∷ codes "y" ∷ []))
    ≡ MarkupPart EndPre ∷ MarkupPart Pre ∷ LogPart plain_style (codes "y\n") ∷ MarkupPart EndPre ∷ MarkupPart EndItem ∷ []
unfolding symbols_after first_symbol symbol_len is_sequence sequence_len sequence_numbers first_code_point code_point_len
new_blocks_are = refl
