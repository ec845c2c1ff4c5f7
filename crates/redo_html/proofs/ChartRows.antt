-- Rows of charts: the chart, its HTML, its text and its tags. An independent program in Python computed the values.
use Rattle.std.proofs.Common.{◌≡◌, ℕ, Bool, true, false, List, [], ◌∷◌, ◌++◌, Option, None, Some, Bor, refl}
use Rattle.std.specs.Char.{encode_utf8}
use Rattle.std.specs.Prelude.{bytes_eq, codes, map}
use Rattle.std.specs.Fmt.{digits}
use Rattle.std.specs.List.{AllByRecursion, flat_map, list_all, list_any}
use Rattle.redo_html.specs.declared.chart.Anchor.TheVariants as anchor
use Rattle.redo_html.specs.declared.chart.Chart.{Chart}
use Rattle.redo_html.specs.declared.chart.ChartGroup.{ChartGroup}
use Rattle.redo_html.specs.declared.chart.ChartItem.{ChartItem}
use Rattle.redo_html.specs.declared.chart.ChartItem.TheVariants as item
use Rattle.redo_html.specs.declared.chart.GroupKind.{GroupKind}
use Rattle.redo_html.specs.declared.chart.GroupKind.TheVariants.{Axis, Callers, Recipes, Untimed}
use Rattle.redo_html.specs.declared.markup.Markup.TheVariants.{EndCell, EndDiv, MeterCell, TimelineScroll}
use Rattle.redo_html.specs.declared.piece.Piece.TheVariants as piece
use Rattle.redo_html.specs.Chart.{Drawing, drawing_links, drawing_of, lanes_word, layer_nodes, layer_of, nodes_html, percent_text, shape_nodes, shape_of}
use Rattle.redo_html.specs.Html.{start_name, svg_elements, tags_of}
use Rattle.redo_html.specs.Laws.{has_bytes, markup_tag, reworded}
use Rattle.redo_html.specs.Parts.{Part, part_html, part_of, part_text, part_tokens}
use Rattle.redo_html.specs.Parts.Part.{MarkupPart, ChartPart, MeterPart}
use Rattle.redo_html.specs.Passage.{passage_html}
use Rattle.redo_html.specs.Shown.{is_unprintable, number_text, unprintable_text, notation}
use Rattle.redo_html.specs.Symbols.{first_code_point, first_symbol, is_sequence, code_point_len, sequence_len, sequence_numbers, symbol_len, symbols_after}

-- ---- charts

abbrev at : {X : Type 0} → X → Bor X
at x = record { ref_ptr = (0, 0); now = x }

abbrev bar : ℕ → ℕ → ℕ → ℕ → ℕ → Bool → List ℕ → Option (Bor (List ℕ)) → ChartItem
bar target x y width height failed title label =
    item.Bar (record { target = target; x = x; y = y; width = width; height = height; failed = failed; title = at title; label = label })

abbrev group : GroupKind → List ChartItem → ChartGroup
group kind items = record { kind = kind; items = at items }

abbrev chart : ℕ → ℕ → List ChartGroup → Chart
chart height lanes groups = record { height = height; lanes = lanes; groups = at groups }

-- Every kind of group and item. Texts have tags, references, control characters and a byte that is not UTF-8.
abbrev full : Chart
full =
    chart 90 2 (
    group Axis (
    item.Line 0 86
    ∷ item.Tick 0 anchor.Start (at (codes "0"))
    ∷ item.Line 2500 86
    ∷ item.Tick 2500 anchor.Middle (at (codes "1 s"))
    ∷ item.Tick 9876 anchor.End (at (codes "<" ++ (1 ∷ []) ++ codes ">")) ∷ [])
    ∷ group Callers (
    bar 0 0 20 10000 12 false (codes "all, 4 s") (Some (at (codes "all")))
    ∷ bar 1 5 34 9995 12 true (codes "lib, exit 2") (Some (at (codes "lib"))) ∷ [])
    ∷ group Recipes (
    bar 7 1234 54 30 16 false (codes "out/<a>&\"b'.o, 0.01 s") None
    ∷ bar 8 1264 54 700 16 true (codes "</title>" ++ (255 ∷ [])) None
    ∷ bar 9 2000 72 350 16 true (codes "c, exit 1") (Some (at (codes "a<b>&")))
    ∷ bar 12 2350 72 400 3 false ((27 ∷ []) ++ codes "[1md") (Some (at (codes "d" ++ (27 ∷ []) ++ codes "[m"))) ∷ [])
    ∷ group Untimed (
    bar 18446744073709551615 9999 90 10 14 false (codes "e") None
    ∷ bar 13 0 90 350 14 false (codes "f") (Some (at (codes "f"))) ∷ []) ∷ [])

record ShapeRow : Type 0 where
  kind : GroupKind
  item : ChartItem
  html : List ℕ

abbrev shape : GroupKind → ChartItem → List ℕ → ShapeRow
shape kind item html = record { kind = kind; item = item; html = html }

abbrev shape_rows : List ShapeRow
shape_rows =
    shape Axis (item.Line 0 86) (codes "<line x1=\"0.00%\" x2=\"0.00%\" y1=\"15\" y2=\"86\"></line>")
    ∷ shape Axis (item.Tick 0 anchor.Start (at (codes "0"))) (codes "<text x=\"0.00%\" y=\"11\">0</text>")
    ∷ shape Axis (item.Line 2500 86) (codes "<line x1=\"25.00%\" x2=\"25.00%\" y1=\"15\" y2=\"86\"></line>")
    ∷ shape Axis (item.Tick 2500 anchor.Middle (at (codes "1 s"))) (codes "<text x=\"25.00%\" y=\"11\" text-anchor=\"middle\">1 s</text>")
    ∷ shape Axis (item.Tick 9876 anchor.End (at (codes "<" ++ (1 ∷ []) ++ codes ">")))
    (codes "<text x=\"98.76%\" y=\"11\" text-anchor=\"end\">&lt;^A&gt;</text>")
    ∷ shape Callers (bar 0 0 20 10000 12 false (codes "all, 4 s") (Some (at (codes "all"))))
    (codes "<a href=\"#t0\" tabindex=\"-1\"><svg x=\"0.00%\" y=\"20\" width=\"100.00%\" height=\"12\"><title>all, 4 s</title><rect width=\"100%\" height=\"12\"></rect><text x=\"4\" y=\"9\" fill=\"currentColor\">all</text></svg></a>")
    ∷ shape Callers (bar 1 5 34 9995 12 true (codes "lib, exit 2") (Some (at (codes "lib"))))
    (codes "<a href=\"#t1\" tabindex=\"-1\"><svg x=\"0.05%\" y=\"34\" width=\"99.95%\" height=\"12\"><title>lib, exit 2</title><rect width=\"100%\" height=\"12\" class=\"f\" fill=\"#c62828\"></rect><text x=\"4\" y=\"9\" fill=\"#fff\">lib</text></svg></a>")
    ∷ shape Recipes (bar 7 1234 54 30 16 false (codes "out/<a>&\"b'.o, 0.01 s") None)
    (codes "<a href=\"#t7\" tabindex=\"-1\"><rect x=\"12.34%\" y=\"54\" width=\"0.30%\" height=\"16\"><title>out/&lt;a&gt;&amp;\"b'.o, 0.01 s</title></rect></a>")
    ∷ shape Recipes (bar 8 1264 54 700 16 true (codes "</title>" ++ (255 ∷ [])) None)
    (codes "<a href=\"#t8\" tabindex=\"-1\"><rect x=\"12.64%\" y=\"54\" width=\"7.00%\" height=\"16\" class=\"f\" fill=\"#c62828\"><title>&lt;/title&gt;\\xff</title></rect></a>")
    ∷ shape Recipes (bar 9 2000 72 350 16 true (codes "c, exit 1") (Some (at (codes "a<b>&"))))
    (codes "<a href=\"#t9\" tabindex=\"-1\"><svg x=\"20.00%\" y=\"72\" width=\"3.50%\" height=\"16\"><title>c, exit 1</title><rect width=\"100%\" height=\"16\" class=\"f\" fill=\"#c62828\"></rect><text x=\"4\" y=\"12\" fill=\"#fff\">a&lt;b&gt;&amp;</text></svg></a>")
    ∷ shape Recipes (bar 12 2350 72 400 3 false ((27 ∷ []) ++ codes "[1md") (Some (at (codes "d" ++ (27 ∷ []) ++ codes "[m"))))
    (codes "<a href=\"#t12\" tabindex=\"-1\"><svg x=\"23.50%\" y=\"72\" width=\"4.00%\" height=\"3\"><title>^[[1md</title><rect width=\"100%\" height=\"3\"></rect><text x=\"4\" y=\"0\" fill=\"#fff\">d^[[m</text></svg></a>")
    ∷ shape Untimed (bar 18446744073709551615 9999 90 10 14 false (codes "e") None)
    (codes "<a href=\"#t18446744073709551615\" tabindex=\"-1\"><rect x=\"99.99%\" y=\"90\" width=\"0.10%\" height=\"14\"><title>e</title></rect></a>")
    ∷ shape Untimed (bar 13 0 90 350 14 false (codes "f") (Some (at (codes "f"))))
    (codes "<a href=\"#t13\" tabindex=\"-1\"><svg x=\"0.00%\" y=\"90\" width=\"3.50%\" height=\"14\"><title>f</title><rect width=\"100%\" height=\"14\"></rect><text x=\"4\" y=\"9\" fill=\"#fff\">f</text></svg></a>")
    ∷ []

shapes_are : AllByRecursion (λ r. nodes_html (shape_nodes r.kind (shape_of r.item)) ≡ r.html) shape_rows
unfolding symbols_after first_symbol symbol_len is_sequence sequence_len sequence_numbers first_code_point code_point_len is_unprintable notation unprintable_text number_text encode_utf8 digits passage_html
shapes_are = (refl, (refl, (refl, (refl, (refl, (refl, (refl, (refl, (refl, (refl, (refl, (refl, (refl, tt)))))))))))))

record GroupRow : Type 0 where
  group : ChartGroup
  html : List ℕ

abbrev group_row : ChartGroup → List ℕ → GroupRow
group_row group html = record { group = group; html = html }

abbrev group_rows : List GroupRow
group_rows =
    group_row (group Axis (item.Line 7 8 ∷ []))
    (codes "<g class=\"axis\" stroke=\"#8886\" fill=\"currentColor\" stroke-width=\".5\"><line x1=\"0.07%\" x2=\"0.07%\" y1=\"15\" y2=\"8\"></line></g>")
    ∷ group_row (group Callers (item.Line 7 8 ∷ []))
    (codes "<g class=\"w\" fill=\"#8886\"><line x1=\"0.07%\" x2=\"0.07%\" y1=\"15\" y2=\"8\"></line></g>")
    ∷ group_row (group Recipes (item.Line 7 8 ∷ []))
    (codes "<g class=\"k\" fill=\"#3a6ea5\"><line x1=\"0.07%\" x2=\"0.07%\" y1=\"15\" y2=\"8\"></line></g>")
    ∷ group_row (group Untimed ([])) (codes "<g class=\"e\" fill=\"#8a6d3b\"></g>")
    ∷ []

groups_are : AllByRecursion (λ r. nodes_html (layer_nodes (layer_of r.group)) ≡ r.html) group_rows
unfolding number_text digits
groups_are = (refl, (refl, (refl, (refl, tt))))

record Row : Type 0 where
  part : Part
  html : List ℕ

abbrev row : Part → List ℕ → Row
row part html = record { part = part; html = html }

abbrev rows : List Row
rows =
    row (part_of (piece.Chart (chart 0 1 [])))
    (codes "<svg role=\"img\" aria-label=\"A bar for each target, from its start to its end, in 1 lane\" width=\"100%\" height=\"0\" font-size=\"11\"></svg>")
    ∷ row (part_of (piece.Chart (chart 5 1 [])))
    (codes "<svg role=\"img\" aria-label=\"A bar for each target, from its start to its end, in 1 lane\" width=\"100%\" height=\"5\" font-size=\"11\"></svg>")
    ∷ row (part_of (piece.Chart (chart 6 0 [])))
    (codes "<svg role=\"img\" aria-label=\"A bar for each target, from its start to its end, in 0 lanes\" width=\"100%\" height=\"6\" font-size=\"11\"></svg>")
    ∷ row (part_of (piece.Chart (chart 7 8 (group Callers [] ∷ group Untimed [] ∷ []))))
    (codes "<svg role=\"img\" aria-label=\"A bar for each target, from its start to its end, in 8 lanes\" width=\"100%\" height=\"7\" font-size=\"11\"><g class=\"w\" fill=\"#8886\"></g><g class=\"e\" fill=\"#8a6d3b\"></g></svg>")
    ∷ row (part_of (piece.Meter 0)) (codes
    "<svg width=\"100%\" height=\"10\" aria-hidden=\"true\"><rect width=\"0.00%\" height=\"10\" fill=\"#3a6ea5\"></rect></svg>")
    ∷ row (part_of (piece.Meter 6320)) (codes
    "<svg width=\"100%\" height=\"10\" aria-hidden=\"true\"><rect width=\"63.20%\" height=\"10\" fill=\"#3a6ea5\"></rect></svg>")
    ∷ row (part_of (piece.Meter 5)) (codes
    "<svg width=\"100%\" height=\"10\" aria-hidden=\"true\"><rect width=\"0.05%\" height=\"10\" fill=\"#3a6ea5\"></rect></svg>")
    ∷ row (part_of (piece.Meter 10000))
    (codes "<svg width=\"100%\" height=\"10\" aria-hidden=\"true\"><rect width=\"100.00%\" height=\"10\" fill=\"#3a6ea5\"></rect></svg>")
    ∷ row (part_of (piece.Chart full)) (codes
    "<svg role=\"img\" aria-label=\"A bar for each target, from its start to its end, in 2 lanes\" width=\"100%\" height=\"90\" font-size=\"11\">"
    ++ codes "<g class=\"axis\" stroke=\"#8886\" fill=\"currentColor\" stroke-width=\".5\"><line x1=\"0.00%\" x2=\"0.00%\" y1=\"15\" y2=\"86\"></line>"
    ++ codes "<text x=\"0.00%\" y=\"11\">0</text><line x1=\"25.00%\" x2=\"25.00%\" y1=\"15\" y2=\"86\"></line>"
    ++ codes "<text x=\"25.00%\" y=\"11\" text-anchor=\"middle\">1 s</text><text x=\"98.76%\" y=\"11\" text-anchor=\"end\">&lt;^A&gt;</text></g>"
    ++ codes "<g class=\"w\" fill=\"#8886\"><a href=\"#t0\" tabindex=\"-1\"><svg x=\"0.00%\" y=\"20\" width=\"100.00%\" height=\"12\"><title>all, 4 s</title>"
    ++ codes "<rect width=\"100%\" height=\"12\"></rect><text x=\"4\" y=\"9\" fill=\"currentColor\">all</text></svg></a><a href=\"#t1\" tabindex=\"-1\">"
    ++ codes "<svg x=\"0.05%\" y=\"34\" width=\"99.95%\" height=\"12\"><title>lib, exit 2</title><rect width=\"100%\" height=\"12\" class=\"f\" fill=\"#c62828\"></rect>"
    ++ codes "<text x=\"4\" y=\"9\" fill=\"#fff\">lib</text></svg></a></g><g class=\"k\" fill=\"#3a6ea5\"><a href=\"#t7\" tabindex=\"-1\">"
    ++ codes "<rect x=\"12.34%\" y=\"54\" width=\"0.30%\" height=\"16\"><title>out/&lt;a&gt;&amp;\"b'.o, 0.01 s</title></rect></a><a href=\"#t8\" tabindex=\"-1\">"
    ++ codes "<rect x=\"12.64%\" y=\"54\" width=\"7.00%\" height=\"16\" class=\"f\" fill=\"#c62828\"><title>&lt;/title&gt;\\xff</title></rect></a>"
    ++ codes "<a href=\"#t9\" tabindex=\"-1\"><svg x=\"20.00%\" y=\"72\" width=\"3.50%\" height=\"16\"><title>c, exit 1</title>"
    ++ codes "<rect width=\"100%\" height=\"16\" class=\"f\" fill=\"#c62828\"></rect><text x=\"4\" y=\"12\" fill=\"#fff\">a&lt;b&gt;&amp;</text></svg></a>"
    ++ codes "<a href=\"#t12\" tabindex=\"-1\"><svg x=\"23.50%\" y=\"72\" width=\"4.00%\" height=\"3\"><title>^[[1md</title><rect width=\"100%\" height=\"3\"></rect>"
    ++ codes "<text x=\"4\" y=\"0\" fill=\"#fff\">d^[[m</text></svg></a></g><g class=\"e\" fill=\"#8a6d3b\"><a href=\"#t18446744073709551615\" tabindex=\"-1\">"
    ++ codes "<rect x=\"99.99%\" y=\"90\" width=\"0.10%\" height=\"14\"><title>e</title></rect></a><a href=\"#t13\" tabindex=\"-1\">"
    ++ codes "<svg x=\"0.00%\" y=\"90\" width=\"3.50%\" height=\"14\"><title>f</title><rect width=\"100%\" height=\"14\"></rect>"
    ++ codes "<text x=\"4\" y=\"9\" fill=\"#fff\">f</text></svg></a></g>"
    ++ codes "</svg>")
    ∷ []

written_are : AllByRecursion (λ r. part_html r.part ≡ r.html) rows
unfolding symbols_after first_symbol symbol_len is_sequence sequence_len sequence_numbers first_code_point code_point_len is_unprintable notation unprintable_text number_text encode_utf8 digits passage_html
written_are = (refl, (refl, (refl, (refl, (refl, (refl, (refl, (refl, (refl, tt)))))))))

-- A meter in a cell of a table, and a chart that can be scrolled.
pieces_are :
    flat_map part_html (map part_of (piece.Markup MeterCell ∷ piece.Meter 5 ∷ piece.Markup EndCell ∷ piece.Markup TimelineScroll
    ∷ piece.Chart (chart 20 1 (group Untimed (
    bar 18446744073709551615 9999 90 10 14 false (codes "e") None
    ∷ bar 13 0 90 350 14 false (codes "f") (Some (at (codes "f"))) ∷ []) ∷ []))
    ∷ piece.Markup EndDiv ∷ []))
    ≡ codes "<td class=\"m\"><svg width=\"100%\" height=\"10\" aria-hidden=\"true\"><rect width=\"0.05%\" height=\"10\" fill=\"#3a6ea5\"></rect></svg></td>"
    ++ codes "<div class=\"scroll\" tabindex=\"0\" role=\"region\" aria-labelledby=\"h-timeline\">"
    ++ codes "<svg role=\"img\" aria-label=\"A bar for each target, from its start to its end, in 1 lane\" width=\"100%\" height=\"20\" font-size=\"11\">"
    ++ codes "<g class=\"e\" fill=\"#8a6d3b\"><a href=\"#t18446744073709551615\" tabindex=\"-1\">"
    ++ codes "<rect x=\"99.99%\" y=\"90\" width=\"0.10%\" height=\"14\"><title>e</title></rect></a><a href=\"#t13\" tabindex=\"-1\">"
    ++ codes "<svg x=\"0.00%\" y=\"90\" width=\"3.50%\" height=\"14\"><title>f</title><rect width=\"100%\" height=\"14\"></rect>"
    ++ codes "<text x=\"4\" y=\"9\" fill=\"#fff\">f</text></svg></a></g></svg></div>"
unfolding symbols_after first_symbol symbol_len is_sequence sequence_len sequence_numbers first_code_point code_point_len is_unprintable notation unprintable_text number_text encode_utf8 digits passage_html
pieces_are = refl

-- A reader sees the ticks, the tooltips and the labels.
texts_are : (part_text (part_of (piece.Chart full))
    ≡ codes "01 s<^A>all, 4 salllib, exit 2libout/<a>&\"b'.o, 0.01 s</title>\\xffc, exit 1a<b>&^[[1mdd^[[meff")
    × (part_text (part_of (piece.Chart (chart 5 1 []))) ≡ []) × (part_text (part_of (piece.Meter 7)) ≡ [])
unfolding symbols_after first_symbol symbol_len is_sequence sequence_len sequence_numbers first_code_point code_point_len is_unprintable notation unprintable_text number_text encode_utf8 digits
texts_are = (refl, refl, refl)

links_are : (drawing_links (drawing_of full) ≡ 0 ∷ 1 ∷ 7 ∷ 8 ∷ 9 ∷ 12 ∷ 18446744073709551615 ∷ 13 ∷ [])
    × (drawing_links (drawing_of (chart 5 1 [])) ≡ [])
links_are = (refl, refl)

-- ---- percentages

percents_are : percent_text 0 ∷ percent_text 5 ∷ percent_text 70 ∷ percent_text 1234 ∷ percent_text 10000 ∷ []
    ≡ codes "0.00%" ∷ codes "0.05%" ∷ codes "0.70%" ∷ codes "12.34%" ∷ codes "100.00%" ∷ []
unfolding number_text digits
percents_are = refl

-- ---- tags and texts

-- One tick and one bar, with these texts.
abbrev pub two : List ℕ → List ℕ → List ℕ → Drawing
two tick title label =
    drawing_of (chart 40 3 (group Axis (item.Tick 50 anchor.End (at tick) ∷ [])
    ∷ group Recipes (bar 4 100 20 250 16 true title (Some (at label)) ∷ []) ∷ []))

tags_are : tags_of (part_tokens (ChartPart (two (codes "<a>") (codes "</title>") (codes "&"))))
    ≡ codes "svg role=\"img\" aria-label=\"A bar for each target, from its start to its end, in 3 lanes\" width=\"100%\" height=\"40\" font-size=\"11\""
    ∷ codes "g class=\"axis\" stroke=\"#8886\" fill=\"currentColor\" stroke-width=\".5\""
    ∷ codes "text x=\"0.50%\" y=\"11\" text-anchor=\"end\"" ∷ codes "/text" ∷ codes "/g"
    ∷ codes "g class=\"k\" fill=\"#3a6ea5\"" ∷ codes "a href=\"#t4\" tabindex=\"-1\""
    ∷ codes "svg x=\"1.00%\" y=\"20\" width=\"2.50%\" height=\"16\"" ∷ codes "title" ∷ codes "/title"
    ∷ codes "rect width=\"100%\" height=\"16\" class=\"f\" fill=\"#c62828\"" ∷ codes "/rect" ∷ codes "text x=\"4\" y=\"12\" fill=\"#fff\""
    ∷ codes "/text" ∷ codes "/svg" ∷ codes "/a" ∷ codes "/g" ∷ codes "/svg" ∷ []
unfolding symbols_after first_symbol symbol_len is_sequence sequence_len sequence_numbers first_code_point code_point_len is_unprintable notation unprintable_text number_text encode_utf8 digits
tags_are = refl

meter_tags_are : tags_of (part_tokens (MeterPart 5))
    ≡ codes "svg width=\"100%\" height=\"10\" aria-hidden=\"true\"" ∷ codes "rect width=\"0.05%\" height=\"10\" fill=\"#3a6ea5\""
    ∷ codes "/rect" ∷ codes "/svg" ∷ []
unfolding number_text digits
meter_tags_are = refl

-- Only a tag of a page is one.
markup_tags_are : (markup_tag (MarkupPart EndCell) ≡ codes "/td" ∷ []) × (markup_tag (ChartPart (two [] [] [])) ≡ [])
    × (markup_tag (MeterPart 1) ≡ [])
markup_tags_are = (refl, refl, refl)

reworded_is : reworded (λ text. codes "z") (two (codes "a") (codes "b") (codes "c")) ≡ two (codes "z") (codes "z") (codes "z")
reworded_is = refl

-- Each text has to consist of bytes.
bytes_are : has_bytes (ChartPart (two (255 ∷ []) (0 ∷ []) (codes "a"))) ∷ has_bytes (ChartPart (two (256 ∷ []) [] []))
    ∷ has_bytes (ChartPart (two [] (1 ∷ 256 ∷ []) [])) ∷ has_bytes (ChartPart (two [] [] (300 ∷ [])))
    ∷ has_bytes (MeterPart 7) ∷ []
    ≡ true ∷ false ∷ false ∷ false ∷ true ∷ []
bytes_are = refl

-- Each element that may be in an `svg` is in this chart.
svg_elements_are_used :
    list_all (λ (name : List ℕ). list_any (λ (tag : List ℕ). bytes_eq (start_name tag) name)
    (tags_of (part_tokens (part_of (piece.Chart full))))) svg_elements ≡ true
unfolding symbols_after first_symbol symbol_len is_sequence sequence_len sequence_numbers first_code_point code_point_len is_unprintable notation unprintable_text number_text encode_utf8 digits
svg_elements_are_used = refl

lane_words : map lanes_word (0 ∷ 1 ∷ 2 ∷ 11 ∷ 21 ∷ [])
    ≡ codes " lanes" ∷ codes " lane" ∷ codes " lanes" ∷ codes " lanes" ∷ codes " lanes" ∷ []
lane_words = refl
