-- Rows of parts of a page, and the HTML of them.
use Rattle.std.proofs.Common.{◌≡◌, ℕ, List, [], ◌∷◌, ◌++◌, map, take, refl}
use Rattle.std.specs.Char.{encode_utf8}
use Rattle.std.specs.Prelude.{codes, false, nat_lt, true}
use Rattle.std.specs.Fmt.{digits}
use Rattle.std.specs.List.{AllByRecursion, flat_map, list_all}
use Rattle.redo_html.specs.declared.markup.Markup.TheVariants.{Doctype, Html, EndHtml, Head, EndHead, BodyBad, EndBody, Title1, EndTitle1, Summary, EndSummary, Bdi, EndBdi}
use Rattle.redo_html.specs.declared.markup.Markup.TheVariants.{TargetLink, EndLink, Article, EndArticle, OpenDetails, EndDetails, Policy, Pre, EndPre}
use Rattle.redo_html.specs.declared.style.Hue.TheVariants.{Green, Blue}
use Rattle.redo_html.specs.Passage.{passage_html}
use Rattle.redo_html.specs.Parts.{Part, part_html, part_of}
use Rattle.redo_html.specs.declared.piece.Piece.TheVariants as piece
use Rattle.redo_html.specs.Parts.Part.{MarkupPart, LogPart, TextPart, NumberPart, TitlePart, StylePart}
use Rattle.redo_html.specs.Shown.{is_unprintable, notation, number_text, unprintable_text}
use Rattle.redo_html.specs.Style.{plain_style}
use Rattle.redo_html.specs.StyleSheet.{occurrences, style_sheet}
use Rattle.redo_html.specs.Symbols.{first_code_point, code_point_len, sequence_len, sequence_numbers, is_sequence, first_symbol, symbol_len, symbols_after}

record Row : Type 0 where
  parts : List Part
  html : List ℕ

abbrev row : List Part → List ℕ → Row
row parts html = record { parts = parts; html = html }

abbrev rows : List Row
rows =
    row (MarkupPart (TargetLink 12) ∷ TextPart ((27 ∷ []) ++ codes "[1ma") ∷ MarkupPart EndLink ∷ [])
    (codes "<a href=\"#t12\"><i>^[</i>[1ma</a>")
    ∷ row (MarkupPart (Article 0) ∷ MarkupPart (OpenDetails 105) ∷ []) (codes "<article id=\"f0\"><details open id=\"t105\">")
    ∷ row (MarkupPart Pre ∷ LogPart plain_style ((27 ∷ []) ++ codes "[1m<a") ∷ MarkupPart EndPre ∷ []) (codes "<pre>\n<b>&lt;a</b></pre>")
    ∷ row (LogPart (record { bold = true; hue = Blue }) (codes "a" ++ (27 ∷ []) ++ codes "[mb") ∷ LogPart plain_style (codes "c") ∷ [])
    (codes "<b class=\"b\">a</b>bc")
    ∷ row (NumberPart 0 ∷ TextPart (codes " of ") ∷ NumberPart 0xFFFFFFFFFFFFFFFF ∷ []) (codes "0 of 18446744073709551615")
    ∷ row (TitlePart (codes "</title>" ++ 1 ∷ []) ∷ []) (codes "<title>&lt;/title&gt;^A</title>")
    ∷ row (MarkupPart Policy ∷ []) (codes
    "<meta http-equiv=\"Content-Security-Policy\" content=\"default-src 'none'; style-src 'unsafe-inline'\">")
    ∷ row
    (MarkupPart Doctype ∷ MarkupPart Html ∷ MarkupPart Head ∷ TitlePart (codes "a < b" ++ (255 ∷ []) ++ codes "</title>") ∷ MarkupPart EndHead
    ∷ MarkupPart BodyBad ∷ MarkupPart Title1 ∷ NumberPart 2 ∷ TextPart (codes " of ") ∷ NumberPart 0xFFFFFFFFFFFFFFFF
    ∷ TextPart (codes " failed") ∷ MarkupPart EndTitle1 ∷ MarkupPart (OpenDetails 0) ∷ MarkupPart Summary ∷ MarkupPart Bdi
    ∷ TextPart (codes "<a.o>") ∷ MarkupPart EndBdi ∷ MarkupPart EndSummary ∷ MarkupPart Pre
    ∷ LogPart plain_style ((10 ∷ 27 ∷ []) ++ codes "[31ma&b") ∷ MarkupPart EndPre
    ∷ LogPart (record { bold = false; hue = Green }) ((27 ∷ []) ++ codes "[1") ∷ LogPart plain_style (codes "c") ∷ MarkupPart EndDetails
    ∷ MarkupPart (TargetLink 12) ∷ MarkupPart EndLink ∷ MarkupPart (Article 7) ∷ MarkupPart EndArticle ∷ MarkupPart EndBody
    ∷ MarkupPart EndHtml ∷ [])
    (codes "<!doctype html><html lang=\"en\"><head><title>a &lt; b\\xff&lt;/title&gt;</title></head><body class=\"bad\">"
    ++ codes "<h1>2 of 18446744073709551615 failed</h1><details open id=\"t0\"><summary><bdi>&lt;a.o&gt;</bdi></summary><pre>\n\n"
    ++ codes "<span class=\"r\">a&amp;b</span></pre><span class=\"g\"><i>^[</i>[1</span>c</details><a href=\"#t12\"></a>"
    ++ codes "<article id=\"f7\"></article></body></html>")
    ∷ []

written_are : AllByRecursion (λ r. flat_map part_html r.parts ≡ r.html) rows
unfolding symbols_after first_symbol symbol_len is_sequence sequence_len sequence_numbers first_code_point code_point_len is_unprintable notation unprintable_text number_text encode_utf8 digits passage_html
written_are = (refl, (refl, (refl, (refl, (refl, (refl, (refl, (refl, tt))))))))

style_is_an_element : take 7 (part_html StylePart) ≡ codes "<style>"
unfolding style_sheet
style_is_an_element = refl

sheet_begins : take 5 style_sheet ≡ codes ":root"
unfolding style_sheet
sheet_begins = refl

-- The colours of failures and of success: red and green.
colours : list_all (λ word. nat_lt 0 (occurrences word style_sheet))
    (codes "--bad:#c3212b;--good:#1a7f37;" ∷ codes "--r:#c3212b;--g:#1a7f37;" ∷ codes "background:var(--good)" ∷ codes ".bad .sign{background:var(--bad)}"
    ∷ codes "border-left:4px solid var(--bad)" ∷ codes "color:var(--bg);background:var(--bad);" ∷ codes ".e rect.f,"
    ∷ codes "rect.f{fill:#c62828}" ∷ codes ".r{color:var(--r)}.g{color:var(--g)}" ∷ codes "i{font-style:normal;color:var(--odd);"
    ∷ codes "white-space:pre-wrap;overflow-wrap:anywhere;" ∷ []) ≡ true
unfolding style_sheet
colours = refl

pieces_are_parts : map part_of (piece.Number 7 ∷ piece.Markup EndLink ∷ piece.StyleSheet ∷ [])
    ≡ NumberPart 7 ∷ MarkupPart EndLink ∷ StylePart ∷ []
pieces_are_parts = refl
