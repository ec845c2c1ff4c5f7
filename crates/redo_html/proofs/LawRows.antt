-- Rows of the definitions that the laws cite: highlights, bytes, tokens, and how bytes are read. The values are worked out by hand.
use Rattle.std.proofs.Common.{◌≡◌, ℕ, Bool, true, false, List, [], ◌∷◌, ◌++◌, inl, inr, map, refl, sym, ◌∙◌}
use Rattle.std.proofs.lemmas.Bool.{false≢true}
use Rattle.std.specs.Char.{encode_utf8}
use Rattle.std.specs.Prelude.{codes}
use Rattle.std.specs.Fmt.{digits}
use Rattle.std.specs.List.{list_all, list_any}
use Rattle.redo_html.specs.declared.text_kind.TextKind.TheVariants.{Log, Monochrome, Title}
use Rattle.redo_html.specs.declared.style.Hue.{Hue}
use Rattle.redo_html.specs.declared.style.Hue.TheVariants.{Plain, Red, Green, Yellow, Blue, Magenta, Cyan}
use Rattle.redo_html.specs.Html.{tags_of, text_of}
use Rattle.redo_html.specs.Html.Token.{Character, Tag, Lost}
use Rattle.redo_html.specs.Laws.{IsChartTag, ReadsAs, highlights, is_byte, is_highlight, is_plain}
use Rattle.redo_html.specs.Lines.{is_no_escape}
use Rattle.redo_html.specs.Passage.{highlight_text, passage_tokens}
use Rattle.redo_html.specs.Passage.Inline.{UnprintableStart, UnprintableEnd, StyleStart, StyleEnd}
use Rattle.redo_html.specs.Shown.{is_unprintable, number_text, unprintable_text, notation}
use Rattle.redo_html.specs.Style.{plain_style}
use Rattle.redo_html.specs.Symbols.{first_code_point, first_symbol, is_sequence, code_point_len, sequence_len, sequence_numbers, symbol_len, symbols_after}
use Rattle.redo_html.proofs.ChartRows.{two}
use Rattle.redo_html.proofs.ChartTags.{no_script_in_chart}

-- ---- highlights

-- An element for unprintable code points; one for bold text, with or without a hue; one for a hue. There are no others.
abbrev hues : List Hue
hues = Red ∷ Green ∷ Yellow ∷ Blue ∷ Magenta ∷ Cyan ∷ []

abbrev starts : Bool → List Hue → List (List ℕ)
starts bold hues = map (λ (hue : Hue). highlight_text (StyleStart (record { bold = bold; hue = hue }))) hues

all_highlights : highlights
    ≡ highlight_text UnprintableStart ∷ highlight_text UnprintableEnd ∷ starts true (Plain ∷ hues)
    ++ highlight_text (StyleEnd (record { bold = true; hue = Plain })) ∷ starts false hues
    ++ highlight_text (StyleEnd (record { bold = false; hue = Red })) ∷ []
all_highlights = refl

are_highlights :
    list_all is_highlight (codes "i" ∷ codes "/i" ∷ codes "b" ∷ codes "b class=\"r\"" ∷ codes "b class=\"g\"" ∷ codes "b class=\"y\""
    ∷ codes "b class=\"b\"" ∷ codes "b class=\"m\"" ∷ codes "b class=\"c\"" ∷ codes "/b"
    ∷ codes "span class=\"r\"" ∷ codes "span class=\"g\"" ∷ codes "span class=\"y\"" ∷ codes "span class=\"b\"" ∷ codes "span class=\"m\""
    ∷ codes "span class=\"c\"" ∷ codes "/span" ∷ []) ≡ true
are_highlights = refl

-- Other elements, other attributes, other classes.
no_highlights :
    list_any is_highlight ([] ∷ codes "script" ∷ codes "/script" ∷ codes "style" ∷ codes "a href=\"x\"" ∷ codes "/a" ∷ codes "img" ∷ codes "img src=\"x\""
    ∷ codes "p" ∷ codes "/p" ∷ codes "bdi" ∷ codes "/bdi" ∷ codes "/pre" ∷ codes "svg" ∷ codes "I"
    ∷ codes "i class=\"r\"" ∷ codes "b onclick=\"x\"" ∷ codes "b class=\"r\" onclick=\"x\"" ∷ codes "b class=\"x\"" ∷ codes "b class=\"w\""
    ∷ codes "span" ∷ codes "span class=\"x\"" ∷ codes "span class=\"w\"" ∷ codes "span style=\"x\"" ∷ []) ≡ false
no_highlights = refl

-- ---- bytes

bytes : map is_byte (0 ∷ 10 ∷ 255 ∷ 256 ∷ 0xDC80 ∷ []) ≡ true ∷ true ∷ true ∷ false ∷ false ∷ []
bytes = refl

plain_bytes : map is_plain (0 ∷ 8 ∷ 9 ∷ 10 ∷ 11 ∷ 13 ∷ 27 ∷ 31 ∷ 32 ∷ 37 ∷ 38 ∷ 39 ∷ 59 ∷ 60 ∷ 61 ∷ 62 ∷ 63 ∷ 65 ∷ 126 ∷ 127 ∷ 128 ∷ [])
    ≡ false ∷ false ∷ true ∷ true ∷ false ∷ false ∷ false ∷ false ∷ true ∷ true ∷ false ∷ true ∷ true ∷ false ∷ true ∷ false ∷ true ∷ true
    ∷ true ∷ false ∷ false ∷ []
plain_bytes = refl

no_escapes : map is_no_escape (26 ∷ 27 ∷ 28 ∷ 91 ∷ []) ≡ true ∷ false ∷ true ∷ true ∷ []
no_escapes = refl

-- ---- tokens

-- The characters, and the tags.
of_tokens : (text_of (Character 97 ∷ Tag (codes "i") ∷ Lost ∷ Character 98 ∷ Tag (codes "/i") ∷ []) ≡ codes "ab")
    × (tags_of (Character 97 ∷ Tag (codes "i") ∷ Lost ∷ Character 98 ∷ Tag (codes "/i") ∷ []) ≡ codes "i" ∷ codes "/i" ∷ [])
of_tokens = (refl, refl)

-- Highlights are tags, but a title has none. Everything else is characters.
tokens :
    (passage_tokens Log plain_style (codes "a" ++ (27 ∷ []) ++ codes "[1;31m<" ++ 1 ∷ [])
    ≡ Character 97 ∷ Tag (codes "b class=\"r\"") ∷ Character 60 ∷ Tag (codes "i") ∷ Character 94 ∷ Character 65 ∷ Tag (codes "/i")
    ∷ Tag (codes "/b") ∷ [])
    × (passage_tokens Monochrome plain_style (1 ∷ []) ≡ Tag (codes "i") ∷ Character 94 ∷ Character 65 ∷ Tag (codes "/i") ∷ [])
    × (passage_tokens Title plain_style (38 ∷ 1 ∷ []) ≡ Character 38 ∷ Character 94 ∷ Character 65 ∷ [])
unfolding symbols_after first_symbol symbol_len is_sequence sequence_len sequence_numbers first_code_point code_point_len is_unprintable notation unprintable_text number_text encode_utf8 digits
tokens = (refl, refl, refl)

-- ---- reading

-- All bytes after it are read as text again.
reads : ReadsAs (codes "<b>&lt;</b>") (Tag (codes "b") ∷ Character 60 ∷ Tag (codes "/b") ∷ [])
reads = λ behind. refl

-- A line feed that follows would be dropped; then a name that goes on; then an unfinished tag.
no_reads :
    ¬ ReadsAs (codes "<pre>") (Tag (codes "pre") ∷ []) × ¬ ReadsAs (codes "&lt") (Character 60 ∷ []) × ¬ ReadsAs (codes "<b") (Lost ∷ [])
no_reads = (λ are. let same = are (10 ∷ []) in cc, λ are. let same = are [] in cc, λ are. let same = are (codes ">") in cc)

-- ---- tags of charts

chart_tags : IsChartTag (codes "a href=\"#t4\" tabindex=\"-1\"") × IsChartTag (codes "/title")
    × IsChartTag (codes "rect width=\"0.05%\" height=\"10\" fill=\"#3a6ea5\"")
unfolding symbols_after number_text digits
chart_tags = (inl (two [] [] [], refl), inl (two [] [] [], refl), inr (5, refl))

no_chart_tag : ¬ IsChartTag (codes "script")
unfolding symbols_after number_text digits
no_chart_tag = λ is. elim is [
  | inl chart ↦ false≢true (sym (no_script_in_chart chart.0) ∙ chart.1)
  | inr meter ↦
      (let same = meter.1 in absurd (cc))
]
