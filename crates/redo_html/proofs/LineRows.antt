-- Rows of lines: the style at their start, the lines, their HTML, and the style at their end. Rows of texts that begin with a style. An
-- independent program in Python computed the values.
use Rattle.std.proofs.Common.{◌≡◌, ℕ, Bool, true, false, List, [], ◌∷◌, ◌++◌, refl}
use Rattle.std.specs.Char.{encode_utf8}
use Rattle.std.specs.Prelude.{codes}
use Rattle.std.specs.Fmt.{digits}
use Rattle.std.specs.List.{AllByRecursion}
use Rattle.redo_html.specs.declared.style.Hue.{Hue}
use Rattle.redo_html.specs.declared.style.Hue.TheVariants.{Plain, Red, Green, Yellow, Blue, Cyan}
use Rattle.redo_html.specs.declared.style.Style.{Style}
use Rattle.redo_html.specs.declared.text_kind.TextKind.TheVariants.{Log}
use Rattle.redo_html.specs.Lines.{style_after_lines, lines_html}
use Rattle.redo_html.specs.Passage.{passage_html}
use Rattle.redo_html.specs.Shown.{is_unprintable, notation, number_text, unprintable_text}
use Rattle.redo_html.specs.Style.{plain_style}
use Rattle.redo_html.specs.Symbols.{first_code_point, code_point_len, sequence_len, sequence_numbers, is_sequence, first_symbol, symbol_len, symbols_after}

record Row : Type 0 where
  style : Style
  lines : List (List ℕ)
  html : List ℕ
  last : Style

abbrev row : Style → List (List ℕ) → List ℕ → Style → Row
row style lines html last = record { style = style; lines = lines; html = html; last = last }

abbrev styled : Bool → Hue → Style
styled bold hue = record { bold = bold; hue = hue }

abbrev rows : List Row
rows =
    row (styled true Cyan) [] [] (styled true Cyan) ∷
    row (styled false Red) ([] ∷ [] ∷ [])
    (codes "<span class=\"r\">" ++ (10 ∷ []) ++ codes "</span><span class=\"r\">" ++ (10 ∷ []) ++ codes "</span>") (styled false Red) ∷
    row plain_style ((codes "cc -c a.c") ∷ [] ∷ (codes "b <c> & \"d\"") ∷ ((9 ∷ []) ++ codes "e") ∷ [])
    (codes "cc -c a.c" ++ (10 ∷ 10 ∷ []) ++ codes "b &lt;c&gt; &amp; \"d\"" ++ (10 ∷ 9 ∷ []) ++ codes "e" ++ (10 ∷ [])) plain_style ∷
    row plain_style (((27 ∷ []) ++ codes "[31mred") ∷ (codes "still red") ∷ ((27 ∷ []) ++ codes "[mplain") ∷ (codes "plain") ∷ [])
    (codes "<span class=\"r\">red" ++ (10 ∷ []) ++ codes "</span><span class=\"r\">still red" ++ (10 ∷ []) ++ codes "</span>plain"
    ++ (10 ∷ []) ++ codes "plain" ++ (10 ∷ [])) plain_style ∷
    row (styled true Green) ((codes "x") ∷ ((27 ∷ []) ++ codes "[39my") ∷ [] ∷ ((27 ∷ []) ++ codes "[22mz") ∷ [])
    (codes "<b class=\"g\">x" ++ (10 ∷ []) ++ codes "</b><b>y" ++ (10 ∷ []) ++ codes "</b><b>" ++ (10 ∷ []) ++ codes "</b>z" ++ (10 ∷ []))
    plain_style ∷
    row plain_style ((codes "a" ++ (0 ∷ [])) ∷ ((0 ∷ []) ++ codes "b") ∷ (1 ∷ 1 ∷ 1 ∷ []) ∷ (1 ∷ 1 ∷ 1 ∷ []) ∷ [])
    (codes "a<i>^@</i>" ++ (10 ∷ []) ++ codes "<i>^@</i>b" ++ (10 ∷ []) ++ codes "<i>^A^A^A</i>" ++ (10 ∷ []) ++ codes "<i>^A^A^A</i>"
    ++ (10 ∷ [])) plain_style ∷
    row plain_style (((27 ∷ []) ++ codes "[31") ∷ (codes "m" ++ (27 ∷ [])) ∷ (codes "[1mx") ∷ [])
    (codes "<i>^[</i>[31" ++ (10 ∷ []) ++ codes "m<i>^[</i>" ++ (10 ∷ []) ++ codes "[1mx" ++ (10 ∷ [])) plain_style ∷
    row plain_style ((codes "one") ∷ (codes "two") ∷ ((27 ∷ []) ++ codes "[1;35mnote" ++ (27 ∷ []) ++ codes "[m: three") ∷ (codes "four")
    ∷ (codes "five") ∷ ((27 ∷ []) ++ codes "[Ksix") ∷ (codes "seven") ∷ [])
    (codes "one" ++ (10 ∷ []) ++ codes "two" ++ (10 ∷ []) ++ codes "<b class=\"m\">note</b>: three" ++ (10 ∷ []) ++ codes "four"
    ++ (10 ∷ []) ++ codes "five" ++ (10 ∷ []) ++ codes "six" ++ (10 ∷ []) ++ codes "seven" ++ (10 ∷ [])) plain_style ∷
    row plain_style ((codes "a" ++ (27 ∷ []) ++ codes "[33m") ∷ (codes "b") ∷ ((27 ∷ []) ++ codes "[m") ∷ (codes "c") ∷ [])
    (codes "a<span class=\"y\">" ++ (10 ∷ []) ++ codes "</span><span class=\"y\">b" ++ (10 ∷ []) ++ codes "</span>" ++ (10 ∷ [])
    ++ codes "c" ++ (10 ∷ [])) plain_style ∷
    []

written_are : AllByRecursion (λ r. lines_html r.style r.lines ≡ r.html) rows
unfolding symbols_after first_symbol symbol_len is_sequence sequence_len sequence_numbers first_code_point code_point_len is_unprintable notation unprintable_text number_text encode_utf8 digits passage_html
written_are = (refl, (refl, (refl, (refl, (refl, (refl, (refl, (refl, (refl, tt)))))))))

styles_are : AllByRecursion (λ r. style_after_lines r.style r.lines ≡ r.last) rows
unfolding symbols_after first_symbol symbol_len is_sequence sequence_len sequence_numbers first_code_point code_point_len
styles_are = (refl, (refl, (refl, (refl, (refl, (refl, (refl, (refl, (refl, tt)))))))))

-- ---- texts

record TextRow : Type 0 where
  style : Style
  text : List ℕ
  html : List ℕ

abbrev text_row : Style → List ℕ → List ℕ → TextRow
text_row style text html = record { style = style; text = text; html = html }

abbrev text_rows : List TextRow
text_rows =
    text_row (styled false Red) [] [] ∷
    text_row (styled false Red) (codes "a" ++ (27 ∷ []) ++ codes "[mb") (codes "<span class=\"r\">a</span>b") ∷
    text_row (styled true Plain) ((0 ∷ []) ++ codes "x") (codes "<b><i>^@</i>x</b>") ∷
    text_row (styled true Blue) ((27 ∷ []) ++ codes "[31m") [] ∷
    text_row (styled false Green) ((27 ∷ []) ++ codes "[m x") (codes " x") ∷
    text_row (styled false Cyan) (codes "one" ++ (10 ∷ []) ++ codes "two" ++ (27 ∷ []) ++ codes "[22m <three>")
    (codes "<span class=\"c\">one" ++ (10 ∷ []) ++ codes "two &lt;three&gt;</span>") ∷
    text_row (styled true Yellow) ((27 ∷ []) ++ codes "[22m" ++ (27 ∷ []) ++ codes "[1m&") (codes "<b class=\"y\">&amp;</b>") ∷
    []

texts_are : AllByRecursion (λ r. passage_html Log r.style r.text ≡ r.html) text_rows
unfolding symbols_after first_symbol symbol_len is_sequence sequence_len sequence_numbers first_code_point code_point_len is_unprintable notation unprintable_text number_text encode_utf8 digits passage_html
texts_are = (refl, (refl, (refl, (refl, (refl, (refl, (refl, tt)))))))
