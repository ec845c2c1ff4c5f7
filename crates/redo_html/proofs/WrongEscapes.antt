-- Escapes that the law rejects: for each there are bytes that it writes so that something else is read.
use Rattle.std.proofs.Common.{◌≡◌, ℕ, List, [], ◌∷◌, map, ap, refl, true, false}
use Rattle.std.specs.Prelude.{◌==◌, codes, if◌then◌else◌}
use Rattle.std.specs.List.{flat_map}
use Rattle.std.specs.Char.{encode_utf8}
use Rattle.std.specs.Fmt.{digits}
use Rattle.redo_html.specs.declared.text_kind.TextKind.TheVariants.{Monochrome}
use Rattle.redo_html.specs.Passage.{escaped_byte, passage_html, passage_tokens}
use Rattle.redo_html.specs.Html.{Context, Svg}
use Rattle.redo_html.specs.Html.Token.{Character, Lost, Tag}
use Rattle.redo_html.specs.Laws.{ReadsAs}
use Rattle.redo_html.specs.Shown.{is_unprintable, number_text, unprintable_text, notation}
use Rattle.redo_html.specs.Style.{plain_style}
use Rattle.redo_html.specs.Symbols.{first_code_point, first_symbol, is_sequence, code_point_len, sequence_len, sequence_numbers, symbol_len, symbols_after}
use Rattle.redo_html.proofs.TextReading.{ReadsIn}

-- A property of `escaped_byte` for printable text: its output is read as the same characters.
abbrev IsEscape : (ℕ → List ℕ) → List ℕ → Type 0
IsEscape escape text = ReadsAs (flat_map escape text) (map Character text)

-- `escaped_byte`, except for one byte.
abbrev except : ℕ → List ℕ → ℕ → List ℕ
except one written byte = if byte == one then written else escaped_byte byte

right : IsEscape escaped_byte (codes "<&>&lt;\"'")
right behind = refl

forgets_lt : IsEscape (except 60 (codes "<")) (codes "<") → ⊥
forgets_lt is = let same : Lost ∷ [] ≡ Character 60 ∷ [] = is [] in cc

forgets_amp : IsEscape (except 38 (codes "&")) (codes "&lt;") → ⊥
forgets_amp is = let same : Character 60 ∷ [] ≡ Character 38 ∷ Character 108 ∷ Character 116 ∷ Character 59 ∷ [] = is [] in cc

forgets_semicolon : IsEscape (except 60 (codes "&lt")) (codes "<") → ⊥
forgets_semicolon is = let same : Lost ∷ [] ≡ Character 60 ∷ [] = is [] in cc

differ : Character 62 ∷ [] ≡ Character 60 ∷ [] → ⊥
differ same = let number : 62 ≡ 60 = cc in let test : false ≡ true = ap (λ n. n == 60) number in cc

swaps_references : IsEscape (except 60 (codes "&gt;")) (codes "<") → ⊥
swaps_references is = let same : Character 62 ∷ [] ≡ Character 60 ∷ [] = is [] in differ same

escapes_twice : IsEscape (except 60 (codes "&amp;lt;")) (codes "<") → ⊥
escapes_twice is = let same : Character 38 ∷ Character 108 ∷ Character 116 ∷ Character 59 ∷ [] ≡ Character 60 ∷ [] = is [] in cc

drops_a_byte : IsEscape (except 7 []) (7 ∷ []) → ⊥
drops_a_byte is = let same : [] ≡ Character 7 ∷ [] = is [] in cc

-- A carriage return and the byte 0 can't be in the text at all: no escape of them is read as themselves. Notations are shown in their
-- place.
leaves_carriage_return : IsEscape escaped_byte (13 ∷ []) → ⊥
leaves_carriage_return is = let same : Lost ∷ [] ≡ Character 13 ∷ [] = is [] in cc

leaves_byte_0 : IsEscape escaped_byte (0 ∷ []) → ⊥
leaves_byte_0 is = let same : Lost ∷ [] ≡ Character 0 ∷ [] = is [] in cc

-- Escapes in the tooltip of a bar.
abbrev tooltip : Context
tooltip = Svg (codes "title") (codes "rect" ∷ codes "a" ∷ codes "g" ∷ codes "svg" ∷ [])

abbrev IsTooltipEscape : (ℕ → List ℕ) → List ℕ → Type 0
IsTooltipEscape escape text = ReadsIn tooltip (flat_map escape text) (map Character text)

right_in_tooltip : IsTooltipEscape escaped_byte (codes "</title><b>&lt;\"'")
right_in_tooltip behind = refl

forgets_lt_in_tooltip : IsTooltipEscape (except 60 (codes "<")) (codes "<b>") → ⊥
forgets_lt_in_tooltip is = let same : Lost ∷ [] ≡ Character 60 ∷ Character 98 ∷ Character 62 ∷ Lost ∷ [] = is [] in cc

-- A tooltip ends its own element.
escapes_nothing_in_tooltip : IsTooltipEscape (λ byte. byte ∷ []) (codes "</title>") → ⊥
escapes_nothing_in_tooltip is =
    let same : Tag (codes "/title") ∷ Lost ∷ []
    ≡ Character 60 ∷ Character 47 ∷ Character 116 ∷ Character 105 ∷ Character 116 ∷ Character 108 ∷ Character 101 ∷ Character 62 ∷ Lost
    ∷ [] = is [] in cc

forgets_amp_in_tooltip : IsTooltipEscape (except 38 (codes "&")) (codes "&lt;") → ⊥
forgets_amp_in_tooltip is = let same : Character 60 ∷ Lost ∷ [] ≡ Character 38 ∷ Character 108 ∷ Character 116 ∷ Character 59 ∷ Lost ∷ [] =
    is [] in cc

-- A highlight in a label would end the chart.
highlights_a_label : ReadsIn (Svg (codes "text") (codes "svg" ∷ [])) (passage_html Monochrome plain_style (1 ∷ []))
    (passage_tokens Monochrome plain_style (1 ∷ [])) → ⊥
unfolding symbols_after first_symbol symbol_len is_sequence sequence_len sequence_numbers first_code_point code_point_len is_unprintable notation unprintable_text number_text encode_utf8 digits passage_html
highlights_a_label is = let same : Lost ∷ [] ≡ Tag (codes "i") ∷ Character 94 ∷ Character 65 ∷ Tag (codes "/i") ∷ Lost ∷ [] = is [] in cc
