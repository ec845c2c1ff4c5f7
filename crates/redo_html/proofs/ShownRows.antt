-- Rows of texts: the kind, the bytes, and the shown or written text. An independent program in Python computed the values.
use Rattle.std.proofs.Common.{◌≡◌, ℕ, true, false, List, [], ◌∷◌, ◌++◌, refl}
use Rattle.std.specs.Char.{encode_utf8}
use Rattle.std.specs.Prelude.{codes}
use Rattle.std.specs.Fmt.{digits}
use Rattle.std.specs.List.{AllByRecursion, filter, range_with_len}
use Rattle.redo_html.specs.declared.text_kind.TextKind.{TextKind}
use Rattle.redo_html.specs.declared.text_kind.TextKind.TheVariants.{Log, Monochrome, Title}
use Rattle.redo_html.specs.Passage.{passage_html}
use Rattle.redo_html.specs.Laws.{is_printable_ascii}
use Rattle.redo_html.specs.Shown.{is_printable, is_unprintable, is_visible, notation, number_text, unprintable_text, shown_text}
use Rattle.redo_html.specs.Style.{plain_style}
use Rattle.redo_html.specs.Symbols.Symbol.{Sequence}
use Rattle.redo_html.specs.Symbols.{first_code_point, code_point_len, sequence_len, sequence_numbers, is_sequence, first_symbol, symbol_len, symbols_after}

record Row : Type 0 where
  kind : TextKind
  bytes : List ℕ
  value : List ℕ

abbrev row : TextKind → List ℕ → List ℕ → Row
row kind bytes value = record { kind = kind; bytes = bytes; value = value }

-- The shown text.
abbrev shown_rows : List Row
shown_rows =
    row Log (codes "cc -c \"a.c\" <x>&y'\n" ++ (9 ∷ []) ++ codes "ok") (codes "cc -c \"a.c\" <x>&y'\n" ++ (9 ∷ []) ++ codes "ok") ∷
    row Log ((27 ∷ []) ++ codes "[01m" ++ (27 ∷ []) ++ codes "[Ka.c:1:" ++ (27 ∷ []) ++ codes "[m" ++ (27 ∷ []) ++ codes "[K " ++ (27 ∷ [])
    ++ codes "[01;31m" ++ (27 ∷ []) ++ codes "[Kerror: " ++ (27 ∷ []) ++ codes "[m" ++ (27 ∷ []) ++ codes "[Kx") (codes "a.c:1: error: x") ∷
    row Monochrome ((27 ∷ []) ++ codes "[1mx" ++ (27 ∷ []) ++ codes "[K") (codes "^[[1mx^[[K") ∷
    row Log ((27 ∷ []) ++ codes "[1;32mok" ++ (27 ∷ []) ++ codes "[22m." ++ (27 ∷ []) ++ codes "[39m!" ++ (27 ∷ []) ++ codes "[94mb")
    (codes "ok.!b") ∷
    row Log ((27 ∷ []) ++ codes "[38;5;196mr" ++ (27 ∷ []) ++ codes "[48;2;1;31;1mg" ++ (27 ∷ []) ++ codes "[33mb") (codes "rgb") ∷
    row Log ((27 ∷ []) ++ codes "[;35mm" ++ (27 ∷ []) ++ codes "[31;36mc" ++ (27 ∷ []) ++ codes "[7;30mk" ++ (27 ∷ []) ++ codes "[1031mz")
    (codes "mckz") ∷
    row Log ((27 ∷ []) ++ codes "[31mx" ++ (27 ∷ []) ++ codes "[m" ++ (27 ∷ []) ++ codes "[31my" ++ (27 ∷ []) ++ codes "[32m")
    (codes "xy") ∷
    row Log ((27 ∷ []) ++ codes "[31m" ++ (27 ∷ []) ++ codes "[1mx" ++ (27 ∷ []) ++ codes "[0m" ++ (27 ∷ []) ++ codes "[38;5;31my"
    ++ (27 ∷ []) ++ codes "[38;5;2;1;31mz") (codes "xyz") ∷
    row Log ((27 ∷ []) ++ codes "x1ma[1mb") (codes "^[x1ma[1mb") ∷
    row Log ((0 ∷ 0 ∷ 0 ∷ 0 ∷ [])) (codes "^@^@^@^@") ∷
    row Log ((0 ∷ 0 ∷ 0 ∷ 0 ∷ 0 ∷ []) ++ codes "a") (codes "^@" ++ (195 ∷ 151 ∷ []) ++ codes "5 a") ∷
    row Log ((1 ∷ 1 ∷ 2 ∷ 13 ∷ []) ++ codes "\n") (codes "^A^A^B^M\n") ∷
    row Log ((7 ∷ 27 ∷ []) ++ codes "[31m" ++ (7 ∷ 27 ∷ []) ++ codes "[31m" ++ (7 ∷ [])) (codes "^G^G^G") ∷
    row Monochrome ((127 ∷ 27 ∷ 27 ∷ []) ++ codes "[x" ++ (27 ∷ []) ++ codes "[3") (codes "^?^[^[[x^[[3") ∷
    row Log ((27 ∷ []) ++ codes "[3;1") (codes "^[[3;1") ∷
    row Log ((27 ∷ []) ++ codes "]0;t" ++ (7 ∷ [])) (codes "^[]0;t^G") ∷
    row Log ((27 ∷ []) ++ codes "[0Ka" ++ (27 ∷ []) ++ codes "[2Kb" ++ (27 ∷ []) ++ codes "[1;2Kc") (codes "abc") ∷
    row Log ((27 ∷ []) ++ codes "[4:3mx" ++ (27 ∷ []) ++ codes "[?7m" ++ (27 ∷ []) ++ codes "[1 m") (codes "^[[4:3mx^[[?7m^[[1 m") ∷
    row Monochrome ((226 ∷ 128 ∷ 152 ∷ 195 ∷ 164 ∷ 240 ∷ 159 ∷ 152 ∷ 128 ∷ 226 ∷ 128 ∷ 153 ∷ []))
    ((226 ∷ 128 ∷ 152 ∷ 195 ∷ 164 ∷ 240 ∷ 159 ∷ 152 ∷ 128 ∷ 226 ∷ 128 ∷ 153 ∷ [])) ∷
    row Monochrome ((226 ∷ 128 ∷ 174 ∷ 226 ∷ 128 ∷ 139 ∷ 239 ∷ 187 ∷ 191 ∷ 243 ∷ 160 ∷ 129 ∷ 129 ∷ 194 ∷ 133 ∷ []))
    (codes "[U+202E][U+200B][U+FEFF][U+E0041][U+0085]") ∷
    row Monochrome ((255 ∷ 195 ∷ 226 ∷ 130 ∷ 226 ∷ 130 ∷ 172 ∷ 192 ∷ 175 ∷ 237 ∷ 160 ∷ 128 ∷ []))
    (codes "\\xff\\xc3\\xe2\\x82" ++ (226 ∷ 130 ∷ 172 ∷ []) ++ codes "\\xc0\\xaf\\xed\\xa0\\x80") ∷
    row Title (codes "<b>" ++ (27 ∷ []) ++ codes "[1m&" ++ (255 ∷ [])) (codes "<b>^[[1m&\\xff") ∷
    row Monochrome ((255 ∷ 255 ∷ 255 ∷ 255 ∷ 255 ∷ 255 ∷ 255 ∷ []) ++ codes " ") (codes "\\xff" ++ (195 ∷ 151 ∷ []) ++ codes "7  ") ∷ []

-- The HTML of a text.
abbrev written_rows : List Row
written_rows =
    row Log (codes "cc -c \"a.c\" <x>&y'\n" ++ (9 ∷ []) ++ codes "ok")
    (codes "cc -c \"a.c\" &lt;x&gt;&amp;y'\n" ++ (9 ∷ []) ++ codes "ok") ∷
    row Log ((27 ∷ []) ++ codes "[01m" ++ (27 ∷ []) ++ codes "[Ka.c:1:" ++ (27 ∷ []) ++ codes "[m" ++ (27 ∷ []) ++ codes "[K " ++ (27 ∷ [])
    ++ codes "[01;31m" ++ (27 ∷ []) ++ codes "[Kerror: " ++ (27 ∷ []) ++ codes "[m" ++ (27 ∷ []) ++ codes "[Kx")
    (codes "<b>a.c:1:</b> <b class=\"r\">error: </b>x") ∷
    row Monochrome ((27 ∷ []) ++ codes "[1mx" ++ (27 ∷ []) ++ codes "[K") (codes "<i>^[</i>[1mx<i>^[</i>[K") ∷
    row Log ((27 ∷ []) ++ codes "[1;32mok" ++ (27 ∷ []) ++ codes "[22m." ++ (27 ∷ []) ++ codes "[39m!" ++ (27 ∷ []) ++ codes "[94mb")
    (codes "<b class=\"g\">ok</b><span class=\"g\">.</span>!<span class=\"b\">b</span>") ∷
    row Log ((27 ∷ []) ++ codes "[38;5;196mr" ++ (27 ∷ []) ++ codes "[48;2;1;31;1mg" ++ (27 ∷ []) ++ codes "[33mb")
    (codes "rg<span class=\"y\">b</span>") ∷
    row Log ((27 ∷ []) ++ codes "[;35mm" ++ (27 ∷ []) ++ codes "[31;36mc" ++ (27 ∷ []) ++ codes "[7;30mk" ++ (27 ∷ []) ++ codes "[1031mz")
    (codes "<span class=\"m\">m</span><span class=\"c\">c</span>kz") ∷
    row Log ((27 ∷ []) ++ codes "[31mx" ++ (27 ∷ []) ++ codes "[m" ++ (27 ∷ []) ++ codes "[31my" ++ (27 ∷ []) ++ codes "[32m")
    (codes "<span class=\"r\">xy</span>") ∷
    row Log ((27 ∷ []) ++ codes "[31m" ++ (27 ∷ []) ++ codes "[1mx" ++ (27 ∷ []) ++ codes "[0m" ++ (27 ∷ []) ++ codes "[38;5;31my"
    ++ (27 ∷ []) ++ codes "[38;5;2;1;31mz") (codes "<b class=\"r\">x</b>y<b class=\"r\">z</b>") ∷
    row Log ((27 ∷ []) ++ codes "x1ma[1mb") (codes "<i>^[</i>x1ma[1mb") ∷
    row Log ((0 ∷ 0 ∷ 0 ∷ 0 ∷ [])) (codes "<i>^@^@^@^@</i>") ∷
    row Log ((0 ∷ 0 ∷ 0 ∷ 0 ∷ 0 ∷ []) ++ codes "a") (codes "<i>^@" ++ (195 ∷ 151 ∷ []) ++ codes "5 </i>a") ∷
    row Log ((1 ∷ 1 ∷ 2 ∷ 13 ∷ []) ++ codes "\n") (codes "<i>^A^A^B^M</i>\n") ∷
    row Log ((7 ∷ 27 ∷ []) ++ codes "[31m" ++ (7 ∷ 27 ∷ []) ++ codes "[31m" ++ (7 ∷ []))
    (codes "<i>^G</i><span class=\"r\"><i>^G^G</i></span>") ∷
    row Monochrome ((127 ∷ 27 ∷ 27 ∷ []) ++ codes "[x" ++ (27 ∷ []) ++ codes "[3") (codes "<i>^?^[^[</i>[x<i>^[</i>[3") ∷
    row Log ((27 ∷ []) ++ codes "[3;1") (codes "<i>^[</i>[3;1") ∷
    row Log ((27 ∷ []) ++ codes "]0;t" ++ (7 ∷ [])) (codes "<i>^[</i>]0;t<i>^G</i>") ∷
    row Log ((27 ∷ []) ++ codes "[31m" ++ (27 ∷ []) ++ codes "[98mr" ++ (27 ∷ []) ++ codes "[107mr" ++ (27 ∷ []) ++ codes "[0Kr")
    (codes "<span class=\"r\">rrr</span>") ∷
    row Log ((27 ∷ []) ++ codes "[35mm" ++ (27 ∷ []) ++ codes "[36mc" ++ (27 ∷ []) ++ codes "[34mb" ++ (27 ∷ []) ++ codes "[33my")
    (codes "<span class=\"m\">m</span><span class=\"c\">c</span><span class=\"b\">b</span><span class=\"y\">y</span>") ∷
    row Monochrome ((226 ∷ 128 ∷ 152 ∷ 195 ∷ 164 ∷ 240 ∷ 159 ∷ 152 ∷ 128 ∷ 226 ∷ 128 ∷ 153 ∷ []))
    ((226 ∷ 128 ∷ 152 ∷ 195 ∷ 164 ∷ 240 ∷ 159 ∷ 152 ∷ 128 ∷ 226 ∷ 128 ∷ 153 ∷ [])) ∷
    row Monochrome ((226 ∷ 128 ∷ 174 ∷ 226 ∷ 128 ∷ 139 ∷ 239 ∷ 187 ∷ 191 ∷ 243 ∷ 160 ∷ 129 ∷ 129 ∷ 194 ∷ 133 ∷ []))
    (codes "<i>[U+202E][U+200B][U+FEFF][U+E0041][U+0085]</i>") ∷
    row Monochrome ((255 ∷ 195 ∷ 226 ∷ 130 ∷ 226 ∷ 130 ∷ 172 ∷ 192 ∷ 175 ∷ 237 ∷ 160 ∷ 128 ∷ []))
    (codes "<i>\\xff\\xc3\\xe2\\x82</i>" ++ (226 ∷ 130 ∷ 172 ∷ []) ++ codes "<i>\\xc0\\xaf\\xed\\xa0\\x80</i>") ∷
    row Title (codes "<b>" ++ (27 ∷ []) ++ codes "[1m&" ++ (255 ∷ [])) (codes "&lt;b&gt;^[[1m&amp;\\xff") ∷
    row Monochrome ((255 ∷ 255 ∷ 255 ∷ 255 ∷ 255 ∷ 255 ∷ 255 ∷ []) ++ codes " ")
    (codes "<i>\\xff" ++ (195 ∷ 151 ∷ []) ++ codes "7 </i> ") ∷ []

shown_are : AllByRecursion (λ r. shown_text r.kind r.bytes ≡ r.value) shown_rows
unfolding symbols_after first_symbol symbol_len is_sequence sequence_len sequence_numbers first_code_point code_point_len is_unprintable notation unprintable_text number_text encode_utf8 digits
shown_are = (
  refl,
  (
    refl,
    (
      refl,
      (
        refl,
        (
          refl,
          (
            refl,
            (
              refl,
              (
                refl,
                (
                  refl,
                  (
                    refl,
                    (
                      refl,
                      (
                        refl,
                        (
                          refl,
                          (
                            refl,
                            (
                              refl,
                              (refl, (refl, (refl, (refl, (refl, (refl, (refl, (refl, tt)))))))),
                            ),
                          ),
                        ),
                      ),
                    ),
                  ),
                ),
              ),
            ),
          ),
        ),
      ),
    ),
  ),
)

written_are : AllByRecursion (λ r. passage_html r.kind plain_style r.bytes ≡ r.value) written_rows
unfolding symbols_after first_symbol symbol_len is_sequence sequence_len sequence_numbers first_code_point code_point_len is_unprintable notation unprintable_text number_text encode_utf8 digits passage_html
written_are = (
  refl,
  (
    refl,
    (
      refl,
      (
        refl,
        (
          refl,
          (
            refl,
            (
              refl,
              (
                refl,
                (
                  refl,
                  (
                    refl,
                    (
                      refl,
                      (
                        refl,
                        (
                          refl,
                          (
                            refl,
                            (
                              refl,
                              (refl, (refl, (refl, (refl, (refl, (refl, (refl, (refl, tt)))))))),
                            ),
                          ),
                        ),
                      ),
                    ),
                  ),
                ),
              ),
            ),
          ),
        ),
      ),
    ),
  ),
)

-- Names that are shown unchanged: the empty one, ASCII with a tab, letters of two and three bytes, and U+200D. Others have an escape byte, a
-- byte that is no UTF-8, U+202E or U+00AD.
printable_are :
    (is_printable [] ≡ true) × (is_printable (codes "a&<b> \"'\\" ++ 9 ∷ codes "~") ≡ true)
    × (is_printable (0xC3 ∷ 0xA9 ∷ 0xE6 ∷ 0x97 ∷ 0xA5 ∷ 0xE2 ∷ 0x80 ∷ 0x8D ∷ []) ≡ true)
    × (is_printable (codes "a" ++ 27 ∷ codes "[m") ≡ false) × (is_printable (codes "a" ++ 0xFF ∷ codes "b") ≡ false)
    × (is_printable (0xE2 ∷ 0x80 ∷ 0xAE ∷ []) ≡ false) × (is_printable (codes "ab" ++ 0xC2 ∷ 0xAD ∷ []) ≡ false)
    × (is_visible (Sequence []) ≡ false)
unfolding is_unprintable symbols_after first_symbol symbol_len is_sequence sequence_len first_code_point code_point_len
printable_are = (refl, refl, refl, refl, refl, refl, refl, refl)

ascii_is : filter is_printable_ascii (range_with_len 0 256) ≡ range_with_len 32 95
ascii_is = refl
