-- Rows of texts with links: the kind, the bytes, the shown text, and the HTML. An independent program in Python computed the
-- values.
use Rattle.std.proofs.Common.{◌≡◌, ℕ, List, [], ◌∷◌, ◌++◌, refl}
use Rattle.std.specs.Char.{encode_utf8}
use Rattle.std.specs.Prelude.{codes}
use Rattle.std.specs.Fmt.{digits}
use Rattle.std.specs.List.{AllByRecursion}
use Rattle.redo_html.specs.declared.text_kind.TextKind.{TextKind}
use Rattle.redo_html.specs.declared.text_kind.TextKind.TheVariants.{Log, Monochrome, Title}
use Rattle.redo_html.specs.Passage.{passage_html}
use Rattle.redo_html.specs.Shown.{is_unprintable, notation, number_text, unprintable_text, shown_text}
use Rattle.redo_html.specs.Style.{plain_style}
use Rattle.redo_html.specs.Symbols.{first_code_point, code_point_len, sequence_len, sequence_numbers, is_sequence, first_symbol, symbol_len, symbols_after}

record Row : Type 0 where
  kind : TextKind
  bytes : List ℕ
  shown : List ℕ
  html : List ℕ

abbrev row : TextKind → List ℕ → List ℕ → List ℕ → Row
row kind bytes shown html = record { kind = kind; bytes = bytes; shown = shown; html = html }

abbrev rows : List Row
rows =
    row Log (codes "w [" ++ (27 ∷ []) ++ codes "]8;;https://gcc.gnu.org/x.html#index-Wall" ++ (7 ∷ []) ++ codes "-Wall" ++ (27 ∷ []) ++ codes "]8;;" ++ (7 ∷ []) ++ codes "]")
    (codes "w [-Wall]") (codes "w [-Wall]") ∷
    row Log ((27 ∷ []) ++ codes "[01;35m" ++ (27 ∷ []) ++ codes "[K" ++ (27 ∷ []) ++ codes "]8;;http://x/?a&b;c" ++ (27 ∷ []) ++ codes "\\-Wall" ++ (27 ∷ []) ++ codes "]8;;" ++ (27 ∷ []) ++ codes "\\" ++ (27 ∷ []) ++ codes "[m" ++ (27 ∷ []) ++ codes "[K]")
    (codes "-Wall]") (codes "<b class=\"m\">-Wall</b>]") ∷
    row Log ((27 ∷ []) ++ codes "]8;id=1:k=v;http://x" ++ (27 ∷ []) ++ codes "\\t" ++ (27 ∷ []) ++ codes "]8;id=1;" ++ (7 ∷ 27 ∷ []) ++ codes "]8;;" ++ (7 ∷ []) ++ codes "u")
    (codes "tu") (codes "tu") ∷
    row Log ((27 ∷ []) ++ codes "[31ma" ++ (27 ∷ []) ++ codes "]8;;m" ++ (7 ∷ []) ++ codes "b" ++ (27 ∷ []) ++ codes "]8;;1m" ++ (27 ∷ []) ++ codes "\\c")
    (codes "abc") (codes "<span class=\"r\">abc</span>") ∷
    row Log ((27 ∷ []) ++ codes "]8;;!~" ++ (7 ∷ []) ++ codes "a" ++ (27 ∷ []) ++ codes "]8;;~!" ++ (27 ∷ []) ++ codes "\\b")
    (codes "ab") (codes "ab") ∷
    row Log ((7 ∷ 7 ∷ 7 ∷ 27 ∷ []) ++ codes "]8;;u" ++ (7 ∷ 7 ∷ 7 ∷ 7 ∷ []))
    (codes "^G^G^G^G^G^G") (codes "<i>^G^G^G^G^G^G</i>") ∷
    row Log ((27 ∷ []) ++ codes "]8;;a b" ++ (7 ∷ []) ++ codes "c")
    (codes "^[]8;;a b^Gc") (codes "<i>^[</i>]8;;a b<i>^G</i>c") ∷
    row Log ((27 ∷ []) ++ codes "]8;;a" ++ (127 ∷ 7 ∷ []) ++ codes "c")
    (codes "^[]8;;a^?^Gc") (codes "<i>^[</i>]8;;a<i>^?^G</i>c") ∷
    row Log ((27 ∷ []) ++ codes "]8;;" ++ (195 ∷ 164 ∷ 7 ∷ []) ++ codes "c")
    (codes "^[]8;;" ++ (195 ∷ 164 ∷ []) ++ codes "^Gc") (codes "<i>^[</i>]8;;" ++ (195 ∷ 164 ∷ []) ++ codes "<i>^G</i>c") ∷
    row Log ((27 ∷ []) ++ codes "]8;u" ++ (7 ∷ []) ++ codes "c")
    (codes "^[]8;u^Gc") (codes "<i>^[</i>]8;u<i>^G</i>c") ∷
    row Log ((27 ∷ []) ++ codes "]8;" ++ (7 ∷ []) ++ codes "c")
    (codes "^[]8;^Gc") (codes "<i>^[</i>]8;<i>^G</i>c") ∷
    row Log ((27 ∷ []) ++ codes "]8" ++ (7 ∷ []) ++ codes ";;c")
    (codes "^[]8^G;;c") (codes "<i>^[</i>]8<i>^G</i>;;c") ∷
    row Log ((27 ∷ []) ++ codes "]9;;u" ++ (7 ∷ []) ++ codes "c")
    (codes "^[]9;;u^Gc") (codes "<i>^[</i>]9;;u<i>^G</i>c") ∷
    row Log ((27 ∷ []) ++ codes "]8:;u" ++ (7 ∷ []) ++ codes "c")
    (codes "^[]8:;u^Gc") (codes "<i>^[</i>]8:;u<i>^G</i>c") ∷
    row Log ((27 ∷ []) ++ codes "[8;;u" ++ (7 ∷ []) ++ codes "c" ++ (27 ∷ []) ++ codes "X8;;u" ++ (7 ∷ []))
    (codes "^[[8;;u^Gc^[X8;;u^G") (codes "<i>^[</i>[8;;u<i>^G</i>c<i>^[</i>X8;;u<i>^G</i>") ∷
    row Log (codes "a]8;;u" ++ (7 ∷ []) ++ codes "c")
    (codes "a]8;;u^Gc") (codes "a]8;;u<i>^G</i>c") ∷
    row Log ((27 ∷ []) ++ codes "]8;;u")
    (codes "^[]8;;u") (codes "<i>^[</i>]8;;u") ∷
    row Log ((27 ∷ []) ++ codes "]8;;u" ++ (27 ∷ []))
    (codes "^[]8;;u^[") (codes "<i>^[</i>]8;;u<i>^[</i>") ∷
    row Log ((27 ∷ []) ++ codes "]8;;u" ++ (27 ∷ []) ++ codes "[31mc")
    (codes "^[]8;;uc") (codes "<i>^[</i>]8;;u<span class=\"r\">c</span>") ∷
    row Log ((27 ∷ []) ++ codes "]8;;u" ++ (27 ∷ []) ++ codes "]8;;u" ++ (7 ∷ []) ++ codes "c")
    (codes "^[]8;;uc") (codes "<i>^[</i>]8;;uc") ∷
    row Log ((27 ∷ []) ++ codes "]8;;u" ++ (8 ∷ []) ++ codes "\\c")
    (codes "^[]8;;u^H\\c") (codes "<i>^[</i>]8;;u<i>^H</i>\\c") ∷
    row Log ((27 ∷ []) ++ codes "]8;;u" ++ (10 ∷ 7 ∷ []) ++ codes "c")
    (codes "^[]8;;u" ++ (10 ∷ []) ++ codes "^Gc") (codes "<i>^[</i>]8;;u" ++ (10 ∷ []) ++ codes "<i>^G</i>c") ∷
    row Monochrome ((27 ∷ []) ++ codes "]8;;u" ++ (7 ∷ []) ++ codes "c" ++ (27 ∷ []) ++ codes "]8;;" ++ (27 ∷ []) ++ codes "\\")
    (codes "^[]8;;u^Gc^[]8;;^[\\") (codes "<i>^[</i>]8;;u<i>^G</i>c<i>^[</i>]8;;<i>^[</i>\\") ∷
    row Title ((27 ∷ []) ++ codes "]8;;u" ++ (7 ∷ []) ++ codes "c")
    (codes "^[]8;;u^Gc") (codes "^[]8;;u^Gc") ∷
    []

shown_are : AllByRecursion (λ r. shown_text r.kind r.bytes ≡ r.shown) rows
unfolding symbols_after first_symbol symbol_len is_sequence sequence_len sequence_numbers first_code_point code_point_len is_unprintable notation unprintable_text number_text encode_utf8 digits
shown_are = (
  refl,
  (
    refl,
    (
      refl,
      (
        refl,
        (
          refl,
          (
            refl,
            (
              refl,
              (
                refl,
                (
                  refl,
                  (
                    refl,
                    (
                      refl,
                      (
                        refl,
                        (
                          refl,
                          (
                            refl,
                            (
                              refl,
                              (
                                refl,
                                (refl, (refl, (refl, (refl, (refl, (refl, (refl, (refl, tt)))))))),
                              ),
                            ),
                          ),
                        ),
                      ),
                    ),
                  ),
                ),
              ),
            ),
          ),
        ),
      ),
    ),
  ),
)

written_are : AllByRecursion (λ r. passage_html r.kind plain_style r.bytes ≡ r.html) rows
unfolding symbols_after first_symbol symbol_len is_sequence sequence_len sequence_numbers first_code_point code_point_len is_unprintable notation unprintable_text number_text encode_utf8 digits passage_html
written_are = (
  refl,
  (
    refl,
    (
      refl,
      (
        refl,
        (
          refl,
          (
            refl,
            (
              refl,
              (
                refl,
                (
                  refl,
                  (
                    refl,
                    (
                      refl,
                      (
                        refl,
                        (
                          refl,
                          (
                            refl,
                            (
                              refl,
                              (
                                refl,
                                (refl, (refl, (refl, (refl, (refl, (refl, (refl, (refl, tt)))))))),
                              ),
                            ),
                          ),
                        ),
                      ),
                    ),
                  ),
                ),
              ),
            ),
          ),
        ),
      ),
    ),
  ),
)
