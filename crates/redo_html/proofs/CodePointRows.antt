-- Rows of code points: which ones have a notation, by the table in docs/page.md.
use Rattle.std.proofs.Common.{◌≡◌, ℕ, zero, suc, ◌+◌, ◌-◌, true, false, List, [], ◌∷◌, ◌++◌, map, replicate, refl}
use Rattle.std.specs.List.{AllByRecursion, list_all, list_any}
use Rattle.redo_html.specs.Shown.{is_unprintable}

-- `count` numbers, each larger than the one before by `stride`.
abbrev pub numbers : ℕ → ℕ → ℕ → List ℕ
numbers first stride zero = []
numbers first stride (suc count) = first ∷ numbers (first + stride) stride count

-- All control characters except tabs and line feeds.
controls : map is_unprintable (0 ∷ 8 ∷ 9 ∷ 10 ∷ 11 ∷ 13 ∷ 27 ∷ 31 ∷ 32 ∷ 65 ∷ 126 ∷ 127 ∷ 128 ∷ [])
    ≡ true ∷ true ∷ false ∷ false ∷ true ∷ true ∷ true ∷ true ∷ false ∷ false ∷ false ∷ true ∷ true ∷ []
unfolding is_unprintable
controls = refl

-- Each of the 32 control characters of ASCII.
each_control : map is_unprintable (numbers 0 1 32) ≡ replicate 9 true ++ (false ∷ false ∷ replicate 21 true)
unfolding is_unprintable
each_control = refl

-- Whether the first code point and the last one are unprintable, and neither the code point before them nor the code point after them.
abbrev IsRange : ℕ × ℕ → Type 0
IsRange range = map is_unprintable ((range.0 - 1) ∷ range.0 ∷ range.1 ∷ (range.1 + 1) ∷ []) ≡ false ∷ true ∷ true ∷ false ∷ []

-- The first range begins with the control character U+007F. U+D800 to U+DFFF are no characters, but the numbers of invalid bytes.
abbrev ranges : List (ℕ × ℕ)
ranges =
    (0x7F, 0x9F) ∷ (0xAD, 0xAD) ∷ (0x34F, 0x34F) ∷ (0x61C, 0x61C) ∷ (0x115F, 0x1160) ∷ (0x17B4, 0x17B5) ∷ (0x180B, 0x180F)
    ∷ (0x200B, 0x200B) ∷ (0x200E, 0x200F)
    ∷ (0x2028, 0x202E) ∷ (0x2060, 0x206F) ∷ (0x3164, 0x3164) ∷ (0xD800, 0xDFFF) ∷ (0xFDD0, 0xFDEF) ∷ (0xFE00, 0xFE0E) ∷ (0xFEFF, 0xFEFF)
    ∷ (0xFFA0, 0xFFA0) ∷ (0xFFF0, 0xFFFB) ∷ (0xFFFE, 0xFFFF) ∷ (0x1BCA0, 0x1BCA3) ∷ (0x1D173, 0x1D17A)
    ∷ (0x1FFFE, 0x1FFFF) ∷ (0x2FFFE, 0x2FFFF) ∷ (0xDFFFE, 0xE0FFF) ∷ (0xEFFFE, 0xEFFFF) ∷ (0xFFFFE, 0xFFFFF)
    ∷ (0x10FFFE, 0x10FFFF) ∷ []

these_ranges : AllByRecursion IsRange ranges
unfolding is_unprintable
these_ranges = (
  refl,
  (
    refl,
    (
      refl,
      (
        refl,
        (
          refl,
          (
            refl,
            (
              refl,
              (
                refl,
                (
                  refl,
                  (
                    refl,
                    (
                      refl,
                      (
                        refl,
                        (
                          refl,
                          (
                            refl,
                            (
                              refl,
                              (refl, (refl, (refl, (refl, (refl, (refl, (refl, (refl, (refl, (refl, (refl, (refl, tt)))))))))))),
                            ),
                          ),
                        ),
                      ),
                    ),
                  ),
                ),
              ),
            ),
          ),
        ),
      ),
    ),
  ),
)

-- Code points that are shown as they are: the joiners U+200C and U+200D, U+FE0F, and code points far from all ranges.
visible : map is_unprintable (0xE9 ∷ 0x3B1 ∷ 0x200C ∷ 0x200D ∷ 0x2018 ∷ 0x20AC ∷ 0x4E2D ∷ 0xAC00 ∷ 0xFE0F ∷ 0xFFFD ∷ 0x1F600
    ∷ 0x10FFFD ∷ [])
    ≡ false ∷ false ∷ false ∷ false ∷ false ∷ false ∷ false ∷ false ∷ false ∷ false ∷ false ∷ false ∷ []
unfolding is_unprintable
visible = refl

-- ---- inside ranges, and between them

-- Each code point of a range.
abbrev IsUnprintableRange : ℕ × ℕ → Type 0
IsUnprintableRange range = list_all is_unprintable (numbers range.0 1 (suc (range.1 - range.0))) ≡ true

unprintable_ranges : AllByRecursion IsUnprintableRange ranges
unfolding is_unprintable
unprintable_ranges = (
  refl,
  (
    refl,
    (
      refl,
      (
        refl,
        (
          refl,
          (
            refl,
            (
              refl,
              (
                refl,
                (
                  refl,
                  (
                    refl,
                    (
                      refl,
                      (
                        refl,
                        (
                          refl,
                          (
                            refl,
                            (refl, (refl, (refl, (refl, (refl, (refl, (refl, (refl, (refl, (refl, (refl, (refl, (refl, tt))))))))))))),
                          ),
                        ),
                      ),
                    ),
                  ),
                ),
              ),
            ),
          ),
        ),
      ),
    ),
  ),
)

-- The code points between two ranges.
record Gap : Type 0 where
  first : ℕ
  stride : ℕ
  count : ℕ

abbrev gap : ℕ → ℕ → ℕ → Gap
gap first stride count = record { first = first; stride = stride; count = count }

-- All code points between the first ranges, and some of those between the others: each 61st, or each 509th of those from U+10000 on.
abbrev gaps : List Gap
gaps =
    gap 0x20 1 95 ∷ gap 0xA0 1 13 ∷ gap 0xAE 1 673 ∷ gap 0x350 1 716 ∷ gap 0x61D 1 2882 ∷ gap 0x1161 1 1619 ∷ gap 0x17B6 1 85
    ∷ gap 0x1810 1 2043 ∷ gap 0x200C 1 2 ∷ gap 0x2010 1 24 ∷ gap 0x202F 1 49 ∷ gap 0x2070 1 4340 ∷ gap 0x3165 61 700
    ∷ gap 0xE000 61 126 ∷ gap 0xFDF0 1 16 ∷ gap 0xFE0F 1 240 ∷ gap 0xFF00 1 160 ∷ gap 0xFFA1 1 79 ∷ gap 0xFFFC 1 2
    ∷ gap 0x10000 509 95 ∷ gap 0x1BCA4 509 11 ∷ gap 0x1D17B 509 24 ∷ gap 0x20000 509 129 ∷ gap 0x30000 509 129
    ∷ gap 0x40000 509 129 ∷ gap 0x50000 509 129 ∷ gap 0x60000 509 129 ∷ gap 0x70000 509 129 ∷ gap 0x80000 509 129
    ∷ gap 0x90000 509 129 ∷ gap 0xA0000 509 129 ∷ gap 0xB0000 509 129 ∷ gap 0xC0000 509 129 ∷ gap 0xD0000 509 129
    ∷ gap 0xE1000 509 121 ∷ gap 0xF0000 509 129 ∷ gap 0x100000 509 129 ∷ []

visible_gaps : AllByRecursion (λ (g : Gap). list_any is_unprintable (numbers g.first g.stride g.count) ≡ false) gaps
unfolding is_unprintable
visible_gaps = (
  refl,
  (
    refl,
    (
      refl,
      (
        refl,
        (
          refl,
          (
            refl,
            (
              refl,
              (
                refl,
                (
                  refl,
                  (
                    refl,
                    (
                      refl,
                      (
                        refl,
                        (
                          refl,
                          (
                            refl,
                            (
                              refl,
                              (
                                refl,
                                (
                                  refl,
                                  (
                                    refl,
                                    (
                                      refl,
                                      (
                                        refl,
                                        (
                                          refl,
                                          (
                                            refl,
                                            (
                                              refl,
                                              (
                                                refl,
                                                (
                                                  refl,
                                                  (
                                                    refl,
                                                    (
                                                      refl,
                                                      (
                                                        refl,
                                                        (
                                                          refl,
                                                          (
                                                            refl,
                                                            (
                                                              refl,
                                                              (refl, (refl, (refl, (refl, (refl, (refl, tt)))))),
                                                            ),
                                                          ),
                                                        ),
                                                      ),
                                                    ),
                                                  ),
                                                ),
                                              ),
                                            ),
                                          ),
                                        ),
                                      ),
                                    ),
                                  ),
                                ),
                              ),
                            ),
                          ),
                        ),
                      ),
                    ),
                  ),
                ),
              ),
            ),
          ),
        ),
      ),
    ),
  ),
)
