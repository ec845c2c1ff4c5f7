-- Rows of durations, sizes and quotients, and their texts.
use Rattle.std.proofs.Common.{◌≡◌, ℕ, List, [], ◌∷◌, refl}
use Rattle.std.specs.Prelude.{codes}
use Rattle.std.specs.Fmt.{digits}
use Rattle.std.specs.List.{AllByRecursion}
use Rattle.redo_units.specs.Durations.{duration_text, duration_words}
use Rattle.redo_units.specs.Sizes.{size_words, tenths_words}
use Rattle.redo_units.specs.declared.words.Word.TheVariants.{Number, Text}
use Rattle.redo_units.specs.Words.{decimal_text, word_of, words_text}
use Rattle.redo_units.specs.Words.WordValue.{NumberWord, TextWord}

record Row : Type 0 where
  number : ℕ
  text : List ℕ

abbrev shows : ℕ → List ℕ → Row
shows number text = record { number = number; text = text }

words_of : (word_of (Number 5) ≡ NumberWord 5) × (word_of (Text (record { ref_ptr = (0, 0); now = codes " s" })) ≡ TextWord (codes " s"))
words_of = (refl, refl)

-- The largest number is 2^64 - 1.
words :
    (words_text [] ≡ []) × (words_text (TextWord (codes " min ") ∷ []) ≡ codes " min ")
    × (words_text (NumberWord 0 ∷ NumberWord 5 ∷ TextWord (codes " s") ∷ []) ≡ codes "05 s")
    × (words_text (NumberWord 18446744073709551615 ∷ []) ≡ codes "18446744073709551615")
    × (words_text (NumberWord 18446744073709551616 ∷ []) ≡ [])
    × (words_text (NumberWord 18446744073709551615 ∷ TextWord (codes " x") ∷ []) ≡ codes "18446744073709551615 x")
unfolding decimal_text digits
words = (refl, refl, refl, refl, refl, refl)

abbrev durations : List Row
durations =
    shows 0 (codes "0.00 s") ∷
    shows 9 (codes "0.00 s") ∷
    shows 10 (codes "0.01 s") ∷
    shows 1234 (codes "1.23 s") ∷
    shows 1005 (codes "1.00 s") ∷
    shows 9999 (codes "9.99 s") ∷
    shows 10000 (codes "10.0 s") ∷
    shows 12345 (codes "12.3 s") ∷
    shows 59999 (codes "59.9 s") ∷
    shows 60000 (codes "1 min 00 s") ∷
    shows 125000 (codes "2 min 05 s") ∷
    shows 3599999 (codes "59 min 59 s") ∷
    shows 3600000 (codes "1 h 00 min") ∷
    shows 3725000 (codes "1 h 02 min") ∷
    shows 86399999 (codes "23 h 59 min") ∷
    shows 90000000 (codes "25 h 00 min") ∷
    shows 360000000 (codes "100 h 00 min") ∷
    shows 604800000 (codes "168 h 00 min") ∷
    shows 3603660000 (codes "1001 h 01 min") ∷
    shows 17592186044415 (codes "4886718 h 20 min") ∷
    shows 18446744073709551615 (codes "5124095576030 h 25 min") ∷
    []

these_durations : AllByRecursion (λ row. duration_text row.number ≡ row.text) durations
unfolding duration_words decimal_text digits
these_durations = (
  refl,
  (
    refl,
    (
      refl,
      (
        refl,
        (
          refl,
          (
            refl,
            (
              refl,
              (
                refl,
                (
                  refl,
                  (
                    refl,
                    (
                      refl,
                      (
                        refl,
                        (
                          refl,
                          (
                            refl,
                            (refl, (refl, (refl, (refl, (refl, (refl, (refl, tt))))))),
                          ),
                        ),
                      ),
                    ),
                  ),
                ),
              ),
            ),
          ),
        ),
      ),
    ),
  ),
)

-- A duration has five words, and a size four. Words that are not used are empty and at the end.
places :
    (duration_words 12345 ≡ NumberWord 12 ∷ TextWord (codes ".") ∷ NumberWord 3 ∷ TextWord (codes " s") ∷ TextWord [] ∷ [])
    × (duration_words 125000 ≡ NumberWord 2 ∷ TextWord (codes " min ") ∷ NumberWord 0 ∷ NumberWord 5 ∷ TextWord (codes " s") ∷ [])
    × (size_words 1 ≡ NumberWord 1 ∷ TextWord (codes " byte") ∷ TextWord [] ∷ TextWord [] ∷ [])
    × (size_words 46099 ≡ NumberWord 46 ∷ TextWord (codes ".") ∷ NumberWord 0 ∷ TextWord (codes " kB") ∷ [])
    × (tenths_words 5 2 ≡ NumberWord 2 ∷ TextWord (codes ".") ∷ NumberWord 5 ∷ [])
unfolding duration_words size_words tenths_words
places = (refl, refl, refl, refl, refl)

abbrev sizes : List Row
sizes =
    shows 0 (codes "0 bytes") ∷
    shows 1 (codes "1 byte") ∷
    shows 2 (codes "2 bytes") ∷
    shows 999 (codes "999 bytes") ∷
    shows 1000 (codes "1.0 kB") ∷
    shows 1099 (codes "1.0 kB") ∷
    shows 1100 (codes "1.1 kB") ∷
    shows 46099 (codes "46.0 kB") ∷
    shows 999999 (codes "999.9 kB") ∷
    shows 1000000 (codes "1.0 MB") ∷
    shows 16777216 (codes "16.7 MB") ∷
    shows 999999999 (codes "999.9 MB") ∷
    shows 1000000000 (codes "1.0 GB") ∷
    shows 123456789012 (codes "123.4 GB") ∷
    shows 1234567890123 (codes "1234.5 GB") ∷
    shows 18446744073709551615 (codes "18446744073.7 GB") ∷
    []

abbrev size_text : ℕ → List ℕ
size_text bytes = words_text (size_words bytes)

these_sizes : AllByRecursion (λ row. size_text row.number ≡ row.text) sizes
unfolding size_words decimal_text digits
these_sizes = (
  refl,
  (
    refl,
    (
      refl,
      (
        refl,
        (
          refl,
          (
            refl,
            (
              refl,
              (
                refl,
                (
                  refl,
                  (
                    refl,
                    (
                      refl,
                      (
                        refl,
                        (
                          refl,
                          (
                            refl,
                            (
                              refl,
                              (refl, tt),
                            ),
                          ),
                        ),
                      ),
                    ),
                  ),
                ),
              ),
            ),
          ),
        ),
      ),
    ),
  ),
)

abbrev tenths_text : ℕ → ℕ → List ℕ
tenths_text amount per = words_text (tenths_words amount per)

-- The last two are of 2^64 / 10, whose tenfold is at most 2^64 - 1, and of 2^64 - 1.
quotients :
    (tenths_text 0 7 ≡ codes "0.0") × (tenths_text 5 2 ≡ codes "2.5") × (tenths_text 2 3 ≡ codes "0.6") × (tenths_text 40 10 ≡ codes "4.0")
    × (tenths_text 123 1 ≡ codes "123.0") × (tenths_text 12345 10 ≡ codes "1234.5")
    × (tenths_text 7 0 ≡ codes "7.0") × (tenths_text 0 0 ≡ codes "0.0") × (tenths_text 1 18446744073709551615 ≡ codes "0.0")
    × (tenths_text 1844674407370955161 10 ≡ codes "184467440737095516.1")
    × (tenths_text 1844674407370955162 1 ≡ codes "1844674407370955161.5")
    × (tenths_text 18446744073709551615 18446744073709551615 ≡ codes "0.1")
unfolding tenths_words decimal_text digits
quotients = (refl, refl, refl, refl, refl, refl, refl, refl, refl, refl, refl, refl)
