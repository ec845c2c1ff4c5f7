-- Rows of the ticks of an axis.
use Rattle.std.proofs.Common.{◌≡◌, ℕ, List, [], ◌∷◌, refl}
use Rattle.std.specs.Prelude.{codes}
use Rattle.std.specs.Fmt.{digits}
use Rattle.std.specs.List.{AllByRecursion}
use Rattle.redo_units.specs.Ticks.{tick_step_of, tick_text, tick_words}
use Rattle.redo_units.specs.Words.{decimal_text}
use Rattle.redo_units.specs.Words.WordValue.{NumberWord, TextWord}

record Row : Type 0 where
  ms : ℕ
  step : ℕ
  text : List ℕ

abbrev shows : ℕ → ℕ → List ℕ → Row
shows ms step text = record { ms = ms; step = step; text = text }

abbrev ticks : List Row
ticks =
    shows 0 1 (codes "0") ∷
    shows 0 60000 (codes "0") ∷
    shows 1 1 (codes "0.001 s") ∷
    shows 5 5 (codes "0.005 s") ∷
    shows 20 5 (codes "0.020 s") ∷
    shows 20 10 (codes "0.02 s") ∷
    shows 20 20 (codes "0.02 s") ∷
    shows 150 50 (codes "0.15 s") ∷
    shows 500 100 (codes "0.5 s") ∷
    shows 500 500 (codes "0.5 s") ∷
    shows 1000 200 (codes "1.0 s") ∷
    shows 1500 500 (codes "1.5 s") ∷
    shows 2000 1000 (codes "2 s") ∷
    shows 12345 9 (codes "12.345 s") ∷
    shows 12345 99 (codes "12.34 s") ∷
    shows 12345 999 (codes "12.3 s") ∷
    shows 12345 1000 (codes "12 s") ∷
    shows 45000 15000 (codes "45 s") ∷
    shows 59999 5000 (codes "59 s") ∷
    shows 60000 10000 (codes "1:00") ∷
    shows 125000 5000 (codes "2:05") ∷
    shows 3599999 600000 (codes "59:59") ∷
    shows 3600000 600000 (codes "1:00 h") ∷
    shows 3725000 300000 (codes "1:02 h") ∷
    shows 86400000 43200000 (codes "24:00 h") ∷
    shows 18446744073709551615 1 (codes "5124095576030:25 h") ∷
    []

these_ticks : AllByRecursion (λ row. tick_text row.ms row.step ≡ row.text) ticks
unfolding tick_words decimal_text digits
these_ticks = (
  refl,
  (
    refl,
    (
      refl,
      (
        refl,
        (
          refl,
          (
            refl,
            (
              refl,
              (
                refl,
                (
                  refl,
                  (
                    refl,
                    (
                      refl,
                      (
                        refl,
                        (
                          refl,
                          (
                            refl,
                            (refl, (refl, (refl, (refl, (refl, (refl, (refl, (refl, (refl, (refl, (refl, (refl, tt)))))))))))),
                          ),
                        ),
                      ),
                    ),
                  ),
                ),
              ),
            ),
          ),
        ),
      ),
    ),
  ),
)

-- Ticks after the first day.
abbrev late_ticks : List Row
late_ticks =
    shows 90061000 3600000 (codes "25:01 h") ∷
    shows 604800000 86400000 (codes "168:00 h") ∷
    shows 3600000000 86400000 (codes "1000:00 h") ∷
    []

these_late_ticks : AllByRecursion (λ row. tick_text row.ms row.step ≡ row.text) late_ticks
unfolding tick_words decimal_text digits
these_late_ticks = (refl, (refl, (refl, tt)))

-- Each tick has six words, and some are empty.
words :
    (tick_words 0 1 ≡ NumberWord 0 ∷ TextWord [] ∷ TextWord [] ∷ TextWord [] ∷ TextWord [] ∷ TextWord [] ∷ [])
    × (tick_words 1230 10 ≡ NumberWord 1 ∷ TextWord (codes ".") ∷ NumberWord 2 ∷ NumberWord 3 ∷ TextWord [] ∷ TextWord (codes " s") ∷ [])
    × (tick_words 125000 5000 ≡ NumberWord 2 ∷ TextWord (codes ":") ∷ NumberWord 0 ∷ NumberWord 5 ∷ TextWord [] ∷ TextWord [] ∷ [])
    × (tick_words 3725000 300000 ≡ NumberWord 1 ∷ TextWord (codes ":") ∷ NumberWord 0 ∷ NumberWord 2 ∷ TextWord (codes " h")
    ∷ TextWord [] ∷ [])
unfolding tick_words
words = (refl, refl, refl, refl)

record StepRow : Type 0 where
  width : ℕ
  step : ℕ

abbrev steps : ℕ → ℕ → StepRow
steps width step = record { width = width; step = step }

-- Each step, on the widest axis that it is for.
abbrev widest : List StepRow
widest =
    steps 10 1 ∷
    steps 20 2 ∷
    steps 50 5 ∷
    steps 100 10 ∷
    steps 200 20 ∷
    steps 500 50 ∷
    steps 1000 100 ∷
    steps 2000 200 ∷
    steps 5000 500 ∷
    steps 10000 1000 ∷
    steps 20000 2000 ∷
    steps 50000 5000 ∷
    steps 100000 10000 ∷
    steps 150000 15000 ∷
    steps 300000 30000 ∷
    steps 600000 60000 ∷
    steps 1200000 120000 ∷
    steps 3000000 300000 ∷
    steps 6000000 600000 ∷
    steps 9000000 900000 ∷
    steps 18000000 1800000 ∷
    steps 36000000 3600000 ∷
    steps 72000000 7200000 ∷
    steps 144000000 14400000 ∷
    steps 432000000 43200000 ∷
    steps 864000000 86400000 ∷
    []

these_steps : AllByRecursion (λ row. tick_step_of row.width ≡ row.step) widest
unfolding tick_step_of
these_steps = (
  refl,
  (
    refl,
    (
      refl,
      (
        refl,
        (
          refl,
          (
            refl,
            (
              refl,
              (
                refl,
                (
                  refl,
                  (
                    refl,
                    (
                      refl,
                      (
                        refl,
                        (
                          refl,
                          (
                            refl,
                            (refl, (refl, (refl, (refl, (refl, (refl, (refl, (refl, (refl, (refl, (refl, (refl, tt)))))))))))),
                          ),
                        ),
                      ),
                    ),
                  ),
                ),
              ),
            ),
          ),
        ),
      ),
    ),
  ),
)

-- Each step, on the narrowest axis that it is for.
abbrev narrowest : List StepRow
narrowest =
    steps 0 1 ∷
    steps 11 2 ∷
    steps 21 5 ∷
    steps 51 10 ∷
    steps 101 20 ∷
    steps 201 50 ∷
    steps 501 100 ∷
    steps 1001 200 ∷
    steps 2001 500 ∷
    steps 5001 1000 ∷
    steps 10001 2000 ∷
    steps 20001 5000 ∷
    steps 50001 10000 ∷
    steps 100001 15000 ∷
    steps 150001 30000 ∷
    steps 300001 60000 ∷
    steps 600001 120000 ∷
    steps 1200001 300000 ∷
    steps 3000001 600000 ∷
    steps 6000001 900000 ∷
    steps 9000001 1800000 ∷
    steps 18000001 3600000 ∷
    steps 36000001 7200000 ∷
    steps 72000001 14400000 ∷
    steps 144000001 43200000 ∷
    steps 432000001 86400000 ∷
    []

narrow_steps : AllByRecursion (λ row. tick_step_of row.width ≡ row.step) narrowest
unfolding tick_step_of
narrow_steps = (
  refl,
  (
    refl,
    (
      refl,
      (
        refl,
        (
          refl,
          (
            refl,
            (
              refl,
              (
                refl,
                (
                  refl,
                  (
                    refl,
                    (
                      refl,
                      (
                        refl,
                        (
                          refl,
                          (
                            refl,
                            (refl, (refl, (refl, (refl, (refl, (refl, (refl, (refl, (refl, (refl, (refl, (refl, tt)))))))))))),
                          ),
                        ),
                      ),
                    ),
                  ),
                ),
              ),
            ),
          ),
        ),
      ),
    ),
  ),
)

abbrev other_widths : List StepRow
other_widths =
    steps 0 1 ∷
    steps 1 1 ∷
    steps 11 2 ∷
    steps 51 10 ∷
    steps 12345 2000 ∷
    steps 100001 15000 ∷
    steps 17592186044415 17592186044415 ∷
    steps 604800000 86400000 ∷
    steps 864000001 864000001 ∷
    steps 6048000000 6048000000 ∷
    steps 18446744073709551615 18446744073709551615 ∷
    []

those_steps : AllByRecursion (λ row. tick_step_of row.width ≡ row.step) other_widths
unfolding tick_step_of
those_steps = (refl, (refl, (refl, (refl, (refl, (refl, (refl, (refl, (refl, (refl, (refl, tt)))))))))))
