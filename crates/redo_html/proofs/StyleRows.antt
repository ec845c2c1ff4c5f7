-- Rows of the numbers that set colours, and of notations, as docs/page.md has them.
use Rattle.std.proofs.Common.{◌≡◌, ℕ, suc, Bool, true, false, [], ◌∷◌, ◌++◌, map, refl}
use Rattle.std.specs.Fmt.{digits}
use Rattle.std.specs.List.{flat_map, list_all}
use Rattle.std.specs.Prelude.{codes}
use Rattle.redo_html.specs.declared.style.Hue.TheVariants.{Plain, Red, Green, Yellow, Blue, Magenta, Cyan}
use Rattle.redo_html.specs.declared.style.Setting.{Setting}
use Rattle.redo_html.specs.declared.style.Style.{Style}
use Rattle.redo_html.specs.Passage.{is_same_style}
use Rattle.redo_html.specs.Shown.{notation, number_text, unprintable_text, with_code_point, is_unprintable}
use Rattle.redo_html.specs.Shown.Run.{CodePoints}
use Rattle.redo_html.specs.Style.{attribute_added, setting_after}
use Rattle.redo_html.specs.Symbols.{numbers_from}
use Rattle.redo_html.proofs.CodePointRows.{numbers}

-- ---- attributes

abbrev bold_red : Style
bold_red = record { bold = true; hue = Red }

abbrev green : Style
green = record { bold = false; hue = Green }

-- Bold is 1, and not bold is 22. 0 ends both. 39 ends a hue.
attributes : (attribute_added bold_red 0 ≡ record { bold = false; hue = Plain })
    × (attribute_added green 1 ≡ record { bold = true; hue = Green })
    × (attribute_added bold_red 22 ≡ record { bold = false; hue = Red })
    × (attribute_added bold_red 39 ≡ record { bold = true; hue = Plain })
attributes = (refl, refl, refl, refl)

-- 30 to 37 and 90 to 97 are black, the six hues, and white.
hues : (map (λ n. (attribute_added green n).hue) (numbers 30 1 8) ≡ Plain ∷ Red ∷ Green ∷ Yellow ∷ Blue ∷ Magenta ∷ Cyan ∷ Plain ∷ [])
    × (map (λ n. (attribute_added green n).hue) (numbers 90 1 8) ≡ Plain ∷ Red ∷ Green ∷ Yellow ∷ Blue ∷ Magenta ∷ Cyan ∷ Plain ∷ [])
    × (map (λ n. (attribute_added bold_red n).bold) (numbers 30 1 8) ≡ map (λ n. true) (numbers 30 1 8))
hues = (refl, refl, refl)

-- Each other number up to 999, such as 2 (faint), 4 (underlined), 7 (inverse), 8 (concealed), 21, and 40 to 47 and 100 to 107 (backgrounds).
abbrev keeps : Style → ℕ → Bool
keeps style number = is_same_style (attribute_added style number) style

other_numbers :
    list_all (keeps bold_red) (numbers 2 1 20 ++ (numbers 23 1 7 ++ (38 ∷ (numbers 40 1 50 ++ numbers 98 1 902)))) ≡ true
other_numbers = refl

other_numbers_again :
    list_all (keeps green) (numbers 2 1 28 ++ (38 ∷ (numbers 40 1 50 ++ numbers 98 1 902))) ≡ true
other_numbers_again = refl

-- ---- colours of 256 and of 2^24

abbrev setting : ℕ → Setting
setting ahead = record { style = green; ahead = ahead }

abbrev ahead_after : ℕ → ℕ → ℕ
ahead_after ahead number = (setting_after (setting ahead) number).ahead

-- They begin with 38, 48 or 58. After 5, an index follows, and otherwise three components.
colours : (map (ahead_after 0) (37 ∷ 38 ∷ 39 ∷ 47 ∷ 48 ∷ 49 ∷ 57 ∷ 58 ∷ 59 ∷ []) ≡ 0 ∷ 4 ∷ 0 ∷ 0 ∷ 4 ∷ 0 ∷ 0 ∷ 4 ∷ 0 ∷ [])
    × (map (ahead_after 4) (numbers 0 1 10) ≡ 3 ∷ 3 ∷ 3 ∷ 3 ∷ 3 ∷ 1 ∷ 3 ∷ 3 ∷ 3 ∷ 3 ∷ [])
    × (map (λ ahead. ahead_after ahead 31) (1 ∷ 2 ∷ 3 ∷ []) ≡ 0 ∷ 1 ∷ 2 ∷ [])
colours = (refl, refl, refl)

-- ---- parameters

-- Numbers above 999 are one number, which means nothing. Leading zeros change nothing.
parameters : numbers_from 0 (codes "0;7;08;97;98;107;255;998;999;1000;1031;18446744073709551616;;0001")
    ≡ 0 ∷ 7 ∷ 8 ∷ 97 ∷ 98 ∷ 107 ∷ 255 ∷ 998 ∷ 999 ∷ 999 ∷ 999 ∷ 999 ∷ 0 ∷ 1 ∷ []
parameters = refl

-- ---- notations

control_notations : flat_map notation (numbers 0 1 32 ++ 127 ∷ []) ≡ codes "^@^A^B^C^D^E^F^G^H^I^J^K^L^M^N^O^P^Q^R^S^T^U^V^W^X^Y^Z^[^\\^]^^^_^?"
unfolding notation
control_notations = refl

-- Code points by their numbers, of four to six digits, and bytes.
codes_are : flat_map notation (0x80 ∷ 0x9B ∷ 0xAD ∷ 0x180C ∷ 0x202A ∷ 0x206F ∷ 0xFDDE ∷ 0xFEFF ∷ 0xFFFE ∷ 0x1BCA3 ∷ 0x1D17A ∷ 0xE0042
    ∷ 0xFFFFF ∷ 0x10FFFE ∷ [])
    ≡ codes "[U+0080][U+009B][U+00AD][U+180C][U+202A][U+206F][U+FDDE][U+FEFF][U+FFFE][U+1BCA3][U+1D17A][U+E0042][U+FFFFF][U+10FFFE]"
unfolding notation
codes_are = refl

bytes_are : flat_map notation (0xDC80 ∷ 0xDC9A ∷ 0xDCAB ∷ 0xDCBC ∷ 0xDCCD ∷ 0xDCDE ∷ 0xDCEF ∷ 0xDCF7 ∷ 0xDCFF ∷ [])
    ≡ codes "\\x80\\x9a\\xab\\xbc\\xcd\\xde\\xef\\xf7\\xff"
unfolding notation
bytes_are = refl

-- ---- counts

counts : (unprintable_text 0 9999 ≡ codes "^@" ++ (0xC3 ∷ 0x97 ∷ []) ++ codes "9999 ")
    × (unprintable_text 0 10000 ≡ codes "^@" ++ (0xC3 ∷ 0x97 ∷ []) ++ codes "10000 ")
    × (unprintable_text 0xDCFF 1073741824 ≡ codes "\\xff" ++ (0xC3 ∷ 0x97 ∷ []) ++ codes "1073741824 ")
unfolding unprintable_text notation number_text digits
counts = (refl, refl, refl)

-- A run is as long as it is: one more code point makes it longer by one, however long it is.
runs_grow : (count : ℕ) → with_code_point 0 (CodePoints 0 count ∷ []) ≡ CodePoints 0 (suc count) ∷ []
unfolding is_unprintable
runs_grow count = refl
