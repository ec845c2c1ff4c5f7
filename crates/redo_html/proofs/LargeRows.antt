-- Rows of pages with many targets, of long sequences, and of long runs.
use Rattle.std.proofs.Common.{◌≡◌, ℕ, List, [], ◌∷◌, ◌++◌, map, replicate, refl}
use Rattle.std.specs.Fmt.{digits}
use Rattle.std.specs.List.{AllByRecursion, filter, range_with_len}
use Rattle.std.specs.Prelude.{codes}
use Rattle.redo_html.specs.declared.markup.Markup.TheVariants.{TargetLink, OutputLink, Article, OrderedFrom, TargetItem}
use Rattle.redo_html.specs.declared.markup.Markup.TheVariants.{Details, OpenDetails}
use Rattle.redo_html.specs.Shown.{notation, number_text, unprintable_text}
use Rattle.redo_html.specs.Symbols.{begins_sequence, sequence_len, sequence_numbers}
use Rattle.redo_html.specs.Tags.{markup_text}

-- ---- ids and links

-- A number as it is in an id, and in a link to it.
record Numbered : Type 0 where
  number : ℕ
  text : List ℕ

abbrev numbered : ℕ → List ℕ → Numbered
numbered number text = record { number = number; text = text }

abbrev many : List Numbered
many =
    numbered 100 (codes "100") ∷ numbered 999 (codes "999") ∷ numbered 1000 (codes "1000") ∷ numbered 10007 (codes "10007")
    ∷ numbered 65543 (codes "65543") ∷ numbered 4294967303 (codes "4294967303")
    ∷ numbered 18446744073709551615 (codes "18446744073709551615") ∷ []

target_links : AllByRecursion (λ n. markup_text (TargetLink n.number) ≡ codes "a href=\"#t" ++ n.text ++ codes "\"") many
unfolding number_text digits
target_links = (refl, (refl, (refl, (refl, (refl, (refl, (refl, tt)))))))

target_items : AllByRecursion (λ n. markup_text (TargetItem n.number) ≡ codes "li id=\"t" ++ n.text ++ codes "\"") many
unfolding number_text digits
target_items = (refl, (refl, (refl, (refl, (refl, (refl, (refl, tt)))))))

closed_targets : AllByRecursion (λ n. markup_text (Details n.number) ≡ codes "details id=\"t" ++ n.text ++ codes "\"") many
unfolding number_text digits
closed_targets = (refl, (refl, (refl, (refl, (refl, (refl, (refl, tt)))))))

open_targets : AllByRecursion (λ n. markup_text (OpenDetails n.number) ≡ codes "details open id=\"t" ++ n.text ++ codes "\"") many
unfolding number_text digits
open_targets = (refl, (refl, (refl, (refl, (refl, (refl, (refl, tt)))))))

output_links : AllByRecursion (λ n. markup_text (OutputLink n.number) ≡ codes "a href=\"#f" ++ n.text ++ codes "\"") many
unfolding number_text digits
output_links = (refl, (refl, (refl, (refl, (refl, (refl, (refl, tt)))))))

articles : AllByRecursion (λ n. markup_text (Article n.number) ≡ codes "article id=\"f" ++ n.text ++ codes "\"") many
unfolding number_text digits
articles = (refl, (refl, (refl, (refl, (refl, (refl, (refl, tt)))))))

lists : AllByRecursion (λ n. markup_text (OrderedFrom n.number) ≡ codes "ol class=\"list\" start=\"" ++ n.text ++ codes "\"") many
unfolding number_text digits
lists = (refl, (refl, (refl, (refl, (refl, (refl, (refl, tt)))))))

-- ---- sequences

abbrev escape : List ℕ → List ℕ
escape bytes = 27 ∷ bytes

-- Only the final bytes `K` and `m` end a sequence.
final_bytes : filter (λ byte. begins_sequence (escape (codes "[0;1") ++ byte ∷ [])) (range_with_len 0 256) ≡ codes "Km"
final_bytes = refl

-- A sequence with 100 parameters has 203 bytes.
abbrev parameters : ℕ → List ℕ
parameters count = replicate count 59

long_sequence :
    (sequence_len (escape (codes "[" ++ (replicate 200 48 ++ codes "m"))) ≡ 203)
    × (sequence_len (escape (codes "[" ++ (parameters 200 ++ codes "K"))) ≡ 203)
    × (sequence_numbers (escape (codes "[" ++ (parameters 99 ++ codes "31m"))) ≡ replicate 99 0 ++ 31 ∷ [])
unfolding sequence_len sequence_numbers
long_sequence = (refl, refl, refl)

-- A sequence that erases has no numbers, for any parameters.
erasing : map (λ bytes. sequence_numbers (escape bytes)) (codes "[K" ∷ codes "[0K" ∷ codes "[1;31K" ∷ codes "[31;K" ∷ codes "[031K" ∷ [])
    ≡ replicate 5 []
unfolding sequence_numbers
erasing = refl

-- ---- runs

-- Five of each of these are one and a count, and four are repeated.
abbrev times_five : List ℕ → List ℕ
times_five text = text ++ ((0xC3 ∷ 0x97 ∷ []) ++ codes "5 ")

runs_of_five :
    (unprintable_text 27 5 ≡ times_five (codes "^[")) × (unprintable_text 13 5 ≡ times_five (codes "^M"))
    × (unprintable_text 127 5 ≡ times_five (codes "^?")) × (unprintable_text 0x202E 5 ≡ times_five (codes "[U+202E]"))
    × (unprintable_text 0x10FFFF 5 ≡ times_five (codes "[U+10FFFF]"))
unfolding unprintable_text notation number_text digits
runs_of_five = (refl, refl, refl, refl, refl)

runs_of_four : (unprintable_text 27 4 ≡ codes "^[^[^[^[") × (unprintable_text 0xDCFF 4 ≡ codes "\\xff\\xff\\xff\\xff")
unfolding unprintable_text notation number_text digits
runs_of_four = (refl, refl)
