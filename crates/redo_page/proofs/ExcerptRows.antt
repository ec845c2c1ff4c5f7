-- Rows of long lines that are cut, and of excerpts.
use Rattle.std.proofs.Common.{◌≡◌, ℕ, Bool, true, false, List, [], ◌∷◌, ◌++◌, length, map, replicate, refl}
use Rattle.std.specs.Char.{encode_utf8}
use Rattle.std.specs.Fmt.{digits}
use Rattle.std.specs.Prelude.{◌==◌, ◌||◌, bytes_eq, codes}
use Rattle.std.specs.List.{AllByRecursion, filter, flat_map, range_with_len}
use Rattle.redo_html.specs.Cut.{begins_at}
use Rattle.redo_html.specs.declared.markup.Markup.{Markup}
use Rattle.redo_html.specs.declared.markup.Markup.TheVariants as markup
use Rattle.redo_html.specs.Passage.{passage_html}
use Rattle.redo_html.specs.Parts.{Part, part_html}
use Rattle.redo_html.specs.Parts.Part.{MarkupPart, LogPart, TextPart, NumberPart}
use Rattle.redo_html.specs.Shown.{is_unprintable, number_text, unprintable_text, notation}
use Rattle.redo_html.specs.Style.{plain_style}
use Rattle.redo_html.specs.Symbols.{first_code_point, first_symbol, is_sequence, code_point_len, sequence_len, sequence_numbers, symbol_len, symbols_after}
use Rattle.redo_page.specs.Errors.{begins_with}
use Rattle.redo_page.specs.Excerpt.{Stretch, cut_to, error_position, excerpt_line_end, excerpt_line_parts, excerpt_parts, in_tree_parts, is_kept, left_out_parts, stretch_parts, stretches_from}

-- ---- cutting

record Cut : Type 0 where
  limit : ℕ
  bytes : List ℕ
  result : List ℕ

abbrev cut : ℕ → List ℕ → List ℕ → Cut
cut limit bytes result = record { limit = limit; bytes = bytes; result = result }

-- `é` is C3 A9, U+1F600 is F0 9F 98 80, and `ESC [ 1 m` has four bytes. Bytes that end within a sequence are not cut if they fit.
abbrev cuts : List Cut
cuts =
    cut 4 (codes "abcdef") (codes "abcd")
    ∷ cut 6 (codes "abcdef") (codes "abcdef")
    ∷ cut 9 (codes "abcdef") (codes "abcdef")
    ∷ cut 0 (codes "abcdef") []
    ∷ cut 4 (codes "abc" ++ 0xC3 ∷ 0xA9 ∷ 100 ∷ []) (codes "abc")
    ∷ cut 5 (codes "abc" ++ 0xC3 ∷ 0xA9 ∷ 100 ∷ []) (codes "abc" ++ 0xC3 ∷ 0xA9 ∷ [])
    ∷ cut 4 (97 ∷ 0xF0 ∷ 0x9F ∷ 0x98 ∷ 0x80 ∷ []) (97 ∷ [])
    ∷ cut 2 (97 ∷ 0xBF ∷ 0xC0 ∷ 98 ∷ []) (97 ∷ 0xBF ∷ [])
    ∷ cut 3 (codes "ab" ++ 27 ∷ codes "[1mcd") (codes "ab")
    ∷ cut 5 (codes "ab" ++ 27 ∷ codes "[1mcd") (codes "ab")
    ∷ cut 6 (codes "ab" ++ 27 ∷ codes "[1mcd") (codes "ab" ++ 27 ∷ codes "[1m")
    ∷ cut 2 (0x80 ∷ 0x80 ∷ 0x80 ∷ []) (0x80 ∷ 0x80 ∷ [])
    ∷ cut 8 (codes "ab" ++ 27 ∷ codes "]8;;u" ++ 7 ∷ 99 ∷ []) (codes "ab")
    ∷ cut 9 (codes "ab" ++ 27 ∷ codes "]8;;u" ++ 7 ∷ 99 ∷ []) (codes "ab" ++ 27 ∷ codes "]8;;u" ++ 7 ∷ [])
    ∷ cut 5 (codes "ab" ++ 27 ∷ codes "[") (codes "ab" ++ 27 ∷ codes "[")
    ∷ cut 4 (codes "ab" ++ 27 ∷ codes "[") (codes "ab" ++ 27 ∷ codes "[")
    ∷ []

cuts_are : AllByRecursion (λ row. cut_to row.limit row.bytes ≡ row.result) cuts
unfolding cut_to begins_at symbol_len is_sequence sequence_len code_point_len
cuts_are =
    (refl, (refl, (refl, (refl, (refl, (refl, (refl, (refl, (refl, (refl, (refl, (refl, (refl, (refl, (refl, (refl, tt))))))))))))))))

-- The bytes that parts show.
abbrev bytes_of : Part → List ℕ
bytes_of (LogPart style bytes) = bytes
bytes_of (TextPart bytes) = bytes
bytes_of part = []

abbrev bytes : List Part → List ℕ
bytes parts = flat_map bytes_of parts

whole_line :
    bytes_eq (bytes (excerpt_line_parts (replicate 1000 97)))
    (replicate 1000 97 ++ codes "\n")
    ≡ true
unfolding excerpt_line_parts excerpt_line_end cut_to begins_at begins_with symbol_len is_sequence sequence_len code_point_len
whole_line = refl

long_line :
    bytes_eq (bytes (excerpt_line_parts (replicate 1001 97)))
    (replicate 1000 97 ++ codes " ...\n")
    ≡ true
unfolding excerpt_line_parts excerpt_line_end cut_to begins_at begins_with symbol_len is_sequence sequence_len code_point_len
long_line = refl

-- ---- which lines an excerpt shows

record Shape : Type 0 where
  shown : Bool
  count : ℕ

abbrev shape : Stretch → Shape
shape (Stretch.Shown lines) = record { shown = true; count = length lines }
shape (Stretch.LeftOut count) = record { shown = false; count = count }

abbrev shown : ℕ → Shape
shown count = record { shown = true; count = count }

abbrev left_out : ℕ → Shape
left_out count = record { shown = false; count = count }

record Row : Type 0 where
  count : ℕ
  error : ℕ
  shapes : List Shape

abbrev excerpt : ℕ → ℕ → List Shape → Row
excerpt count error shapes = record { count = count; error = error; shapes = shapes }

abbrev rows : List Row
rows =
    excerpt 301 100 (shown 10 ∷ left_out 85 ∷ shown 30 ∷ left_out 116 ∷ shown 60 ∷ [])
    ∷ excerpt 301 3 (shown 28 ∷ left_out 213 ∷ shown 60 ∷ [])
    ∷ excerpt 301 301 (shown 10 ∷ left_out 231 ∷ shown 60 ∷ [])
    ∷ excerpt 301 230 (shown 10 ∷ left_out 215 ∷ shown 76 ∷ [])
    ∷ excerpt 301 15 (shown 40 ∷ left_out 201 ∷ shown 60 ∷ [])
    ∷ excerpt 301 16 (shown 10 ∷ left_out 1 ∷ shown 30 ∷ left_out 200 ∷ shown 60 ∷ [])
    ∷ excerpt 50 50 (shown 50 ∷ [])
    ∷ excerpt 0 0 []
    ∷ []

shapes_are : AllByRecursion (λ row. map shape (stretches_from (is_kept row.count row.error) 0 (replicate row.count (codes "a")))
    ≡ row.shapes) rows
shapes_are = (refl, (refl, (refl, (refl, (refl, (refl, (refl, (refl, tt))))))))

-- ---- the parts of an excerpt

abbrev tag : Markup → Part
tag markup = MarkupPart markup

abbrev words : List ℕ → Part
words text = TextPart text

line_is : excerpt_line_parts (codes "x") ≡ LogPart plain_style (codes "x") ∷ words (codes "\n") ∷ []
unfolding excerpt_line_parts excerpt_line_end cut_to begins_with sequence_len
line_is = refl

-- A line that reports an error, with its line feed.
error_line_is :
    excerpt_line_parts (codes "an error") ≡ tag markup.Emphasis ∷ LogPart plain_style (codes "an error") ∷ words (codes "\n")
    ∷ tag markup.EndEmphasis ∷ []
unfolding excerpt_line_parts excerpt_line_end cut_to begins_with sequence_len
error_line_is = refl

-- The word is after what is shown.
long_error_line :
    bytes_eq (flat_map part_html (excerpt_line_parts (replicate 1000 46 ++ codes " error")))
    (codes "<em>" ++ (replicate 1000 46 ++ codes " ...\n</em>"))
    ≡ true
unfolding excerpt_line_parts excerpt_line_end cut_to begins_at begins_with symbols_after first_symbol symbol_len is_sequence sequence_len sequence_numbers first_code_point code_point_len is_unprintable notation unprintable_text number_text encode_utf8 digits passage_html
long_error_line = refl

-- The positions at which lines are kept, up to 35, if line 20 of 106 reports an error, and from 40 on.
kept_are :
    (filter (is_kept 106 20) (range_with_len 0 36) ≡ range_with_len 0 10 ++ range_with_len 15 21)
    × (filter (is_kept 106 20) (range_with_len 36 20) ≡ range_with_len 36 9 ++ range_with_len 46 10)
kept_are = (refl, refl)

stretches_are :
    (stretches_from (λ at. at == 3 || at == 4) 2 (codes "a" ∷ codes "b" ∷ codes "c" ∷ codes "d" ∷ codes "e" ∷ codes "f" ∷ [])
    ≡ Stretch.LeftOut 1 ∷ Stretch.Shown (codes "b" ∷ codes "c" ∷ []) ∷ Stretch.LeftOut 3 ∷ [])
    × (stretches_from (λ at. true) 0 [] ≡ []) × (stretches_from (λ at. true) 0 (codes "a" ∷ []) ≡ Stretch.Shown (codes "a" ∷ []) ∷ [])
    × (stretches_from (λ at. at == 1) 1 (codes "a" ∷ codes "b" ∷ []) ≡ Stretch.Shown (codes "a" ∷ []) ∷ Stretch.LeftOut 1 ∷ [])
stretches_are = (refl, refl, refl, refl)

in_tree_is : in_tree_parts 7 (codes "x") ≡ tag (markup.TargetLink 7) ∷ words (codes "x") ∷ tag markup.EndLink ∷ []
unfolding in_tree_parts
in_tree_is = refl

left_out_are :
    (left_out_parts 7 1 ≡ tag markup.CutParagraph ∷ NumberPart 1 ∷ words (codes " more line: ") ∷ tag (markup.TargetLink 7)
    ∷ words (codes "in its log") ∷ tag markup.EndLink ∷ tag markup.EndParagraph ∷ [])
    × (left_out_parts 7 2 ≡ tag markup.CutParagraph ∷ NumberPart 2 ∷ words (codes " more lines: ") ∷ tag (markup.TargetLink 7)
    ∷ words (codes "in its log") ∷ tag markup.EndLink ∷ tag markup.EndParagraph ∷ [])
unfolding left_out_parts in_tree_parts
left_out_are = (refl, refl)

shown_stretch_is :
    stretch_parts 7 (Stretch.Shown (codes "x" ∷ codes "y" ∷ []))
    ≡ tag markup.Pre ∷ LogPart plain_style (codes "x") ∷ words (codes "\n") ∷ LogPart plain_style (codes "y") ∷ words (codes "\n")
    ∷ tag markup.EndPre ∷ []
unfolding excerpt_line_parts excerpt_line_end cut_to begins_with sequence_len
shown_stretch_is = refl

left_out_stretch_is : stretch_parts 7 (Stretch.LeftOut 1) ≡ left_out_parts 7 1
left_out_stretch_is = refl

short_excerpt_is : excerpt_parts 7 (codes "x" ∷ [])
    ≡ tag markup.Pre ∷ LogPart plain_style (codes "x") ∷ words (codes "\n") ∷ tag markup.EndPre ∷ []
unfolding excerpt_parts excerpt_line_parts excerpt_line_end cut_to begins_with sequence_len
short_excerpt_is = refl

-- ---- an excerpt

abbrev a_lines : ℕ → List (List ℕ)
a_lines count = replicate count (codes "a")

abbrev a_text : ℕ → List ℕ
a_text count = flat_map (λ line. codes "a\n") (a_lines count)

-- The error is at position 20 of 106 lines, so five lines are left out before the lines around it, and one line after them.
excerpt_is :
    bytes_eq (flat_map part_html (excerpt_parts 7 (a_lines 20 ++ (codes "error" ∷ a_lines 85))))
    (codes "<pre>\n"
    ++ (a_text 10
    ++ (codes "</pre><p class=\"cut\">5 more lines: <a href=\"#t7\">in its log</a></p><pre>\n"
    ++ (a_text 5
    ++ (codes "<em>error\n</em>"
    ++ (a_text 24 ++ (codes "</pre><p class=\"cut\">1 more line: <a href=\"#t7\">in its log</a></p><pre>\n"
    ++ (a_text 60 ++ codes "</pre>"))))))))
    ≡ true
unfolding excerpt_parts excerpt_line_parts excerpt_line_end cut_to left_out_parts in_tree_parts begins_with symbols_after first_symbol symbol_len is_sequence sequence_len sequence_numbers first_code_point code_point_len is_unprintable notation unprintable_text number_text encode_utf8 digits passage_html
excerpt_is = refl

-- Each line that reports an error is emphasized, not only the first one.
errors_in_excerpt :
    bytes_eq (flat_map part_html (excerpt_parts 7 (codes "error" ∷ codes "x" ∷ codes "a: FAIL" ∷ (27 ∷ codes "[31mcannot") ∷ codes "y" ∷ [])))
    (codes "<pre>\n<em>error\n</em>x\n<em>a: FAIL\n</em><em><span class=\"r\">cannot</span>\n</em>y\n</pre>")
    ≡ true
unfolding excerpt_parts excerpt_line_parts excerpt_line_end cut_to begins_at begins_with symbols_after first_symbol symbol_len is_sequence sequence_len sequence_numbers first_code_point code_point_len is_unprintable notation unprintable_text number_text encode_utf8 digits passage_html
errors_in_excerpt = refl

no_error : error_position (a_lines 3) ≡ 3
unfolding begins_with sequence_len
no_error = refl

first_error : error_position (codes "a" ∷ codes "error" ∷ codes "error" ∷ []) ≡ 1
unfolding begins_with sequence_len
first_error = refl
