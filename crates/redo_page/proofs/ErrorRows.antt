-- Rows of the bytes, words and lines by which errors are found.
use Rattle.std.proofs.Common.{◌≡◌, ℕ, true, false, List, [], ◌∷◌, ◌++◌, None, Some, map, refl}
use Rattle.std.specs.List.{filter, range_with_len}
use Rattle.std.specs.Prelude.{codes}
use Rattle.redo_html.specs.Symbols.{is_sequence, sequence_len}
use Rattle.redo_diagnostics.specs.Plain.{plain_after}
use Rattle.redo_page.specs.Errors.{begins_with, begins_with_error, cause_of, has_error, is_blank, is_error, is_letter, is_word_byte, is_word_end}

-- ---- words

word_bytes_are : filter is_word_byte (range_with_len 0 256) ≡ codes "0123456789ABCDEFGHIJKLMNOPQRSTUVWXYZ_abcdefghijklmnopqrstuvwxyz"
word_bytes_are = refl

word_ends_are : (is_word_end [] ≡ true) × (is_word_end (codes ":a") ≡ true) × (is_word_end (codes "s:") ≡ false)
word_ends_are = (refl, refl, refl)

letters_are : (is_letter 97 97 ≡ true) × (is_letter 97 65 ≡ true) × (is_letter 65 65 ≡ true) × (is_letter 65 97 ≡ false)
    × (is_letter 97 98 ≡ false)
letters_are = (refl, refl, refl, refl, refl)

begin_are :
    (begins_with (codes "no") (codes "No") ≡ true) × (begins_with (codes "no") (codes "no x") ≡ true)
    × (begins_with (codes "no") (codes "not") ≡ false)
    × (begins_with (codes "no") (codes "n") ≡ false) × (begins_with (codes "no") (codes "na") ≡ false)
    × (begins_with (codes "NO") (codes "no") ≡ false)
unfolding begins_with
begin_are = (refl, refl, refl, refl, refl, refl)

errors_begin :
    map begins_with_error
    (codes "error" ∷ codes "undefined reference" ∷ codes "no such file" ∷ codes "fatal" ∷ codes "not found" ∷ codes "cannot" ∷ codes "FAIL"
    ∷ codes "FAILED" ∷ codes "fail" ∷ codes "no" ∷ codes " error" ∷ [])
    ≡ true ∷ true ∷ true ∷ true ∷ true ∷ true ∷ true ∷ true ∷ false ∷ false ∷ false ∷ []
unfolding begins_with
errors_begin = refl

-- These are no words for an error, or not alone.
no_errors_begin :
    map begins_with_error
    (codes "warning" ∷ codes "note" ∷ codes "failed" ∷ codes "failure" ∷ codes "errors" ∷ codes "undefined" ∷ codes "file" ∷ codes "found"
    ∷ codes "PASS" ∷ [])
    ≡ false ∷ false ∷ false ∷ false ∷ false ∷ false ∷ false ∷ false ∷ false ∷ []
unfolding begins_with
no_errors_begin = refl

-- ---- lines that report errors

abbrev esc : List ℕ → List ℕ
esc text = 27 ∷ text

abbrev linked : List ℕ → List ℕ → List ℕ
linked text rest = esc (codes "]8;;" ++ (text ++ rest))

-- Skipped bytes begin no words and end none. A word that continues does not begin.
skipped_are :
    map (has_error 2 false) (codes "xxerror" ∷ codes "xerror" ∷ codes "error" ∷ codes "x" ∷ []) ≡ true ∷ false ∷ false ∷ false ∷ []
    × (map (has_error 0 true) (codes "error" ∷ codes " error" ∷ []) ≡ false ∷ true ∷ [])
    × (map (has_error 1 true) (codes " error" ∷ codes "x error" ∷ []) ≡ false ∷ true ∷ [])
unfolding begins_with sequence_len
skipped_are = (refl, refl, refl)

-- An error at the start, after a space, after a sequence, and without words for an error where a word begins.
lines_are :
    map is_error
    (codes "error" ∷ codes "an error" ∷ codes "a: Error: b" ∷ esc (codes "[1merror") ∷ codes "terror" ∷ codes "error_1" ∷ [] ∷ [])
    ≡ true ∷ true ∷ true ∷ true ∷ false ∷ false ∷ false ∷ []
unfolding begins_with sequence_len
lines_are = refl

-- A sequence ends a word, and one begins after it.
coloured_lines_are :
    map is_error
    (esc (codes "[01;31m" ++ esc (codes "[Kerror")) ∷ (codes "no" ++ esc (codes "[31merror")) ∷ (codes "error" ++ esc (codes "[m"))
    ∷ (codes "error" ++ esc (codes "[mx")) ∷ (codes "err" ++ esc (codes "[1mor")) ∷ (codes "no such" ++ esc (codes "[1m file"))
    ∷ esc (codes "[31mterror") ∷ []) ≡ true ∷ true ∷ true ∷ true ∷ false ∷ false ∷ false ∷ []
unfolding begins_with sequence_len
coloured_lines_are = refl

-- The text of a link reports none, and the words after it do. BEL ends a link, and so does `ESC \`.
linked_lines_are :
    map is_error (linked (codes "http://error") (7 ∷ codes "x") ∷ linked (codes "u") (7 ∷ codes "error")
    ∷ linked (codes "u") (esc (92 ∷ codes "error")) ∷ (codes "no" ++ linked (codes "u") (7 ∷ codes "error"))
    ∷ linked (codes "a;error;") (7 ∷ codes ": terror") ∷ []) ≡ false ∷ true ∷ true ∷ true ∷ false ∷ []
unfolding begins_with sequence_len
linked_lines_are = refl

-- Any other ESC is text, and so are the bytes after it: other sequences, the title of a terminal, a link without its URL or its end.
texts_with_escapes_are :
    map is_error
    (esc (codes "error") ∷ esc (codes "[1Aerror") ∷ esc (codes "[1A error") ∷ esc (codes "[31 error") ∷ esc (codes "]0;error" ++ 7 ∷ [])
    ∷ esc (codes "]8;error" ++ 7 ∷ []) ∷ linked (codes "error") [] ∷ (codes "error" ++ esc []) ∷ (codes "an " ++ esc []) ∷ esc (codes "[")
    ∷ [])
    ≡ true ∷ false ∷ true ∷ true ∷ true ∷ true ∷ true ∷ true ∷ false ∷ false ∷ []
unfolding begins_with sequence_len
texts_with_escapes_are = refl

-- ---- causes

blank_are :
    map is_blank
    ([] ∷ codes " \t" ∷ (13 ∷ 7 ∷ []) ∷ esc (codes "[0m") ∷ (codes " " ++ esc (codes "[1m" ++ esc (codes "[K ")))
    ∷ linked (codes "u") (7 ∷ []) ∷ esc [] ∷ []) ≡ true ∷ true ∷ true ∷ true ∷ true ∷ true ∷ true ∷ []
unfolding is_sequence plain_after sequence_len
blank_are = refl

-- Other sequences are text, and so is a link without an end.
filled_lines_are :
    map is_blank (codes " a" ∷ codes "a " ∷ esc (codes "[0ma") ∷ linked [] (7 ∷ codes "a") ∷ esc (codes "[1A") ∷ linked (codes "u") [] ∷ [])
    ≡ false ∷ false ∷ false ∷ false ∷ false ∷ false ∷ []
unfolding is_sequence plain_after sequence_len
filled_lines_are = refl

causes_are :
    (cause_of (codes "a" ∷ codes "error 1" ∷ codes "error 2" ∷ codes "b" ∷ []) ≡ Some (codes "error 1"))
    × (cause_of (codes "a" ∷ codes "b" ∷ codes " " ∷ []) ≡ Some (codes "b"))
    × (cause_of (codes " " ∷ []) ≡ None) × (cause_of [] ≡ None)
unfolding begins_with is_sequence plain_after sequence_len
causes_are = (refl, refl, refl, refl)
