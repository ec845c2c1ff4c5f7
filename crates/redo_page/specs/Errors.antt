-- Lines by which compilers, linkers, shells and tests report errors.
use Rattle.std.specs.Prelude.{ℕ, zero, suc, ◌-◌, ◌==◌, ◌||◌, ◌&&◌, not, nat_le, Bool, true, false, List, [], ◌∷◌, reverse, Option, codes}
use Rattle.std.specs.Char.{is_ascii_alphanumeric, to_ascii_lowercase}
use Rattle.std.specs.List.{find, list_all, list_any}
use Rattle.std.specs.Option.{option_or}
use Rattle.redo_html.specs.Symbols.{sequence_len}
use Rattle.redo_diagnostics.specs.Plain.{plain_line}

-- ---- words

abbrev pub is_word_byte : ℕ → Bool
is_word_byte byte = is_ascii_alphanumeric byte || byte == 95

abbrev pub is_word_end : List ℕ → Bool
is_word_end [] = true
is_word_end (byte ∷ bytes) = not (is_word_byte byte)

-- Whether a byte is this letter. A lower-case letter matches both cases.
abbrev pub is_letter : ℕ → ℕ → Bool
is_letter letter byte = byte == letter || to_ascii_lowercase byte == letter

-- Whether bytes begin with these words, and the last word ends there.
unfoldable pub begins_with : List ℕ → List ℕ → Bool
begins_with [] bytes = is_word_end bytes
begins_with (letter ∷ letters) [] = false
begins_with (letter ∷ letters) (byte ∷ bytes) = is_letter letter byte && begins_with letters bytes

-- ---- lines that report errors

abbrev pub error_words : List (List ℕ)
error_words =
    codes "error" ∷ codes "undefined reference" ∷ codes "no such file" ∷ codes "fatal" ∷ codes "not found" ∷ codes "cannot"
    ∷ codes "FAIL" ∷ codes "FAILED" ∷ []

-- Whether bytes begin with words for an error.
abbrev pub begins_with_error : List ℕ → Bool
begins_with_error bytes = list_any (λ words. begins_with words bytes) error_words

-- Whether words for an error begin where a word begins. The first `skipped` bytes belong to the sequence before them; `in_word` is whether
-- a word continues. ESC is in no word, so a sequence ends the word before it, and `error` directly after it is a word.
abbrev pub has_error : ℕ → Bool → List ℕ → Bool
has_error skipped in_word [] = false
has_error (suc skipped) in_word (byte ∷ bytes) = has_error skipped in_word bytes
has_error zero in_word (byte ∷ bytes) =
    (not in_word && begins_with_error (byte ∷ bytes)) || has_error (sequence_len (byte ∷ bytes) - 1) (is_word_byte byte) bytes

-- Whether a line reports an error.
abbrev pub is_error : List ℕ → Bool
is_error line = has_error 0 false line

-- ---- causes

-- Whether a line has only spaces and control characters outside of sequences.
abbrev pub is_blank : List ℕ → Bool
is_blank line = list_all (λ byte. nat_le byte 32) (plain_line line)

-- The line that tells best why a target failed: the first one that reports an error, or else the last one that isn't blank.
abbrev pub cause_of : List (List ℕ) → Option (List ℕ)
cause_of lines = option_or (find is_error lines) (find (λ line. not (is_blank line)) (reverse lines))
