-- Words that report errors, and lines by their bytes outside of sequences.
use Rattle.std.proofs.Common.{◌≡◌, ℕ, zero, suc, ◌+◌, ◌-◌, ◌<◌, ◌≤◌, Bool, true, false, cond, List, [], ◌∷◌, length, take, drop, get_or, refl, ap, ◌∙◌, arith}
use Rattle.std.specs.Prelude.{◌&&◌, ◌||◌, nat_le, nat_lt}
use Rattle.std.specs.List.{list_all, list_any}
use Rattle.std.proofs.lemmas.Bool.{le-leb, lt-leb, lt-ltb, ne_eqb}
use Rattle.std.proofs.lemmas.List.{at_drop_all, at_drop_more, drop_more, length-drop, take_all}
use Rattle.redo_html.specs.Symbols.{is_sequence, sequence_len}
use Rattle.redo_diagnostics.specs.Plain.{plain_after}
use Rattle.redo_page.specs.Errors.{begins_with, has_error, is_letter, is_word_end}

pub begins_here : (words bytes : List ℕ) (at : ℕ) → at < length words → at < length bytes
    → begins_with (drop at words) (drop at bytes)
    ≡ (is_letter (get_or words at 0) (get_or bytes at 0) && begins_with (drop (at + 1) words) (drop (at + 1) bytes))
unfolding begins_with
begins_here words bytes at within below =
    at_drop_more (λ (left : List ℕ). begins_with left (drop at bytes)) words at 0 within
    ∙ at_drop_more (λ (left : List ℕ). begins_with (get_or words at 0 ∷ drop (at + 1) words) left) bytes at 0 below

pub begins_past : (words bytes : List ℕ) (at : ℕ) → at < length words → length bytes ≤ at
    → begins_with (drop at words) (drop at bytes) ≡ false
unfolding begins_with
begins_past words bytes at within past =
    at_drop_more (λ (left : List ℕ). begins_with left (drop at bytes)) words at 0 within
    ∙ at_drop_all (λ (left : List ℕ). begins_with (get_or words at 0 ∷ drop (at + 1) words) left) bytes at past

pub begins_all : (words bytes : List ℕ) (at : ℕ) → length words ≤ at → begins_with (drop at words) bytes ≡ is_word_end bytes
unfolding begins_with
begins_all words bytes at past = at_drop_all (λ (left : List ℕ). begins_with left bytes) words at past

-- If an element fails a test, those after it decide whether any passes.
pub any_later : {A : Type 0} (test : A → Bool) (items : List A) (at : ℕ) (default : A) → at < length items
    → test (get_or items at default) ≡ false
    → list_any test (drop at items) ≡ list_any test (drop (at + 1) items)
any_later test items at default within fails =
    at_drop_more (list_any test) items at default within ∙ ap (λ (is : Bool). is || list_any test (drop (at + 1) items)) fails

-- ---- sequences

-- Only ESC begins a sequence.
pub no_sequence : (bytes : List ℕ) → (get_or bytes 0 0 ≡ 27 → ⊥) → sequence_len bytes ≡ 0
unfolding sequence_len
no_sequence [] other = refl
no_sequence (byte ∷ bytes) other = rw (ne_eqb byte 27 other) refl

-- ---- lines that report errors

pub error_skipped : (skipped : ℕ) (in_word : Bool) (line : List ℕ) (at : ℕ) → 0 < skipped → at < length line
    → has_error skipped in_word (drop at line) ≡ has_error (skipped - 1) in_word (drop (at + 1) line)
error_skipped zero in_word line at some within = absurd (omega arith)
error_skipped (suc skipped) in_word line at some within =
    at_drop_more (λ (left : List ℕ). has_error (suc skipped) in_word left) line at 0 within
    ∙ ap (λ (n : ℕ). has_error n in_word (drop (at + 1) line)) (omega arith)

-- ---- blank lines

abbrev pub are_blank : ℕ → List ℕ → Bool
are_blank skipped bytes = list_all (λ byte. nat_le byte 32) (plain_after skipped bytes)

pub blank_skipped : (skipped : ℕ) (line : List ℕ) (at : ℕ) → 0 < skipped → at < length line
    → are_blank skipped (drop at line) ≡ are_blank (skipped - 1) (drop (at + 1) line)
unfolding plain_after
blank_skipped zero line at some within = absurd (omega arith)
blank_skipped (suc skipped) line at some within =
    at_drop_more (are_blank (suc skipped)) line at 0 within ∙ ap (λ (n : ℕ). are_blank n (drop (at + 1) line)) (omega arith)

blank_step : (byte : ℕ) (bytes : List ℕ) → byte ≤ 32 → are_blank 0 (byte ∷ bytes) ≡ are_blank (sequence_len (byte ∷ bytes) - 1) bytes
unfolding plain_after is_sequence
blank_step byte bytes low = by (sequence_len (byte ∷ bytes))
  where
    by : (len : ℕ) → list_all (λ b. nat_le b 32) (cond (nat_lt 0 len) (plain_after (len - 1) bytes) (byte ∷ plain_after 0 bytes))
        ≡ are_blank (len - 1) bytes
    by zero = ap (λ (is : Bool). is && are_blank 0 bytes) (le-leb byte 32 low)
    by (suc len) = rw (lt-ltb 0 (suc len) (omega arith)) refl

pub blank_here : (line : List ℕ) (at : ℕ) → at < length line → get_or line at 0 ≤ 32
    → are_blank 0 (drop at line) ≡ are_blank (sequence_len (take (length line - at) (drop at line)) - 1) (drop (at + 1) line)
blank_here line at within low =
    rw (take_all (length line - at) (drop at line) (omega (arith, length-drop at line)))
    (rw (drop_more line at 0 within) (blank_step (get_or line at 0) (drop (at + 1) line) low))

visible_step : (byte : ℕ) (bytes : List ℕ) → 32 < byte → are_blank 0 (byte ∷ bytes) ≡ false
unfolding plain_after is_sequence
visible_step byte bytes high = rw (no_sequence (byte ∷ bytes) (λ is. omega (arith, is))) (rw (lt-leb byte 32 high) refl)

pub visible_here : (line : List ℕ) (at : ℕ) → at < length line → 32 < get_or line at 0 → are_blank 0 (drop at line) ≡ false
visible_here line at within high = at_drop_more (are_blank 0) line at 0 within ∙ visible_step (get_or line at 0) (drop (at + 1) line) high

pub blank_end : (skipped : ℕ) (line : List ℕ) (at : ℕ) → length line ≤ at → are_blank skipped (drop at line) ≡ true
unfolding plain_after
blank_end skipped line at past = at_drop_all (are_blank skipped) line at past

pub ruleset blank_lines = (blank_skipped, blank_here, visible_here, blank_end)
