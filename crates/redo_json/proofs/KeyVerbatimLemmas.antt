-- The strings of a diagnostic are parts of its key: if the key has bytes that are written as they are, so have they.
use Rattle.std.proofs.Common.{◌≡◌, ℕ, zero, suc, ◌+◌, ◌==◌, Bool, true, false, cond, ◌&&◌, List, [], ◌∷◌, ◌++◌, Option, None, Some, IfSome, length, take, drop, get_or, option_map, option_and_then, refl, sym, subst, arith, take-append-drop}
use Rattle.std.specs.Prelude.{codes}
use Rattle.std.specs.Char.{is_ascii_alphanumeric}
use Rattle.std.specs.Cmp.Lexicographic.{same_text}
use Rattle.std.specs.List.{list_all}
use Rattle.std.specs.Str.{bytes_eq}
use Rattle.std.proofs.lemmas.Bool.{and_from, and_parts, eqb-true}
use Rattle.std.proofs.lemmas.Grind.{common_steps}
use Rattle.std.proofs.lemmas.Option.{none-some, same_Some}
use Rattle.redo_line.specs.Parts.{after_prefix, split_once}
use Rattle.redo_line.specs.Record.{colon, period, space}
use Rattle.redo_name.specs.Names.{slash}
use Rattle.redo_diagnostics.specs.Diagnostic.{DiagnosticValue, PartsValue, PlaceValue, before_bracket, begins_temporary, close_bracket, diagnostic_from, diagnostic_of, flag_here, flag_in, flag_or, if_some_bytes, key_of, masked_after, message_in, nothing_if_empty, open_bracket, origin_from, origin_of, parts_of, place_from, place_of, row_and_column, split_flag, text_of, word_of}
use Rattle.redo_json.specs.Private.Diagnosing.{IsVerbatimDiagnostic}
use Rattle.redo_json.specs.Private.Writing.{IsVerbatim, is_verbatim_byte}
use Rattle.redo_json.proofs.VerbatimLemmas.{verbatim_bytes}

-- All bytes are written as they are.
abbrev pub Fit : List ℕ → Type 0
Fit bytes = list_all is_verbatim_byte bytes ≡ true

pub fit-cons : (byte : ℕ) (bytes : List ℕ) → Fit (byte ∷ bytes) → (is_verbatim_byte byte ≡ true) × Fit bytes
fit-cons byte bytes all = and_parts (is_verbatim_byte byte) (list_all is_verbatim_byte bytes) all

pub cons-fit : (byte : ℕ) (bytes : List ℕ) → is_verbatim_byte byte ≡ true → Fit bytes → Fit (byte ∷ bytes)
cons-fit byte bytes one others = and_from (is_verbatim_byte byte) (list_all is_verbatim_byte bytes) one others

pub fit-append : (a b : List ℕ) → Fit (a ++ b) → Fit a × Fit b
fit-append [] b all = (refl, all)
fit-append (byte ∷ a) b all =
    let both = fit-cons byte (a ++ b) all in
    let others = fit-append a b both.1 in (cons-fit byte a both.0 others.0, others.1)

pub append-fit : (a b : List ℕ) → Fit a → Fit b → Fit (a ++ b)
append-fit [] b first other = other
append-fit (byte ∷ a) b first other = let both = fit-cons byte a first in cons-fit byte (a ++ b) both.0 (append-fit a b both.1 other)

pub fit-drop : (n : ℕ) (bytes : List ℕ) → Fit bytes → Fit (drop n bytes)
fit-drop n bytes all = (fit-append (take n bytes) (drop n bytes) (subst Fit (sym (take-append-drop n bytes)) all)).1

-- ---- the key before names of temporary files are replaced

letter_fit : (byte : ℕ) → is_ascii_alphanumeric byte ≡ true → is_verbatim_byte byte ≡ true
letter_fit byte is = grind (arith, common_steps)

letters_fit : (bytes : List ℕ) → list_all is_ascii_alphanumeric bytes ≡ true → Fit bytes
letters_fit [] all = refl
letters_fit (byte ∷ bytes) all =
    let both = and_parts (is_ascii_alphanumeric byte) (list_all is_ascii_alphanumeric bytes) all in
    cons-fit byte bytes (letter_fit byte both.0) (letters_fit bytes both.1)

-- The first eight bytes of such a name are letters and digits.
name_fit : (bytes : List ℕ) → begins_temporary bytes ≡ true → Fit (drop 8 bytes) → Fit bytes
name_fit bytes is rest =
    let front = and_parts (bytes_eq (take 2 bytes) (codes "cc") && list_all is_ascii_alphanumeric (take 6 (drop 2 bytes)))
    (get_or bytes 8 0 == period) is in
    let both = and_parts (bytes_eq (take 2 bytes) (codes "cc")) (list_all is_ascii_alphanumeric (take 6 (drop 2 bytes))) front.0 in
    let two : Fit (take 2 bytes) = subst Fit (sym (same_text (take 2 bytes) (codes "cc") (sym both.0))) refl in
    let six : Fit (take 6 (drop 2 bytes)) = letters_fit (take 6 (drop 2 bytes)) both.1 in
    let behind : Fit (drop 2 bytes) =
    subst Fit (take-append-drop 6 (drop 2 bytes)) (append-fit (take 6 (drop 2 bytes)) (drop 6 (drop 2 bytes)) six
    (subst Fit (sym (drops bytes)) rest)) in
    subst Fit (take-append-drop 2 bytes) (append-fit (take 2 bytes) (drop 2 bytes) two behind)
  where
    drops : (bytes : List ℕ) → drop 6 (drop 2 bytes) ≡ drop 8 bytes
    drops [] = refl
    drops (x ∷ []) = refl
    drops (x ∷ y ∷ bytes) = refl

abbrev step : Bool → ℕ → List ℕ → List ℕ
step is byte bytes = cond is (codes "/cc*" ++ masked_after 8 bytes) (byte ∷ masked_after 0 bytes)

unmasked_fit : (n : ℕ) (bytes : List ℕ) → Fit (masked_after n bytes) → Fit (drop n bytes)
unfolding masked_after
unmasked_fit zero [] all = refl
unmasked_fit (suc n) [] all = refl
unmasked_fit (suc n) (byte ∷ bytes) all = unmasked_fit n bytes all
unmasked_fit zero (byte ∷ bytes) all =
    by (byte == slash) (begins_temporary bytes) refl refl all (unmasked_fit 8 bytes) (unmasked_fit 0 bytes)
  where
    by : (first is : Bool) → byte == slash ≡ first → begins_temporary bytes ≡ is → Fit (step (first && is) byte bytes)
        → (Fit (masked_after 8 bytes) → Fit (drop 8 bytes)) → (Fit (masked_after 0 bytes) → Fit bytes) → Fit (byte ∷ bytes)
    by true true slash_is name all eight none =
        cons-fit byte bytes (subst (λ (one : ℕ). is_verbatim_byte one ≡ true) (sym (eqb-true byte slash slash_is)) refl)
        (name_fit bytes name (eight (fit-append (codes "/cc*") (masked_after 8 bytes) all).1))
    by true false slash_is name all eight none =
        let both = fit-cons byte (masked_after 0 bytes) all in cons-fit byte bytes both.0 (none both.1)
    by false is slash_is name all eight none =
        let both = fit-cons byte (masked_after 0 bytes) all in cons-fit byte bytes both.0 (none both.1)

-- ---- the message and the flag

abbrev chosen : Bool → Bool → ℕ → List ℕ → Option (List ℕ) → Option (List ℕ)
chosen close opens byte bytes found = cond close (nothing_if_empty bytes) (cond opens None (option_map (λ others. byte ∷ others) found))

bracket_fit : (bytes : List ℕ) → Fit bytes → IfSome (before_bracket bytes) Fit
unfolding before_bracket
bracket_fit [] all = tt
bracket_fit (byte ∷ bytes) all =
    let both = fit-cons byte bytes all in
    by (byte == close_bracket) (byte == open_bracket) (before_bracket bytes) (bracket_fit bytes both.1) (nothing bytes)
  where
    nothing : (bytes : List ℕ) → IfSome (nothing_if_empty bytes) Fit
    nothing [] = refl
    nothing (one ∷ others) = tt

    by : (close opens : Bool) (found : Option (List ℕ)) → IfSome found Fit → IfSome (nothing_if_empty bytes) Fit
        → IfSome (chosen close opens byte bytes found) Fit
    by true opens found inner none = none
    by false true found inner none = tt
    by false false None inner none = tt
    by false false (Some others) inner none = cons-fit byte others (fit-cons byte bytes all).0 inner

prefix_fit : (front bytes : List ℕ) → Fit bytes → IfSome (after_prefix front bytes) Fit
unfolding after_prefix
prefix_fit [] bytes all = all
prefix_fit (byte ∷ front) [] all = tt
prefix_fit (byte ∷ front) (first ∷ bytes) all = by (byte == first) (prefix_fit front bytes (fit-cons first bytes all).1)
  where
    by : (is : Bool) → IfSome (after_prefix front bytes) Fit → IfSome (cond is (after_prefix front bytes) None) Fit
    by true inner = inner
    by false inner = tt

here_fit : (bytes : List ℕ) → Fit bytes → IfSome (flag_here bytes) Fit
here_fit bytes all = by (after_prefix (space ∷ open_bracket ∷ []) bytes) (prefix_fit (space ∷ open_bracket ∷ []) bytes all)
  where
    some : (found : Option (List ℕ)) → IfSome found Fit → IfSome (if_some_bytes found) Fit
    some None fit = tt
    some (Some []) fit = tt
    some (Some (byte ∷ bytes)) fit = fit

    by : (found : Option (List ℕ)) → IfSome found Fit
        → IfSome (if_some_bytes (option_and_then (λ (others : List ℕ). before_bracket others) found)) Fit
    by None fit = tt
    by (Some others) fit = some (before_bracket others) (bracket_fit others fit)

abbrev FitParts : List ℕ × List ℕ → Type 0
FitParts parts = Fit parts.0 × Fit parts.1

flag_fit : (text : List ℕ) → Fit text → IfSome (split_flag text) FitParts
unfolding split_flag
flag_fit [] all = tt
flag_fit (byte ∷ bytes) all =
    let both = fit-cons byte bytes all in
    by (flag_here (byte ∷ bytes)) (split_flag bytes) (here_fit (byte ∷ bytes) all) (flag_fit bytes both.1)
  where
    by : (here : Option (List ℕ)) (found : Option (List ℕ × List ℕ)) → IfSome here Fit → IfSome found FitParts
        → IfSome (flag_or here byte found) FitParts
    by (Some flag) found fit inner = (refl, fit)
    by None None fit inner = tt
    by None (Some parts) fit inner = (cons-fit byte parts.0 (fit-cons byte bytes all).0 inner.0, inner.1)

-- ---- the file

pub file_is : (head : List ℕ) → IfSome (place_of head) (λ (place : PlaceValue). place.file ≡ origin_of head)
unfolding place_of
file_is head = by (split_once colon head)
  where
    from : (file : List ℕ) (numbers : Option (ℕ × Option ℕ)) → IfSome (place_from file numbers) (λ (place : PlaceValue). place.file ≡ file)
    from [] numbers = tt
    from (byte ∷ bytes) None = tt
    from (byte ∷ bytes) (Some both) = refl

    by : (found : Option (List ℕ × List ℕ))
        → IfSome (option_and_then (λ (file : List ℕ × List ℕ). place_from file.0
        (option_and_then (λ (row : List ℕ × List ℕ). row_and_column row) (split_once colon file.1))) found)
        (λ (place : PlaceValue). place.file ≡ origin_from found)
    by None = tt
    by (Some file) = from file.0 (option_and_then (λ (row : List ℕ × List ℕ). row_and_column row) (split_once colon file.1))

-- ---- the diagnostic

all_verbatim : (parts : PartsValue) → Fit (key_of parts) → IsVerbatimDiagnostic (diagnostic_from parts)
all_verbatim parts key =
    let whole = unmasked_fit 0 (origin_of parts.head ++ codes ": " ++ parts.tail) key in
    let front = fit-append (origin_of parts.head ++ codes ": ") parts.tail whole in
    let origin = (fit-append (origin_of parts.head) (codes ": ") front.0).0 in
    let text = fit-drop (length (word_of parts.severity) + 1) parts.tail front.1 in
    record {
      file = place (place_of parts.head) (file_is parts.head) origin;
      message = message (split_flag (text_of parts)) (flag_fit (text_of parts) text) text;
      flag = flag (split_flag (text_of parts)) (flag_fit (text_of parts) text);
      key = verbatim_bytes (key_of parts) key;
    }
  where
    place : (found : Option PlaceValue) → IfSome found (λ (one : PlaceValue). one.file ≡ origin_of parts.head) → Fit (origin_of parts.head)
        → IfSome found (λ (one : PlaceValue). IsVerbatim one.file)
    place None same fit = tt
    place (Some one) same fit = verbatim_bytes one.file (subst Fit (sym same) fit)

    message : (found : Option (List ℕ × List ℕ)) → IfSome found FitParts → Fit (text_of parts)
        → IsVerbatim (message_in (text_of parts) found)
    message None inner all = verbatim_bytes (text_of parts) all
    message (Some both) inner all = verbatim_bytes both.0 inner.0

    flag : (found : Option (List ℕ × List ℕ)) → IfSome found FitParts → IfSome (flag_in found) (λ (bytes : List ℕ). IsVerbatim bytes)
    flag None inner = tt
    flag (Some both) inner = verbatim_bytes both.1 inner.1

pub verbatim_by_key : (line : List ℕ) (value : DiagnosticValue) → diagnostic_of line ≡ Some value → Fit value.key
    → IsVerbatimDiagnostic value
unfolding diagnostic_of
verbatim_by_key line value is key = by (parts_of line) is
  where
    by : (found : Option PartsValue) → option_map diagnostic_from found ≡ Some value → IsVerbatimDiagnostic value
    by None none = absurd (none-some value none)
    by (Some parts) some =
        let same = same_Some (diagnostic_from parts) value some in
        subst IsVerbatimDiagnostic same (all_verbatim parts (subst (λ (one : DiagnosticValue). Fit one.key) (sym same) key))
