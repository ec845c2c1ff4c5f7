-- The strings of a diagnostic are parts of its line, and of the same kind: if the line is simple, they are written as they are.
use Rattle.std.proofs.Common.{◌≡◌, ◌≢◌, inl, inr, ℕ, ◌+◌, ◌<◌, true, false, List, [], ◌∷◌, ◌++◌, Option, None, Some, IfSome, IsUtf8, length, take, drop, option_map, option_and_then, refl, sym, ap, ap₂, ◌∙◌, subst, arith, append_assoc, take-append-drop}
use Rattle.std.specs.Prelude.{codes, is_some}
use Rattle.std.specs.List.{AllByRecursion, list_all}
use Rattle.std.proofs.lemmas.Bool.{and_from, and_parts}
use Rattle.std.proofs.lemmas.Grind.{common_steps}
use Rattle.std.proofs.lemmas.List.Folds.{list_all-append}
use Rattle.std.proofs.lemmas.Option.{none-some, same_Some}
use Rattle.std.proofs.lemmas.Str.{IsUtf8-append, IsUtf8-from_is_utf8, IsUtf8-nil, is_utf8-from_IsUtf8}
use Rattle.memchr.specs.Find.{FindsNeedle}
use Rattle.json.specs.Run.{is_plain}
use Rattle.json.proofs.Printed.Utf8.{IsUtf8-are_ascii, are_ascii}
use Rattle.redo_line.proofs.PartLemmas.{are_parts}
use Rattle.redo_line.specs.Parts.{split_once}
use Rattle.redo_line.specs.Record.{colon, space}
use Rattle.redo_diagnostics.specs.declared.severity.Severity.{Severity}
use Rattle.redo_diagnostics.specs.declared.severity.Severity.TheVariants.{Warning, Error, FatalError}
use Rattle.redo_diagnostics.specs.Diagnostic.{DiagnosticValue, HasNoTemporary, PartsValue, PlaceValue, close_bracket, diagnostic_from, diagnostic_of, flag_in, key_of, message_in, open_bracket, origin_from, origin_of, parts_at, parts_in, place_of, severity_at, split_flag, text_of, word_of, word_place}
use Rattle.redo_diagnostics.proofs.ApartLemmas.{Follows}
use Rattle.redo_diagnostics.proofs.FlagLemmas.{flag_is}
use Rattle.redo_diagnostics.proofs.KeyPartLemmas.{masked-joined}
use Rattle.redo_diagnostics.proofs.ReadLemmas.{of_free}
use Rattle.redo_diagnostics.proofs.SplitLemmas.{Tail, tail_of}
use Rattle.redo_diagnostics.proofs.StretchLemmas.{origin_kept, tail_kept}
use Rattle.redo_json.specs.Private.Diagnosing.{IsVerbatimDiagnostic}
use Rattle.redo_json.specs.Private.LogLines.{IsSimple}
use Rattle.redo_json.specs.Private.Writing.{IsVerbatim}
use Rattle.redo_json.proofs.EscapeLemmas.{escape_plain}
use Rattle.redo_json.proofs.KeyVerbatimLemmas.{file_is}
use Rattle.redo_json.proofs.LineLemmas.{cut_text}

-- Bytes are UTF-8 without escapes.
record Fits (bytes : List ℕ) : Type 0 where
  utf8 : IsUtf8 bytes
  plain : list_all is_plain bytes ≡ true

verbatim : (bytes : List ℕ) → Fits bytes → IsVerbatim bytes
verbatim bytes fits = record { utf8 = is_utf8-from_IsUtf8 bytes fits.utf8; escaped = escape_plain bytes fits.plain }

nothing_fits : Fits []
nothing_fits = record { utf8 = IsUtf8-nil; plain = refl }

append_fits : (a b : List ℕ) → Fits a → Fits b → Fits (a ++ b)
append_fits a b first other = record {
  utf8 = IsUtf8-append a b first.utf8 other.utf8;
  plain = list_all-append is_plain a b ∙ and_from (list_all is_plain a) (list_all is_plain b) first.plain other.plain;
}

-- Bytes that are cut at a byte of ASCII.
cut_fits : (a : List ℕ) (byte : ℕ) (b : List ℕ) → byte < 128 → Fits (a ++ byte ∷ b) → Fits a × Fits b
cut_fits a byte b small fits =
    let parts = cut_text a byte b small (subst IsUtf8 (sym (append_assoc a (byte ∷ []) b)) fits.utf8) in
    let both = and_parts (list_all is_plain a) (list_all is_plain (byte ∷ b)) (sym (list_all-append is_plain a (byte ∷ b)) ∙ fits.plain) in
    let behind = and_parts (is_plain byte) (list_all is_plain b) both.1 in
    (record { utf8 = parts.0; plain = both.0 }, record { utf8 = parts.1; plain = behind.1 })

-- ---- the flag

flag_fits : (text : List ℕ) (parts : List ℕ × List ℕ) → Fits text → split_flag text ≡ Some parts → Fits parts.0 × Fits parts.1
flag_fits text parts fits is =
    let front = cut_fits parts.0 space (open_bracket ∷ (parts.1 ++ close_bracket ∷ [])) (omega arith)
    (subst Fits (flag_is text parts is).whole fits) in
    let behind = cut_fits [] open_bracket (parts.1 ++ close_bracket ∷ []) (omega arith) front.1 in
    (front.0, (cut_fits parts.1 close_bracket [] (omega arith) behind.1).0)

-- ---- the parts of a line

origin_fits : (head : List ℕ) → Fits head → Fits (origin_of head)
origin_fits head fits = by (split_once colon head) refl
  where
    by : (found : Option (List ℕ × List ℕ)) → split_once colon head ≡ found → Fits (origin_from found)
    by None is = nothing_fits
    by (Some parts) is = (cut_fits parts.0 colon parts.1 (omega arith) (subst Fits (are_parts colon head parts is).whole fits)).0

-- The first byte of a word is ASCII.
record Begins (bytes : List ℕ) : Type 0 where
  byte : ℕ
  behind : List ℕ
  small : byte < 128
  whole : bytes ≡ byte ∷ behind

word_begins : (severity : Severity) (after : List ℕ) → Begins (word_of severity ++ after)
word_begins Warning after = record { byte = 119; behind = codes "arning:" ++ after; small = omega arith; whole = refl }
word_begins Error after = record { byte = 101; behind = codes "rror:" ++ after; small = omega arith; whole = refl }
word_begins FatalError after = record { byte = 102; behind = codes "atal error:" ++ after; small = omega arith; whole = refl }

-- A line that is cut before its word.
cut_word : (head tail : List ℕ) → Begins tail → Fits (head ++ tail) → Fits head × Fits tail
cut_word head tail begins fits =
    let parts = cut_fits head begins.byte begins.behind begins.small (subst (λ (l : List ℕ). Fits (head ++ l)) begins.whole fits) in
    let both = and_parts (list_all is_plain head) (list_all is_plain tail) (sym (list_all-append is_plain head tail) ∙ fits.plain) in (
      parts.0,
      record {
        utf8 = subst IsUtf8 (sym begins.whole)
            (IsUtf8-append (begins.byte ∷ []) begins.behind
            (IsUtf8-are_ascii (begins.byte ∷ []) (one_ascii begins.byte begins.small)) parts.1.utf8);
        plain = both.1;
      },
    )
  where
    one_ascii : (byte : ℕ) → byte < 128 → are_ascii (byte ∷ []) ≡ true
    one_ascii byte small = grind (arith, common_steps, small)

-- What follows the word and one space.
after_fits : (severity : Severity) (after : List ℕ) → Follows after → Fits (word_of severity ++ after)
    → Fits (drop (length (word_of severity) + 1) (word_of severity ++ after))
after_fits severity after follows fits = elim follows [
  | inl none ↦ subst Fits (sym (dropped severity [] after none)) nothing_fits
  | inr next ↦ subst Fits (sym (dropped severity (space ∷ next.0) after next.1))
      (cut_fits (word_of severity) space next.0 (omega arith) (subst (λ (l : List ℕ). Fits (word_of severity ++ l)) next.1 fits)).1
]
  where
    dropped : (severity : Severity) (is after : List ℕ) → after ≡ is
        → drop (length (word_of severity) + 1) (word_of severity ++ after) ≡ drop 1 is
    dropped Warning is after same = ap (drop 1) same
    dropped Error is after same = ap (drop 1) same
    dropped FatalError is after same = ap (drop 1) same

module _ (line : List ℕ) (simple : IsSimple line) (at : ℕ) (severity : Severity) where
  abbrev parts : PartsValue
  parts = record { head = take at line; severity = severity; tail = drop at line }

  fits_line : Fits (take at line ++ drop at line)
  fits_line =
      subst Fits (sym (take-append-drop at line)) (record { utf8 = IsUtf8-from_is_utf8 line simple.utf8; plain = simple.plain })

  key_kept : key_of parts ≡ origin_of (take at line) ++ codes ": " ++ drop at line
  key_kept =
      sym (masked-joined (origin_of (take at line)) (drop at line))
      ∙ ap₂ (λ (a b : List ℕ). a ++ codes ": " ++ b) (origin_kept line at simple.no_temporary) (tail_kept line at simple.no_temporary)

  parts_verbatim : Tail parts → IsVerbatimDiagnostic (diagnostic_from parts)
  parts_verbatim tail =
      let cut = cut_word (take at line) (drop at line) (subst Begins (sym tail.whole) (word_begins severity tail.after)) fits_line in
      let origin = origin_fits (take at line) cut.0 in
      let text : Fits (text_of parts) =
      subst (λ (l : List ℕ). Fits (drop (length (word_of severity) + 1) l)) (sym tail.whole)
      (after_fits severity tail.after tail.follows (subst Fits tail.whole cut.1)) in
      record {
        file = place (place_of (take at line)) (file_is (take at line)) origin;
        message = message (split_flag (text_of parts)) refl text;
        flag = flag (split_flag (text_of parts)) refl text;
        key = verbatim (key_of parts) (subst Fits (sym key_kept)
            (append_fits (origin_of (take at line) ++ codes ": ") (drop at line)
            (append_fits (origin_of (take at line)) (codes ": ") origin colon_fits) cut.1));
      }
    where
      colon_fits : Fits (codes ": ")
      colon_fits = record { utf8 = IsUtf8-are_ascii (codes ": ") refl; plain = refl }

      place : (found : Option PlaceValue) → IfSome found (λ (one : PlaceValue). one.file ≡ origin_of (take at line))
          → Fits (origin_of (take at line)) → IfSome found (λ (one : PlaceValue). IsVerbatim one.file)
      place None same fit = tt
      place (Some one) same fit = verbatim one.file (subst Fits (sym same) fit)

      message : (found : Option (List ℕ × List ℕ)) → split_flag (text_of parts) ≡ found → Fits (text_of parts)
          → IsVerbatim (message_in (text_of parts) found)
      message None is fits = verbatim (text_of parts) fits
      message (Some both) is fits = verbatim both.0 (flag_fits (text_of parts) both fits is).0

      flag : (found : Option (List ℕ × List ℕ)) → split_flag (text_of parts) ≡ found → Fits (text_of parts)
          → IfSome (flag_in found) (λ (bytes : List ℕ). IsVerbatim bytes)
      flag None is fits = tt
      flag (Some both) is fits = verbatim both.1 (flag_fits (text_of parts) both fits is).1

in_line : (line : List ℕ) (one : PartsValue) → IsSimple line → parts_in line ≡ Some one → IsVerbatimDiagnostic (diagnostic_from one)
in_line line one simple is = first (word_place line) is (tail_of line one is)
  where
    second : (at : ℕ) (found : Option Severity)
        → option_map (λ severity. record { head = take at line; severity = severity; tail = drop at line }) found ≡ Some one → Tail one
        → IsVerbatimDiagnostic (diagnostic_from one)
    second at None is tail = absurd (none-some one is)
    second at (Some severity) is tail =
        let same = same_Some (parts line simple at severity) one is in
        subst (λ (value : PartsValue). IsVerbatimDiagnostic (diagnostic_from value)) same
        (parts_verbatim line simple at severity (subst Tail (sym same) tail))

    first : (at : Option ℕ) → option_and_then (λ (at : ℕ). parts_at line at) at ≡ Some one → Tail one
        → IsVerbatimDiagnostic (diagnostic_from one)
    first None is tail = absurd (none-some one is)
    first (Some at) is tail = second at (severity_at line at) is tail

not_escape : (byte : ℕ) → is_plain byte ≡ true → byte ≢ 27
not_escape byte is = grind (arith, common_steps)

pub no_escape : (line : List ℕ) → list_all is_plain line ≡ true → AllByRecursion (λ byte. byte ≢ 27) line
no_escape [] all = tt
no_escape (byte ∷ line) all =
    let both = and_parts (is_plain byte) (list_all is_plain line) all in (not_escape byte both.0, no_escape line both.1)

-- The strings of a line's diagnostic are written as they are if the line is simple.
pub verbatim_by_line : (line : List ℕ) (value : DiagnosticValue) → diagnostic_of line ≡ Some value → IsSimple line
    → IsVerbatimDiagnostic value
verbatim_by_line line value is simple = by (parts_in line) refl (of_free line (no_escape line simple.plain) ∙ is)
  where
    by : (found : Option PartsValue) → parts_in line ≡ found → option_map diagnostic_from found ≡ Some value → IsVerbatimDiagnostic value
    by None found none = absurd (none-some value none)
    by (Some one) found some =
        subst IsVerbatimDiagnostic (same_Some (diagnostic_from one) value some) (in_line line one simple found)

-- A search for the beginning of a temporary file's name that finds nothing.
pub never_found : (bytes : List ℕ) (found : Option ℕ) → FindsNeedle bytes (codes "/cc") 0 found → is_some found ≡ false
    → HasNoTemporary bytes
never_found bytes None nowhere none = λ place occurs.
    let fits = occurs.fits in nowhere place (omega arith) (omega (arith, fits)) occurs
never_found bytes (Some place) first none = absurd (cc)
