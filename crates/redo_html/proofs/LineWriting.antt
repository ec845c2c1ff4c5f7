-- Lines that are written as one passage.
use Rattle.std.proofs.Common.{◌≡◌, ℕ, zero, suc, ◌+◌, ◌-◌, ◌<◌, ◌≤◌, true, false, List, [], ◌∷◌, ◌++◌, Option, Result, Err, length, take, drop, refl, sym, ◌∙◌, ap, subst, arith}
use Rattle.std.specs.Prelude.{◌==◌, fold}
use Rattle.std.specs.List.{flat_map, list_all}
use Rattle.std.proofs.lemmas.Bool.{and_parts, and_from, not-true, not_from_false, false_from_ne_true}
use Rattle.std.proofs.lemmas.List.{append_assoc, append-nil, take-append-drop, take_all, length-take, get_or-take}
use Rattle.std.proofs.lemmas.List.Folds.{list_all-append}
use Rattle.memchr.specs.Find.{Passes, Nowhere, NoneBefore, is_byte}
use Rattle.std.specs.Result.{IsErr}
use Rattle.redo_device.specs.declared.feed.Broken.{Broken}
use Rattle.redo_device.specs.Sink.{Output, Writes}
use Rattle.redo_line.specs.Lines.{HasNoLineFeed, ended, rest, with_line_feed}
use Rattle.redo_line.proofs.CutLemmas.{free_before, holds_none, upto_feed}
use Rattle.redo_line.proofs.LineLemmas.{ended-append, rest-append, ended-line, rest-line, rest-free, are_lines}
use Rattle.redo_html.specs.declared.text_kind.TextKind.{TextKind}
use Rattle.redo_html.specs.declared.text_kind.TextKind.TheVariants.{Log}
use Rattle.redo_html.specs.declared.style.Style.{Style}
use Rattle.redo_html.specs.Lines.{is_no_escape, style_after_symbol, style_after, style_after_lines, lines_html}
use Rattle.redo_html.specs.Passage.{passage_html}
use Rattle.redo_html.specs.Style.{plain_style}
use Rattle.redo_html.specs.Symbols.{Symbol, first_code_point, first_symbol, symbol_len, symbols_after}
use Rattle.redo_html.specs.Symbols.Symbol.{CodePoint}
use Rattle.redo_html.specs.Private.Writing.{WroteUpTo, BeginsPassage}
use Rattle.redo_html.proofs.LineLemmas.{passage-feed}
use Rattle.redo_html.proofs.VerbatimLemmas.{plain_written}
use Rattle.redo_html.proofs.SymbolLemmas.{no_sequence}
use Rattle.redo_html.proofs.BufferLemmas.{extended}
use Rattle.redo_html.proofs.WritingLemmas.{wrote_on, failed_part}

-- ---- texts without escape characters

code_point_first : (kind : TextKind) (byte : ℕ) (bytes : List ℕ) → (byte == 27) ≡ false
    → first_symbol kind (byte ∷ bytes) ≡ CodePoint (first_code_point (byte ∷ bytes))
unfolding first_symbol
code_point_first kind byte bytes other = rw (no_sequence kind byte bytes other) refl

code_points_style : (kind : TextKind) (style : Style) (skipped : ℕ) (bytes : List ℕ) → list_all is_no_escape bytes ≡ true
    → fold style_after_symbol style (symbols_after kind skipped bytes) ≡ style
unfolding symbols_after
code_points_style kind style skipped [] none = refl
code_points_style kind style zero (byte ∷ bytes) none =
    let parts = and_parts (is_no_escape byte) (list_all is_no_escape bytes) none in
    ap (λ (s : Symbol). fold style_after_symbol (style_after_symbol style s)
    (symbols_after kind (symbol_len kind (byte ∷ bytes) - 1) bytes)) (code_point_first kind byte bytes (not-true (byte == 27) parts.0))
    ∙ code_points_style kind style (symbol_len kind (byte ∷ bytes) - 1) bytes parts.1
code_points_style kind style (suc skipped) (byte ∷ bytes) none =
    code_points_style kind style skipped bytes (and_parts (is_no_escape byte) (list_all is_no_escape bytes) none).1

pub no_escape_style : (style : Style) (bytes : List ℕ) → list_all is_no_escape bytes ≡ true → style_after style bytes ≡ style
no_escape_style style bytes none = code_points_style Log style 0 bytes none

-- The parts of a line and of the lines after it.
module _ (line : List ℕ) (more : List ℕ) (none : list_all is_no_escape (with_line_feed line ++ more) ≡ true) where
  both : (list_all is_no_escape (with_line_feed line) ≡ true) × (list_all is_no_escape more ≡ true)
  both = and_parts (list_all is_no_escape (with_line_feed line)) (list_all is_no_escape more)
      (sym (list_all-append is_no_escape (with_line_feed line) more) ∙ none)

  inner : list_all is_no_escape line ≡ true
  inner = (and_parts (list_all is_no_escape line) (list_all is_no_escape (10 ∷ []))
      (sym (list_all-append is_no_escape line (10 ∷ [])) ∙ both.0)).0

pub plain_lines : (lines more : List (List ℕ)) → list_all is_no_escape (flat_map with_line_feed lines) ≡ true
    → passage_html Log plain_style (flat_map with_line_feed lines) ++ lines_html plain_style more ≡ lines_html plain_style (lines ++ more)
plain_lines [] more none = ap (λ (t : List ℕ). t ++ lines_html plain_style more) (plain_written Log [] refl)
plain_lines (line ∷ lines) more none =
    let left = flat_map with_line_feed lines in
    let first = passage_html Log plain_style (with_line_feed line) in
    ap (λ (b : List ℕ). passage_html Log plain_style b ++ lines_html plain_style more) (append_assoc line (10 ∷ []) left)
    ∙ ap (λ (t : List ℕ). t ++ lines_html plain_style more)
    (passage-feed Log plain_style line left (no_escape_style plain_style line (inner line left none)))
    ∙ append_assoc first (passage_html Log plain_style left) (lines_html plain_style more)
    ∙ ap (λ (t : List ℕ). first ++ t) (plain_lines lines more (both line left none).1)
    ∙ ap (λ (s : Style). first ++ lines_html s (lines ++ more))
    (sym (no_escape_style plain_style (with_line_feed line) (both line left none).0))

plain_lines_style : (lines more : List (List ℕ)) → list_all is_no_escape (flat_map with_line_feed lines) ≡ true
    → style_after_lines plain_style more ≡ style_after_lines plain_style (lines ++ more)
plain_lines_style [] more none = refl
plain_lines_style (line ∷ lines) more none =
    let left = flat_map with_line_feed lines in
    plain_lines_style lines more (both line left none).1
    ∙ ap (λ (s : Style). style_after_lines s (lines ++ more))
    (sym (no_escape_style plain_style (with_line_feed line) (both line left none).0))

pub plain_lines_joined : (lines : List (List ℕ)) → list_all is_no_escape (flat_map with_line_feed lines) ≡ true
    → lines_html plain_style lines ≡ passage_html Log plain_style (flat_map with_line_feed lines)
plain_lines_joined lines none =
    ap (lines_html plain_style) (sym (append-nil lines)) ∙ sym (plain_lines lines [] none)
    ∙ append-nil (passage_html Log plain_style (flat_map with_line_feed lines))

-- Lines without escape characters, if they begin with the plain style.
pub begins_plain : (style : Style) (bytes : List ℕ) (len : ℕ) → style ≡ plain_style → 0 < len → len ≤ length bytes → rest bytes ≡ []
    → rest (take len bytes) ≡ [] → list_all is_no_escape (take len bytes) ≡ true → BeginsPassage style bytes len
begins_plain style bytes len is some within complete front_complete none =
    subst (λ (s : Style). BeginsPassage s bytes len) (sym is) (record {
      some = some;
      within = within;
      complete = sym (ap (λ (r : List ℕ). rest (r ++ behind)) front_complete) ∙ sym (rest-append front behind) ∙ ap rest whole ∙ complete;
      html = ap (λ (s : Style). passage_html Log plain_style front ++ lines_html s (ended behind)) kept
          ∙ ap (λ (f : List ℕ). passage_html Log plain_style f ++ lines_html plain_style (ended behind)) lines_are
          ∙ plain_lines (ended front) (ended behind) none_there ∙ ap (lines_html plain_style) (sym split);
      style_after_them = ap (λ (s : Style). style_after_lines s (ended behind)) kept
          ∙ plain_lines_style (ended front) (ended behind) none_there
          ∙ ap (style_after_lines plain_style) (sym split);
    })
  where
    front : List ℕ
    front = take len bytes

    behind : List ℕ
    behind = drop len bytes

    whole : front ++ behind ≡ bytes
    whole = take-append-drop len bytes

    kept : style_after plain_style front ≡ plain_style
    kept = no_escape_style plain_style front none

    lines_are : front ≡ flat_map with_line_feed (ended front)
    lines_are = (are_lines front).whole ∙ ap (λ (r : List ℕ). flat_map with_line_feed (ended front) ++ r) front_complete
        ∙ append-nil (flat_map with_line_feed (ended front))

    none_there : list_all is_no_escape (flat_map with_line_feed (ended front)) ≡ true
    none_there = ap (list_all is_no_escape) (sym lines_are) ∙ none

    split : ended bytes ≡ ended front ++ ended behind
    split = ap ended (sym whole) ∙ ended-append front behind ∙ ap (λ (r : List ℕ). ended front ++ ended (r ++ behind)) front_complete

pub begins_line : (style : Style) (bytes : List ℕ) (at : ℕ)
    → NoneBefore (Passes (is_byte 10) bytes) 0 (length bytes) at × Passes (is_byte 10) bytes at → rest bytes ≡ []
    → BeginsPassage style bytes (at + 1)
begins_line style bytes at found complete = record {
  some = omega arith;
  within = let below = found.0.high in omega (arith, below);
  complete = sym (rest-line line behind free) ∙ ap rest (sym parts) ∙ complete;
  html = ap (λ (f : List ℕ). passage_html Log style f ++ lines_html (style_after style f) (ended behind)) line_is
      ∙ ap (lines_html style) (sym lines);
  style_after_them = ap (λ (f : List ℕ). style_after_lines (style_after style f) (ended behind)) line_is
      ∙ ap (style_after_lines style) (sym lines);
}
  where
    line : List ℕ
    line = take at bytes

    behind : List ℕ
    behind = drop (at + 1) bytes

    free : HasNoLineFeed line
    free = free_before bytes at found.0.before

    line_is : take (at + 1) bytes ≡ with_line_feed line
    line_is = upto_feed bytes at found.0.high found.1

    parts : bytes ≡ line ++ 10 ∷ behind
    parts = sym (take-append-drop (at + 1) bytes) ∙ ap (λ (b : List ℕ). b ++ behind) line_is ∙ append_assoc line (10 ∷ []) behind

    lines : ended bytes ≡ line ∷ ended behind
    lines = ap ended parts ∙ ended-line line behind free

-- The first line, up to the first line feed and with it.
pub first_line_at : (bytes : List ℕ) (at : ℕ)
    → NoneBefore (Passes (is_byte 10) bytes) 0 (length bytes) at × Passes (is_byte 10) bytes at
    → (line : List ℕ) (more : List (List ℕ)) → ended bytes ≡ line ∷ more → take (at + 1) bytes ≡ with_line_feed line
first_line_at bytes at found line more is =
    line_is ∙ ap with_line_feed (heads (sym (ap ended parts ∙ ended-line (take at bytes) (drop (at + 1) bytes) free) ∙ is))
  where
    heads : {a b : List ℕ} {s t : List (List ℕ)} → a ∷ s ≡ b ∷ t → a ≡ b
    heads same = cc

    free : HasNoLineFeed (take at bytes)
    free = free_before bytes at found.0.before

    line_is : take (at + 1) bytes ≡ with_line_feed (take at bytes)
    line_is = upto_feed bytes at found.0.high found.1

    parts : bytes ≡ take at bytes ++ 10 ∷ drop (at + 1) bytes
    parts = sym (take-append-drop (at + 1) bytes) ∙ ap (λ (b : List ℕ). b ++ drop (at + 1) bytes) line_is
        ∙ append_assoc (take at bytes) (10 ∷ []) (drop (at + 1) bytes)

-- Complete lines have a line feed.
pub line_found : (bytes : List ℕ) → Nowhere (Passes (is_byte 10) bytes) 0 (length bytes) → rest bytes ≡ [] → 0 < length bytes → ⊥
line_found bytes nowhere complete some = let none = ap length (sym (rest-free bytes (holds_none bytes nowhere)) ∙ complete) in
    omega (arith, none, some)

-- ---- lines before an escape character

pub none_before : (bytes : List ℕ) (n : ℕ) → Nowhere (Passes (is_byte 27) bytes) 0 n → list_all is_no_escape (take n bytes) ≡ true
none_before bytes zero nowhere = refl
none_before [] (suc n) nowhere = refl
none_before (byte ∷ bytes) (suc n) nowhere =
    and_from (is_no_escape byte) (list_all is_no_escape (take n bytes))
    (not_from_false (byte == 27) (false_from_ne_true (byte == 27) (λ is. nowhere 0 (omega arith) (omega arith) is)))
    (none_before bytes n (λ k low below passes. nowhere (suc k) (omega arith) (omega (arith, below)) passes))

pub none_in_all : (bytes : List ℕ) → Nowhere (Passes (is_byte 27) bytes) 0 (length bytes) → list_all is_no_escape bytes ≡ true
none_in_all bytes nowhere = ap (list_all is_no_escape) (sym (take_all (length bytes) bytes (omega arith)))
    ∙ none_before bytes (length bytes) nowhere

-- A line feed before an index.
pub feed_before : (bytes : List ℕ) (n at : ℕ) → at < length (take n bytes) → Passes (is_byte 10) (take n bytes) at
    → (at < n) × (at < length bytes) × Passes (is_byte 10) bytes at
feed_before bytes n at below passes =
    let size = length-take n bytes in
    let inside : at < n = omega (arith, below, size) in
    (inside, omega (arith, below, size), ap (λ (b : ℕ). b == 10) (sym (get_or-take n bytes at 0 inside)) ∙ passes)

-- Bytes up to a line feed are complete lines.
pub complete_to_feed : (bytes : List ℕ) (at : ℕ) → at < length bytes → Passes (is_byte 10) bytes at → rest (take (at + 1) bytes) ≡ []
complete_to_feed bytes at below passes =
    let front = take at bytes in
    ap rest (upto_feed bytes at below passes) ∙ rest-append front (10 ∷ []) ∙ rest-line (rest front) [] (are_lines front).rest_holds_none
    ∙ rest-free [] tt

-- ---- the next lines of a text

module _ (before middle after : Option Output) (text old : List ℕ) (style : Style) (left : List ℕ) (len : ℕ)
    (begins : BeginsPassage style left len) (so_far : WroteUpTo before middle text (old ++ lines_html style (ended left))) where
  abbrev passage : List ℕ
  passage = passage_html Log style (take len left)

  abbrev behind : List ℕ
  behind = lines_html (style_after style (take len left)) (ended (drop len left))

  next : WroteUpTo before middle text ((old ++ passage) ++ behind)
  next = subst (WroteUpTo before middle text)
      (ap (λ (t : List ℕ). old ++ t) (sym begins.html) ∙ sym (append_assoc old passage behind)) so_far

  pub lines_failed : (broken : Broken) (done : Result (Unit {0}) Broken) → IsErr done
      → Writes middle after (old ++ passage) (Err broken) → Writes before after text done
  lines_failed broken done failed wrote = failed_part before middle after text (old ++ passage) behind broken done failed next wrote

  pub lines_wrote : (now : List ℕ) → WroteUpTo middle after (old ++ passage) now → WroteUpTo before after text (now ++ behind)
  lines_wrote now put =
      wrote_on before middle after text ((old ++ passage) ++ behind) (now ++ behind) next
      (extended middle after (old ++ passage) now behind put)
