-- The strings of lines that are stored together.
use Rattle.std.proofs.Common.{◌≡◌, inl, inr, ℕ, ◌<◌, ◌==◌, Bool, true, false, ◌&&◌, List, [], ◌∷◌, ◌++◌, Result, Ok, Err, length, refl, sym, ap, ap₂, ◌∙◌, arith, append_assoc}
use Rattle.std.specs.Prelude.{OnOk, is_ok}
use Rattle.std.specs.List.{AllByRecursion, flat_map, list_all}
use Rattle.std.proofs.lemmas.Bool.{and_parts, eqb-true, or_cases}
use Rattle.std.proofs.lemmas.List.Folds.{list_all-append}
use Rattle.json.specs.Print.{escape}
use Rattle.json.specs.Run.{is_plain}
use Rattle.redo_line.proofs.LineLemmas.{are_lines}
use Rattle.redo_line.specs.Lines.{HasNoLineFeed, ended, line_feed, rest, with_line_feed}
use Rattle.redo_json.specs.Private.Lines.{before_line, lines_left, lines_text}
use Rattle.redo_json.specs.Private.LogLines.{ArePlainLines}
use Rattle.redo_json.specs.Private.Writing.{IsAppended, is_plain_or_feed}
use Rattle.redo_json.specs.Text.{text_of}
use Rattle.redo_json.proofs.PartLemmas.{first_text, text_step}

-- ---- the lines that are left

nested : (a b c d : List ℕ) → a ++ (b ++ (c ++ d)) ≡ (a ++ (b ++ c)) ++ d
nested a b c d = ap (λ (l : List ℕ). a ++ l) (sym (append_assoc b c d)) ∙ sym (append_assoc a (b ++ c) d)

line_step : (is_first : Bool) (line : List ℕ) (others : List (List ℕ))
    → lines_left is_first (line ∷ others) ≡ before_line is_first ++ (escape (text_of line) ++ lines_left false others)
line_step true line others = first_text line others
line_step false line others = text_step line others

other_lines : (lines more : List (List ℕ)) → lines_left false (lines ++ more) ≡ lines_text false lines ++ lines_left false more
other_lines [] more = refl
other_lines (line ∷ lines) more =
    line_step false line (lines ++ more)
    ∙ ap (λ (l : List ℕ). before_line false ++ (escape (text_of line) ++ l)) (other_lines lines more)
    ∙ nested (before_line false) (escape (text_of line)) (lines_text false lines) (lines_left false more)

-- The strings of a stretch, and those after it.
pub stretch_step : (is_first : Bool) (lines more : List (List ℕ)) → 0 < length lines
    → lines_left is_first (lines ++ more) ≡ lines_text is_first lines ++ lines_left false more
stretch_step is_first [] more some = absurd (omega (arith, some))
stretch_step is_first (line ∷ lines) more some =
    line_step is_first line (lines ++ more)
    ∙ ap (λ (l : List ℕ). before_line is_first ++ (escape (text_of line) ++ l)) (other_lines lines more)
    ∙ nested (before_line is_first) (escape (text_of line)) (lines_text false lines) (lines_left false more)

-- ---- lines without escapes

plain_line : (line : List ℕ) → HasNoLineFeed line → list_all is_plain_or_feed line ≡ true → list_all is_plain line ≡ true
plain_line [] free all = refl
plain_line (byte ∷ line) free all =
    let both = and_parts (is_plain_or_feed byte) (list_all is_plain_or_feed line) all in
    elim (or_cases (is_plain byte) (byte == line_feed) both.0) [
      | inl plain ↦ ap₂ (λ (a b : Bool). a && b) plain (plain_line line free.1 both.1)
      | inr feed ↦ absurd (free.0 (eqb-true byte line_feed feed))
    ]

plain_of : (lines : List (List ℕ)) (last : List ℕ) → AllByRecursion HasNoLineFeed lines
    → list_all is_plain_or_feed (flat_map with_line_feed lines ++ last) ≡ true → ArePlainLines lines
plain_of [] last free all = tt
plain_of (line ∷ lines) last free all =
    let others : List ℕ = flat_map with_line_feed lines ++ last in
    let split : (with_line_feed line ++ flat_map with_line_feed lines) ++ last ≡ line ++ (line_feed ∷ others) =
    append_assoc (with_line_feed line) (flat_map with_line_feed lines) last ∙ append_assoc line (line_feed ∷ []) others in
    let both = and_parts (list_all is_plain_or_feed line) (list_all is_plain_or_feed (line_feed ∷ others))
    (sym (list_all-append is_plain_or_feed line (line_feed ∷ others)) ∙ ap (list_all is_plain_or_feed) (sym split) ∙ all) in (
      plain_line line free.0 both.0,
      plain_of lines last free.1 (and_parts (is_plain_or_feed line_feed) (list_all is_plain_or_feed others) both.1).1,
    )

-- The lines of a stretch without escapes.
pub plain_stretch : (bytes : List ℕ) → list_all is_plain_or_feed bytes ≡ true → ArePlainLines (ended bytes)
plain_stretch bytes plain =
    let lines = are_lines bytes in
    plain_of (ended bytes) (rest bytes) lines.lines_hold_none (ap (list_all is_plain_or_feed) (sym lines.whole) ∙ plain)

-- A line was joined to others.
pub joined_line : (is_first : Bool) (before middle after start line : List ℕ) (lines others : List (List ℕ)) → lines ≡ line ∷ others
    → start ≡ before_line is_first → IsAppended before middle start → IsAppended middle after (escape (text_of line))
    → after ++ lines_text false others ≡ before ++ lines_text is_first lines
joined_line is_first before middle after start line lines others is starts first second =
    ap (λ (l : List ℕ). l ++ lines_text false others)
    (second.is ∙ ap (λ (l : List ℕ). l ++ escape (text_of line)) (first.is ∙ ap (λ (l : List ℕ). before ++ l) starts))
    ∙ append_assoc (before ++ before_line is_first) (escape (text_of line)) (lines_text false others)
    ∙ append_assoc before (before_line is_first) (escape (text_of line) ++ lines_text false others)
    ∙ ap (λ (l : List (List ℕ)). before ++ lines_text is_first l) (sym is)

-- Bytes were joined in an empty buffer.
pub stretch_joined : {E : Type 0} (done : Result (Unit {0}) E) (before after text : List ℕ) → is_ok done ≡ true → before ≡ []
    → OnOk done (IsAppended before after text) → after ≡ text
stretch_joined (Ok u) before after text ok empty appended = appended.is ∙ ap (λ (l : List ℕ). l ++ text) empty
stretch_joined (Err e) before after text ok empty appended = absurd (cc)

-- The first line of those that are left.
pub first_left : (is_first : Bool) (start line : List ℕ) (lines others : List (List ℕ)) → lines ≡ line ∷ others
    → start ≡ before_line is_first → lines_text is_first lines ≡ start ++ (escape (text_of line) ++ lines_text false others)
first_left is_first start line lines others is starts =
    ap (lines_text is_first) is ∙ ap (λ (l : List ℕ). l ++ (escape (text_of line) ++ lines_text false others)) (sym starts)
