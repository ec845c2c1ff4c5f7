-- Lines that are stored together, and are written as they are.
use Rattle.std.proofs.Common.{◌≡◌, inl, inr, ℕ, ◌==◌, Bool, true, ◌&&◌, List, [], ◌∷◌, ◌++◌, refl, sym, ap, ap₂, ◌∙◌, subst, append_assoc}
use Rattle.std.specs.List.{AllByRecursion, flat_map, list_all}
use Rattle.std.proofs.lemmas.Bool.{and_parts, eqb-true, or_cases}
use Rattle.std.proofs.lemmas.List.Folds.{list_all-append}
use Rattle.redo_line.proofs.LineLemmas.{are_lines}
use Rattle.redo_line.specs.Lines.{HasNoLineFeed, ended, line_feed, rest, with_line_feed}
use Rattle.redo_outline.specs.TextLines.{AreNextLines, LinesLeft}
use Rattle.redo_diagnostics.specs.Diagnostic.{HasNoTemporary}
use Rattle.redo_json.specs.Private.LogLines.{ArePlainLines, AreSimple, AreUtf8}
use Rattle.redo_json.specs.Private.Writing.{is_verbatim_byte, is_verbatim_or_feed}
use Rattle.redo_json.proofs.KeyVerbatimLemmas.{Fit}
use Rattle.redo_json.proofs.VerbatimLemmas.{plain_bytes, verbatim_bytes}

fit_line : (line : List ℕ) → HasNoLineFeed line → list_all is_verbatim_or_feed line ≡ true → Fit line
fit_line [] free all = refl
fit_line (byte ∷ line) free all =
    let both = and_parts (is_verbatim_or_feed byte) (list_all is_verbatim_or_feed line) all in
    elim (or_cases (is_verbatim_byte byte) (byte == line_feed) both.0) [
      | inl plain ↦ ap₂ (λ (a b : Bool). a && b) plain (fit_line line free.1 both.1)
      | inr feed ↦ absurd (free.0 (eqb-true byte line_feed feed))
    ]

fit_lines : (lines : List (List ℕ)) (last : List ℕ) → AllByRecursion HasNoLineFeed lines
    → list_all is_verbatim_or_feed (flat_map with_line_feed lines ++ last) ≡ true → AllByRecursion Fit lines
fit_lines [] last free all = tt
fit_lines (line ∷ lines) last free all =
    let behind : List ℕ = flat_map with_line_feed lines ++ last in
    let split : (with_line_feed line ++ flat_map with_line_feed lines) ++ last ≡ line ++ (line_feed ∷ behind) =
    append_assoc (with_line_feed line) (flat_map with_line_feed lines) last ∙ append_assoc line (line_feed ∷ []) behind in
    let both = and_parts (list_all is_verbatim_or_feed line) (list_all is_verbatim_or_feed (line_feed ∷ behind))
    (sym (list_all-append is_verbatim_or_feed line (line_feed ∷ behind)) ∙ ap (list_all is_verbatim_or_feed) (sym split) ∙ all) in (
      fit_line line free.0 both.0,
      fit_lines lines last free.1 (and_parts (is_verbatim_or_feed line_feed) (list_all is_verbatim_or_feed behind) both.1).1,
    )

fit_text : (lines : List (List ℕ)) → AllByRecursion Fit lines → AreUtf8 lines
fit_text [] all = tt
fit_text (line ∷ lines) all = ((verbatim_bytes line all.0).utf8, fit_text lines all.1)

fit_plain : (lines : List (List ℕ)) → AllByRecursion Fit lines → ArePlainLines lines
fit_plain [] all = tt
fit_plain (line ∷ lines) all = (plain_bytes line all.0, fit_plain lines all.1)

-- Lines of ASCII are UTF-8 without escapes.
pub ascii_lines : (bytes : List ℕ) → list_all is_verbatim_or_feed bytes ≡ true → AreUtf8 (ended bytes) × ArePlainLines (ended bytes)
ascii_lines bytes all =
    let lines = are_lines bytes in
    let fit = fit_lines (ended bytes) (rest bytes) lines.lines_hold_none (ap (list_all is_verbatim_or_feed) (sym lines.whole) ∙ all) in
    (fit_text (ended bytes) fit, fit_plain (ended bytes) fit)

simple_lines : (lines more : List (List ℕ)) → AreUtf8 lines → ArePlainLines lines → AllByRecursion HasNoTemporary lines → AreSimple more
    → AreSimple (lines ++ more)
simple_lines [] more text plain none others = others
simple_lines (line ∷ lines) more text plain none others =
    (record { utf8 = text.0; plain = plain.0; no_temporary = none.0 }, simple_lines lines more text.1 plain.1 none.1 others)

pub simple_stretch : (bytes : List ℕ) (before after : LinesLeft) → AreNextLines bytes before after
    → AreUtf8 (ended bytes) × ArePlainLines (ended bytes) → AllByRecursion HasNoTemporary (ended bytes)
    → AreSimple after.left → AreSimple before.left
simple_stretch bytes before after next text none others =
    subst AreSimple (sym next.lines) (simple_lines (ended bytes) after.left text.0 text.1 none others)
