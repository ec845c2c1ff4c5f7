-- The exact bytes of lines that are iterated over.
use Rattle.std.proofs.Common.{◌≡◌, ℕ, zero, suc, ◌+◌, ◌<◌, true, false, List, [], ◌∷◌, ◌++◌, length, get_or, refl, sym, ap, ◌∙◌, subst, arith}
use Rattle.std.specs.Prelude.{codes, decimal}
use Rattle.std.specs.List.{flat_map}
use Rattle.std.specs.Str.{IsAscii, IsCharBoundary, IsUtf8, is_utf8}
use Rattle.std.proofs.Math.Seq.{get_or-append_seam}
use Rattle.std.proofs.lemmas.List.{append-nil, drop_at, get_or_append_left, length-append, take_at}
use Rattle.std.proofs.lemmas.Str.{IsCharBoundary-after_ascii, IsUtf8-drop, IsUtf8-from_is_utf8, IsUtf8-take, is_utf8-from_IsUtf8}
use Rattle.simdutf8.proofs.StepsLemmas.{IsUtf8-append_ascii}
use Rattle.json.specs.Json.{string}
use Rattle.json.specs.Print.{escape}
use Rattle.redo_line.proofs.LineLemmas.{are_lines}
use Rattle.redo_line.specs.Lines.{ended, line_feed, rest, with_line_feed}
use Rattle.redo_outline.specs.TextLines.{AreNextLines, IsStretch, LinesLeft}
use Rattle.redo_json.specs.Fields.{Field, exact_fields, exact_items, exact_list, exact_name, field}
use Rattle.redo_json.specs.Text.{base64_of, exact_of}
use Rattle.redo_json.specs.Private.LogLines.{AreUtf8, IsNextExactLine}
use Rattle.redo_json.specs.Private.Parts.{comma_fields, exact_item}
use Rattle.redo_json.proofs.PartLemmas.{exact_parts, no_exact, one_exact}

module _ (before after : LinesLeft) (line : List ℕ) (is : before.left ≡ line ∷ after.left) (counted : after.done ≡ before.done + 1) where
  line_step : exact_items before.done before.left ≡ exact_fields (decimal before.done) (exact_of line) ++ exact_items after.done after.left
  line_step =
      let next : suc before.done ≡ after.done = omega (arith, counted) in
      ap (exact_items before.done) is
      ∙ ap (λ (n : ℕ). exact_fields (decimal before.done) (exact_of line) ++ exact_items n after.left) next

  pub skip_line : is_utf8 line ≡ true → exact_items before.done before.left ≡ exact_items after.done after.left
  skip_line text =
      line_step ∙ ap (λ (fields : List Field). fields ++ exact_items after.done after.left) (no_exact (decimal before.done) line text)

  pub found_line : (position : ℕ) → position ≡ before.done → is_utf8 line ≡ false
      → exact_items before.done before.left ≡ field (decimal position) (string (base64_of line)) ∷ exact_items after.done after.left
  found_line position same exact =
      line_step ∙ ap (λ (fields : List Field). fields ++ exact_items after.done after.left) (one_exact (decimal before.done) line exact)
      ∙ ap (λ (n : ℕ). field (decimal n) (string (base64_of line)) ∷ exact_items after.done after.left) (sym same)

-- A list with exact bytes.
pub exact_line_parts : (name : List ℕ) (lines : List (List ℕ)) (before after : LinesLeft) (position : ℕ) (line : List ℕ)
    → before.left ≡ lines → before.done ≡ 0 → IsNextExactLine before after position line
    → (44 ∷ 34 ∷ (escape name ++ codes "_base64\":{"))
    ++ (exact_item position line ++ (comma_fields (exact_items after.done after.left) ++ 125 ∷ []))
    ≡ comma_fields (exact_list (exact_name name) (exact_items 0 lines))
exact_line_parts name lines before after position line is first next =
    exact_parts name (field (decimal position) (string (base64_of line))) (exact_items after.done after.left)
    ∙ ap (λ (fields : List Field). comma_fields (exact_list (exact_name name) fields))
    (sym next.fields ∙ ap (exact_items before.done) is ∙ ap (λ (n : ℕ). exact_items n lines) first)

-- ---- lines of a text

-- A text that is cut at a byte of ASCII.
pub cut_text : (a : List ℕ) (byte : ℕ) (b : List ℕ) → byte < 128 → IsUtf8 ((a ++ byte ∷ []) ++ b) → IsUtf8 a × IsUtf8 b
cut_text a byte b small text = (
  (IsUtf8-append_ascii a (byte ∷ []) ascii).0
      (subst IsUtf8 (take_at (a ++ byte ∷ []) b (length a + 1) size) (IsUtf8-take whole (length a + 1) text boundary)),
  subst IsUtf8 (drop_at (a ++ byte ∷ []) b (length a + 1) size) (IsUtf8-drop whole (length a + 1) text boundary),
)
  where
    whole : List ℕ
    whole = (a ++ byte ∷ []) ++ b

    size : length (a ++ byte ∷ []) ≡ length a + 1
    size = length-append a (byte ∷ [])

    ascii : IsAscii (byte ∷ [])
    ascii zero = omega (arith, small)
    ascii (suc i) = omega arith

    boundary : IsCharBoundary whole (length a + 1)
    boundary =
        let is : get_or whole (length a) 0 ≡ byte =
        get_or_append_left (a ++ byte ∷ []) b 0 (length a) (omega (arith, size))
        ∙ get_or-append_seam a byte [] 0 in
        let all = length-append (a ++ byte ∷ []) b in
        IsCharBoundary-after_ascii whole (length a) text (omega (arith, size, all)) (omega (arith, is, small))

utf8_lines : (lines : List (List ℕ)) → IsUtf8 (flat_map with_line_feed lines) → AreUtf8 lines
utf8_lines [] text = tt
utf8_lines (line ∷ lines) text =
    let parts = cut_text line line_feed (flat_map with_line_feed lines) (omega arith) text in
    (is_utf8-from_IsUtf8 line parts.0, utf8_lines lines parts.1)

utf8_more : (lines after : List (List ℕ)) → AreUtf8 lines → AreUtf8 after → AreUtf8 (lines ++ after)
utf8_more [] after text all = all
utf8_more (line ∷ lines) after text all = (text.0, utf8_more lines after text.1 all)

-- Each line of a text is UTF-8.
pub text_lines : (bytes : List ℕ) → rest bytes ≡ [] → is_utf8 bytes ≡ true → AreUtf8 (ended bytes)
text_lines bytes complete text =
    utf8_lines (ended bytes)
    (subst IsUtf8 ((are_lines bytes).whole ∙ ap (λ (l : List ℕ). flat_map with_line_feed (ended bytes) ++ l) complete
    ∙ append-nil (flat_map with_line_feed (ended bytes))) (IsUtf8-from_is_utf8 bytes text))

-- Lines that are UTF-8 have no exact bytes.
pub no_exact_items : (position : ℕ) (lines : List (List ℕ)) → AreUtf8 lines → exact_items position lines ≡ []
no_exact_items position [] all = refl
no_exact_items position (line ∷ lines) all =
    ap (λ (fields : List Field). fields ++ exact_items (suc position) lines) (no_exact (decimal position) line all.0)
    ∙ no_exact_items (suc position) lines all.1

module _ (bytes : List ℕ) (before after : LinesLeft) (stretch : IsStretch bytes) (next : AreNextLines bytes before after) where
  -- Each line of a stretch that is UTF-8 is UTF-8.
  pub text_stretch : is_utf8 bytes ≡ true → AreUtf8 after.left → AreUtf8 before.left
  text_stretch text all =
      subst AreUtf8 (sym next.lines) (utf8_more (ended bytes) after.left (text_lines bytes stretch.complete text) all)

  -- Fewer lines are left after a stretch.
  pub fewer_left : length after.left < length before.left
  fewer_left =
      let some = stretch.some in
      let split = ap length next.lines in
      omega (arith, some, split, length-append (ended bytes) after.left)
