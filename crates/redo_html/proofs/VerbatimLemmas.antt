-- Lemmas about code points that are written as they are.
use Rattle.std.proofs.Common.{◌≡◌, ℕ, zero, suc, ◌+◌, ◌-◌, ◌<◌, ◌≤◌, min, true, false, List, [], ◌∷◌, ◌++◌, Option, Some, length, take, drop, map, slice_index, slice_range, refl, sym, ◌∙◌, ap, arith, zero-le, le_refl, ⊎_elim}
use Rattle.std.specs.Char.{encode_utf8}
use Rattle.std.specs.Prelude.{◌==◌, ◌&&◌, not, fold}
use Rattle.std.specs.List.{flat_map, list_all}
use Rattle.std.proofs.lemmas.Bool.{and_parts, and_from, cases_lt, cond-true, cond-false, lt-ltb, not-true, not_from_false, ne_eqb}
use Rattle.std.proofs.lemmas.List.{append_assoc, append-nil, drop-drop, drop-take, get_or-drop, get_or-take, length-drop, length-take-le, map-append, take-take, take_at, take_all, drop_all}
use Rattle.std.proofs.lemmas.List.Concat.{flat_map-append}
use Rattle.std.proofs.lemmas.List.Folds.{list_all-append}
use Rattle.std.proofs.Math.Seq.{take-add}
use Rattle.bstr.specs.Utf8.{decoded}
use Rattle.bstr.proofs.lemmas.PieceLemmas.{piece-bounds}
use Rattle.bstr.proofs.lemmas.SoundLemmas.{SpellsChar-decoded}
use Rattle.redo_html.specs.declared.text_kind.TextKind.{TextKind}
use Rattle.redo_html.specs.declared.look.Look.{Look}
use Rattle.redo_html.specs.declared.style.Style.{Style}
use Rattle.redo_html.specs.Laws.{is_plain}
use Rattle.redo_html.specs.Lines.{style_after_symbol}
use Rattle.redo_html.specs.Passage.{escaped, passage_html}
use Rattle.redo_html.specs.Private.Highlighting.{after_code_point, start_look, html_from}
use Rattle.redo_html.specs.Shown.{Run, is_unprintable, unprintable_text, with_code_point, runs_of}
use Rattle.redo_html.specs.Shown.Run.{CodePoints}
use Rattle.redo_html.specs.Style.{plain_style}
use Rattle.redo_html.specs.Symbols.{Symbol, code_point_of, size_of, first_code_point, code_point_len, first_symbol, symbol_len, symbols}
use Rattle.redo_html.specs.Symbols.Symbol.{CodePoint}
use Rattle.redo_html.specs.Private.Writing.{IsVerbatim, is_verbatim, style_in}
use Rattle.redo_html.proofs.PassageGroups.{passage_is}
use Rattle.redo_html.proofs.PassageLemmas.{highlights, html_of, html-nil, code_points_step, no_highlights}
use Rattle.redo_html.proofs.SymbolLemmas.{symbols-step, no_sequence, plain_symbol, plain_visible, plain_encoded, plain_others, visible_run}
use Rattle.redo_html.proofs.TextReading.{encoded_escaped}

pub no_code_points : (bytes : List ℕ) → IsVerbatim bytes 0
no_code_points bytes = record { within = zero-le; code_points = []; verbatim = refl; bytes_are = refl; symbols_are = λ kind. refl }

visible : (code_point : ℕ) → is_verbatim code_point ≡ true → is_unprintable code_point ≡ false
visible code_point verbatim = not-true (is_unprintable code_point) (and_parts (not (is_unprintable code_point)) _ verbatim).0

plain_is_verbatim : (byte : ℕ) → is_plain byte ≡ true → is_verbatim byte ≡ true
plain_is_verbatim byte plain = and_from (not (is_unprintable byte)) _ (not_from_false (is_unprintable byte) (plain_visible byte plain))
    (plain_others byte plain)

pub plain_code_points : (count : ℕ) (bytes : List ℕ) → count ≤ length bytes → list_all is_plain (take count bytes) ≡ true
    → IsVerbatim bytes count
plain_code_points zero bytes within plain = no_code_points bytes
plain_code_points (suc count) [] within plain = absurd (omega arith)
plain_code_points (suc count) (byte ∷ bytes) within plain =
    let parts = and_parts (is_plain byte) (list_all is_plain (take count bytes)) plain in
    let rest = plain_code_points count bytes (omega (arith, within)) parts.1 in
    record {
      within = within;
      code_points = byte ∷ rest.code_points;
      verbatim = and_from (is_verbatim byte) (list_all is_verbatim rest.code_points) (plain_is_verbatim byte parts.0) rest.verbatim;
      bytes_are = ap (λ (b : List ℕ). byte ∷ b) rest.bytes_are
          ∙ ap (λ (e : List ℕ). e ++ flat_map encode_utf8 rest.code_points) (sym (plain_encoded byte parts.0));
      symbols_are = λ kind.
          let symbol = plain_symbol kind byte bytes parts.0 in
          symbols-step kind (byte ∷ bytes) (omega arith)
          ∙ ap (λ (s : Symbol). s ∷ symbols kind (drop (symbol_len kind (byte ∷ bytes)) (byte ∷ bytes))) symbol.0
          ∙ ap (λ (n : ℕ). CodePoint byte ∷ symbols kind (drop n (byte ∷ bytes))) symbol.1
          ∙ ap (λ (ss : List Symbol). CodePoint byte ∷ ss) (rest.symbols_are kind);
    }

pub plain_code_point : (bytes : List ℕ) → 0 < length bytes → is_plain (slice_index bytes 0) ≡ true → IsVerbatim bytes 1
plain_code_point [] some plain = absurd (omega arith)
plain_code_point (byte ∷ bytes) some plain = plain_code_points 1 (byte ∷ bytes) some (and_from (is_plain byte) true plain refl)

pub plain_more : (count more : ℕ) (bytes : List ℕ) → list_all is_plain (take count bytes) ≡ true
    → list_all is_plain (take more (drop count bytes)) ≡ true → list_all is_plain (take (count + more) bytes) ≡ true
plain_more count more bytes first next =
    ap (list_all is_plain) (take-add count more bytes) ∙ list_all-append is_plain (take count bytes) (take more (drop count bytes))
    ∙ and_from (list_all is_plain (take count bytes)) (list_all is_plain (take more (drop count bytes))) first next

-- ---- code points in a part of a text

pub all_of_front : (n m : ℕ) (bytes : List ℕ) → n ≤ m → list_all is_plain (take m bytes) ≡ true → list_all is_plain (take n bytes) ≡ true
all_of_front zero m bytes few plain = refl
all_of_front (suc n) m [] few plain = refl
all_of_front (suc n) zero (byte ∷ bytes) few plain = absurd (omega (arith, few))
all_of_front (suc n) (suc m) (byte ∷ bytes) few plain =
    let parts = and_parts (is_plain byte) (list_all is_plain (take m bytes)) plain in
    and_from (is_plain byte) (list_all is_plain (take n bytes)) parts.0 (all_of_front n m bytes (omega (arith, few)) parts.1)

pub range_is : (bytes : List ℕ) (at end : ℕ) → at ≤ end → slice_range bytes at end ≡ drop at (take end bytes)
range_is bytes at end ordered =
    let parts : at + (end - at) ≡ end = omega (arith, ordered) in
    sym (drop-take at (end - at) bytes) ∙ ap (λ (n : ℕ). drop at (take n bytes)) parts

pub length-range : (bytes : List ℕ) (at end : ℕ) → at ≤ end → end ≤ length bytes → length (slice_range bytes at end) ≡ end - at
length-range bytes at end ordered within =
    length-take-le (end - at) (drop at bytes) (omega (arith, ordered, within, length-drop at bytes))

pub first_of_range : (bytes : List ℕ) (at end : ℕ) → at < end → slice_index bytes at ≡ slice_index (slice_range bytes at end) 0
first_of_range bytes at end some =
    let front : 0 < end - at = omega (arith, some) in
    sym (get_or-take (end - at) (drop at bytes) 0 0 front ∙ get_or-drop at bytes 0 0 ∙ ap (slice_index bytes) (omega arith))

-- As many as are tested at once were tested, and the text may end before.
pub plain_in_range : (bytes : List ℕ) (at end run : ℕ) → at < end → end ≤ length bytes → list_all is_plain (take run (drop at bytes)) ≡ true
    → IsVerbatim (slice_range bytes at end) (min run (end - at))
plain_in_range bytes at end run some within plain =
    let count = min run (end - at) in
    let first : count ≤ run = omega arith in
    let second : count ≤ end - at = omega arith in
    let size = length-range bytes at end (omega (arith, some)) within in
    plain_code_points count (slice_range bytes at end) (omega (arith, second, size))
    (ap (list_all is_plain) (take-take count (end - at) (drop at bytes) second) ∙ all_of_front count run (drop at bytes) first plain)

-- The bytes of these code points, in the text that goes on after the part.
pub range_front : (bytes : List ℕ) (at end len : ℕ) → at ≤ end → end ≤ length bytes → IsVerbatim (slice_range bytes at end) len
    → take len (slice_range bytes at end) ≡ take len (drop at bytes)
range_front bytes at end len ordered within verbatim =
    let inside = verbatim.within in
    take-take len (end - at) (drop at bytes) (omega (arith, inside, length-range bytes at end ordered within))

-- ---- a code point that isn't in ASCII

high_symbol : (kind : TextKind) (byte : ℕ) (bytes : List ℕ) (code_point : ℕ) → 128 ≤ byte → (decoded (byte ∷ bytes)).char ≡ Some code_point
    → (first_symbol kind (byte ∷ bytes) ≡ CodePoint code_point) × (symbol_len kind (byte ∷ bytes) ≡ (decoded (byte ∷ bytes)).size)
unfolding first_symbol symbol_len first_code_point code_point_len
high_symbol kind byte bytes code_point high is =
    let none = no_sequence kind byte bytes (ne_eqb byte 27 (λ same. omega (arith, same, high))) in (
      rw none (ap (λ (o : Option ℕ). CodePoint (code_point_of o byte)) is),
      rw none
          (ap (λ (o : Option ℕ). size_of o (decoded (byte ∷ bytes)).size) is),
    )

-- A code point whose first byte isn't in ASCII isn't in ASCII either.
high_code_point : (byte : ℕ) (bytes : List ℕ) (code_point size : ℕ) → 128 ≤ byte
    → byte ∷ bytes ≡ encode_utf8 code_point ++ drop size (byte ∷ bytes) → 128 ≤ code_point
unfolding encode_utf8
high_code_point byte bytes code_point size high is = ⊎_elim (λ low. absurd (below low)) (λ above. above) (cases_lt code_point 128)
  where
    below : code_point < 128 → ⊥
    below low =
        let same : byte ∷ bytes ≡ code_point ∷ drop size (byte ∷ bytes) =
        is ∙ ap (λ (e : List ℕ). e ++ drop size (byte ∷ bytes)) (cond-true _ _ _ (lt-ltb code_point 128 low)) in
        let first : byte ≡ code_point = cc in
        omega (arith, high, low, first)

other_byte : (code_point n : ℕ) → n < 128 → 128 ≤ code_point → not (code_point == n) ≡ true
other_byte code_point n low high = not_from_false (code_point == n) (ne_eqb code_point n (λ same. omega (arith, low, high, same)))

pub high_code_points : (bytes : List ℕ) (code_point : ℕ) → 0 < length bytes → 128 ≤ slice_index bytes 0
    → (decoded bytes).char ≡ Some code_point → is_unprintable code_point ≡ false → IsVerbatim bytes (decoded bytes).size
high_code_points [] code_point some high is visible = absurd (omega arith)
high_code_points (byte ∷ bytes) code_point some high is visible =
    let all = byte ∷ bytes in
    let size = (decoded all).size in
    let spells = SpellsChar-decoded all code_point is in
    let above = high_code_point byte bytes code_point size high spells.bytes in
    let bounds = piece-bounds all some in
    record {
      within = bounds.2;
      code_points = code_point ∷ [];
      verbatim = and_from _ true (and_from (not (is_unprintable code_point)) _ (not_from_false (is_unprintable code_point) visible)
          (and_from (not (code_point == 38)) _ (other_byte code_point 38 (omega arith) above)
          (and_from (not (code_point == 60)) (not (code_point == 62)) (other_byte code_point 60 (omega arith) above)
          (other_byte code_point 62 (omega arith) above)))) refl;
      bytes_are = ap (take size) spells.bytes ∙ take_at (encode_utf8 code_point) (drop size all) size spells.width
          ∙ sym (append-nil (encode_utf8 code_point));
      symbols_are = λ kind.
          let symbol = high_symbol kind byte bytes code_point high is in
          symbols-step kind all some ∙ ap (λ (s : Symbol). s ∷ symbols kind (drop (symbol_len kind all) all)) symbol.0
          ∙ ap (λ (n : ℕ). CodePoint code_point ∷ symbols kind (drop n all)) symbol.1;
    }

-- ---- more code points

pub more_code_points : (bytes : List ℕ) (len more : ℕ) → IsVerbatim bytes len → IsVerbatim (drop len bytes) more
    → IsVerbatim bytes (len + more)
more_code_points bytes len more first second = record {
  within = let one = first.within in let two = second.within in let size = length-drop len bytes in omega (arith, one, two, size);
  code_points = first.code_points ++ second.code_points;
  verbatim = list_all-append is_verbatim first.code_points second.code_points
      ∙ and_from (list_all is_verbatim first.code_points) (list_all is_verbatim second.code_points) first.verbatim second.verbatim;
  bytes_are = take-add len more bytes ∙ ap (λ (b : List ℕ). b ++ take more (drop len bytes)) first.bytes_are
      ∙ ap (λ (b : List ℕ). flat_map encode_utf8 first.code_points ++ b) second.bytes_are
      ∙ sym (flat_map-append encode_utf8 first.code_points second.code_points);
  symbols_are = λ kind.
      let left = symbols kind (drop more (drop len bytes)) in
      first.symbols_are kind ∙ ap (λ (ss : List Symbol). map CodePoint first.code_points ++ ss) (second.symbols_are kind)
      ∙ sym (append_assoc (map CodePoint first.code_points) (map CodePoint second.code_points) left)
      ∙ ap (λ (ss : List Symbol). ss ++ left) (sym (map-append CodePoint first.code_points second.code_points))
      ∙ ap (λ (b : List ℕ). map CodePoint (first.code_points ++ second.code_points) ++ symbols kind b) (drop-drop more len bytes);
}

-- ---- the written text

abbrev code_point_run : ℕ → Run
code_point_run code_point = CodePoints code_point 1

code_points_runs : (code_points : List ℕ) (more : List Symbol) → list_all is_verbatim code_points ≡ true
    → runs_of (map CodePoint code_points ++ more) ≡ map code_point_run code_points ++ runs_of more
code_points_runs [] more verbatim = refl
code_points_runs (code_point ∷ code_points) more verbatim =
    let parts = and_parts (is_verbatim code_point) (list_all is_verbatim code_points) verbatim in
    ap (with_code_point code_point) (code_points_runs code_points more parts.1)
    ∙ visible_run code_point (map code_point_run code_points ++ runs_of more) (visible code_point parts.0)

-- A code point after others.
next_code_point : (kind : TextKind) (look : Look) (code_point : ℕ) (runs : List Run) → is_verbatim code_point ≡ true
    → html_of kind look (CodePoints code_point 1 ∷ runs)
    ≡ highlights kind look false ++ (encode_utf8 code_point ++ html_of kind (after_code_point look false) runs)
next_code_point kind look code_point runs verbatim =
    let others = and_parts (not (code_point == 38)) (not (code_point == 60) && not (code_point == 62))
    (and_parts (not (is_unprintable code_point)) _ verbatim).1 in
    let two = and_parts (not (code_point == 60)) (not (code_point == 62)) others.1 in
    code_points_step kind look code_point 1 runs false (visible code_point verbatim)
    ∙ ap (λ (t : List ℕ). highlights kind look false ++ (escaped t ++ html_of kind (after_code_point look false) runs))
    (cond-false (is_unprintable code_point) (unprintable_text code_point 1) (encode_utf8 code_point) (visible code_point verbatim))
    ∙ ap (λ (t : List ℕ). highlights kind look false ++ (t ++ html_of kind (after_code_point look false) runs))
    (encoded_escaped code_point (not-true (code_point == 38) others.0) (not-true (code_point == 60) two.0)
    (not-true (code_point == 62) two.1))

code_points_html : (kind : TextKind) (look : Look) (code_points : List ℕ) (runs : List Run) → list_all is_verbatim code_points ≡ true
    → flat_map encode_utf8 code_points ++ html_of kind (after_code_point look false) runs
    ≡ html_of kind (after_code_point look false) (map code_point_run code_points ++ runs)
code_points_html kind look [] runs verbatim = refl
code_points_html kind look (code_point ∷ code_points) runs verbatim =
    let parts = and_parts (is_verbatim code_point) (list_all is_verbatim code_points) verbatim in
    let after = after_code_point look false in
    append_assoc (encode_utf8 code_point) (flat_map encode_utf8 code_points) (html_of kind after runs)
    ∙ ap (λ (t : List ℕ). encode_utf8 code_point ++ t) (code_points_html kind look code_points runs parts.1)
    ∙ ap (λ (m : List ℕ). m ++ (encode_utf8 code_point ++ html_of kind after (map code_point_run code_points ++ runs)))
    (sym (no_highlights kind look))
    ∙ sym (next_code_point kind after code_point (map code_point_run code_points ++ runs) parts.0)

-- Code points after a visible code point, or at the start of a passage with the plain style.
pub verbatim_html : (kind : TextKind) (look : Look) (bytes : List ℕ) (len : ℕ) → IsVerbatim bytes len
    → take len bytes ++ html_from kind (after_code_point look false) (drop len bytes) ≡ html_from kind (after_code_point look false) bytes
unfolding html_from
verbatim_html kind look bytes len all =
    let runs = runs_of (symbols kind (drop len bytes)) in
    ap (λ (b : List ℕ). b ++ html_of kind (after_code_point look false) runs) all.bytes_are
    ∙ code_points_html kind look all.code_points runs all.verbatim
    ∙ ap (html_of kind (after_code_point look false))
    (sym (code_points_runs all.code_points (symbols kind (drop len bytes)) all.verbatim) ∙ ap runs_of (sym (all.symbols_are kind)))

pub verbatim_step : (kind : TextKind) (look : Look) (bytes : List ℕ) (len : ℕ) → 0 < len → IsVerbatim bytes len
    → highlights kind look false ++ (take len bytes ++ html_from kind (after_code_point look false) (drop len bytes))
    ≡ html_from kind look bytes
unfolding html_from
verbatim_step kind look bytes len some all = by all.code_points refl
  where
    runs : List Run
    runs = runs_of (symbols kind (drop len bytes))

    by : (code_points : List ℕ) → all.code_points ≡ code_points
        → highlights kind look false ++ (take len bytes ++ html_of kind (after_code_point look false) runs)
        ≡ html_of kind look (runs_of (symbols kind bytes))
    by [] none =
        let empty : length (take len bytes) ≡ 0 = ap length (all.bytes_are ∙ ap (flat_map encode_utf8) none) in
        absurd (omega (arith, some, empty, length-take-le len bytes all.within))
    by (code_point ∷ code_points) is =
        let parts = and_parts (is_verbatim code_point) (list_all is_verbatim code_points)
        (ap (list_all is_verbatim) (sym is) ∙ all.verbatim) in
        ap (λ (b : List ℕ). highlights kind look false ++ (b ++ html_of kind (after_code_point look false) runs))
        (all.bytes_are ∙ ap (flat_map encode_utf8) is)
        ∙ ap (λ (t : List ℕ). highlights kind look false ++ t)
        (append_assoc (encode_utf8 code_point) (flat_map encode_utf8 code_points) (html_of kind (after_code_point look false) runs)
        ∙ ap (λ (t : List ℕ). encode_utf8 code_point ++ t) (code_points_html kind look code_points runs parts.1))
        ∙ sym (next_code_point kind look code_point (map code_point_run code_points ++ runs) parts.0)
        ∙ ap (λ (ls : List ℕ). html_of kind look (map code_point_run ls ++ runs)) (sym is)
        ∙ ap (html_of kind look) (sym (code_points_runs all.code_points (symbols kind (drop len bytes)) all.verbatim)
        ∙ ap runs_of (sym (all.symbols_are kind)))

code_points_style : (style : Style) (code_points : List ℕ) (more : List Symbol)
    → fold style_after_symbol style (map CodePoint code_points ++ more) ≡ fold style_after_symbol style more
code_points_style style [] more = refl
code_points_style style (code_point ∷ code_points) more = code_points_style style code_points more

pub verbatim_style : (kind : TextKind) (style : Style) (bytes : List ℕ) (len : ℕ) → IsVerbatim bytes len
    → style_in kind style (drop len bytes) ≡ style_in kind style bytes
verbatim_style kind style bytes len all =
    sym (ap (fold style_after_symbol style) (all.symbols_are kind)
    ∙ code_points_style style all.code_points (symbols kind (drop len bytes)))

-- ---- plain text

pub plain_written : (kind : TextKind) (bytes : List ℕ) → list_all is_plain bytes ≡ true → passage_html kind plain_style bytes ≡ bytes
plain_written kind bytes plain =
    let n = length bytes in
    let front = take_all n bytes (le_refl n) in
    let look = start_look plain_style in
    passage_is kind plain_style bytes
    ∙ sym (verbatim_html kind look bytes n (plain_code_points n bytes (le_refl n) (ap (list_all is_plain) front ∙ plain)))
    ∙ ap (λ (t : List ℕ). t ++ html_from kind look (drop n bytes)) front
    ∙ ap (λ (d : List ℕ). bytes ++ html_from kind look d) (drop_all n bytes (le_refl n))
    ∙ ap (λ (t : List ℕ). bytes ++ t) (nothing kind) ∙ append-nil bytes
  where
    nothing : (kind : TextKind) → html_from kind (start_look plain_style) [] ≡ []
    nothing kind = sym (html-nil kind (start_look plain_style))
