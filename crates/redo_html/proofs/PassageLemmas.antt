-- Lemmas about the HTML of a passage: one step for each kind of symbol, and the end.
use Rattle.std.proofs.Common.{◌≡◌, ℕ, zero, suc, ◌<◌, Bool, true, false, List, [], ◌∷◌, ◌++◌, length, drop, slice_index, refl, sym, ◌∙◌, ap, arith}
use Rattle.std.specs.Prelude.{◌==◌, ◌||◌, ◌&&◌, not, codes, encode_utf8, if◌then◌else◌}
use Rattle.std.specs.List.{flat_map, list_all}
use Rattle.std.proofs.lemmas.Bool.{and_left, and_parts, cond-true, cond-false}
use Rattle.std.proofs.lemmas.List.{append_assoc, append-nil}
use Rattle.std.proofs.lemmas.List.Concat.{flat_map-append}
use Rattle.redo_html.specs.declared.text_kind.TextKind.{TextKind}
use Rattle.redo_html.specs.declared.look.Look.{Look}
use Rattle.redo_html.specs.Passage.{Inline, escaped, escaped_byte, highlight_text, highlight_html, inline_html, has_element, style_start, style_end, is_same_style}
use Rattle.redo_html.specs.Private.Highlighting.{highlight_if, highlights_between, after_code_point, with_wanted, inlines_from, html_from}
use Rattle.redo_html.specs.Passage.Inline.{UnprintableStart, UnprintableEnd, StyleStart, StyleEnd, Text}
use Rattle.redo_html.specs.Laws.{is_plain}
use Rattle.redo_html.specs.Shown.{Run, is_unprintable, unprintable_text, code_points_text, run_text, runs_of, shown_text}
use Rattle.redo_html.specs.Shown.Run.{CodePoints}
use Rattle.redo_html.specs.Style.{restyled}
use Rattle.redo_html.specs.Symbols.{Symbol, first_symbol, symbol_len, symbols}
use Rattle.redo_html.specs.Symbols.Symbol.{CodePoint, Sequence}
use Rattle.redo_html.specs.Private.Writing.{IsRepeated, optional_highlight}
use Rattle.redo_html.proofs.StyleLemmas.{same_as_itself}
use Rattle.redo_html.proofs.TextReading.{safe_escaped, unprintable_safe}
use Rattle.redo_html.proofs.SymbolLemmas.{symbols-nil, symbols-step, plain_symbol, plain_visible, plain_encoded, reference_encoded, reference_symbol, visible_run, unprintable_run}

-- ---- highlights

-- A tag, with its brackets.
abbrev pub bracketed : List ℕ → List ℕ
bracketed tag = 60 ∷ (tag ++ 62 ∷ [])

one_highlight : (kind : TextKind) (wanted : Bool) (highlight : Inline)
    → inline_html kind highlight ≡ highlight_html kind (highlight_text highlight)
    → flat_map (inline_html kind) (highlight_if wanted highlight) ≡ optional_highlight kind wanted (bracketed (highlight_text highlight))
one_highlight kind false highlight is = refl
one_highlight kind true highlight is = append-nil (inline_html kind highlight) ∙ is

style_highlights : (kind : TextKind) (look : Look) (same : Bool)
    → flat_map (inline_html kind) (if same then [] else style_end look.current ++ style_start look.wanted)
    ≡ optional_highlight kind (not same && has_element look.current) (bracketed (highlight_text (StyleEnd look.current)))
    ++ optional_highlight kind (not same && has_element look.wanted) (bracketed (highlight_text (StyleStart look.wanted)))
style_highlights kind look true = refl
style_highlights kind look false =
    flat_map-append (inline_html kind) (style_end look.current) (style_start look.wanted)
    ∙ ap (λ (e : List ℕ). e ++ flat_map (inline_html kind) (style_start look.wanted))
    (one_highlight kind (has_element look.current) (StyleEnd look.current) refl)
    ∙ ap (λ (s : List ℕ). optional_highlight kind (has_element look.current) (bracketed (highlight_text (StyleEnd look.current))) ++ s)
    (one_highlight kind (has_element look.wanted) (StyleStart look.wanted) refl)

-- The highlights before a code point, in the four parts in which they are written.
pub highlights_parts : (kind : TextKind) (look : Look) (unprintable : Bool) →
    let same = is_same_style look.wanted look.current in
    optional_highlight kind (look.unprintable && not (same && unprintable)) (bracketed (highlight_text UnprintableEnd))
    ++ (optional_highlight kind (not same && has_element look.current) (bracketed (highlight_text (StyleEnd look.current)))
    ++ (optional_highlight kind (not same && has_element look.wanted) (bracketed (highlight_text (StyleStart look.wanted)))
    ++ optional_highlight kind (unprintable && not (same && look.unprintable)) (bracketed (highlight_text UnprintableStart))))
    ≡ flat_map (inline_html kind) (highlights_between look unprintable)
highlights_parts kind look unprintable =
    let same = is_same_style look.wanted look.current in
    let a = look.unprintable && not (same && unprintable) in
    let d = unprintable && not (same && look.unprintable) in
    let styles = if same then [] else style_end look.current ++ style_start look.wanted in
    let b = optional_highlight kind (not same && has_element look.current) (bracketed (highlight_text (StyleEnd look.current))) in
    let c = optional_highlight kind (not same && has_element look.wanted) (bracketed (highlight_text (StyleStart look.wanted))) in
    let end = optional_highlight kind a (bracketed (highlight_text UnprintableEnd)) in
    let start = optional_highlight kind d (bracketed (highlight_text UnprintableStart)) in
    ap (λ (t : List ℕ). end ++ t) (sym (append_assoc b c start)) ∙ sym (append_assoc end (b ++ c) start)
    ∙ ap (λ (t : List ℕ). (end ++ t) ++ start) (sym (style_highlights kind look same))
    ∙ ap (λ (t : List ℕ). (t ++ flat_map (inline_html kind) styles) ++ start) (sym (one_highlight kind a UnprintableEnd refl))
    ∙ ap (λ (t : List ℕ). t ++ start) (sym (flat_map-append (inline_html kind) (highlight_if a UnprintableEnd) styles))
    ∙ ap (λ (t : List ℕ). flat_map (inline_html kind) (highlight_if a UnprintableEnd ++ styles) ++ t)
    (sym (one_highlight kind d UnprintableStart refl))
    ∙ sym (flat_map-append (inline_html kind) (highlight_if a UnprintableEnd ++ styles) (highlight_if d UnprintableStart))

-- Between two visible code points without a sequence there are no highlights.
pub no_highlights : (kind : TextKind) (look : Look)
    → flat_map (inline_html kind) (highlights_between (after_code_point look false) false) ≡ []
no_highlights kind look = rw (same_as_itself look.wanted) refl

-- ---- the end

pub html-nil : (kind : TextKind) (look : Look)
    → optional_highlight kind look.unprintable (bracketed (highlight_text UnprintableEnd))
    ++ optional_highlight kind (has_element look.current) (bracketed (highlight_text (StyleEnd look.current))) ≡ html_from kind look []
unfolding html_from
html-nil kind look =
    ap (λ (t : List ℕ). t ++ optional_highlight kind (has_element look.current) (bracketed (highlight_text (StyleEnd look.current))))
    (sym (one_highlight kind look.unprintable UnprintableEnd refl))
    ∙ ap (λ (t : List ℕ). flat_map (inline_html kind) (highlight_if look.unprintable UnprintableEnd) ++ t)
    (sym (one_highlight kind (has_element look.current) (StyleEnd look.current) refl))
    ∙ sym (flat_map-append (inline_html kind) (highlight_if look.unprintable UnprintableEnd) (style_end look.current))
    ∙ ap (λ (ss : List Symbol). flat_map (inline_html kind) (inlines_from look (runs_of ss))) (sym (symbols-nil kind))

-- ---- steps

abbrev pub highlights : TextKind → Look → Bool → List ℕ
highlights kind look unprintable = flat_map (inline_html kind) (highlights_between look unprintable)

abbrev pub html_of : TextKind → Look → List Run → List ℕ
html_of kind look runs = flat_map (inline_html kind) (inlines_from look runs)

pub code_points_step : (kind : TextKind) (look : Look) (code_point count : ℕ) (runs : List Run) (unprintable : Bool)
    → is_unprintable code_point ≡ unprintable
    → html_of kind look (CodePoints code_point count ∷ runs)
    ≡ highlights kind look unprintable ++
    (escaped (code_points_text code_point count) ++ html_of kind (after_code_point look unprintable) runs)
code_points_step kind look code_point count runs unprintable is =
    flat_map-append (inline_html kind) (highlights_between look (is_unprintable code_point))
    (Text code_point count ∷ inlines_from (after_code_point look (is_unprintable code_point)) runs)
    ∙ ap (λ (o : Bool). highlights kind look o
    ++ (escaped (code_points_text code_point count) ++ flat_map (inline_html kind) (inlines_from (after_code_point look o) runs))) is

pub visible_step : (kind : TextKind) (look : Look) (bytes : List ℕ) (code_point : ℕ) → 0 < length bytes
    → first_symbol kind bytes ≡ CodePoint code_point → is_unprintable code_point ≡ false
    → highlights kind look false ++ (escaped (encode_utf8 code_point)
    ++ html_from kind (after_code_point look false) (drop (symbol_len kind bytes) bytes)) ≡ html_from kind look bytes
unfolding html_from
visible_step kind look bytes code_point some first visible =
    let rest = symbols kind (drop (symbol_len kind bytes) bytes) in
    let runs = flat_map (inline_html kind) (inlines_from (after_code_point look false) (runs_of rest)) in
    ap (λ (t : List ℕ). highlights kind look false ++ (escaped t ++ runs))
    (sym (cond-false (is_unprintable code_point) (unprintable_text code_point 1) (encode_utf8 code_point) visible))
    ∙ sym (code_points_step kind look code_point 1 (runs_of rest) false visible)
    ∙ ap (λ (rs : List Run). flat_map (inline_html kind) (inlines_from look rs)) (sym (visible_run code_point (runs_of rest) visible))
    ∙ ap (λ (ss : List Symbol). flat_map (inline_html kind) (inlines_from look (runs_of ss)))
    (sym (symbols-step kind bytes some ∙ ap (λ (s : Symbol). s ∷ rest) first))

pub reference_step : (kind : TextKind) (look : Look) (bytes : List ℕ) → 0 < length bytes
    → (slice_index bytes 0 == 38 || slice_index bytes 0 == 60 || slice_index bytes 0 == 62) ≡ true
    → highlights kind look false ++ (escaped_byte (slice_index bytes 0) ++ html_from kind (after_code_point look false) (drop 1 bytes))
    ≡ html_from kind look bytes
reference_step kind look bytes some is =
    let first = slice_index bytes 0 in
    let found = reference_symbol kind bytes some is in
    let after = after_code_point look false in
    ap (λ (t : List ℕ). highlights kind look false ++ (t ++ html_from kind after (drop 1 bytes)))
    (sym (append-nil (escaped_byte first)) ∙ ap escaped (sym (reference_encoded first is)))
    ∙ ap (λ (n : ℕ). highlights kind look false ++ (escaped (encode_utf8 first) ++ html_from kind after (drop n bytes))) (sym found.1)
    ∙ visible_step kind look bytes first some found.0 found.2

pub unprintable_step : (kind : TextKind) (look : Look) (bytes : List ℕ) (code_point count len : ℕ) → is_unprintable code_point ≡ true
    → IsRepeated kind code_point bytes count len
    → highlights kind look true ++ (escaped (unprintable_text code_point count)
    ++ html_from kind (after_code_point look true) (drop len bytes)) ≡ html_from kind look bytes
unfolding html_from
unprintable_step kind look bytes code_point zero len unprintable repeated = let some = repeated.some in absurd (omega arith)
unprintable_step kind look bytes code_point (suc count) len unprintable repeated =
    let rest = symbols kind (drop len bytes) in
    let runs = flat_map (inline_html kind) (inlines_from (after_code_point look true) (runs_of rest)) in
    ap (λ (t : List ℕ). highlights kind look true ++ (escaped t ++ runs))
    (sym (cond-true (is_unprintable code_point) (unprintable_text code_point (suc count)) (encode_utf8 code_point) unprintable))
    ∙ sym (code_points_step kind look code_point (suc count) (runs_of rest) true unprintable)
    ∙ ap (λ (rs : List Run). flat_map (inline_html kind) (inlines_from look rs))
    (sym (unprintable_run code_point count rest unprintable repeated.other))
    ∙ ap (λ (ss : List Symbol). flat_map (inline_html kind) (inlines_from look (runs_of ss))) (sym repeated.repeated)

pub sequence_step : (kind : TextKind) (look : Look) (bytes numbers : List ℕ) → 0 < length bytes → first_symbol kind bytes ≡ Sequence numbers
    → html_from kind (with_wanted look (restyled look.wanted numbers)) (drop (symbol_len kind bytes) bytes) ≡ html_from kind look bytes
unfolding html_from
sequence_step kind look bytes numbers some first =
    ap (λ (ss : List Symbol). flat_map (inline_html kind) (inlines_from look (runs_of ss)))
    (sym (symbols-step kind bytes some ∙ ap (λ (s : Symbol). s ∷ symbols kind (drop (symbol_len kind bytes) bytes)) first))

-- ---- plain text

pub plain_shown : (kind : TextKind) (bytes : List ℕ) → list_all is_plain bytes ≡ true → shown_text kind bytes ≡ bytes
plain_shown kind [] plain = ap (λ (ss : List Symbol). flat_map run_text (runs_of ss)) (symbols-nil kind)
plain_shown kind (byte ∷ bytes) plain =
    let parts = and_parts (is_plain byte) (list_all is_plain bytes) plain in
    let symbol = plain_symbol kind byte bytes parts.0 in
    let visible = plain_visible byte parts.0 in
    let step : symbols kind (byte ∷ bytes) ≡ CodePoint byte ∷ symbols kind bytes =
    symbols-step kind (byte ∷ bytes) (omega arith)
    ∙ ap (λ (s : Symbol). s ∷ symbols kind (drop (symbol_len kind (byte ∷ bytes)) (byte ∷ bytes))) symbol.0
    ∙ ap (λ (n : ℕ). CodePoint byte ∷ symbols kind (drop n (byte ∷ bytes))) symbol.1 in
    ap (λ (ss : List Symbol). flat_map run_text (runs_of ss)) step
    ∙ ap (flat_map run_text) (visible_run byte (runs_of (symbols kind bytes)) visible)
    ∙ ap (λ (t : List ℕ). t ++ shown_text kind bytes)
    (cond-false (is_unprintable byte) (unprintable_text byte 1) (encode_utf8 byte) visible ∙ plain_encoded byte parts.0)
    ∙ ap (λ (t : List ℕ). byte ∷ t) (plain_shown kind bytes parts.1)

-- The notations of unprintable code points need no escaping.
pub unprintable_written : (kind : TextKind) (look : Look) (bytes : List ℕ) (code_point count len : ℕ) → is_unprintable code_point ≡ true
    → IsRepeated kind code_point bytes count len
    → highlights kind look true ++ (unprintable_text code_point count ++ html_from kind (after_code_point look true) (drop len bytes))
    ≡ html_from kind look bytes
unprintable_written kind look bytes code_point count len unprintable repeated =
    ap (λ (t : List ℕ). highlights kind look true ++ (t ++ html_from kind (after_code_point look true) (drop len bytes)))
    (sym (safe_escaped (unprintable_text code_point count) (unprintable_safe code_point count)))
    ∙ unprintable_step kind look bytes code_point count len unprintable repeated

-- ---- the results of the functions that write highlights

module _ (kind : TextKind) (look : Look) (unprintable ends_unprintable ends_style starts_style starts_unprintable : Bool)
    (style_end_tag style_start_tag : List ℕ)
    (is_ends_unprintable : ends_unprintable ≡ (look.unprintable && not (is_same_style look.wanted look.current && unprintable)))
    (is_ends_style : ends_style ≡ (not (is_same_style look.wanted look.current) && has_element look.current))
    (is_starts_style : starts_style ≡ (not (is_same_style look.wanted look.current) && has_element look.wanted))
    (is_starts_unprintable : starts_unprintable ≡ (unprintable && not (is_same_style look.wanted look.current && look.unprintable)))
    (end_tag : style_end_tag ≡ bracketed (highlight_text (StyleEnd look.current)))
    (start_tag : style_start_tag ≡ bracketed (highlight_text (StyleStart look.wanted))) where
  pub highlights_written : optional_highlight kind ends_unprintable (codes "</i>")
      ++ (optional_highlight kind ends_style style_end_tag
      ++ (optional_highlight kind starts_style style_start_tag ++ optional_highlight kind starts_unprintable (codes "<i>")))
      ≡ flat_map (inline_html kind) (highlights_between look unprintable)
  highlights_written =
      let ends = not (is_same_style look.wanted look.current) && has_element look.current in
      let starts = not (is_same_style look.wanted look.current) && has_element look.wanted in
      let first = optional_highlight kind (look.unprintable && not (is_same_style look.wanted look.current && unprintable))
      (codes "</i>") in
      ap (λ (w : Bool). optional_highlight kind w (codes "</i>")
      ++ (optional_highlight kind ends_style style_end_tag
      ++ (optional_highlight kind starts_style style_start_tag ++ optional_highlight kind starts_unprintable (codes "<i>"))))
      is_ends_unprintable
      ∙ ap (λ (t : List ℕ). first ++ (t ++
      (optional_highlight kind starts_style style_start_tag ++ optional_highlight kind starts_unprintable (codes "<i>"))))
      (ap (λ (w : Bool). optional_highlight kind w style_end_tag) is_ends_style ∙ ap (optional_highlight kind ends) end_tag)
      ∙ ap (λ (t : List ℕ). first ++ (optional_highlight kind ends (bracketed (highlight_text (StyleEnd look.current)))
      ++ (t ++ optional_highlight kind starts_unprintable (codes "<i>"))))
      (ap (λ (w : Bool). optional_highlight kind w style_start_tag) is_starts_style ∙ ap (optional_highlight kind starts) start_tag)
      ∙ ap (λ (w : Bool). first ++ (optional_highlight kind ends (bracketed (highlight_text (StyleEnd look.current)))
      ++ (optional_highlight kind starts (bracketed (highlight_text (StyleStart look.wanted))) ++ optional_highlight kind w (codes "<i>"))))
      is_starts_unprintable
      ∙ highlights_parts kind look unprintable

-- Between two visible code points with different styles.
pub style_change_html : (kind : TextKind) (look : Look) → look.unprintable ≡ false → is_same_style look.wanted look.current ≡ false
    → optional_highlight kind (has_element look.current) (60 ∷ (highlight_text (StyleEnd look.current) ++ 62 ∷ []))
    ++ optional_highlight kind (has_element look.wanted) (60 ∷ (highlight_text (StyleStart look.wanted) ++ 62 ∷ []))
    ≡ flat_map (inline_html kind) (highlights_between look false)
style_change_html kind look visible changes =
    let end_tag = 60 ∷ (highlight_text (StyleEnd look.current) ++ 62 ∷ []) in
    let start_tag = 60 ∷ (highlight_text (StyleStart look.wanted) ++ 62 ∷ []) in
    let first = optional_highlight kind (has_element look.current) end_tag in
    let second = optional_highlight kind (has_element look.wanted) start_tag in
    ap (λ (t : List ℕ). first ++ t) (sym (append-nil second))
    ∙ highlights_written kind look false false (has_element look.current) (has_element look.wanted) false end_tag start_tag
    (sym (and_left look.unprintable (not (is_same_style look.wanted look.current && false)) visible))
    (sym (ap (λ (same : Bool). not same && has_element look.current) changes))
    (sym (ap (λ (same : Bool). not same && has_element look.wanted) changes)) refl refl refl

pub end_written : (kind : TextKind) (look : Look) (has : Bool) (tag : List ℕ) → has ≡ has_element look.current
    → tag ≡ bracketed (highlight_text (StyleEnd look.current))
    → optional_highlight kind look.unprintable (codes "</i>") ++ optional_highlight kind has tag ≡ html_from kind look []
end_written kind look has tag is tag_is =
    ap (λ (t : List ℕ). optional_highlight kind look.unprintable (codes "</i>") ++ t)
    (ap (λ (w : Bool). optional_highlight kind w tag) is ∙ ap (optional_highlight kind (has_element look.current)) tag_is)
    ∙ html-nil kind look
