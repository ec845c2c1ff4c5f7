-- Lemmas about lines: no symbol crosses a line feed, so texts may be split there.
use Rattle.std.proofs.Common.{◌≡◌, ℕ, zero, suc, ◌+◌, ◌-◌, ◌<◌, ◌≤◌, Bool, true, false, List, [], ◌∷◌, ◌++◌, length, take, drop, slice_index, refl, sym, ◌∙◌, ap, arith, ⊎_elim}
use Rattle.std.specs.Prelude.{◌==◌, ◌||◌, ◌&&◌, nat_lt, encode_utf8, fold, if◌then◌else◌}
use Rattle.std.specs.List.{flat_map, list_any, prefix_len}
use Rattle.std.proofs.lemmas.Bool.{and_left, and_right, cases_lt, cond-false, eqb-true}
use Rattle.std.proofs.lemmas.List.{append_assoc, append-nil, get_or_append_left, get_or-append-add, get_or_past, take-append-le}
use Rattle.std.proofs.lemmas.List.Sums.{fold-append}
use Rattle.std.proofs.lemmas.List.Concat.{flat_map-append}
use Rattle.std.proofs.lemmas.List.Sums.{prefix_len-le-length}
use Rattle.bstr.specs.Utf8.{Decoded, decoded, pieces}
use Rattle.bstr.proofs.lemmas.PieceLemmas.{pieces-step, pieces-append}
use Rattle.redo_html.specs.declared.text_kind.TextKind.{TextKind}
use Rattle.redo_html.specs.declared.look.Look.{Look}
use Rattle.redo_html.specs.declared.style.Style.{Style}
use Rattle.redo_html.specs.Laws.{is_plain}
use Rattle.redo_line.specs.Lines.{with_line_feed}
use Rattle.redo_html.specs.declared.text_kind.TextKind.TheVariants.{Log}
use Rattle.redo_html.specs.Lines.{line_parts, style_after, style_after_lines, style_after_symbol}
use Rattle.redo_html.specs.Parts.{part_text}
use Rattle.redo_html.specs.Passage.{escaped, inline_html, passage_html}
use Rattle.redo_html.specs.Private.Highlighting.{highlights_between, after_code_point, with_wanted, start_look, inlines_from, html_from}
use Rattle.redo_html.specs.Passage.Inline.{Text}
use Rattle.redo_html.specs.Shown.{Run, is_unprintable, unprintable_text, run_text, shown_text, code_points_text, with_code_point, with_symbol, runs_of}
use Rattle.redo_html.specs.Shown.Run.{CodePoints, Restyle}
use Rattle.redo_html.specs.Style.{plain_style, restyled}
use Rattle.redo_html.specs.Symbols.{Symbol, code_point_of, size_of, first_code_point, code_point_len, is_parameter, final_byte, begins_sequence, is_link_byte, end_len, link_len, sequence_len, numbers_from, sequence_numbers, has_colours, is_sequence, first_symbol, symbol_len, symbols_after, symbols}
use Rattle.redo_html.specs.Symbols.Symbol.{CodePoint, Sequence}
use Rattle.redo_html.specs.Private.Writing.{style_in}
use Rattle.redo_html.proofs.PassageGroups.{passage_is}
use Rattle.redo_html.proofs.PassageLemmas.{html_of}
use Rattle.redo_html.proofs.SymbolLemmas.{no_link_start, symbols-nil, symbols-step, symbol_bounds, plain_symbol, plain_visible, plain_encoded, visible_run}

-- ---- bytes after a line feed are not in the symbol before it

-- A test of a byte, or of 0 after the end, that a line feed and 0 don't pass.
byte_test : (bytes more : List ℕ) (i byte : ℕ) → i ≤ length bytes → (10 == byte) ≡ false → (0 == byte) ≡ false
    → (slice_index (bytes ++ 10 ∷ more) i == byte) ≡ (slice_index bytes i == byte)
byte_test bytes more i byte within feed none = ⊎_elim inside past (cases_lt i (length bytes))
  where
    inside : i < length bytes → (slice_index (bytes ++ 10 ∷ more) i == byte) ≡ (slice_index bytes i == byte)
    inside below = ap (λ (b : ℕ). b == byte) (get_or_append_left bytes (10 ∷ more) 0 i below)

    past : length bytes ≤ i → (slice_index (bytes ++ 10 ∷ more) i == byte) ≡ (slice_index bytes i == byte)
    past above =
        let is : i ≡ length bytes + 0 = omega (arith, above, within) in
        ap (λ (n : ℕ). slice_index (bytes ++ 10 ∷ more) n == byte) is ∙ ap (λ (b : ℕ). b == byte) (get_or-append-add bytes (10 ∷ more) 0 0)
        ∙ feed ∙ sym none ∙ sym (ap (λ (b : ℕ). b == byte) (get_or_past bytes i 0 above))

parameters_before : (bytes more : List ℕ) → prefix_len is_parameter (bytes ++ 10 ∷ more) ≡ prefix_len is_parameter bytes
parameters_before [] more = refl
parameters_before (byte ∷ bytes) more = ap (λ (n : ℕ). if is_parameter byte then 1 + n else 0) (parameters_before bytes more)

final_test : (x y : ℕ) (bytes more : List ℕ) (byte : ℕ) → (10 == byte) ≡ false → (0 == byte) ≡ false
    → (final_byte ((x ∷ y ∷ bytes) ++ 10 ∷ more) == byte) ≡ (final_byte (x ∷ y ∷ bytes) == byte)
final_test x y bytes more byte feed none =
    let within = prefix_len-le-length is_parameter bytes in
    ap (λ (n : ℕ). slice_index ((x ∷ y ∷ bytes) ++ 10 ∷ more) (2 + n) == byte) (parameters_before bytes more)
    ∙ byte_test (x ∷ y ∷ bytes) more (2 + prefix_len is_parameter bytes) byte (omega (arith, within)) feed none

one_byte : (x : ℕ) (is : Bool) → (x == 27) ≡ is → begins_sequence (x ∷ []) ≡ false
one_byte x true is = rw is refl
one_byte x false is = rw is refl

one_byte_more : (x : ℕ) (more : List ℕ) (is : Bool) → (x == 27) ≡ is → begins_sequence (x ∷ 10 ∷ more) ≡ false
one_byte_more x more true is = rw is refl
one_byte_more x more false is = rw is refl

begins_same : (x y : ℕ) (bytes more : List ℕ) → begins_sequence ((x ∷ y ∷ bytes) ++ 10 ∷ more) ≡ begins_sequence (x ∷ y ∷ bytes)
begins_same x y bytes more =
    ap (λ (m : Bool). (x == 27 && y == 91) && (m || (final_byte ((x ∷ y ∷ bytes) ++ 10 ∷ more) == 75)))
    (final_test x y bytes more 109 refl refl)
    ∙ ap (λ (k : Bool). (x == 27 && y == 91) && ((final_byte (x ∷ y ∷ bytes) == 109) || k)) (final_test x y bytes more 75 refl refl)

link_bytes_before : (bytes more : List ℕ) → prefix_len is_link_byte (bytes ++ 10 ∷ more) ≡ prefix_len is_link_byte bytes
link_bytes_before [] more = refl
link_bytes_before (byte ∷ bytes) more = ap (λ (n : ℕ). if is_link_byte byte then 1 + n else 0) (link_bytes_before bytes more)

-- A line feed ends no link.
end_same : (bytes more : List ℕ) (i next : ℕ) → i ≤ length bytes → next ≡ 1 + i
    → end_len (slice_index (bytes ++ 10 ∷ more) i) (slice_index (bytes ++ 10 ∷ more) next)
    ≡ end_len (slice_index bytes i) (slice_index bytes next)
end_same bytes more i next within is = ⊎_elim inside past (cases_lt i (length bytes))
  where
    inside : i < length bytes → end_len (slice_index (bytes ++ 10 ∷ more) i) (slice_index (bytes ++ 10 ∷ more) next)
        ≡ end_len (slice_index bytes i) (slice_index bytes next)
    inside below =
        ap (λ (b : ℕ). end_len b (slice_index (bytes ++ 10 ∷ more) next)) (get_or_append_left bytes (10 ∷ more) 0 i below)
        ∙ ap (λ (t : Bool). if slice_index bytes i == 7 then 1 else if slice_index bytes i == 27 && t then 2 else 0)
        (byte_test bytes more next 92 (omega (arith, below, is)) refl refl)

    past : length bytes ≤ i → end_len (slice_index (bytes ++ 10 ∷ more) i) (slice_index (bytes ++ 10 ∷ more) next)
        ≡ end_len (slice_index bytes i) (slice_index bytes next)
    past above =
        let at : i ≡ length bytes + 0 = omega (arith, above, within) in
        let feed : slice_index (bytes ++ 10 ∷ more) i ≡ 10 =
        ap (slice_index (bytes ++ 10 ∷ more)) at ∙ get_or-append-add bytes (10 ∷ more) 0 0 in
        ap (λ (b : ℕ). end_len b (slice_index (bytes ++ 10 ∷ more) next)) feed
        ∙ sym (ap (λ (b : ℕ). end_len b (slice_index bytes next)) (get_or_past bytes i 0 above))

link_same : (bytes more : List ℕ) → link_len (bytes ++ 10 ∷ more) ≡ link_len bytes
link_same [] more = refl
link_same (a ∷ []) more =
    sym (no_link_start (a ∷ 10 ∷ more) (and_left _ _ (and_left _ _ (and_right (a == 27) false refl))))
    ∙ no_link_start (a ∷ []) (and_left _ _ (and_left _ _ (and_right (a == 27) false refl)))
link_same (a ∷ b ∷ []) more =
    sym (no_link_start (a ∷ b ∷ 10 ∷ more) (and_left _ _ (and_right (a == 27 && b == 93) false refl)))
    ∙ no_link_start (a ∷ b ∷ []) (and_left _ _ (and_right (a == 27 && b == 93) false refl))
link_same (a ∷ b ∷ c ∷ []) more =
    sym (no_link_start (a ∷ b ∷ c ∷ 10 ∷ more) (and_right (a == 27 && b == 93 && c == 56) false refl))
    ∙ no_link_start (a ∷ b ∷ c ∷ []) (and_right (a == 27 && b == 93 && c == 56) false refl)
link_same (a ∷ b ∷ c ∷ d ∷ bytes) more =
    let line = a ∷ b ∷ c ∷ d ∷ bytes in
    let all = line ++ 10 ∷ more in
    let start = a == 27 && b == 93 && c == 56 && d == 59 in
    let n = prefix_len is_link_byte bytes in
    let len : List ℕ → ℕ → ℕ → ℕ = λ text n end.
    if start && list_any (λ byte. byte == 59) text && nat_lt 0 end then 4 + n + end else 0 in
    let within = prefix_len-le-length is_link_byte bytes in
    ap (λ (k : ℕ). len (take k (bytes ++ 10 ∷ more)) k (end_len (slice_index all (4 + k)) (slice_index all (5 + k))))
    (link_bytes_before bytes more)
    ∙ ap (λ (t : List ℕ). len t n (end_len (slice_index all (4 + n)) (slice_index all (5 + n)))) (take-append-le n bytes (10 ∷ more) within)
    ∙ ap (len (take n bytes) n) (end_same line more (4 + n) (5 + n) (omega (arith, within)) (omega arith))

pub sequence_same : (x : ℕ) (bytes more : List ℕ) → sequence_len ((x ∷ bytes) ++ 10 ∷ more) ≡ sequence_len (x ∷ bytes)
unfolding sequence_len
sequence_same x [] more = cond-false _ _ _ (one_byte_more x more (x == 27) refl) ∙ link_same (x ∷ []) more
    ∙ sym (cond-false _ _ _ (one_byte x (x == 27) refl))
sequence_same x (y ∷ bytes) more =
    let all = (x ∷ y ∷ bytes) ++ 10 ∷ more in
    ap (λ (b : Bool). if b then 3 + prefix_len is_parameter (bytes ++ 10 ∷ more) else link_len all) (begins_same x y bytes more)
    ∙ ap (λ (n : ℕ). if begins_sequence (x ∷ y ∷ bytes) then 3 + n else link_len all) (parameters_before bytes more)
    ∙ ap (λ (n : ℕ). if begins_sequence (x ∷ y ∷ bytes) then 3 + prefix_len is_parameter bytes else n) (link_same (x ∷ y ∷ bytes) more)

is_sequence_same : (kind : TextKind) (x : ℕ) (bytes more : List ℕ)
    → is_sequence kind ((x ∷ bytes) ++ 10 ∷ more) ≡ is_sequence kind (x ∷ bytes)
unfolding is_sequence
is_sequence_same kind x bytes more = rw (sequence_same x bytes more) refl

pub numbers_same : (x y : ℕ) (bytes more : List ℕ) → sequence_numbers ((x ∷ y ∷ bytes) ++ 10 ∷ more) ≡ sequence_numbers (x ∷ y ∷ bytes)
unfolding sequence_numbers
numbers_same x y bytes more =
    let n = prefix_len is_parameter bytes in
    let all = bytes ++ 10 ∷ more in
    ap (λ (b : Bool). if y == 91 && b then numbers_from 0 (take (prefix_len is_parameter all) all) else [])
    (final_test x y bytes more 109 refl refl)
    ∙ ap (λ (k : ℕ). if y == 91 && final_byte (x ∷ y ∷ bytes) == 109 then numbers_from 0 (take k (bytes ++ 10 ∷ more)) else [])
    (parameters_before bytes more)
    ∙ ap (λ (b : List ℕ). if y == 91 && final_byte (x ∷ y ∷ bytes) == 109 then numbers_from 0 b else [])
    (take-append-le n bytes (10 ∷ more) (prefix_len-le-length is_parameter bytes))

decoded_same : (x : ℕ) (bytes more : List ℕ) → decoded ((x ∷ bytes) ++ 10 ∷ more) ≡ decoded (x ∷ bytes)
decoded_same x bytes more =
    let all = (x ∷ bytes) ++ 10 ∷ more in
    let one = pieces-step all (omega arith) in
    let two = pieces-append (length (x ∷ bytes)) (x ∷ bytes) (10 ∷ more) (omega arith) (λ some. refl) in
    let three = pieces-step (x ∷ bytes) (omega arith) in
    heads (sym one ∙ two ∙ ap (λ (ps : List Decoded). ps ++ pieces (10 ∷ more)) three)
  where
    heads : {a b : Decoded} {s t : List Decoded} → a ∷ s ≡ b ∷ t → a ≡ b
    heads same = cc

one_byte_symbol : (kind : TextKind) (x : ℕ) → is_sequence kind (x ∷ []) ≡ false
unfolding is_sequence sequence_len
one_byte_symbol kind x = and_right (has_colours kind) (nat_lt 0 (sequence_len (x ∷ [])))
    (ap (nat_lt 0) (cond-false _ _ _ (one_byte x (x == 27) refl) ∙ sym (no_link_start (x ∷ [])
    (and_left _ _ (and_left _ _ (and_right (x == 27) false refl))))))

first_same : (kind : TextKind) (x : ℕ) (bytes more : List ℕ) → first_symbol kind ((x ∷ bytes) ++ 10 ∷ more) ≡ first_symbol kind (x ∷ bytes)
unfolding first_symbol first_code_point
first_same kind x bytes more = ap (λ (b : Bool). if b then Sequence (sequence_numbers all)
    else CodePoint (code_point_of (decoded all).char x)) (is_sequence_same kind x bytes more)
    ∙ ap (λ (d : Decoded). if is_sequence kind (x ∷ bytes) then Sequence (sequence_numbers all) else CodePoint (code_point_of d.char x))
    (decoded_same x bytes more) ∙ by bytes (is_sequence kind (x ∷ bytes)) refl
  where
    all : List ℕ
    all = (x ∷ bytes) ++ 10 ∷ more

    by : (bytes : List ℕ) (is : Bool) → is_sequence kind (x ∷ bytes) ≡ is
        → (if is_sequence kind (x ∷ bytes) then Sequence (sequence_numbers ((x ∷ bytes) ++ 10 ∷ more))
        else CodePoint (code_point_of (decoded (x ∷ bytes)).char x))
        ≡ (if is_sequence kind (x ∷ bytes) then Sequence (sequence_numbers (x ∷ bytes))
        else CodePoint (code_point_of (decoded (x ∷ bytes)).char x))
    by bytes false is = rw is refl
    by [] true is = absurd (let e : true ≡ false = sym is ∙ one_byte_symbol kind x in cc)
    by (y ∷ bytes) true is = ap (λ (ns : List ℕ). if is_sequence kind (x ∷ y ∷ bytes) then Sequence ns
        else CodePoint (code_point_of (decoded (x ∷ y ∷ bytes)).char x)) (numbers_same x y bytes more)

len_same : (kind : TextKind) (x : ℕ) (bytes more : List ℕ) → symbol_len kind ((x ∷ bytes) ++ 10 ∷ more) ≡ symbol_len kind (x ∷ bytes)
unfolding symbol_len code_point_len
len_same kind x bytes more =
    let all = (x ∷ bytes) ++ 10 ∷ more in
    ap (λ (b : Bool). if b then sequence_len all else size_of (decoded all).char (decoded all).size) (is_sequence_same kind x bytes more)
    ∙ ap (λ (n : ℕ). if is_sequence kind (x ∷ bytes) then n else size_of (decoded all).char (decoded all).size) (sequence_same x bytes more)
    ∙ ap (λ (d : Decoded). if is_sequence kind (x ∷ bytes) then sequence_len (x ∷ bytes) else size_of d.char d.size)
    (decoded_same x bytes more)

-- ---- symbols

feed_plain : is_plain 10 ≡ true
feed_plain = refl

-- The symbols before a line feed, the line feed, and the symbols after it.
symbols_split : (kind : TextKind) (skipped : ℕ) (bytes more : List ℕ) → skipped ≤ length bytes
    → symbols_after kind skipped (bytes ++ 10 ∷ more) ≡ symbols_after kind skipped bytes ++ CodePoint 10 ∷ symbols kind more
unfolding symbols_after
symbols_split kind zero [] more within =
    let symbol = plain_symbol kind 10 more feed_plain in
    symbols-step kind (10 ∷ more) (omega arith)
    ∙ ap (λ (s : Symbol). s ∷ symbols kind (drop (symbol_len kind (10 ∷ more)) (10 ∷ more))) symbol.0
    ∙ ap (λ (n : ℕ). CodePoint 10 ∷ symbols kind (drop n (10 ∷ more))) symbol.1
symbols_split kind (suc skipped) [] more within = absurd (omega arith)
symbols_split kind zero (byte ∷ bytes) more within =
    let bounds = symbol_bounds kind (byte ∷ bytes) (omega arith) in
    ap (λ (s : Symbol). s ∷ symbols_after kind (symbol_len kind ((byte ∷ bytes) ++ 10 ∷ more) - 1) (bytes ++ 10 ∷ more))
    (first_same kind byte bytes more)
    ∙ ap (λ (n : ℕ). first_symbol kind (byte ∷ bytes) ∷ symbols_after kind (n - 1) (bytes ++ 10 ∷ more)) (len_same kind byte bytes more)
    ∙ ap (λ (ss : List Symbol). first_symbol kind (byte ∷ bytes) ∷ ss)
    (symbols_split kind (symbol_len kind (byte ∷ bytes) - 1) bytes more (omega (arith, bounds.0, bounds.1)))
symbols_split kind (suc skipped) (byte ∷ bytes) more within = symbols_split kind skipped bytes more (omega (arith, within))

pub symbols-feed : (kind : TextKind) (bytes more : List ℕ)
    → symbols kind (bytes ++ 10 ∷ more) ≡ symbols kind bytes ++ CodePoint 10 ∷ symbols kind more
symbols-feed kind bytes more = symbols_split kind 0 bytes more (omega arith)

pub style-feed : (kind : TextKind) (style : Style) (bytes more : List ℕ)
    → style_in kind style (bytes ++ 10 ∷ more) ≡ style_in kind (style_in kind style bytes) more
style-feed kind style bytes more = ap (fold style_after_symbol style) (symbols-feed kind bytes more)
    ∙ fold-append style_after_symbol style (symbols kind bytes) (CodePoint 10 ∷ symbols kind more)

-- ---- runs

feed_visible : is_unprintable 10 ≡ false
feed_visible = plain_visible 10 refl

code_point_runs : (code_point : ℕ) (runs more : List Run)
    → with_code_point code_point (runs ++ CodePoints 10 1 ∷ more) ≡ with_code_point code_point runs ++ CodePoints 10 1 ∷ more
code_point_runs code_point [] more = by (code_point == 10) refl
  where
    by : (is : Bool) → (code_point == 10) ≡ is
        → with_code_point code_point (CodePoints 10 1 ∷ more) ≡ CodePoints code_point 1 ∷ CodePoints 10 1 ∷ more
    by true is = rw (ap is_unprintable (eqb-true code_point 10 is) ∙ feed_visible) refl
    by false is = rw (and_right (is_unprintable code_point) (code_point == 10) is) refl
code_point_runs code_point (Restyle numbers ∷ runs) more = refl
code_point_runs code_point (CodePoints next count ∷ runs) more = by (is_unprintable code_point && code_point == next) refl
  where
    by : (same : Bool) → (is_unprintable code_point && code_point == next) ≡ same
        → with_code_point code_point (CodePoints next count ∷ (runs ++ CodePoints 10 1 ∷ more))
        ≡ with_code_point code_point (CodePoints next count ∷ runs) ++ CodePoints 10 1 ∷ more
    by true is = rw is refl
    by false is = rw is refl

symbol_runs : (symbol : Symbol) (runs more : List Run)
    → with_symbol symbol (runs ++ CodePoints 10 1 ∷ more) ≡ with_symbol symbol runs ++ CodePoints 10 1 ∷ more
symbol_runs (CodePoint code_point) runs more = code_point_runs code_point runs more
symbol_runs (Sequence numbers) runs more = refl

runs_split : (symbols more : List Symbol) → runs_of (symbols ++ CodePoint 10 ∷ more) ≡ runs_of symbols ++ CodePoints 10 1 ∷ runs_of more
runs_split [] more = visible_run 10 (runs_of more) feed_visible
runs_split (symbol ∷ symbols) more = ap (with_symbol symbol) (runs_split symbols more) ∙ symbol_runs symbol (runs_of symbols) (runs_of more)

pub runs-feed : (kind : TextKind) (bytes more : List ℕ)
    → runs_of (symbols kind (bytes ++ 10 ∷ more)) ≡ runs_of (symbols kind bytes) ++ CodePoints 10 1 ∷ runs_of (symbols kind more)
runs-feed kind bytes more = ap runs_of (symbols-feed kind bytes more) ∙ runs_split (symbols kind bytes) (symbols kind more)

-- The style after runs.
abbrev style_after_run : Style → Run → Style
style_after_run style (CodePoints code_point count) = style
style_after_run style (Restyle numbers) = restyled style numbers

code_point_run_style : (style : Style) (code_point : ℕ) (runs : List Run)
    → fold style_after_run style (with_code_point code_point runs) ≡ fold style_after_run style runs
code_point_run_style style code_point [] = refl
code_point_run_style style code_point (Restyle numbers ∷ runs) = refl
code_point_run_style style code_point (CodePoints next count ∷ runs) = by (is_unprintable code_point && code_point == next) refl
  where
    by : (same : Bool) → (is_unprintable code_point && code_point == next) ≡ same
        → fold style_after_run style (with_code_point code_point (CodePoints next count ∷ runs)) ≡ fold style_after_run style runs
    by true is = rw is refl
    by false is = rw is refl

runs_style : (style : Style) (symbols : List Symbol) → fold style_after_run style (runs_of symbols) ≡ fold style_after_symbol style symbols
runs_style style [] = refl
runs_style style (CodePoint code_point ∷ symbols) = code_point_run_style style code_point (runs_of symbols) ∙ runs_style style symbols
runs_style style (Sequence numbers ∷ symbols) = runs_style (restyled style numbers) symbols

-- ---- HTML

code_points_html : (kind : TextKind) (look : Look) (code_point count : ℕ) (runs : List Run)
    → html_of kind look (CodePoints code_point count ∷ runs)
    ≡ flat_map (inline_html kind) (highlights_between look (is_unprintable code_point))
    ++ (escaped (code_points_text code_point count) ++ html_of kind (after_code_point look (is_unprintable code_point)) runs)
code_points_html kind look code_point count runs =
    flat_map-append (inline_html kind) (highlights_between look (is_unprintable code_point))
    (Text code_point count ∷ inlines_from (after_code_point look (is_unprintable code_point)) runs)

-- A passage may be split after a line feed where no style is wanted.
html_split : (kind : TextKind) (look : Look) (runs more : List Run) → fold style_after_run look.wanted runs ≡ plain_style
    → html_of kind look (runs ++ CodePoints 10 1 ∷ more)
    ≡ html_of kind look (runs ++ CodePoints 10 1 ∷ []) ++ html_of kind (start_look plain_style) more
html_split kind look [] more plain =
    let highlights = flat_map (inline_html kind) (highlights_between look false) in
    let at : (rest : List Run) → html_of kind look (CodePoints 10 1 ∷ rest)
    ≡ (highlights ++ (10 ∷ [])) ++ html_of kind (start_look plain_style) rest = λ rest.
    code_points_html kind look 10 1 rest
    ∙ ap (λ (o : Bool). flat_map (inline_html kind) (highlights_between look o)
    ++ (escaped (if o then unprintable_text 10 1 else encode_utf8 10) ++ html_of kind (after_code_point look o) rest)) feed_visible
    ∙ ap (λ (t : List ℕ). highlights ++ (escaped t ++ html_of kind (after_code_point look false) rest)) (plain_encoded 10 feed_plain)
    ∙ ap (λ (s : Style). highlights ++ (10 ∷ html_of kind (record { wanted = s; current = s; unprintable = false }) rest)) plain
    ∙ sym (append_assoc highlights (10 ∷ []) (html_of kind (start_look plain_style) rest)) in
    at more ∙ ap (λ (t : List ℕ). t ++ html_of kind (start_look plain_style) more) (sym (at [] ∙ append-nil (highlights ++ 10 ∷ [])))
html_split kind look (Restyle numbers ∷ runs) more plain = html_split kind (with_wanted look (restyled look.wanted numbers)) runs more plain
html_split kind look (CodePoints code_point count ∷ runs) more plain =
    let unprintable = is_unprintable code_point in
    let highlights = flat_map (inline_html kind) (highlights_between look unprintable) in
    let text = escaped (code_points_text code_point count) in
    let first = html_of kind (after_code_point look unprintable) (runs ++ CodePoints 10 1 ∷ []) in
    let last = html_of kind (start_look plain_style) more in
    code_points_html kind look code_point count (runs ++ CodePoints 10 1 ∷ more)
    ∙ ap (λ (t : List ℕ). highlights ++ (text ++ t)) (html_split kind (after_code_point look unprintable) runs more plain)
    ∙ ap (λ (t : List ℕ). highlights ++ t) (sym (append_assoc text first last)) ∙ sym (append_assoc highlights (text ++ first) last)
    ∙ ap (λ (t : List ℕ). t ++ last) (sym (code_points_html kind look code_point count (runs ++ CodePoints 10 1 ∷ [])))

html-feed : (kind : TextKind) (style : Style) (bytes more : List ℕ) → style_in kind style bytes ≡ plain_style
    → html_from kind (start_look style) (bytes ++ 10 ∷ more)
    ≡ html_from kind (start_look style) (bytes ++ 10 ∷ []) ++ html_from kind (start_look plain_style) more
unfolding html_from
html-feed kind style bytes more plain =
    let runs = runs_of (symbols kind bytes) in
    ap (html_of kind (start_look style)) (runs-feed kind bytes more)
    ∙ html_split kind (start_look style) runs (runs_of (symbols kind more)) (runs_style style (symbols kind bytes) ∙ plain)
    ∙ ap (λ (rs : List Run). html_of kind (start_look style) rs ++ html_of kind (start_look plain_style) (runs_of (symbols kind more)))
    (sym (runs-feed kind bytes [] ∙ ap (λ (ss : List Symbol). runs ++ CodePoints 10 1 ∷ runs_of ss) (symbols-nil kind)))

pub passage-feed : (kind : TextKind) (style : Style) (bytes more : List ℕ) → style_in kind style bytes ≡ plain_style
    → passage_html kind style (bytes ++ 10 ∷ more) ≡ passage_html kind style (bytes ++ 10 ∷ []) ++ passage_html kind plain_style more
passage-feed kind style bytes more plain =
    passage_is kind style (bytes ++ 10 ∷ more) ∙ html-feed kind style bytes more plain
    ∙ ap (λ (t : List ℕ). t ++ html_from kind (start_look plain_style) more) (sym (passage_is kind style (bytes ++ 10 ∷ [])))
    ∙ ap (λ (t : List ℕ). passage_html kind style (bytes ++ 10 ∷ []) ++ t) (sym (passage_is kind plain_style more))

-- ---- the shown text

pub shown-feed : (kind : TextKind) (bytes more : List ℕ)
    → shown_text kind (bytes ++ 10 ∷ more) ≡ shown_text kind bytes ++ 10 ∷ shown_text kind more
shown-feed kind bytes more =
    ap (flat_map run_text) (runs-feed kind bytes more)
    ∙ flat_map-append run_text (runs_of (symbols kind bytes)) (CodePoints 10 1 ∷ runs_of (symbols kind more))
    ∙ ap (λ (t : List ℕ). shown_text kind bytes ++ (t ++ shown_text kind more))
    (cond-false (is_unprintable 10) (unprintable_text 10 1) (encode_utf8 10) feed_visible ∙ plain_encoded 10 feed_plain)

pub lines_text : (style : Style) (lines : List (List ℕ))
    → flat_map part_text (line_parts style lines) ≡ shown_text Log (flat_map with_line_feed lines)
lines_text style [] = sym (ap (λ (ss : List Symbol). flat_map run_text (runs_of ss)) (symbols-nil Log))
lines_text style (line ∷ lines) =
    let left = flat_map with_line_feed lines in
    let shown = shown_text Log line in
    ap (λ (t : List ℕ). shown_text Log (with_line_feed line) ++ t) (lines_text (style_after style (with_line_feed line)) lines)
    ∙ ap (λ (t : List ℕ). t ++ shown_text Log left)
    (shown-feed Log line [] ∙ ap (λ (ss : List Symbol). shown ++ 10 ∷ flat_map run_text (runs_of ss)) (symbols-nil Log))
    ∙ append_assoc shown (10 ∷ []) (shown_text Log left) ∙ sym (shown-feed Log line left)
    ∙ ap (shown_text Log) (sym (append_assoc line (10 ∷ []) left))

pub lines_style : (style : Style) (lines : List (List ℕ))
    → style_after_lines style lines ≡ style_after style (flat_map with_line_feed lines)
lines_style style [] = sym (ap (fold style_after_symbol style) (symbols-nil Log))
lines_style style (line ∷ lines) =
    let left = flat_map with_line_feed lines in
    lines_style (style_after style (with_line_feed line)) lines
    ∙ ap (λ (s : Style). style_after s left)
    (style-feed Log style line [] ∙ ap (fold style_after_symbol (style_after style line)) (symbols-nil Log))
    ∙ sym (style-feed Log style line left) ∙ ap (style_after style) (sym (append_assoc line (10 ∷ []) left))
