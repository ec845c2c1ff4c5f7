-- Lemmas about links in a text of a log: they show nothing, and set nothing.
use Rattle.std.proofs.Common.{◌≡◌, ℕ, ◌+◌, ◌<◌, Bool, true, false, List, [], ◌∷◌, ◌++◌, length, take, drop, slice_index, refl, sym, ◌∙◌, ap, arith, ⊎_elim}
use Rattle.std.specs.Prelude.{◌==◌, ◌||◌, fold, encode_utf8, if◌then◌else◌}
use Rattle.std.specs.List.{flat_map, list_all, list_any, prefix_len}
use Rattle.std.proofs.lemmas.Bool.{and_parts, cond-false, cond-true, lt-ltb}
use Rattle.std.proofs.lemmas.List.{append_assoc, get_or-append-add, take_at}
use Rattle.std.proofs.lemmas.List.Folds.{list_any-append}
use Rattle.std.proofs.Math.Seq.{drop-append-add}
use Rattle.redo_html.specs.declared.text_kind.TextKind.TheVariants.{Log}
use Rattle.redo_html.specs.declared.style.Style.{Style}
use Rattle.redo_html.specs.Laws.{IsLink, is_plain}
use Rattle.redo_html.specs.Lines.{style_after, style_after_symbol}
use Rattle.redo_html.specs.Passage.{inline_html, passage_html, passage_inlines}
use Rattle.redo_html.specs.Shown.{is_unprintable, unprintable_text, run_text, runs_of, shown_text}
use Rattle.redo_html.specs.Symbols.{Symbol, is_link_byte, link_text_len, link_text, end_len, link_end_len, sequence_len, sequence_numbers, is_sequence, first_symbol, symbol_len, symbols}
use Rattle.redo_html.specs.Symbols.Symbol.{CodePoint, Sequence}
use Rattle.redo_html.proofs.SymbolLemmas.{link_parts, no_bracket, symbols-step, plain_symbol, plain_visible, plain_encoded, visible_run}

-- ---- how a link is read

passed : (text : List ℕ) (byte : ℕ) (behind : List ℕ) → list_all is_link_byte text ≡ true → is_link_byte byte ≡ false
    → prefix_len is_link_byte (text ++ byte ∷ behind) ≡ length text
passed [] byte behind all stops = rw stops refl
passed (first ∷ text) byte behind all stops =
    let parts = and_parts (is_link_byte first) (list_all is_link_byte text) all in
    ap (λ (b : Bool). if b then 1 + prefix_len is_link_byte (text ++ byte ∷ behind) else 0) parts.0
    ∙ ap (λ (n : ℕ). 1 + n) (passed text byte behind parts.1 stops) ∙ omega arith

abbrev start : List ℕ → List ℕ
start text = 27 ∷ 93 ∷ 56 ∷ 59 ∷ text

-- A text, and the byte after it, in which a link ends.
module _ (text : List ℕ) (byte : ℕ) (behind : List ℕ) (size : ℕ) (all : list_all is_link_byte text ≡ true)
    (url : list_any (λ byte. byte == 59) text ≡ true) (stops : is_link_byte byte ≡ false) (some : 0 < size)
    (ends : end_len byte (slice_index behind 0) ≡ size) where
  abbrev bytes : List ℕ
  bytes = start (text ++ byte ∷ behind)

  text_len : link_text_len bytes ≡ length text
  text_len = passed text byte behind all stops

  text_is : link_text bytes ≡ text
  text_is = ap (λ (n : ℕ). take n (text ++ byte ∷ behind)) text_len ∙ take_at text (byte ∷ behind) (length text) refl

  start_len : (n : ℕ) → 4 + length text + n ≡ length (start text) + n
  start_len n = omega arith

  at_end : (n : ℕ) → slice_index bytes (4 + length text + n) ≡ slice_index (byte ∷ behind) n
  at_end n = ap (slice_index bytes) (start_len n) ∙ get_or-append-add (start text) (byte ∷ behind) n 0

  end_is : link_end_len bytes ≡ size
  end_is =
      let here : 4 + link_text_len bytes ≡ 4 + length text + 0 = omega (arith, text_len) in
      let next : 5 + link_text_len bytes ≡ 4 + length text + 1 = omega (arith, text_len) in
      ap (λ (b : ℕ). end_len b (slice_index bytes (5 + link_text_len bytes))) (ap (slice_index bytes) here ∙ at_end 0)
      ∙ ap (end_len byte) (ap (slice_index bytes) next ∙ at_end 1) ∙ ends

  len_is : sequence_len bytes ≡ 4 + length text + size
  len_is =
      let end = end_is in
      let count = text_len in
      let same : 4 + link_text_len bytes + link_end_len bytes ≡ 4 + length text + size = omega (arith, count, end) in
      sym (no_bracket bytes (λ other. let differ : 93 ≡ 91 = other in omega (arith, differ)))
      ∙ sym (link_parts bytes refl (ap (list_any (λ byte. byte == 59)) text_is ∙ url) (omega (arith, some, end))) ∙ same

  no_numbers : sequence_numbers bytes ≡ []
  unfolding sequence_numbers
  no_numbers = refl

  found : is_sequence Log bytes ≡ true
  unfolding is_sequence
  found = let len = len_is in lt-ltb 0 (sequence_len bytes) (omega (arith, len))

  first : first_symbol Log bytes ≡ Sequence []
  unfolding first_symbol
  first = cond-true _ _ _ found ∙ ap Sequence no_numbers

  size_is : symbol_len Log bytes ≡ 4 + length text + size
  unfolding symbol_len
  size_is = cond-true _ _ _ found ∙ len_is

  read : symbols Log bytes ≡ Sequence [] ∷ symbols Log (drop size (byte ∷ behind))
  read =
      symbols-step Log bytes (omega arith) ∙ ap (λ (s : Symbol). s ∷ symbols Log (drop (symbol_len Log bytes) bytes)) first
      ∙ ap (λ (n : ℕ). Sequence [] ∷ symbols Log (drop n bytes)) (size_is ∙ start_len size)
      ∙ ap (λ (b : List ℕ). Sequence [] ∷ symbols Log b) (drop-append-add (start text) (byte ∷ behind) size)

link_symbols : (link more : List ℕ) → IsLink link → symbols Log (link ++ more) ≡ Sequence [] ∷ symbols Log more
link_symbols link more is = ⊎_elim bell escape is.ends
  where
    text : List ℕ
    text = is.parameters ++ 59 ∷ is.url

    semicolon : list_any (λ byte. byte == 59) text ≡ true
    semicolon = list_any-append (λ byte. byte == 59) is.parameters (59 ∷ is.url) ∙ either (list_any (λ byte. byte == 59) is.parameters)
      where
        either : (b : Bool) → (b || true) ≡ true
        either true = refl
        either false = refl

    whole : (end : List ℕ) → is.end ≡ end → link ++ more ≡ start (text ++ (end ++ more))
    whole end same =
        ap (λ (l : List ℕ). l ++ more) is.whole ∙ ap (λ (e : List ℕ). start (text ++ e) ++ more) same
        ∙ ap start (append_assoc text end more)

    bell : is.end ≡ 7 ∷ [] → symbols Log (link ++ more) ≡ Sequence [] ∷ symbols Log more
    bell same = ap (symbols Log) (whole (7 ∷ []) same) ∙ read text 7 more 1 is.are_link_bytes semicolon refl (omega arith) refl

    escape : is.end ≡ 27 ∷ 92 ∷ [] → symbols Log (link ++ more) ≡ Sequence [] ∷ symbols Log more
    escape same = ap (symbols Log) (whole (27 ∷ 92 ∷ []) same)
        ∙ read text 27 (92 ∷ more) 2 is.are_link_bytes semicolon refl (omega arith) refl

-- ---- the text that it shows

pub link_written : (style : Style) (link more : List ℕ) → IsLink link → passage_html Log style (link ++ more) ≡ passage_html Log style more
unfolding passage_html
link_written style link more is =
    ap (λ (ss : List Symbol). flat_map (inline_html Log) (passage_inlines style (runs_of ss))) (link_symbols link more is)

pub link_style : (style : Style) (link more : List ℕ) → IsLink link → style_after style (link ++ more) ≡ style_after style more
link_style style link more is = ap (fold style_after_symbol style) (link_symbols link more is)

plain_step : (byte : ℕ) (bytes : List ℕ) → is_plain byte ≡ true → shown_text Log (byte ∷ bytes) ≡ byte ∷ shown_text Log bytes
plain_step byte bytes plain =
    let symbol = plain_symbol Log byte bytes plain in
    let visible = plain_visible byte plain in
    let step : symbols Log (byte ∷ bytes) ≡ CodePoint byte ∷ symbols Log bytes =
    symbols-step Log (byte ∷ bytes) (omega arith)
    ∙ ap (λ (s : Symbol). s ∷ symbols Log (drop (symbol_len Log (byte ∷ bytes)) (byte ∷ bytes))) symbol.0
    ∙ ap (λ (n : ℕ). CodePoint byte ∷ symbols Log (drop n (byte ∷ bytes))) symbol.1 in
    ap (λ (ss : List Symbol). flat_map run_text (runs_of ss)) step
    ∙ ap (flat_map run_text) (visible_run byte (runs_of (symbols Log bytes)) visible)
    ∙ ap (λ (t : List ℕ). t ++ shown_text Log bytes)
    (cond-false (is_unprintable byte) (unprintable_text byte 1) (encode_utf8 byte) visible ∙ plain_encoded byte plain)

pub link_shown : (before link more : List ℕ) → list_all is_plain before ≡ true → IsLink link
    → shown_text Log (before ++ (link ++ more)) ≡ before ++ shown_text Log more
link_shown [] link more plain is = ap (λ (ss : List Symbol). flat_map run_text (runs_of ss)) (link_symbols link more is)
link_shown (byte ∷ before) link more plain is =
    let parts = and_parts (is_plain byte) (list_all is_plain before) plain in
    plain_step byte (before ++ (link ++ more)) parts.0 ∙ ap (λ (t : List ℕ). byte ∷ t) (link_shown before link more parts.1 is)
