-- Lemmas about the symbols of a text.
use Rattle.std.proofs.Common.{◌≡◌, ℕ, zero, suc, ◌+◌, ◌-◌, ◌<◌, ◌≤◌, Bool, true, false, List, [], ◌∷◌, ◌++◌, Option, None, Some, length, take, drop, slice_index, get_or, replicate, refl, sym, ◌∙◌, ap, subst, arith, ⊎_elim, inl, inr, ◌⊎◌}
use Rattle.std.specs.Char.{encode_utf8}
use Rattle.std.specs.Prelude.{◌==◌, ◌||◌, ◌&&◌, not, nat_lt, nat_le, if◌then◌else◌}
use Rattle.std.specs.List.{list_all, list_any}
use Rattle.std.proofs.lemmas.Bool.{agree_below_at, cases_lt, and_parts, and_left, and_right, and_from, cond-true, cond-false, eqb-true, eq-eqb, ne_eqb, ltb-true, lt-ltb, le-ltb, le-leb, lt-leb, or_from, or_cases, not-true}
use Rattle.std.proofs.lemmas.Bool.Decides.{nat_tests}
use Rattle.std.proofs.lemmas.List.{get_or_past, take_at, take-append-drop, drop_more}
use Rattle.std.proofs.lemmas.List.Folds.{list_any-append, list_any_more}
use Rattle.bstr.specs.Utf8.{decoded, good}
use Rattle.bstr.proofs.lemmas.PieceLemmas.{value-1, piece-bounds}
use Rattle.bstr.proofs.lemmas.SoundLemmas.{SpellsChar-decoded}
use Rattle.redo_html.specs.declared.text_kind.TextKind.{TextKind}
use Rattle.redo_html.specs.Passage.{escaped_byte}
use Rattle.redo_html.specs.Laws.{is_plain}
use Rattle.redo_html.specs.Shown.{is_unprintable, is_between, unseen_ranges, Run, with_code_point, runs_of}
use Rattle.redo_html.specs.Shown.Run.{CodePoints, Restyle}
use Rattle.redo_html.specs.Symbols.{Symbol, code_point_of, size_of, first_code_point, code_point_len, begins_sequence, final_byte, parameter_count, link_text_len, link_text, begins_link_text, end_len, link_end_len, begins_link, link_len, sequence_len, numbers_from, sequence_numbers, has_colours, is_sequence, first_symbol, symbol_len, symbols_after, symbols}
use Rattle.redo_html.specs.Symbols.Symbol.{CodePoint, Sequence}
use Rattle.redo_html.specs.Private.Writing.{IsSequence, BeginsOther, symbol_code_point}

-- ---- symbols, one after the other

pub symbols-nil : (kind : TextKind) → symbols kind [] ≡ []
unfolding symbols_after
symbols-nil kind = refl

skipped_symbols : (kind : TextKind) (skipped : ℕ) (bytes : List ℕ) → symbols_after kind skipped bytes ≡ symbols kind (drop skipped bytes)
unfolding symbols_after
skipped_symbols kind zero bytes = refl
skipped_symbols kind (suc skipped) [] = refl
skipped_symbols kind (suc skipped) (byte ∷ bytes) = skipped_symbols kind skipped bytes

code_point_some : (char : Option ℕ) (size : ℕ) → 0 < size → 0 < size_of char size
code_point_some None size some = omega arith
code_point_some (Some c) size some = some

code_point_within : (char : Option ℕ) (size n : ℕ) → 0 < n → size ≤ n → size_of char size ≤ n
code_point_within None size n some within = omega arith
code_point_within (Some c) size n some within = within

pub code_point_bounds : (bytes : List ℕ) → 0 < length bytes → (0 < code_point_len bytes) × (code_point_len bytes ≤ length bytes)
unfolding code_point_len
code_point_bounds bytes some =
    let bounds = piece-bounds bytes some in (
      code_point_some (decoded bytes).char (decoded bytes).size (omega (arith, bounds.0)),
      code_point_within (decoded bytes).char
          (decoded bytes).size (length bytes) some bounds.2,
    )

index_within : (bytes : List ℕ) (i byte : ℕ) → slice_index bytes i ≡ byte → 0 < byte → i < length bytes
index_within bytes i byte is some = ⊎_elim (λ inside. inside)
    (λ past. let none = get_or_past bytes i 0 past in absurd (omega (arith, none, is))) (cases_lt i (length bytes))

-- How a link may end.
end_cases : (byte next : ℕ) → 0 < end_len byte next
    → ((byte ≡ 7) × (end_len byte next ≡ 1)) ⊎ ((next ≡ 92) × (end_len byte next ≡ 2))
end_cases byte next some = by (byte == 7) refl
  where
    last : (escape : Bool) → (byte == 7) ≡ false → (byte == 27 && next == 92) ≡ escape
        → ((byte ≡ 7) × (end_len byte next ≡ 1)) ⊎ ((next ≡ 92) × (end_len byte next ≡ 2))
    last true bell is = inr (
      eqb-true next 92 (and_parts (byte == 27) (next == 92) is).1,
      cond-false (byte == 7) 1 (if byte == 27 && next == 92 then 2 else 0) bell ∙ cond-true (byte == 27 && next == 92) 2 0 is,
    )
    last false bell is =
        let none : end_len byte next ≡ 0 =
        cond-false (byte == 7) 1 (if byte == 27 && next == 92 then 2 else 0) bell ∙ cond-false (byte == 27 && next == 92) 2 0 is in
        absurd (omega (arith, some, none))

    by : (bell : Bool) → (byte == 7) ≡ bell → ((byte ≡ 7) × (end_len byte next ≡ 1)) ⊎ ((next ≡ 92) × (end_len byte next ≡ 2))
    by true is = inl (eqb-true byte 7 is, cond-true (byte == 7) 1 (if byte == 27 && next == 92 then 2 else 0) is)
    by false is = last (byte == 27 && next == 92) is refl

abbrev has_url : List ℕ → Bool
has_url bytes = list_any (λ byte. byte == 59) (link_text bytes)

abbrev has_end : List ℕ → Bool
has_end bytes = nat_lt 0 (link_end_len bytes)

abbrev begins_command : List ℕ → Bool
begins_command bytes = slice_index bytes 0 == 27 && slice_index bytes 1 == 93

abbrev begins_8 : List ℕ → Bool
begins_8 bytes = begins_command bytes && slice_index bytes 2 == 56

link_within : (bytes : List ℕ) → 0 < link_end_len bytes → 4 + link_text_len bytes + link_end_len bytes ≤ length bytes
link_within bytes some = ⊎_elim
    (λ bell. let inside = index_within bytes (4 + link_text_len bytes) 7 bell.0 (omega arith) in omega (arith, inside, bell.1))
    (λ escape. let inside = index_within bytes (5 + link_text_len bytes) 92 escape.0 (omega arith) in omega (arith, inside, escape.1))
    (end_cases (slice_index bytes (4 + link_text_len bytes)) (slice_index bytes (5 + link_text_len bytes)) some)

-- The numbers of a sequence, by its last byte and its parameters.
abbrev numbers_by : List ℕ → ℕ → ℕ → List ℕ
numbers_by bytes last count =
    if slice_index bytes 1 == 91 && slice_index bytes last == 109 then numbers_from 0 (take count (drop 2 bytes)) else []

numbers_found : (bytes : List ℕ) (len : ℕ) → len ≡ 3 + parameter_count bytes
    → sequence_numbers bytes ≡ numbers_by bytes (len - 1) (len - 3)
unfolding sequence_numbers
numbers_found bytes len is =
    ap (λ (last : ℕ). numbers_by bytes last (parameter_count bytes)) (omega (arith, is))
    ∙ ap (numbers_by bytes (len - 1)) (omega (arith, is))

no_numbers : (bytes : List ℕ) (len : ℕ) → (slice_index bytes 1 == 91) ≡ false
    → sequence_numbers bytes ≡ numbers_by bytes (len - 1) (len - 3)
unfolding sequence_numbers
no_numbers bytes len other =
    cond-false _ _ _ (and_left (slice_index bytes 1 == 91) (final_byte bytes == 109) other)
    ∙ sym (cond-false _ _ _ (and_left (slice_index bytes 1 == 91) (slice_index bytes (len - 1) == 109) other))

pub sequence_parts : (bytes : List ℕ) → 0 < sequence_len bytes → IsSequence bytes (sequence_len bytes)
unfolding sequence_len
sequence_parts bytes some = by (begins_sequence bytes) refl
  where
    link : (begins : Bool) → begins_sequence bytes ≡ false → begins_link bytes ≡ begins → IsSequence bytes (sequence_len bytes)
    link false other is =
        let none : sequence_len bytes ≡ 0 = cond-false (begins_sequence bytes) (3 + parameter_count bytes) (link_len bytes) other
        ∙ cond-false (begins_link bytes) (4 + link_text_len bytes + link_end_len bytes) 0 is in
        absurd (omega (arith, some, none))
    link true other is =
        let parts = and_parts (begins_link_text bytes && has_url bytes) (has_end bytes) is in
        let start = and_parts (begins_8 bytes) (slice_index bytes 3 == 59) (and_parts (begins_link_text bytes) (has_url bytes) parts.0).0 in
        let two = and_parts (begins_command bytes) (slice_index bytes 2 == 56) start.0 in
        let bracket = eqb-true (slice_index bytes 1) 93 (and_parts (slice_index bytes 0 == 27) (slice_index bytes 1 == 93) two.0).1 in
        let end = ltb-true 0 (link_end_len bytes) parts.1 in
        let within = link_within bytes end in
        let len : sequence_len bytes ≡ 4 + link_text_len bytes + link_end_len bytes =
        cond-false (begins_sequence bytes) (3 + parameter_count bytes) (link_len bytes) other
        ∙ cond-true (begins_link bytes) (4 + link_text_len bytes + link_end_len bytes) 0 is in
        record {
          some = omega (arith, len);
          within = omega (arith, within, len);
          numbers = no_numbers bytes (sequence_len bytes) (ne_eqb (slice_index bytes 1) 91 (λ same. omega (arith, same, bracket)));
        }

    by : (begins : Bool) → begins_sequence bytes ≡ begins → IsSequence bytes (sequence_len bytes)
    by false is = link (begins_link bytes) is refl
    by true is =
        let parts = and_parts (slice_index bytes 0 == 27 && slice_index bytes 1 == 91)
        (final_byte bytes == 109 || final_byte bytes == 75) is in
        let final : (final_byte bytes ≡ 109) ⊎ (final_byte bytes ≡ 75) =
        ⊎_elim (λ m. inl (eqb-true (final_byte bytes) 109 m)) (λ k. inr (eqb-true (final_byte bytes) 75 k))
        (or_cases (final_byte bytes == 109) (final_byte bytes == 75) parts.1) in
        let inside : 2 + parameter_count bytes < length bytes =
        ⊎_elim (λ m. index_within bytes (2 + parameter_count bytes) 109 m (omega arith))
        (λ k. index_within bytes (2 + parameter_count bytes) 75 k (omega arith)) final in
        let len : sequence_len bytes ≡ 3 + parameter_count bytes =
        cond-true (begins_sequence bytes) (3 + parameter_count bytes) (link_len bytes) is in
        record {
          some = omega (arith, len);
          within = omega (arith, inside, len);
          numbers = numbers_found bytes (sequence_len bytes) len;
        }

pub symbol_bounds : (kind : TextKind) (bytes : List ℕ) → 0 < length bytes
    → (0 < symbol_len kind bytes) × (symbol_len kind bytes ≤ length bytes)
unfolding symbol_len is_sequence
symbol_bounds kind bytes some = by (is_sequence kind bytes) refl
  where
    by : (sequence : Bool) → is_sequence kind bytes ≡ sequence → (0 < symbol_len kind bytes) × (symbol_len kind bytes ≤ length bytes)
    by false is = rw is (code_point_bounds bytes some)
    by true is =
        let positive = ltb-true 0 (sequence_len bytes) (and_parts (has_colours kind) (nat_lt 0 (sequence_len bytes)) is).1 in
        let parts = sequence_parts bytes positive in
        rw is (positive, parts.within)

drop_cons : (byte : ℕ) (bytes : List ℕ) (n : ℕ) → 0 < n → drop (n - 1) bytes ≡ drop n (byte ∷ bytes)
drop_cons byte bytes zero some = absurd (omega arith)
drop_cons byte bytes (suc n) some = ap (λ (k : ℕ). drop k bytes) (omega arith)

pub symbols-step : (kind : TextKind) (bytes : List ℕ) → 0 < length bytes
    → symbols kind bytes ≡ first_symbol kind bytes ∷ symbols kind (drop (symbol_len kind bytes) bytes)
unfolding symbols_after
symbols-step kind [] some = absurd (omega arith)
symbols-step kind (byte ∷ bytes) some =
    ap (λ (rest : List Symbol). first_symbol kind (byte ∷ bytes) ∷ rest)
    (skipped_symbols kind (symbol_len kind (byte ∷ bytes) - 1) bytes
    ∙ ap (symbols kind) (drop_cons byte bytes (symbol_len kind (byte ∷ bytes)) (symbol_bounds kind (byte ∷ bytes) some).0))

-- ---- plain bytes

plain_below : (byte : ℕ) → is_plain byte ≡ true → byte < 127
plain_below byte plain = grind (arith, nat_tests)

plain_facts : (byte : ℕ) → is_plain byte ≡ true → (not (byte == 27) && not (is_unprintable byte)) ≡ true
unfolding is_unprintable
plain_facts byte plain = ⊎_elim (λ not_plain. absurd (let e : true ≡ false = sym plain ∙ not-true (is_plain byte) not_plain in cc))
    (λ facts. facts)
    (or_cases (not (is_plain byte)) (not (byte == 27) && not (is_unprintable byte))
    (agree_below_at (λ b. not (is_plain b) || (not (b == 27) && not (is_unprintable b))) (λ b. true) 128 byte refl
    (let below = plain_below byte plain in omega arith)))

pub plain_others : (byte : ℕ) → is_plain byte ≡ true → (not (byte == 38) && (not (byte == 60) && not (byte == 62))) ≡ true
plain_others byte plain = ⊎_elim (λ not_plain. absurd (let e : true ≡ false = sym plain ∙ not-true (is_plain byte) not_plain in cc))
    (λ facts. facts)
    (or_cases (not (is_plain byte)) (not (byte == 38) && (not (byte == 60) && not (byte == 62)))
    (agree_below_at (λ b. not (is_plain b) || (not (b == 38) && (not (b == 60) && not (b == 62)))) (λ b. true) 128 byte refl
    (let below = plain_below byte plain in omega arith)))

pub plain_visible : (byte : ℕ) → is_plain byte ≡ true → is_unprintable byte ≡ false
plain_visible byte plain = not-true (is_unprintable byte)
    (and_parts (not (byte == 27)) (not (is_unprintable byte)) (plain_facts byte plain)).1

pub no_sequence : (kind : TextKind) (byte : ℕ) (bytes : List ℕ) → (byte == 27) ≡ false → is_sequence kind (byte ∷ bytes) ≡ false
unfolding is_sequence sequence_len
no_sequence kind byte bytes other = and_right (has_colours kind) (nat_lt 0 (sequence_len (byte ∷ bytes))) (rw other refl)

pub ascii_symbol : (kind : TextKind) (byte : ℕ) (bytes : List ℕ) → byte < 128 → (byte == 27) ≡ false
    → (first_symbol kind (byte ∷ bytes) ≡ CodePoint byte) × (symbol_len kind (byte ∷ bytes) ≡ 1)
unfolding first_symbol symbol_len first_code_point code_point_len
ascii_symbol kind byte bytes below other =
    let none = no_sequence kind byte bytes other in
    let all = byte ∷ bytes in
    let decodes : decoded all ≡ good byte 1 =
    value-1 (length all) byte (slice_index all 1) (slice_index all 2) (slice_index all 3) (omega arith, omega (arith, below)) in
    (rw (none, decodes) refl, rw (none, decodes) refl)

pub plain_symbol : (kind : TextKind) (byte : ℕ) (bytes : List ℕ) → is_plain byte ≡ true
    → (first_symbol kind (byte ∷ bytes) ≡ CodePoint byte) × (symbol_len kind (byte ∷ bytes) ≡ 1)
plain_symbol kind byte bytes plain =
    ascii_symbol kind byte bytes (let below = plain_below byte plain in omega arith)
    (not-true (byte == 27) (and_parts (not (byte == 27)) (not (is_unprintable byte)) (plain_facts byte plain)).0)

-- ---- bytes with references

reference_below : (byte : ℕ) → (byte == 38 || byte == 60 || byte == 62) ≡ true → byte < 63
reference_below byte is = grind (arith, nat_tests)

reference_facts : (byte : ℕ) → (byte == 38 || byte == 60 || byte == 62) ≡ true → (not (byte == 27) && not (is_unprintable byte)) ≡ true
unfolding is_unprintable
reference_facts byte is = ⊎_elim
    (λ other. absurd (let e : true ≡ false = sym is ∙ not-true (byte == 38 || byte == 60 || byte == 62) other in cc))
    (λ facts. facts)
    (or_cases (not (byte == 38 || byte == 60 || byte == 62)) (not (byte == 27) && not (is_unprintable byte))
    (agree_below_at (λ b. not (b == 38 || b == 60 || b == 62) || (not (b == 27) && not (is_unprintable b))) (λ b. true) 128 byte refl
    (let below = reference_below byte is in omega arith)))

pub reference_symbol : (kind : TextKind) (bytes : List ℕ) → 0 < length bytes
    → (slice_index bytes 0 == 38 || slice_index bytes 0 == 60 || slice_index bytes 0 == 62) ≡ true
    → (first_symbol kind bytes ≡ CodePoint (slice_index bytes 0)) × (symbol_len kind bytes ≡ 1)
    × (is_unprintable (slice_index bytes 0) ≡ false)
reference_symbol kind [] some is = absurd (omega arith)
reference_symbol kind (byte ∷ bytes) some is =
    let facts = and_parts (not (byte == 27)) (not (is_unprintable byte)) (reference_facts byte is) in
    let symbol = ascii_symbol kind byte bytes (let below = reference_below byte is in omega arith) (not-true (byte == 27) facts.0) in
    (symbol.0, symbol.1, not-true (is_unprintable byte) facts.1)

pub reference_encoded : (byte : ℕ) → (byte == 38 || byte == 60 || byte == 62) ≡ true → encode_utf8 byte ≡ byte ∷ []
unfolding encode_utf8
reference_encoded byte is = let below = reference_below byte is in cond-true _ _ _ (lt-ltb byte 128 (omega arith))

pub plain_encoded : (byte : ℕ) → is_plain byte ≡ true → encode_utf8 byte ≡ byte ∷ []
unfolding encode_utf8
plain_encoded byte plain = let below = plain_below byte plain in cond-true _ _ _ (lt-ltb byte 128 (omega arith))

pub plain_escaped : (byte : ℕ) → is_plain byte ≡ true → escaped_byte byte ≡ byte ∷ []
plain_escaped byte plain =
    let others = and_parts (not (byte == 38)) (not (byte == 60) && not (byte == 62)) (plain_others byte plain) in
    let two = and_parts (not (byte == 60)) (not (byte == 62)) others.1 in
    let amp = not-true (byte == 38) others.0 in
    let lt = not-true (byte == 60) two.0 in
    let gt = not-true (byte == 62) two.1 in
    rw (amp, lt, gt) refl

-- ---- visible code points

pub unprintable_byte : (byte : ℕ) → byte < 256 → is_unprintable (0xDC00 + byte) ≡ true
unfolding is_unprintable
unprintable_byte byte below = agree_below_at (λ b. is_unprintable (0xDC00 + b)) (λ b. true) 256 byte refl below

-- The bytes of a visible code point are its UTF-8.
pub visible_bytes : (kind : TextKind) (bytes : List ℕ) (code_point : ℕ) → 0 < length bytes → slice_index bytes 0 < 256
    → first_symbol kind bytes ≡ CodePoint code_point → is_unprintable code_point ≡ false
    → take (symbol_len kind bytes) bytes ≡ encode_utf8 code_point
unfolding first_symbol symbol_len first_code_point code_point_len
visible_bytes kind bytes code_point some byte first visible = by (is_sequence kind bytes) refl
  where
    spelled : (char : Option ℕ) → (decoded bytes).char ≡ char → code_point_of char (slice_index bytes 0) ≡ code_point
        → take (size_of char (decoded bytes).size) bytes ≡ encode_utf8 code_point
    spelled None is same = absurd (let e : false ≡ true = sym visible ∙ ap is_unprintable (sym same)
        ∙ unprintable_byte (slice_index bytes 0) byte in cc)
    spelled (Some c) is same =
        let spells = SpellsChar-decoded bytes c is in
        ap (λ (b : List ℕ). take (decoded bytes).size b) spells.bytes
        ∙ take_at (encode_utf8 c) (drop (decoded bytes).size bytes) (decoded bytes).size spells.width ∙ ap encode_utf8 same

    by : (sequence : Bool) → is_sequence kind bytes ≡ sequence → take (symbol_len kind bytes) bytes ≡ encode_utf8 code_point
    by true is = absurd (let e : Sequence (sequence_numbers bytes)
        ≡ CodePoint code_point = sym (cond-true (is_sequence kind bytes) (Sequence (sequence_numbers bytes))
        (CodePoint (first_code_point bytes)) is) ∙ first in cc)
    by false is =
        let same : CodePoint (first_code_point bytes) ≡ CodePoint code_point =
        sym (cond-false (is_sequence kind bytes) (Sequence (sequence_numbers bytes)) (CodePoint (first_code_point bytes)) is) ∙ first in
        rw is (spelled (decoded bytes).char refl cc)

-- ---- runs

pub visible_run : (code_point : ℕ) (runs : List Run) → is_unprintable code_point ≡ false
    → with_code_point code_point runs ≡ CodePoints code_point 1 ∷ runs
visible_run code_point [] visible = refl
visible_run code_point (Restyle numbers ∷ runs) visible = refl
visible_run code_point (CodePoints next count ∷ runs) visible = rw visible refl

other_run : (code_point other : ℕ) (runs : List Run) → (code_point == other) ≡ false
    → with_code_point code_point (with_code_point other runs) ≡ CodePoints code_point 1 ∷ with_code_point other runs
other_run code_point other [] differs = rw (and_right (is_unprintable code_point) (code_point == other) differs) refl
other_run code_point other (Restyle numbers ∷ runs) differs = rw (and_right (is_unprintable code_point) (code_point == other) differs) refl
other_run code_point other (CodePoints next count ∷ runs) differs = by (is_unprintable other && other == next) refl
  where
    by : (same : Bool) → (is_unprintable other && other == next) ≡ same
        → with_code_point code_point (with_code_point other (CodePoints next count ∷ runs))
        ≡ CodePoints code_point 1 ∷ with_code_point other (CodePoints next count ∷ runs)
    by true is =
        let equal = eqb-true other next (and_parts (is_unprintable other) (other == next) is).1 in
        let apart : (code_point == next) ≡ false = subst (λ (n : ℕ). (code_point == n) ≡ false) equal differs in
        rw (is, and_right (is_unprintable code_point) (code_point == next) apart) refl
    by false is = rw (is, and_right (is_unprintable code_point) (code_point == other) differs) refl

first_run : (code_point : ℕ) (symbols : List Symbol) → BeginsOther code_point symbols
    → with_code_point code_point (runs_of symbols) ≡ CodePoints code_point 1 ∷ runs_of symbols
first_run code_point [] other = refl
first_run code_point (Sequence numbers ∷ symbols) other = refl
first_run code_point (CodePoint next ∷ symbols) other = other_run code_point next (runs_of symbols) other

-- The run of an unprintable code point that occurs in a row.
pub unprintable_run : (code_point count : ℕ) (symbols : List Symbol) → is_unprintable code_point ≡ true → BeginsOther code_point symbols
    → runs_of (replicate (suc count) (CodePoint code_point) ++ symbols) ≡ CodePoints code_point (suc count) ∷ runs_of symbols
unprintable_run code_point zero symbols unprintable other = first_run code_point symbols other
unprintable_run code_point (suc count) symbols unprintable other =
    ap (with_code_point code_point) (unprintable_run code_point count symbols unprintable other)
    ∙ rw (unprintable, eq-eqb code_point code_point refl) refl

-- ---- the size of a sequence

module _ (bytes : List ℕ) where
  pub no_link_start : begins_link_text bytes ≡ false → 0 ≡ link_len bytes
  no_link_start other = sym (cond-false (begins_link bytes) (4 + link_text_len bytes + link_end_len bytes) 0
      (and_left (begins_link_text bytes && has_url bytes) (has_end bytes) (and_left (begins_link_text bytes) (has_url bytes) other)))

  pub no_url : list_any (λ byte. byte == 59) (link_text bytes) ≡ false → 0 ≡ link_len bytes
  no_url none = sym (cond-false (begins_link bytes) (4 + link_text_len bytes + link_end_len bytes) 0
      (and_left (begins_link_text bytes && has_url bytes) (has_end bytes) (and_right (begins_link_text bytes) (has_url bytes) none)))

  pub no_link_end : link_end_len bytes ≡ 0 → 0 ≡ link_len bytes
  no_link_end none = sym (cond-false (begins_link bytes) (4 + link_text_len bytes + link_end_len bytes) 0
      (and_right (begins_link_text bytes && has_url bytes) (has_end bytes) (le-ltb 0 (link_end_len bytes) (omega (arith, none)))))

  pub link_parts : begins_link_text bytes ≡ true → list_any (λ byte. byte == 59) (link_text bytes) ≡ true → 0 < link_end_len bytes
      → 4 + link_text_len bytes + link_end_len bytes ≡ link_len bytes
  link_parts start url end = sym (cond-true (begins_link bytes) (4 + link_text_len bytes + link_end_len bytes) 0
      (and_from (begins_link_text bytes && has_url bytes) (has_end bytes) (and_from (begins_link_text bytes) (has_url bytes) start url)
      (lt-ltb 0 (link_end_len bytes) end)))

  pub start_within : begins_link_text bytes ≡ true → 4 ≤ length bytes
  start_within start =
      let last = (and_parts (begins_8 bytes) (slice_index bytes 3 == 59) start).1 in
      let inside = index_within bytes 3 59 (eqb-true (slice_index bytes 3) 59 last) (omega arith) in omega (arith, inside)

  no_command : begins_command bytes ≡ false → begins_link_text bytes ≡ false
  no_command other = and_left (begins_8 bytes) (slice_index bytes 3 == 59)
      (and_left (begins_command bytes) (slice_index bytes 2 == 56) other)

  no_first_link : (slice_index bytes 0 == 27) ≡ false → begins_link_text bytes ≡ false
  no_first_link other = no_command (and_left (slice_index bytes 0 == 27) (slice_index bytes 1 == 93) other)

  no_second_link : (slice_index bytes 1 == 93) ≡ false → begins_link_text bytes ≡ false
  no_second_link other = no_command (and_right (slice_index bytes 0 == 27) (slice_index bytes 1 == 93) other)

  no_begin : begins_sequence bytes ≡ false → link_len bytes ≡ sequence_len bytes
  unfolding sequence_len
  no_begin other = sym (cond-false (begins_sequence bytes) (3 + parameter_count bytes) (link_len bytes) other)

  pub no_escape : (slice_index bytes 0 ≡ 27 → ⊥) → 0 ≡ sequence_len bytes
  no_escape other = let first = ne_eqb (slice_index bytes 0) 27 other in
      no_link_start (no_first_link first)
      ∙ no_begin (and_left (slice_index bytes 0 == 27 && slice_index bytes 1 == 91) (final_byte bytes == 109 || final_byte bytes == 75)
      (and_left (slice_index bytes 0 == 27) (slice_index bytes 1 == 91) first))

  pub no_bracket : (slice_index bytes 1 ≡ 91 → ⊥) → link_len bytes ≡ sequence_len bytes
  no_bracket other = no_begin
      (and_left (slice_index bytes 0 == 27 && slice_index bytes 1 == 91) (final_byte bytes == 109 || final_byte bytes == 75)
      (and_right (slice_index bytes 0 == 27) (slice_index bytes 1 == 91) (ne_eqb (slice_index bytes 1) 91 other)))

  pub no_final : slice_index bytes 1 ≡ 91 → (final_byte bytes == 109 || final_byte bytes == 75) ≡ false → 0 ≡ sequence_len bytes
  no_final bracket other =
      no_link_start (no_second_link (ne_eqb (slice_index bytes 1) 93 (λ same. omega (arith, same, bracket))))
      ∙ no_begin (and_right (slice_index bytes 0 == 27 && slice_index bytes 1 == 91)
      (final_byte bytes == 109 || final_byte bytes == 75) other)

  pub all_parts : slice_index bytes 0 ≡ 27 → slice_index bytes 1 ≡ 91 → (final_byte bytes == 109 || final_byte bytes == 75) ≡ true
      → 3 + parameter_count bytes ≡ sequence_len bytes
  unfolding sequence_len
  all_parts escape bracket final = sym (cond-true (begins_sequence bytes) (3 + parameter_count bytes) (link_len bytes)
      (and_from (slice_index bytes 0 == 27 && slice_index bytes 1 == 91) (final_byte bytes == 109 || final_byte bytes == 75)
      (and_from (slice_index bytes 0 == 27) (slice_index bytes 1 == 91) (eq-eqb (slice_index bytes 0) 27 escape)
      (eq-eqb (slice_index bytes 1) 91 bracket)) final))

  pub bracket_within : slice_index bytes 1 ≡ 91 → 2 ≤ length bytes
  bracket_within is = let inside = index_within bytes 1 91 is (omega arith) in omega arith

-- ---- the first code point

module _ (bytes : List ℕ) (char : Option ℕ) (decodes : char ≡ (decoded bytes).char) where
  pub some_code_point : (c : ℕ) → char ≡ Some c → (c ≡ first_code_point bytes) × ((decoded bytes).size ≡ code_point_len bytes)
  unfolding first_code_point code_point_len
  some_code_point c is =
      let there = sym is ∙ decodes in
      (ap (λ (o : Option ℕ). code_point_of o (slice_index bytes 0)) there, ap (λ (o : Option ℕ). size_of o (decoded bytes).size) there)

  pub no_code_point : char ≡ None → (0xDC00 + slice_index bytes 0 ≡ first_code_point bytes) × (1 ≡ code_point_len bytes)
  unfolding first_code_point code_point_len
  no_code_point is =
      let none = sym is ∙ decodes in
      (ap (λ (o : Option ℕ). code_point_of o (slice_index bytes 0)) none, ap (λ (o : Option ℕ). size_of o (decoded bytes).size) none)

-- ---- the first symbol

module _ (kind : TextKind) (bytes : List ℕ) where
  pub sequence_symbol : has_colours kind ≡ true → 0 < sequence_len bytes
      → (None ≡ symbol_code_point (first_symbol kind bytes)) × (sequence_len bytes ≡ symbol_len kind bytes)
  unfolding is_sequence first_symbol symbol_len
  sequence_symbol has some =
      let is : is_sequence kind bytes ≡ true =
      and_from (has_colours kind) (nat_lt 0 (sequence_len bytes)) has (lt-ltb 0 (sequence_len bytes) some) in
      (rw is refl, rw is refl)

  pub code_point_symbol : (has_colours kind ≡ false) ⊎ (sequence_len bytes ≡ 0)
      → (Some (first_code_point bytes) ≡ symbol_code_point (first_symbol kind bytes)) × (code_point_len bytes ≡ symbol_len kind bytes)
  unfolding is_sequence first_symbol symbol_len
  code_point_symbol none =
      let is : is_sequence kind bytes ≡ false =
      ⊎_elim (λ no. and_left (has_colours kind) (nat_lt 0 (sequence_len bytes)) no)
      (λ zero. and_right (has_colours kind) (nat_lt 0 (sequence_len bytes)) (le-ltb 0 (sequence_len bytes) (omega (arith, zero)))) none in
      (rw is refl, rw is refl)

-- ---- unprintable code points

-- The ranges are in order: each begins after the end of those before it.
in_order : (i : ℕ) → i < length unseen_ranges
    → list_all (λ range. nat_lt (get_or unseen_ranges i (0, 0)).1 range.0) (drop (i + 1) unseen_ranges) ≡ true
in_order i below = agree_below_at (λ k. list_all (λ range. nat_lt (get_or unseen_ranges k (0, 0)).1 range.0) (drop (k + 1) unseen_ranges))
    (λ k. true) 21 i refl below

none_after : (code_point last : ℕ) (ranges : List (ℕ × ℕ)) → code_point ≤ last → list_all (λ range. nat_lt last range.0) ranges ≡ true
    → list_any (is_between code_point) ranges ≡ false
none_after code_point last [] within later = refl
none_after code_point last (range ∷ ranges) within later =
    let parts = and_parts (nat_lt last range.0) (list_all (λ r. nat_lt last r.0) ranges) later in
    let first = ltb-true last range.0 parts.0 in
    or_from (is_between code_point range) (list_any (is_between code_point) ranges)
    (and_left (nat_le range.0 code_point) (nat_le code_point range.1) (lt-leb range.0 code_point (omega (arith, first, within))))
    (none_after code_point last ranges within parts.1)

-- The first range that doesn't end before a code point decides.
pub range_decides : (code_point i : ℕ) → i < length unseen_ranges → code_point ≤ (get_or unseen_ranges i (0, 0)).1
    → list_any (is_between code_point) (take i unseen_ranges) ≡ false
    → nat_le (get_or unseen_ranges i (0, 0)).0 code_point ≡ list_any (is_between code_point) unseen_ranges
range_decides code_point i below within none =
    let range = get_or unseen_ranges i (0, 0) in
    let test = is_between code_point in
    let later = drop (i + 1) unseen_ranges in
    sym (ap (list_any test) (sym (take-append-drop i unseen_ranges)
    ∙ ap (λ (rs : List (ℕ × ℕ)). take i unseen_ranges ++ rs) (drop_more unseen_ranges i (0, 0) below))
    ∙ list_any-append test (take i unseen_ranges) (range ∷ later)
    ∙ ap (λ (b : Bool). b || (test range || list_any test later)) none
    ∙ ap (λ (b : Bool). test range || b) (none_after code_point range.1 later within (in_order i below))
    ∙ ap (λ (b : Bool). (nat_le range.0 code_point && b) || false) (le-leb code_point range.1 within) ∙ same (nat_le range.0 code_point))
  where
    same : (b : Bool) → ((b && true) || false) ≡ b
    same true = refl
    same false = refl

pub range_before : (code_point i : ℕ) → i < length unseen_ranges → (get_or unseen_ranges i (0, 0)).1 < code_point
    → list_any (is_between code_point) (take i unseen_ranges) ≡ false
    → list_any (is_between code_point) (take (i + 1) unseen_ranges) ≡ false
range_before code_point i below past none =
    let range = get_or unseen_ranges i (0, 0) in
    list_any_more (is_between code_point) unseen_ranges i (0, 0) below
    ∙ or_from _ _ none (and_right (nat_le range.0 code_point) (nat_le code_point range.1) (lt-leb code_point range.1 past))

-- A first symbol that is no code point is a sequence.
pub sequence_found : (kind : TextKind) (bytes : List ℕ) → None ≡ symbol_code_point (first_symbol kind bytes)
    → (first_symbol kind bytes ≡ Sequence (sequence_numbers bytes)) × IsSequence bytes (symbol_len kind bytes)
unfolding first_symbol symbol_len is_sequence
sequence_found kind bytes none = by (is_sequence kind bytes) refl
  where
    by : (sequence : Bool) → is_sequence kind bytes ≡ sequence
        → (first_symbol kind bytes ≡ Sequence (sequence_numbers bytes)) × IsSequence bytes (symbol_len kind bytes)
    by true is =
        let positive = ltb-true 0 (sequence_len bytes) (and_parts (has_colours kind) (nat_lt 0 (sequence_len bytes)) is).1 in (
          cond-true (is_sequence kind bytes) (Sequence (sequence_numbers bytes)) (CodePoint (first_code_point bytes)) is,
          rw is
              (sequence_parts bytes positive),
        )
    by false is = absurd (let code_point : None ≡ Some (first_code_point bytes) = none
        ∙ ap symbol_code_point (cond-false (is_sequence kind bytes) (Sequence (sequence_numbers bytes))
        (CodePoint (first_code_point bytes)) is) in cc)
