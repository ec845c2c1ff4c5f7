-- Lemmas about sequences that follow each other, and about the shortest ones.
use Rattle.std.proofs.Common.{◌≡◌, ℕ, zero, suc, None, ◌+◌, ◌-◌, ◌<◌, ◌≤◌, true, false, List, [], ◌∷◌, ◌++◌, length, take, drop, slice_index, refl, sym, ◌∙◌, ap, subst, arith}
use Rattle.std.specs.Prelude.{◌==◌, ◌||◌, ◌&&◌, nat_le, if◌then◌else◌}
use Rattle.std.specs.List.{prefix_len}
use Rattle.std.proofs.lemmas.Bool.{and_parts, leb-true}
use Rattle.std.proofs.lemmas.List.{drop-drop, get_or-drop, length-drop}
use Rattle.std.proofs.lemmas.List.Sums.{prefix_len-drop_no}
use Rattle.redo_html.specs.declared.text_kind.TextKind.{TextKind}
use Rattle.redo_html.specs.declared.text_kind.TextKind.TheVariants.{Log, Monochrome, Title}
use Rattle.redo_html.specs.declared.style.Hue.{Hue}
use Rattle.redo_html.specs.declared.style.Style.{Style}
use Rattle.redo_html.specs.Private.Highlighting.{html_from, with_wanted}
use Rattle.redo_html.specs.Style.{digit_hue, restyled}
use Rattle.redo_html.specs.Symbols.{is_parameter, parameter_count, final_byte, sequence_len, numbers_from, sequence_numbers, has_colours, first_symbol, symbol_len}
use Rattle.redo_html.specs.Symbols.Symbol.{Sequence}
use Rattle.redo_html.specs.Private.Writing.{IsBeforeErase, IsSequence, ReadsPair, ReadsSequence, SkipsSequences, style_in, symbol_code_point}
use Rattle.redo_html.proofs.PassageLemmas.{sequence_step}
use Rattle.redo_html.proofs.StyleLemmas.{sequence_style}
use Rattle.redo_html.proofs.SymbolLemmas.{all_parts, sequence_parts, sequence_symbol, sequence_found}

-- A sequence with `count` bytes of parameters.
pub known_sequence : (bytes : List ℕ) (final count : ℕ) → slice_index bytes 0 ≡ 27 → slice_index bytes 1 ≡ 91
    → parameter_count bytes ≡ count → slice_index bytes (2 + count) ≡ final → (final == 109 || final == 75) ≡ true
    → (3 + count ≡ sequence_len bytes)
    × (sequence_numbers bytes ≡ (if final == 109 then numbers_from 0 (take count (drop 2 bytes)) else []))
unfolding sequence_numbers
known_sequence bytes final count escape bracket size at ends =
    let final_is : final_byte bytes ≡ final = ap (λ (n : ℕ). slice_index bytes (2 + n)) size ∙ at in (
      ap (λ (n : ℕ). 3 + n) (sym size) ∙ all_parts bytes escape bracket (ap (λ (b : ℕ). b == 109 || b == 75) final_is ∙ ends),
      ap (λ (b : ℕ). if b == 91 && final_byte bytes == 109 then numbers_from 0 (take (parameter_count bytes) (drop 2 bytes)) else [])
          bracket
          ∙ ap (λ (f : ℕ). if f == 109 then numbers_from 0 (take (parameter_count bytes) (drop 2 bytes)) else []) final_is
          ∙ ap (λ (n : ℕ). if final == 109 then numbers_from 0 (take n (drop 2 bytes)) else []) size,
    )

-- A sequence without parameters.
pub short_sequence : (bytes : List ℕ) (final : ℕ) → 3 ≤ length bytes → slice_index bytes 0 ≡ 27 → slice_index bytes 1 ≡ 91
    → slice_index bytes 2 ≡ final → is_parameter final ≡ false → (final == 109 || final == 75) ≡ true
    → (3 ≡ sequence_len bytes) × (sequence_numbers bytes ≡ (if final == 109 then 0 ∷ [] else []))
short_sequence bytes final within escape bracket at other ends =
    known_sequence bytes final 0 escape bracket (prefix_len-drop_no is_parameter bytes 2 0 (omega (arith, within))
    (ap is_parameter at ∙ other)) at ends

-- A sequence whose first `count` bytes after `ESC [` were read as parameters, and whose next byte ends it.
pub read_to_end : (bytes parameters : List ℕ) (final count : ℕ) → parameters ≡ drop 2 bytes → slice_index bytes 0 ≡ 27
    → slice_index bytes 1 ≡ 91 → count < length parameters
    → prefix_len is_parameter parameters ≡ count + prefix_len is_parameter (drop count parameters)
    → slice_index parameters count ≡ final → is_parameter final ≡ false → (final == 109 || final == 75) ≡ true
    → (count + 3 ≡ sequence_len bytes)
    × (sequence_numbers bytes ≡ (if final == 109 then numbers_from 0 (take count parameters) else []))
read_to_end bytes parameters final count is escape bracket inside counted at other ends =
    let none = prefix_len-drop_no is_parameter parameters count 0 inside (ap is_parameter at ∙ other) in
    let size : parameter_count bytes ≡ count =
    ap (prefix_len is_parameter) (sym is) ∙ counted ∙ ap (λ (n : ℕ). count + n) none ∙ omega arith in
    let known = known_sequence bytes final count escape bracket size
    (sym (get_or-drop 2 bytes count 0) ∙ ap (λ (l : List ℕ). slice_index l count) (sym is) ∙ at) ends in (
      omega (arith, known.0),
      known.1 ∙ ap (λ (l : List ℕ). if final == 109 then numbers_from 0 (take count l) else []) (sym is),
    )

-- ---- sequences that set bold

next_known : (bytes : List ℕ) (n byte : ℕ) → n < length bytes → slice_index bytes n ≡ byte → drop n bytes ≡ byte ∷ drop (suc n) bytes
next_known [] n byte inside is = absurd (omega (arith, inside))
next_known (x ∷ xs) zero byte inside is = ap (λ (b : ℕ). b ∷ xs) is
next_known (x ∷ xs) (suc n) byte inside is = next_known xs n byte (omega (arith, inside)) is

begins_bold : (bytes : List ℕ) → 4 ≤ length bytes → slice_index bytes 0 ≡ 27 → slice_index bytes 1 ≡ 91 → slice_index bytes 2 ≡ 48
    → slice_index bytes 3 ≡ 49 → bytes ≡ 27 ∷ 91 ∷ 48 ∷ 49 ∷ drop 4 bytes
begins_bold bytes within escape bracket zero_digit one_digit =
    next_known bytes 0 27 (omega (arith, within)) escape
    ∙ ap (λ (l : List ℕ). 27 ∷ l) (next_known bytes 1 91 (omega (arith, within)) bracket)
    ∙ ap (λ (l : List ℕ). 27 ∷ 91 ∷ l) (next_known bytes 2 48 (omega (arith, within)) zero_digit)
    ∙ ap (λ (l : List ℕ). 27 ∷ 91 ∷ 48 ∷ l) (next_known bytes 3 49 (omega (arith, within)) one_digit)

bold_read : (rest : List ℕ) → (5 ≡ sequence_len (27 ∷ 91 ∷ 48 ∷ 49 ∷ 109 ∷ rest))
    × (sequence_numbers (27 ∷ 91 ∷ 48 ∷ 49 ∷ 109 ∷ rest) ≡ 1 ∷ [])
unfolding sequence_len sequence_numbers
bold_read rest = (refl, refl)

pub bold_sequence : (style : Style) (bytes : List ℕ) → 5 ≤ length bytes → slice_index bytes 0 ≡ 27 → slice_index bytes 1 ≡ 91
    → slice_index bytes 2 ≡ 48 → slice_index bytes 3 ≡ 49 → slice_index bytes 4 ≡ 109
    → ReadsSequence style bytes (record { bold = true; hue = style.hue }) 5
bold_sequence style bytes within escape bracket zero_digit one_digit final = λ some. (read.0, sym (ap (restyled style) read.1))
  where
    shape : bytes ≡ 27 ∷ 91 ∷ 48 ∷ 49 ∷ 109 ∷ drop 5 bytes
    shape = begins_bold bytes (omega (arith, within)) escape bracket zero_digit one_digit
        ∙ ap (λ (l : List ℕ). 27 ∷ 91 ∷ 48 ∷ 49 ∷ l) (next_known bytes 4 109 (omega (arith, within)) final)

    read : (5 ≡ sequence_len bytes) × (sequence_numbers bytes ≡ 1 ∷ [])
    read = subst (λ (l : List ℕ). (5 ≡ sequence_len l) × (sequence_numbers l ≡ 1 ∷ [])) (sym shape) (bold_read (drop 5 bytes))

abbrev bold_hue : ℕ → List ℕ → List ℕ
bold_hue digit rest = 27 ∷ 91 ∷ 48 ∷ 49 ∷ 59 ∷ 51 ∷ digit ∷ 109 ∷ rest

hue_read : (style : Style) (k : ℕ) → k < 8 → (rest : List ℕ) → (8 ≡ sequence_len (bold_hue (48 + k) rest))
    × (record { bold = true; hue = digit_hue k } ≡ restyled style (sequence_numbers (bold_hue (48 + k) rest)))
unfolding sequence_len sequence_numbers
hue_read style zero below rest = (refl, refl)
hue_read style (suc zero) below rest = (refl, refl)
hue_read style (suc (suc zero)) below rest = (refl, refl)
hue_read style (suc (suc (suc zero))) below rest = (refl, refl)
hue_read style (suc (suc (suc (suc zero)))) below rest = (refl, refl)
hue_read style (suc (suc (suc (suc (suc zero))))) below rest = (refl, refl)
hue_read style (suc (suc (suc (suc (suc (suc zero)))))) below rest = (refl, refl)
hue_read style (suc (suc (suc (suc (suc (suc (suc zero))))))) below rest = (refl, refl)
hue_read style (suc (suc (suc (suc (suc (suc (suc (suc k)))))))) below rest = absurd (omega (arith, below))

pub bold_hue_sequence : (style : Style) (bytes : List ℕ) (hue : Hue) → 8 ≤ length bytes → slice_index bytes 0 ≡ 27
    → slice_index bytes 1 ≡ 91 → slice_index bytes 2 ≡ 48 → slice_index bytes 3 ≡ 49 → slice_index bytes 4 ≡ 59 → slice_index bytes 5 ≡ 51
    → (nat_le 48 (slice_index bytes 6) && nat_le (slice_index bytes 6) 55) ≡ true → slice_index bytes 7 ≡ 109
    → hue ≡ digit_hue (slice_index bytes 6 - 48) → ReadsSequence style bytes (record { bold = true; hue = hue }) 8
bold_hue_sequence style bytes hue within escape bracket zero_digit one_digit semicolon three octal final is = λ some.
    (read.0, ap (λ (h : Hue). record { bold = true; hue = h }) is ∙ read.1)
  where
    digit : ℕ
    digit = slice_index bytes 6

    ends : (nat_le 48 digit ≡ true) × (nat_le digit 55 ≡ true)
    ends = and_parts (nat_le 48 digit) (nat_le digit 55) octal

    above : 48 ≤ digit
    above = leb-true 48 digit ends.0

    below : digit - 48 < 8
    below = let last = leb-true digit 55 ends.1 in omega (arith, above, last)

    digit_is : 48 + (digit - 48) ≡ digit
    digit_is = omega (arith, above)

    shape : bytes ≡ bold_hue digit (drop 8 bytes)
    shape = begins_bold bytes (omega (arith, within)) escape bracket zero_digit one_digit
        ∙ ap (λ (l : List ℕ). 27 ∷ 91 ∷ 48 ∷ 49 ∷ l) (next_known bytes 4 59 (omega (arith, within)) semicolon)
        ∙ ap (λ (l : List ℕ). 27 ∷ 91 ∷ 48 ∷ 49 ∷ 59 ∷ l) (next_known bytes 5 51 (omega (arith, within)) three)
        ∙ ap (λ (l : List ℕ). 27 ∷ 91 ∷ 48 ∷ 49 ∷ 59 ∷ 51 ∷ l) (next_known bytes 6 digit (omega (arith, within)) refl)
        ∙ ap (λ (l : List ℕ). 27 ∷ 91 ∷ 48 ∷ 49 ∷ 59 ∷ 51 ∷ digit ∷ l) (next_known bytes 7 109 (omega (arith, within)) final)

    read : (8 ≡ sequence_len bytes) × (record { bold = true; hue = digit_hue (digit - 48) } ≡ restyled style (sequence_numbers bytes))
    read = subst (λ (l : List ℕ). (8 ≡ sequence_len l)
        × (record { bold = true; hue = digit_hue (digit - 48) } ≡ restyled style (sequence_numbers l)))
        (ap (λ (d : ℕ). bold_hue d (drop 8 bytes)) digit_is ∙ sym shape) (hue_read style (digit - 48) below (drop 8 bytes))

pub none_skipped : (style : Style) (bytes : List ℕ) → SkipsSequences style bytes style 0
none_skipped style bytes = record {
  within = omega arith;
  html = λ look is. ap (λ (s : Style). html_from Log (with_wanted look s) bytes) (sym is);
  style_left = refl;
}

pub one_more_skipped : (style current next : Style) (bytes : List ℕ) (done len : ℕ) → SkipsSequences style bytes current done → 0 < len
    → ReadsSequence current (drop done bytes) next len → SkipsSequences style bytes next (done + len)
one_more_skipped style current next bytes done len so_far some read = record {
  within = let first = so_far.within in let more = parts.within in let size = length-drop done bytes in
      omega (arith, first, more, size, found.0);
  html = λ look is.
      ap (html_from Log (with_wanted look next)) (sym (drop-drop len done bytes))
      ∙ ap (λ (s : Style). html_from Log (with_wanted look s) (drop len rest)) found.1
      ∙ ap (λ (n : ℕ). html_from Log (with_wanted look (restyled current (sequence_numbers rest))) (drop n rest)) (found.0 ∙ symbol.1)
      ∙ sequence_step Log (with_wanted look current) rest (sequence_numbers rest) some_left first.0 ∙ so_far.html look is;
  style_left =
      ap (style_in Log next) (sym (drop-drop len done bytes)) ∙ ap (λ (s : Style). style_in Log s (drop len rest)) found.1
      ∙ ap (λ (n : ℕ). style_in Log (restyled current (sequence_numbers rest)) (drop n rest)) (found.0 ∙ symbol.1)
      ∙ sequence_style Log current rest some_left (sequence_numbers rest) first.0 ∙ so_far.style_left;
}
  where
    rest : List ℕ
    rest = drop done bytes

    found : (len ≡ sequence_len rest) × (next ≡ restyled current (sequence_numbers rest))
    found = read some

    positive : 0 < sequence_len rest
    positive = omega (arith, some, found.0)

    parts : IsSequence rest (sequence_len rest)
    parts = sequence_parts rest positive

    some_left : 0 < length rest
    some_left = let within = parts.within in omega (arith, within, positive)

    symbol : (None ≡ symbol_code_point (first_symbol Log rest)) × (sequence_len rest ≡ symbol_len Log rest)
    symbol = sequence_symbol Log rest refl positive

    first : (first_symbol Log rest ≡ Sequence (sequence_numbers rest)) × IsSequence rest (symbol_len Log rest)
    first = sequence_found Log rest symbol.0

-- ---- pairs

-- A sequence that ends at an index, and `ESC [ K` after it.
pub pair_read : (style next : Style) (bytes : List ℕ) (at : ℕ) → at + 4 ≤ length bytes → IsBeforeErase bytes at
    → ReadsSequence style bytes next (at + 1) → ReadsPair style bytes next (at + 4)
pair_read style next bytes at within is read = record {
  first = at + 1;
  some = omega arith;
  both = omega arith;
  read = read;
  escape = is.1;
  erase = λ some. (short.0, sym (ap (restyled next) short.1));
}
  where
    index : (n : ℕ) → slice_index (drop (at + 1) bytes) n ≡ slice_index bytes (at + 1 + n)
    index n = get_or-drop (at + 1) bytes n 0

    short : (3 ≡ sequence_len (drop (at + 1) bytes)) × (sequence_numbers (drop (at + 1) bytes) ≡ [])
    short = short_sequence (drop (at + 1) bytes) 75 (let size = length-drop (at + 1) bytes in omega (arith, size, within))
        (index 0 ∙ ap (slice_index bytes) (omega arith) ∙ is.1) (index 1 ∙ ap (slice_index bytes) (omega arith) ∙ is.2)
        (index 2 ∙ ap (slice_index bytes) (omega arith) ∙ is.3) refl refl

pub pair_skipped : (style current next : Style) (bytes : List ℕ) (done len : ℕ) → SkipsSequences style bytes current done
    → ReadsPair current (drop done bytes) next len → SkipsSequences style bytes next (done + len)
pair_skipped style current next bytes done len so_far pair =
    let both = pair.both in
    subst (SkipsSequences style bytes next) (omega (arith, both))
    (one_more_skipped style next next bytes (done + pair.first) 3
    (one_more_skipped style current next bytes done pair.first so_far pair.some pair.read) (omega arith)
    (subst (λ (b : List ℕ). ReadsSequence next b next 3) (drop-drop pair.first done bytes) pair.erase))

-- Only a log has sequences.
pub log_only : (kind : TextKind) → has_colours kind ≡ true → kind ≡ Log
log_only Log has = refl
log_only Monochrome has = absurd (cc)
log_only Title has = absurd (cc)

taken : (xs rest : List ℕ) (n : ℕ) → n < length xs → take n xs ++ slice_index xs n ∷ rest ≡ take (suc n) xs ++ rest
taken [] rest n inside = absurd (omega (arith, inside))
taken (x ∷ xs) rest zero inside = refl
taken (x ∷ xs) rest (suc n) inside = ap (λ (l : List ℕ). x ∷ l) (taken xs rest n (omega (arith, inside)))

pub one_more_taken : (xs rest : List ℕ) (n : ℕ) → n < length xs → take n xs ++ slice_index xs n ∷ rest ≡ take (n + 1) xs ++ rest
one_more_taken xs rest n inside =
    let next : suc n ≡ n + 1 = omega arith in
    taken xs rest n inside ∙ ap (λ (k : ℕ). take k xs ++ rest) next
