-- Lemmas about letters that are easy to tell from their bytes.
use Rattle.std.proofs.Common.{◌≡◌, ℕ, ◌<◌, ◌≤◌, ◌%◌, Bool, true, false, List, [], ◌∷◌, length, slice_index, refl, sym, ◌∙◌, ap, subst, arith, ⊎_elim, inl, inr, ◌⊎◌}
use Rattle.std.specs.Prelude.{◌==◌, ◌||◌, ◌&&◌, not, nat_lt, nat_le}
use Rattle.std.specs.List.{list_all, list_any}
use Rattle.std.proofs.lemmas.Bool.{and_parts, and_left, and_right, or_cases, or_from, eqb-true, ltb-true, leb-true, le-ltb, lt-leb, lt-ltb, ne_eqb, eq-eqb, cond-true, and_from, cases_lt}
use Rattle.bstr.specs.Utf8.{Decoded, continues, second, decoded, good, code_of_2, code_of_3}
use Rattle.bstr.proofs.lemmas.PieceLemmas.{value-6, value-9}
use Rattle.redo_html.specs.Shown.{is_between, is_control, ends_plane, is_unprintable, unseen_ranges}
use Rattle.redo_html.specs.Private.Writing.{IsVerbatim}
use Rattle.redo_html.proofs.VerbatimLemmas.{high_code_points}

-- ---- numbers between which no code point is unprintable

none_between : (low high n : ℕ) (ranges : List (ℕ × ℕ)) → list_all (λ range. nat_lt range.1 low || nat_lt high range.0) ranges ≡ true
    → low ≤ n → n ≤ high → list_any (is_between n) ranges ≡ false
none_between low high n [] apart above below = refl
none_between low high n (range ∷ ranges) apart above below =
    let parts = and_parts (nat_lt range.1 low || nat_lt high range.0) (list_all (λ r. nat_lt r.1 low || nat_lt high r.0) ranges) apart in
    or_from (is_between n range) (list_any (is_between n) ranges)
    (⊎_elim (λ ended. let last = ltb-true range.1 low ended in
    and_right (nat_le range.0 n) (nat_le n range.1) (lt-leb n range.1 (omega (arith, last, above))))
    (λ later. let first = ltb-true high range.0 later in
    and_left (nat_le range.0 n) (nat_le n range.1) (lt-leb range.0 n (omega (arith, first, below))))
    (or_cases (nat_lt range.1 low) (nat_lt high range.0) parts.0))
    (none_between low high n ranges parts.1 above below)

visible_between : (low high n : ℕ) → 128 ≤ low → high < 0xFFFE
    → list_all (λ range. nat_lt range.1 low || nat_lt high range.0) unseen_ranges ≡ true → low ≤ n → n ≤ high → is_unprintable n ≡ false
unfolding is_unprintable
visible_between low high n letter ends apart above below =
    or_from (is_control n) (ends_plane n || list_any (is_between n) unseen_ranges)
    (or_from (nat_lt n 32 && not (n == 9) && not (n == 10)) (n == 127)
    (and_left (nat_lt n 32 && not (n == 9)) (not (n == 10))
    (and_left (nat_lt n 32) (not (n == 9)) (le-ltb n 32 (omega (arith, letter, above)))))
    (ne_eqb n 127 (λ is. omega (arith, is, letter, above))))
    (or_from (ends_plane n) (list_any (is_between n) unseen_ranges)
    (lt-leb 0xFFFE (n % 0x10000) (omega (arith, ends, below)))
    (none_between low high n unseen_ranges apart above below))

-- Whether a byte is the first of a letter of U+00C0 to U+07FF, except in the two blocks of 64 that have unprintable code points.
abbrev pub is_lead_of_2 : ℕ → Bool
is_lead_of_2 first = (nat_le 0xC3 first && nat_le first 0xCC)
    || ((nat_le 0xCE first && nat_le first 0xD7) || (nat_le 0xD9 first && nat_le first 0xDF))

-- Whether two bytes are such a letter.
abbrev pub is_pair : ℕ → ℕ → Bool
is_pair first next = continues next && is_lead_of_2 first

-- Whether three bytes are a letter of U+4000 to U+CFFF, or of some blocks before it: quotation marks, signs, kana, and the scripts of
-- India.
abbrev pub is_triple : ℕ → ℕ → ℕ → Bool
is_triple first next last =
    continues next && (continues last && ((nat_le 0xE4 first && nat_le first 0xEC)
    || ((first == 0xE2 && (next == 0x80 && (nat_le 0x90 last && nat_le last 0xA7)))
    || ((first == 0xE2 && nat_le 0x82 next) || ((first == 0xE3 && not (next == 0x85)) || (first == 0xE0 && nat_le 0xA0 next))))))

-- ---- letters of two bytes

continues_bounds : (byte : ℕ) → continues byte ≡ true → (0x80 ≤ byte) × (byte < 0xC0)
continues_bounds byte is = let parts = and_parts (nat_lt 0x7F byte) (nat_lt byte 0xC0) is in
    (let low = ltb-true 0x7F byte parts.0 in omega (arith, low), ltb-true byte 0xC0 parts.1)

-- A second byte after the first byte of a letter that isn't one of the four with fewer letters.
second_is : (first next : ℕ) → (first == 0xE0) ≡ false → (first == 0xED) ≡ false → (first == 0xF0) ≡ false → (first == 0xF4) ≡ false
    → continues next ≡ true → second first next ≡ true
second_is first next e0 ed f0 f4 is = rw (e0, ed, f0, f4) is

module _ (bytes : List ℕ) (some : 2 ≤ length bytes) where
  abbrev b : ℕ
  b = slice_index bytes 0

  abbrev c : ℕ
  c = slice_index bytes 1

  by_code_2 : 0xC3 ≤ b → b < 0xE0 → continues c ≡ true → is_unprintable (code_of_2 b c) ≡ false → IsVerbatim bytes 2
  by_code_2 low high next visible =
      let two : decoded bytes ≡ good (code_of_2 b c) 2 =
      value-6 (length bytes) b c (slice_index bytes 2) (slice_index bytes 3) (
        some,
        omega (arith, low),
        high,
        second_is b c (ne_eqb b 0xE0 (λ is. omega (arith, is, high))) (ne_eqb b 0xED (λ is. omega (arith, is, high)))
            (ne_eqb b 0xF0 (λ is. omega (arith, is, high))) (ne_eqb b 0xF4 (λ is. omega (arith, is, high))) next,
      ) in
      subst (IsVerbatim bytes) (ap (λ (d : Decoded). d.size) two)
      (high_code_points bytes (code_of_2 b c) (omega (arith, some)) (omega (arith, low)) (ap (λ (d : Decoded). d.char) two) visible)

  pub pair_verbatim : is_pair b c ≡ true → IsVerbatim bytes 2
  pair_verbatim is =
      let parts = and_parts (continues c)
      ((nat_le 0xC3 b && nat_le b 0xCC) || ((nat_le 0xCE b && nat_le b 0xD7) || (nat_le 0xD9 b && nat_le b 0xDF))) is in
      let next = continues_bounds c parts.0 in
      ⊎_elim (λ latin. let ends = and_parts (nat_le 0xC3 b) (nat_le b 0xCC) latin in
      let low = leb-true 0xC3 b ends.0 in
      let high = leb-true b 0xCC ends.1 in
      by_code_2 low (omega (arith, high)) parts.0
      (visible_between 0xC0 0x33F (code_of_2 b c) (omega arith) (omega arith) refl (omega (arith, low, high, next.0, next.1))
      (omega (arith, low, high, next.0, next.1))))
      (λ others. ⊎_elim (λ cyrillic. let ends = and_parts (nat_le 0xCE b) (nat_le b 0xD7) cyrillic in
      let low = leb-true 0xCE b ends.0 in
      let high = leb-true b 0xD7 ends.1 in
      by_code_2 (omega (arith, low)) (omega (arith, high)) parts.0
      (visible_between 0x380 0x5FF (code_of_2 b c) (omega arith) (omega arith) refl (omega (arith, low, high, next.0, next.1))
      (omega (arith, low, high, next.0, next.1))))
      (λ arabic. let ends = and_parts (nat_le 0xD9 b) (nat_le b 0xDF) arabic in
      let low = leb-true 0xD9 b ends.0 in
      let high = leb-true b 0xDF ends.1 in
      by_code_2 (omega (arith, low)) (omega (arith, high)) parts.0
      (visible_between 0x640 0x7FF (code_of_2 b c) (omega arith) (omega arith) refl (omega (arith, low, high, next.0, next.1))
      (omega (arith, low, high, next.0, next.1))))
      (or_cases (nat_le 0xCE b && nat_le b 0xD7) (nat_le 0xD9 b && nat_le b 0xDF) others))
      (or_cases (nat_le 0xC3 b && nat_le b 0xCC) ((nat_le 0xCE b && nat_le b 0xD7) || (nat_le 0xD9 b && nat_le b 0xDF)) parts.1)

-- ---- letters of three bytes

module _ (bytes : List ℕ) (some : 3 ≤ length bytes) where
  abbrev first : ℕ
  first = slice_index bytes 0

  abbrev next : ℕ
  next = slice_index bytes 1

  abbrev last : ℕ
  last = slice_index bytes 2

  by_code_3 : 0xE0 ≤ first → first < 0xF0 → second first next ≡ true → continues last ≡ true
      → is_unprintable (code_of_3 first next last) ≡ false → IsVerbatim bytes 3
  by_code_3 low high second_fits last_fits visible =
      let three : decoded bytes ≡ good (code_of_3 first next last) 3 =
      value-9 (length bytes) first next last (slice_index bytes 3) (some, low, high, second_fits, last_fits) in
      subst (IsVerbatim bytes) (ap (λ (d : Decoded). d.size) three)
      (high_code_points bytes (code_of_3 first next last) (omega (arith, some)) (omega (arith, low))
      (ap (λ (d : Decoded). d.char) three) visible)

  -- The first byte is none of the four with fewer letters.
  by_first : 0xE1 ≤ first → first < 0xED → continues next ≡ true → continues last ≡ true
      → is_unprintable (code_of_3 first next last) ≡ false → IsVerbatim bytes 3
  by_first low high next_fits last_fits visible =
      by_code_3 (omega (arith, low)) (omega (arith, high)) (second_is first next (ne_eqb first 0xE0 (λ is. omega (arith, is, low)))
      (ne_eqb first 0xED (λ is. omega (arith, is, high))) (ne_eqb first 0xF0 (λ is. omega (arith, is, high)))
      (ne_eqb first 0xF4 (λ is. omega (arith, is, high))) next_fits) last_fits visible

  module _ (next_fits : continues next ≡ true) (last_fits : continues last ≡ true) where
    cjk : (nat_le 0xE4 first && nat_le first 0xEC) ≡ true → IsVerbatim bytes 3
    cjk is =
        let n = continues_bounds next next_fits in
        let l = continues_bounds last last_fits in
        let ends = and_parts (nat_le 0xE4 first) (nat_le first 0xEC) is in
        let low = leb-true 0xE4 first ends.0 in
        let high = leb-true first 0xEC ends.1 in
        by_first (omega (arith, low)) (omega (arith, high)) next_fits last_fits
        (visible_between 0x4000 0xCFFF (code_of_3 first next last) (omega arith) (omega arith) refl
        (omega (arith, low, high, n.0, n.1, l.0, l.1)) (omega (arith, low, high, n.0, n.1, l.0, l.1)))

    quotes : (first == 0xE2 && (next == 0x80 && (nat_le 0x90 last && nat_le last 0xA7))) ≡ true → IsVerbatim bytes 3
    quotes is =
        let one = and_parts (first == 0xE2) (next == 0x80 && (nat_le 0x90 last && nat_le last 0xA7)) is in
        let two = and_parts (next == 0x80) (nat_le 0x90 last && nat_le last 0xA7) one.1 in
        let ends = and_parts (nat_le 0x90 last) (nat_le last 0xA7) two.1 in
        let f = eqb-true first 0xE2 one.0 in
        let n = eqb-true next 0x80 two.0 in
        let low = leb-true 0x90 last ends.0 in
        let high = leb-true last 0xA7 ends.1 in
        by_first (omega (arith, f)) (omega (arith, f)) next_fits last_fits
        (visible_between 0x2010 0x2027 (code_of_3 first next last) (omega arith) (omega arith) refl
        (omega (arith, f, n, low, high)) (omega (arith, f, n, low, high)))

    signs : (first == 0xE2 && nat_le 0x82 next) ≡ true → IsVerbatim bytes 3
    signs is =
        let n = continues_bounds next next_fits in
        let l = continues_bounds last last_fits in
        let parts = and_parts (first == 0xE2) (nat_le 0x82 next) is in
        let f = eqb-true first 0xE2 parts.0 in
        let low = leb-true 0x82 next parts.1 in
        by_first (omega (arith, f)) (omega (arith, f)) next_fits last_fits
        (visible_between 0x2080 0x2FFF (code_of_3 first next last) (omega arith) (omega arith) refl
        (omega (arith, f, low, n.1, l.0, l.1)) (omega (arith, f, low, n.1, l.0, l.1)))

    kana : (first == 0xE3 && not (next == 0x85)) ≡ true → IsVerbatim bytes 3
    kana is =
        let n = continues_bounds next next_fits in
        let l = continues_bounds last last_fits in
        let parts = and_parts (first == 0xE3) (not (next == 0x85)) is in
        let f = eqb-true first 0xE3 parts.0 in
        by_first (omega (arith, f)) (omega (arith, f)) next_fits last_fits
        (⊎_elim (λ below. visible_between 0x3000 0x313F (code_of_3 first next last) (omega arith) (omega arith) refl
        (omega (arith, f, below, n.0, l.0, l.1)) (omega (arith, f, below, n.0, l.0, l.1)))
        (λ above. visible_between 0x3180 0x3FFF (code_of_3 first next last) (omega arith) (omega arith) refl
        (omega (arith, f, above, n.1, l.0, l.1)) (omega (arith, f, above, n.1, l.0, l.1)))
        (beside next parts.1))
      where
        beside : (n : ℕ) → not (n == 0x85) ≡ true → (n < 0x85) ⊎ (0x86 ≤ n)
        beside n other = ⊎_elim (λ below. inl below) (λ above. ⊎_elim (λ same. absurd (let e : n ≡ 0x85 = omega (arith, same, above) in
            let t : false ≡ true = sym (ap not (eq-eqb n 0x85 e)) ∙ other in cc)) (λ more. inr more) (cases_lt n 0x86)) (cases_lt n 0x85)

    indic : (first == 0xE0 && nat_le 0xA0 next) ≡ true → IsVerbatim bytes 3
    indic is =
        let n = continues_bounds next next_fits in
        let l = continues_bounds last last_fits in
        let parts = and_parts (first == 0xE0) (nat_le 0xA0 next) is in
        let f = eqb-true first 0xE0 parts.0 in
        let low = leb-true 0xA0 next parts.1 in
        by_code_3 (omega (arith, f)) (omega (arith, f)) (cond-true (first == 0xE0) _ _ parts.0
        ∙ and_from (nat_lt 0x9F next) (nat_lt next 0xC0) (lt-ltb 0x9F next (omega (arith, low))) (lt-ltb next 0xC0 n.1)) last_fits
        (visible_between 0x800 0xFFF (code_of_3 first next last) (omega arith) (omega arith) refl
        (omega (arith, f, low, n.1, l.0, l.1)) (omega (arith, f, low, n.1, l.0, l.1)))

  pub triple_verbatim : is_triple first next last ≡ true → IsVerbatim bytes 3
  triple_verbatim is =
      let a = nat_le 0xE4 first && nat_le first 0xEC in
      let b = first == 0xE2 && (next == 0x80 && (nat_le 0x90 last && nat_le last 0xA7)) in
      let c = first == 0xE2 && nat_le 0x82 next in
      let d = first == 0xE3 && not (next == 0x85) in
      let e = first == 0xE0 && nat_le 0xA0 next in
      let one = and_parts (continues next) (continues last && (a || (b || (c || (d || e))))) is in
      let two = and_parts (continues last) (a || (b || (c || (d || e)))) one.1 in
      ⊎_elim (cjk one.0 two.0) (λ bcde. ⊎_elim (quotes one.0 two.0) (λ cde. ⊎_elim (signs one.0 two.0)
      (λ de. ⊎_elim (kana one.0 two.0) (indic one.0 two.0) (or_cases d e de)) (or_cases c (d || e) cde))
      (or_cases b (c || (d || e)) bcde)) (or_cases a (b || (c || (d || e))) two.1)
