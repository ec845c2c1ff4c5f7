-- Lines with and without sequences.
use Rattle.std.proofs.Common.{◌≡◌, ℕ, zero, suc, ◌+◌, ◌-◌, ◌<◌, ◌≤◌, Bool, true, false, cond, List, [], ◌∷◌, ◌++◌, None, Some, length, take, drop, refl, sym, ◌∙◌, ap, arith}
use Rattle.std.proofs.lemmas.Bool.{cond-true, le-ltb, lt-ltb, ne_eqb}
use Rattle.std.proofs.Math.Seq.{drop-append_seam}
use Rattle.std.proofs.lemmas.List.{append-nil, length-append, take_rest}
use Rattle.redo_line.specs.Parts.{split_once}
use Rattle.redo_line.proofs.PartLemmas.{HasNo, are_parts}
use Rattle.redo_html.specs.declared.text_kind.TextKind.TheVariants.{Log}
use Rattle.redo_html.specs.Cut.{begins_at}
use Rattle.redo_html.specs.Symbols.{is_sequence, sequence_len, symbol_len}
use Rattle.redo_html.proofs.CutLemmas.{size_bounds}
use Rattle.redo_diagnostics.specs.Plain.{plain_after, plain_line}
use Rattle.redo_diagnostics.proofs.KeyLemmas.{no_parts}

-- ---- one sequence

abbrev pub escape : ℕ
escape = 27

-- Another byte begins no sequence.
no_escape : (byte : ℕ) (bytes : List ℕ) → (byte ≡ escape → ⊥) → is_sequence Log (byte ∷ bytes) ≡ false
unfolding is_sequence sequence_len
no_escape byte bytes other = rw (ne_eqb byte escape other) refl

begins : (bytes : List ℕ) → 0 < sequence_len bytes → is_sequence Log bytes ≡ true
unfolding is_sequence
begins bytes some = lt-ltb 0 (sequence_len bytes) some

begins_none : (bytes : List ℕ) → sequence_len bytes ≡ 0 → is_sequence Log bytes ≡ false
unfolding is_sequence
begins_none bytes none = le-ltb 0 (sequence_len bytes) (omega (arith, none))

-- A sequence ends within the bytes.
pub sequence_within : (byte : ℕ) (bytes : List ℕ) → 0 < sequence_len (byte ∷ bytes) → sequence_len (byte ∷ bytes) ≤ length (byte ∷ bytes)
unfolding symbol_len begins_at
sequence_within byte bytes some =
    let size : sequence_len (byte ∷ bytes) ≡ symbol_len Log (byte ∷ bytes) =
    sym (cond-true (is_sequence Log (byte ∷ bytes)) _ _ (begins (byte ∷ bytes) some)) in
    let bounds = size_bounds (byte ∷ bytes) 0 (sequence_len (byte ∷ bytes)) (omega arith) refl size in
    omega (arith, bounds.1)

-- ---- the plain line

plain-skip : (n : ℕ) (bytes : List ℕ) → plain_after n bytes ≡ plain_line (drop n bytes)
unfolding plain_after
plain-skip zero bytes = refl
plain-skip (suc n) [] = refl
plain-skip (suc n) (byte ∷ bytes) = plain-skip n bytes

-- What remains from a byte on, by whether a sequence begins there.
abbrev rest_by : Bool → ℕ → List ℕ → List ℕ
rest_by is byte bytes = cond is (plain_line (drop (sequence_len (byte ∷ bytes) - 1) bytes)) (byte ∷ plain_line bytes)

plain-step : (byte : ℕ) (bytes : List ℕ) → plain_line (byte ∷ bytes) ≡ rest_by (is_sequence Log (byte ∷ bytes)) byte bytes
unfolding plain_after
plain-step byte bytes = ap (λ (others : List ℕ). cond (is_sequence Log (byte ∷ bytes)) others (byte ∷ plain_line bytes))
    (plain-skip (sequence_len (byte ∷ bytes) - 1) bytes)

plain-by : (is : Bool) (byte : ℕ) (bytes : List ℕ) → is_sequence Log (byte ∷ bytes) ≡ is → plain_line (byte ∷ bytes) ≡ rest_by is byte bytes
plain-by is byte bytes same = plain-step byte bytes ∙ ap (λ (is : Bool). rest_by is byte bytes) same

pub plain-free : (front others : List ℕ) → HasNo escape front → plain_line (front ++ others) ≡ front ++ plain_line others
plain-free [] others free = refl
plain-free (byte ∷ front) others free =
    plain-by false byte (front ++ others) (no_escape byte (front ++ others) free.0)
    ∙ ap (λ (bs : List ℕ). byte ∷ bs) (plain-free front others free.1)

-- A sequence at the start, and what follows it.
pub plain-start : (others more : List ℕ) → sequence_len (escape ∷ (others ++ more)) ≡ 1 + length others
    → plain_line (escape ∷ (others ++ more)) ≡ plain_line more
plain-start others more is =
    plain-by true escape (others ++ more) (begins (escape ∷ (others ++ more)) (omega (arith, is)))
    ∙ ap (λ (n : ℕ). plain_line (drop n (others ++ more))) (omega (arith, is)) ∙ ap plain_line (drop-append_seam others more)

plain-nil : plain_line [] ≡ []
unfolding plain_after
plain-nil = refl

pub plain-rest : (left : List ℕ) → split_once escape left ≡ None → plain_line left ≡ left
plain-rest left is =
    ap plain_line (sym (append-nil left)) ∙ plain-free left [] (no_parts escape left is) ∙ ap (λ (bs : List ℕ). left ++ bs) plain-nil
    ∙ append-nil left

module _ (left front behind : List ℕ) (parts : split_once escape left ≡ Some (front, behind)) where
  plain-here : (is : Bool) → is_sequence Log (escape ∷ behind) ≡ is → plain_line left ≡ front ++ rest_by is escape behind
  plain-here is same =
      let whole = are_parts escape left (front, behind) parts in
      ap plain_line whole.whole ∙ plain-free front (escape ∷ behind) whole.free
      ∙ ap (λ (bs : List ℕ). front ++ bs) (plain-by is escape behind same)

  pub front_within : length front ≤ length left
  front_within =
      let size = ap length (are_parts escape left (front, behind) parts).whole ∙ length-append front (escape ∷ behind) in
      omega (arith, size)

  -- The bytes from the escape byte on, and the length of the sequence there.
  abbrev pub from_escape : List ℕ
  from_escape = take (length left - length front) (drop (length front) left)

  from_escape_is : from_escape ≡ escape ∷ behind
  from_escape_is =
      take_rest left (length front) ∙ ap (drop (length front)) (are_parts escape left (front, behind) parts).whole
      ∙ drop-append_seam front (escape ∷ behind)

  module _ (n : ℕ) (counted : n ≡ sequence_len from_escape) where
    count_is : n ≡ sequence_len (escape ∷ behind)
    count_is = counted ∙ ap sequence_len from_escape_is

    pub within : 0 < n → n - 1 ≤ length behind
    within some =
        let is = count_is in
        let bound = sequence_within escape behind (omega (arith, is, some)) in omega (arith, is, bound)

    pub plain-sequence : 0 < n → plain_line left ≡ front ++ plain_line (take (length behind - (n - 1)) (drop (n - 1) behind))
    plain-sequence some =
        let is = count_is in
        plain-here true (begins (escape ∷ behind) (omega (arith, is, some)))
        ∙ ap (λ (n : ℕ). front ++ plain_line (drop (n - 1) behind)) (sym is)
        ∙ ap (λ (bs : List ℕ). front ++ plain_line bs) (sym (take_rest behind (n - 1)))

    pub plain-escape : n ≡ 0 → plain_line left ≡ front ++ escape ∷ plain_line behind
    plain-escape none = plain-here false (begins_none (escape ∷ behind) (sym count_is ∙ none))

-- A plain line has no byte that the line hasn't.
plain-has_no : (at skipped : ℕ) (bytes : List ℕ) → HasNo at bytes → HasNo at (plain_after skipped bytes)
unfolding plain_after
plain-has_no at skipped [] free = tt
plain-has_no at (suc skipped) (byte ∷ bytes) free = plain-has_no at skipped bytes free.1
plain-has_no at zero (byte ∷ bytes) free =
    by (is_sequence Log (byte ∷ bytes)) (plain-has_no at (sequence_len (byte ∷ bytes) - 1) bytes free.1)
    (plain-has_no at 0 bytes free.1)
  where
    by : (is : Bool) → HasNo at (plain_after (sequence_len (byte ∷ bytes) - 1) bytes) → HasNo at (plain_after 0 bytes)
        → HasNo at (cond is (plain_after (sequence_len (byte ∷ bytes) - 1) bytes) (byte ∷ plain_after 0 bytes))
    by true skipping keeping = skipping
    by false skipping keeping = (free.0, keeping)

pub plain-line_has_no : (at : ℕ) (line : List ℕ) → HasNo at line → HasNo at (plain_line line)
plain-line_has_no at line free = plain-has_no at 0 line free
