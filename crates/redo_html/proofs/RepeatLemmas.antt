-- Lemmas about code points that occur in a row.
use Rattle.std.proofs.Common.{◌≡◌, ℕ, zero, suc, ◌+◌, ◌-◌, ◌<◌, ◌≤◌, List, [], ◌∷◌, ◌++◌, Option, Some, length, take, drop, replicate, refl, sym, ◌∙◌, ap, subst, arith}
use Rattle.std.proofs.lemmas.Bool.{ne_eqb}
use Rattle.std.proofs.lemmas.List.{append_assoc, take_rest, drop-drop, drop_all, length-drop, replicate_more}
use Rattle.redo_html.specs.declared.text_kind.TextKind.{TextKind}
use Rattle.redo_html.specs.Symbols.{Symbol, first_symbol, symbol_len, symbols}
use Rattle.redo_html.specs.Symbols.Symbol.{CodePoint, Sequence}
use Rattle.redo_html.specs.Private.Writing.{symbol_code_point, BeginsOther, IsRepeated}
use Rattle.redo_html.proofs.SymbolLemmas.{symbols-nil, symbols-step, symbol_bounds}

code_point_found : (code_point : ℕ) (symbol : Symbol) → symbol_code_point symbol ≡ Some code_point → symbol ≡ CodePoint code_point
code_point_found code_point (CodePoint other) is = let same : other ≡ code_point = cc in ap CodePoint same
code_point_found code_point (Sequence numbers) is = absurd (cc)

other_begins : (code_point : ℕ) (symbol : Symbol) (symbols : List Symbol) → (symbol_code_point symbol ≡ Some code_point → ⊥)
    → BeginsOther code_point (symbol ∷ symbols)
other_begins code_point (CodePoint other) symbols differs = ne_eqb code_point other (λ same. differs (ap (λ (n : ℕ). Some n) (sym same)))
other_begins code_point (Sequence numbers) symbols differs = tt

some_count : (count : ℕ) → (count ≡ 0 → ⊥) → 0 < count
some_count zero not_zero = absurd (not_zero refl)
some_count (suc count) not_zero = omega arith

-- The invariant of a loop over the code points in a row.
module _ (kind : TextKind) (code_point : ℕ) (bytes : List ℕ) (count len : ℕ) (within : len ≤ length bytes) (taken : count ≤ len)
    (none : count ≡ 0 → len ≡ 0) (repeated : symbols kind bytes
    ≡ replicate count (CodePoint code_point) ++ symbols kind (drop len bytes)) where
  -- The symbol found in the remaining bytes, and its size.
  pub found : (symbol : Option ℕ) (size : ℕ) → symbol ≡ symbol_code_point (first_symbol kind (take (length bytes - len) (drop len bytes)))
      → size ≡ symbol_len kind (take (length bytes - len) (drop len bytes))
      → (symbol ≡ symbol_code_point (first_symbol kind (drop len bytes))) × (size ≡ symbol_len kind (drop len bytes))
  found symbol size is size_is = (
    is ∙ ap (λ (b : List ℕ). symbol_code_point (first_symbol kind b)) (take_rest bytes len),
    size_is
        ∙ ap (symbol_len kind) (take_rest bytes len),
  )

  some_left : len < length bytes → 0 < length (drop len bytes)
  some_left inside = omega (arith, length-drop len bytes)

  pub size_within : (size : ℕ) → len < length bytes → size ≡ symbol_len kind (drop len bytes) → (0 < size) × (len + size ≤ length bytes)
  size_within size inside is = let bounds = symbol_bounds kind (drop len bytes) (some_left inside) in let low = bounds.0 in let high =
      bounds.1 in (omega (arith, is), omega (arith, is, length-drop len bytes))

  pub one_more_code_point : (symbol : Option ℕ) (size : ℕ) → len < length bytes
      → symbol ≡ symbol_code_point (first_symbol kind (drop len bytes)) → size ≡ symbol_len kind (drop len bytes) → symbol ≡ Some code_point
      → symbols kind bytes ≡ replicate (count + 1) (CodePoint code_point) ++ symbols kind (drop (len + size) bytes)
  one_more_code_point symbol size inside is size_is same =
      let rest = symbols kind (drop (len + size) bytes) in
      let first : first_symbol kind (drop len bytes) ≡ CodePoint code_point =
      code_point_found code_point (first_symbol kind (drop len bytes)) (sym is ∙ same) in
      let step : symbols kind (drop len bytes) ≡ CodePoint code_point ∷ rest =
      symbols-step kind (drop len bytes) (some_left inside)
      ∙ ap (λ (s : Symbol). s ∷ symbols kind (drop (symbol_len kind (drop len bytes)) (drop len bytes))) first
      ∙ ap (λ (n : ℕ). CodePoint code_point ∷ symbols kind (drop n (drop len bytes))) (sym size_is)
      ∙ ap (λ (b : List ℕ). CodePoint code_point ∷ symbols kind b) (drop-drop size len bytes) in
      repeated ∙ ap (λ (ss : List Symbol). replicate count (CodePoint code_point) ++ ss) step
      ∙ sym (append_assoc (replicate count (CodePoint code_point)) (CodePoint code_point ∷ []) rest)
      ∙ ap (λ (ss : List Symbol). ss ++ rest) (replicate_more count (CodePoint code_point))

  pub ended_by_other : (symbol : Option ℕ) → len < length bytes → first_symbol kind bytes ≡ CodePoint code_point
      → symbol ≡ symbol_code_point (first_symbol kind (drop len bytes)) → (symbol ≡ Some code_point → ⊥)
      → IsRepeated kind code_point bytes count len
  ended_by_other symbol inside first is differs =
      let differs_there : symbol_code_point (first_symbol kind (drop len bytes)) ≡ Some code_point → ⊥ = λ same. differs (is ∙ same) in
      let some : 0 < count = some_count count
      (λ zero_count. differs_there (ap (λ (n : ℕ). symbol_code_point (first_symbol kind (drop n bytes))) (none zero_count)
      ∙ ap symbol_code_point first)) in
      record {
        some = some;
        bytes_taken = omega (arith, taken, some);
        within = within;
        repeated = repeated;
        other = subst (BeginsOther code_point) (sym (symbols-step kind (drop len bytes) (some_left inside)))
            (other_begins code_point (first_symbol kind (drop len bytes))
            (symbols kind (drop (symbol_len kind (drop len bytes)) (drop len bytes))) differs_there);
      }

  pub ended_by_end : length bytes ≤ len → 0 < length bytes → IsRepeated kind code_point bytes count len
  ended_by_end past some_bytes =
      let some : 0 < count = some_count count (λ zero_count. let zero_len = none zero_count in absurd (omega arith)) in
      record {
        some = some;
        bytes_taken = omega (arith, past, some_bytes);
        within = within;
        repeated = repeated;
        other = subst (BeginsOther code_point) (sym (ap (symbols kind) (drop_all len bytes past) ∙ symbols-nil kind)) tt;
      }
