-- The two parts of a key.
use Rattle.std.proofs.Common.{◌≡◌, ℕ, Bool, true, false, List, [], ◌∷◌, ◌++◌, drop, refl, sym, append_assoc, ◌∙◌, ap, arith}
use Rattle.std.specs.Prelude.{codes}
use Rattle.std.specs.Cmp.Lexicographic.{same_text}
use Rattle.std.specs.Str.{bytes_eq}
use Rattle.std.proofs.lemmas.Bool.{true≢false}
use Rattle.std.proofs.lemmas.Cmp.{nat_list_eq_equiv}
use Rattle.redo_line.proofs.PartLemmas.{HasNo, parted_at}
use Rattle.redo_line.specs.Parts.{split_once}
use Rattle.redo_line.specs.Record.{colon, space}
use Rattle.redo_diagnostics.specs.Diagnostic.{masked, masked_after}
use Rattle.redo_diagnostics.specs.Keys.{hash_parts, parts_hashed}
use Rattle.redo_diagnostics.proofs.ApartLemmas.{colon_apart, masked-colon, masked-free-of-colon}

abbrev pub joined : List ℕ → List ℕ → List ℕ
joined origin tail = origin ++ codes ": " ++ tail

apart : (origin tail : List ℕ) → joined origin tail ≡ origin ++ colon ∷ space ∷ tail
apart origin tail = append_assoc origin (codes ": ") tail

-- No name of a temporary file goes past the colon, so both parts can be masked by themselves.
pub masked-joined : (origin tail : List ℕ) → joined (masked origin) (masked tail) ≡ masked (joined origin tail)
unfolding masked_after
masked-joined origin tail =
    apart (masked origin) (masked tail)
    ∙ sym (ap masked (apart origin tail) ∙ masked-colon 0 origin (space ∷ tail) (omega arith))

pub masked-free : (origin : List ℕ) → HasNo colon origin → HasNo colon (masked origin)
masked-free origin free = masked-free-of-colon 0 origin free

pub hashed : (origin tail : List ℕ) → HasNo colon origin → tail ∷ origin ∷ [] ≡ hash_parts (joined origin tail)
hashed origin tail free =
    sym (ap (parts_hashed (joined origin tail))
    (ap (split_once colon) (apart origin tail) ∙ parted_at colon origin (space ∷ tail) free))

module _ (origin tail origin' tail' : List ℕ) (free : HasNo colon origin) (free' : HasNo colon origin') where
  parts : joined origin tail ≡ joined origin' tail' → (origin ≡ origin') × (tail ≡ tail')
  parts same =
      let both = colon_apart origin (space ∷ tail) origin' (space ∷ tail') free free'
      (sym (apart origin tail) ∙ same ∙ apart origin' tail') in
      (both.0, ap (λ (bytes : List ℕ). drop 1 bytes) both.1)

  -- With the same tail, keys are the same if their origins are.
  pub same_tail : bytes_eq tail tail' ≡ true → bytes_eq origin origin' ≡ bytes_eq (joined origin tail) (joined origin' tail')
  same_tail is = by (bytes_eq origin origin') refl (bytes_eq (joined origin tail) (joined origin' tail')) refl
    where
      by : (first : Bool) → bytes_eq origin origin' ≡ first
          → (whole : Bool) → bytes_eq (joined origin tail) (joined origin' tail') ≡ whole → first ≡ whole
      by true first true whole = refl
      by false first false whole = refl
      by true first false whole =
          let same = same_text origin origin' (sym first) in
          let other = same_text tail tail' (sym is) in
          absurd (true≢false (sym (nat_list_eq_equiv.refl (joined origin tail))
          ∙ ap (λ (bytes : List ℕ). bytes_eq (joined origin tail) (joined bytes tail)) same
          ∙ ap (λ (bytes : List ℕ). bytes_eq (joined origin tail) (joined origin' bytes)) other ∙ whole))
      by false first true whole =
          let same = (parts (same_text (joined origin tail) (joined origin' tail') (sym whole))).0 in
          absurd (true≢false (sym (nat_list_eq_equiv.refl origin) ∙ ap (λ (bytes : List ℕ). bytes_eq origin bytes) same ∙ first))

  -- With other tails, they are not.
  pub other_tail : bytes_eq tail tail' ≡ false → false ≡ bytes_eq (joined origin tail) (joined origin' tail')
  other_tail is = by (bytes_eq (joined origin tail) (joined origin' tail')) refl
    where
      by : (whole : Bool) → bytes_eq (joined origin tail) (joined origin' tail') ≡ whole → false ≡ whole
      by false whole = refl
      by true whole =
          let same = (parts (same_text (joined origin tail) (joined origin' tail') (sym whole))).1 in
          absurd (true≢false (sym (nat_list_eq_equiv.refl tail) ∙ ap (λ (bytes : List ℕ). bytes_eq tail bytes) same ∙ is))
