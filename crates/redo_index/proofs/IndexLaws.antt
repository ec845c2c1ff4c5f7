-- Lines have one result: an index, or one fault.
use Rattle.std.proofs.Common.{◌≡◌, ◌⊎◌, inl, inr, ℕ, List, [], ◌∷◌, ◌++◌, None, Some, refl, sym, ◌∙◌, ap}
use Rattle.redo_index.specs.declared.index_fault.IndexFault.{IndexFault}
use Rattle.redo_index.specs.Index.{fault_at, AreFaultFree, IsRejected}

no_fault : (fault : IndexFault) (before : List (List ℕ)) (line : List ℕ) → fault_at before line ≡ None
    → fault_at before line ≡ Some fault → ⊥
no_fault fault before line none some = let e : None ≡ Some fault = sym none ∙ some in absurd (cc)

pub either : (lines : List (List ℕ)) (fault : IndexFault) → AreFaultFree lines → IsRejected lines fault → ⊥
either lines fault fault_free is = no_fault fault is.before is.line (fault_free is.before is.line is.after is.lines_are) is.fault_is

-- How two positions in a list relate: they are the same, or the first comes after the second, or before it.
abbrev Places : List (List ℕ) → List ℕ → List (List ℕ) → List ℕ → Type 0
Places prefix line prefix' line' =
    ((prefix ≡ prefix') × (line ≡ line')) ⊎
    (((more : List (List ℕ)) × (prefix ≡ prefix' ++ line' ∷ more)) ⊎ ((more : List (List ℕ)) × (prefix' ≡ prefix ++ line ∷ more)))

one_on : (first : List ℕ) (prefix : List (List ℕ)) (line : List ℕ) (prefix' : List (List ℕ)) (line' : List ℕ)
    → Places prefix line prefix' line' → Places (first ∷ prefix) line (first ∷ prefix') line'
one_on first prefix line prefix' line' (inl is) = inl (ap (λ f. first ∷ f) is.0, is.1)
one_on first prefix line prefix' line' (inr (inl is)) = inr (inl (is.0, ap (λ f. first ∷ f) is.1))
one_on first prefix line prefix' line' (inr (inr is)) = inr (inr (is.0, ap (λ f. first ∷ f) is.1))

places : (prefix : List (List ℕ)) (line : List ℕ) (after prefix' : List (List ℕ)) (line' : List ℕ) (after' : List (List ℕ))
    → prefix ++ line ∷ after ≡ prefix' ++ line' ∷ after' → Places prefix line prefix' line'
places [] line after [] line' after' is = let same : line ≡ line' = cc in inl (refl, same)
places [] line after (first ∷ prefix') line' after' is = let same : first ≡ line = cc in inr (inr (prefix', ap (λ f. f ∷ prefix') same))
places (first ∷ prefix) line after [] line' after' is = let same : first ≡ line' = cc in inr (inl (prefix, ap (λ f. f ∷ prefix) same))
places (first ∷ prefix) line after (first' ∷ prefix') line' after' is =
    let same : first ≡ first' = cc in
    let suffix : prefix ++ line ∷ after ≡ prefix' ++ line' ∷ after' = cc in
    rw (same) (one_on first' prefix line prefix' line' (places prefix line after prefix' line' after' suffix))

pub one : (lines : List (List ℕ)) (fault other : IndexFault) → IsRejected lines fault → IsRejected lines other → fault ≡ other
one lines fault other a b = by (places a.before a.line a.after b.before b.line b.after (sym a.lines_are ∙ b.lines_are))
  where
    by : Places a.before a.line b.before b.line → fault ≡ other
    by (inl same) = let e : Some fault ≡ Some other =
        sym a.fault_is ∙ ap (λ f. fault_at f a.line) same.0 ∙ ap (fault_at b.before) same.1 ∙ b.fault_is in cc
    by (inr (inl later)) = absurd (no_fault other b.before b.line (a.fault_free_before b.before b.line later.0 later.1) b.fault_is)
    by (inr (inr sooner)) = absurd (no_fault fault a.before a.line (b.fault_free_before a.before a.line sooner.0 sooner.1) a.fault_is)
