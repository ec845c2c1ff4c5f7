-- The facts after the lines of some bytes.
use Rattle.std.proofs.Common.{◌≡◌, ℕ, zero, suc, ◌+◌, ◌-◌, ◌<◌, false, List, [], ◌∷◌, ◌++◌, Some, length, take, drop, get_or, nat_eq, slice_get, refl, sym, ap, ◌∙◌, subst, arith, le_of_eq}
use Rattle.std.specs.List.{IsDistinct, list_any}
use Rattle.std.proofs.lemmas.Cmp.{nat_eq_equiv}
use Rattle.std.proofs.lemmas.List.{append-nil, append_assoc, length-drop, take_all, take_more, take-append-drop}
use Rattle.std.proofs.lemmas.Option.{get_or_from_slice_get, slice_get_within}
use Rattle.std.proofs.lemmas.List.Elements.{filter_map-append}
use Rattle.std.proofs.lemmas.Map.Keys.{apart_from_distinct}
use Rattle.memchr.specs.Find.{Nowhere, NoneBefore, Passes, is_byte}
use Rattle.redo_line.specs.Lines.{ended, line_feed}
use Rattle.redo_line.proofs.CutLemmas.{free_before, holds_none, upto_feed}
use Rattle.redo_line.proofs.LineLemmas.{ended-free, ended-line}
use Rattle.redo_index.specs.declared.index_entry.IndexEntry.{IndexEntry}
use Rattle.redo_facts.specs.Facts.{RecipeFacts, statements_of}
use Rattle.redo_facts.specs.Statement.{Statement, statement_of}
use Rattle.redo_facts.specs.Private.Adding.{AreFacts}

-- The lines before `left` were read.
pub record SoFar (index : List IndexEntry) (bytes left : List ℕ) (facts : List RecipeFacts) : Type 0 where
  pub lines : List (List ℕ)
  pub whole : ended bytes ≡ lines ++ ended left
  pub are : AreFacts index (statements_of lines) facts

pub none_read : (index : List IndexEntry) (bytes : List ℕ) (facts : List RecipeFacts) → AreFacts index [] facts
    → SoFar index bytes bytes facts
none_read index bytes facts are = record { lines = []; whole = refl; are = are }

module _ (index : List IndexEntry) (bytes left : List ℕ) (facts : List RecipeFacts) (so_far : SoFar index bytes left facts) where
  -- One more line ends.
  pub one_more : (line behind : List ℕ) → ended left ≡ line ∷ ended behind → (after : List RecipeFacts)
      → ((statements : List Statement) → AreFacts index statements facts
      → AreFacts index (statements ++ statements_of (line ∷ [])) after)
      → SoFar index bytes behind after
  one_more line behind first after add = record {
    lines = so_far.lines ++ line ∷ [];
    whole = so_far.whole ∙ ap (λ (ls : List (List ℕ)). so_far.lines ++ ls) first
        ∙ sym (append_assoc so_far.lines (line ∷ []) (ended behind));
    are = subst (λ (ss : List Statement). AreFacts index ss after) (sym (filter_map-append statement_of so_far.lines (line ∷ [])))
        (add (statements_of so_far.lines) so_far.are);
  }

  -- No further line ends.
  pub all_read : ended left ≡ [] → AreFacts index (statements_of (ended bytes)) facts
  all_read none =
      let lines_are : ended bytes ≡ so_far.lines =
      so_far.whole ∙ ap (λ (ls : List (List ℕ)). so_far.lines ++ ls) none ∙ append-nil so_far.lines in
      subst (λ (ls : List (List ℕ)). AreFacts index (statements_of ls) facts) (sym lines_are) so_far.are

-- ---- the first line

pub first_ended : (bytes : List ℕ) (at : ℕ)
    → NoneBefore (Passes (is_byte line_feed) bytes) 0 (length bytes) at × Passes (is_byte line_feed) bytes at
    → ended bytes ≡ take at bytes ∷ ended (take (length bytes - (at + 1)) (drop (at + 1) bytes))
first_ended bytes at found =
    let free = free_before bytes at found.0.before in
    let suffix : take (length bytes - (at + 1)) (drop (at + 1) bytes) ≡ drop (at + 1) bytes =
    take_all _ _ (le_of_eq (length-drop (at + 1) bytes)) in
    let joined : take at bytes ++ line_feed ∷ drop (at + 1) bytes ≡ bytes =
    sym (append_assoc (take at bytes) (line_feed ∷ []) (drop (at + 1) bytes))
    ∙ ap (λ (b : List ℕ). b ++ drop (at + 1) bytes) (sym (upto_feed bytes at found.0.high found.1)) ∙ take-append-drop (at + 1) bytes in
    ap ended (sym joined) ∙ ended-line (take at bytes) (drop (at + 1) bytes) free
    ∙ ap (λ (b : List ℕ). take at bytes ∷ ended b) (sym suffix)

pub none_ended : (bytes : List ℕ) → Nowhere (Passes (is_byte line_feed) bytes) 0 (length bytes) → ended bytes ≡ []
none_ended bytes nowhere = ended-free bytes (holds_none bytes nowhere)

-- ---- before the first line

-- No earlier number is the number at this position.
pub fresh : (number : ℕ) (numbers : List ℕ) (i : ℕ) → IsDistinct nat_eq numbers → i < length numbers → get_or numbers i 0 ≡ number
    → list_any (nat_eq number) (take i numbers) ≡ false
unfolding IsDistinct
fresh number [] i distinct below is = absurd (omega (arith, below))
fresh number (first ∷ numbers) zero distinct below is = refl
fresh number (first ∷ numbers) (suc i) distinct below is =
    let other : nat_eq number first ≡ false =
    ap (λ (n : ℕ). nat_eq n first) (sym is) ∙ nat_eq_equiv.symm (get_or numbers i 0) first
    ∙ apart_from_distinct nat_eq (first ∷ numbers) 0 (suc i) 0 distinct (omega arith) below in
    rw other (fresh number numbers i distinct.1 (omega (arith, below)) is)

pub take-next : (xs : List ℕ) (i x : ℕ) → slice_get xs i ≡ Some x → take (i + 1) xs ≡ take i xs ++ x ∷ []
take-next xs i x there = take_more xs i x (slice_get_within xs i x there)
    ∙ ap (λ last. take i xs ++ last ∷ []) (get_or_from_slice_get xs i x x there)
