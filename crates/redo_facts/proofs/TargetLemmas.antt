-- The facts of all targets after one more statement.
use Rattle.std.proofs.Common.{◌≡◌, ℕ, zero, suc, ◌<◌, ◌==◌, Bool, true, false, cond, ◌||◌, List, [], ◌∷◌, ◌++◌, None, Some, is_some, length, map, replicate, get_or, refl, sym, ap, ◌∙◌, subst, arith}
use Rattle.std.specs.Prelude.{nat_eq, position}
use Rattle.std.specs.List.{AllByRecursion, IsDistinct, list_any}
use Rattle.std.proofs.lemmas.Bool.{eqb-true}
use Rattle.std.proofs.lemmas.Cmp.{nat_eq_equiv}
use Rattle.std.proofs.lemmas.List.{append-nil, length-map}
use Rattle.std.proofs.lemmas.List.Elements.{filter-append}
use Rattle.std.proofs.lemmas.List.Quantifiers.{position-Some}
use Rattle.std.proofs.lemmas.Map.Keys.{apart_from_distinct}
use Rattle.std.proofs.Math.ListN.{set}
use Rattle.redo_line.proofs.PlaceLemmas.{some_place}
use Rattle.redo_index.specs.declared.index_entry.IndexEntry.{IndexEntry}
use Rattle.redo_index.specs.Index.{listed_targets, numbers_of}
use Rattle.redo_facts.specs.Facts.{RecipeFacts, facts_by, nothing, numbered}
use Rattle.redo_facts.specs.Statement.{Statement}
use Rattle.redo_facts.specs.Private.Adding.{AreFacts, with_statement}
use Rattle.redo_facts.proofs.FactLemmas.{facts_by-push}

-- If no element passes, each one fails.
each_fails : {X : Type 0} (test : X → Bool) (xs : List X) → list_any test xs ≡ false → AllByRecursion (λ x. test x ≡ false) xs
each_fails test [] none = tt
each_fails test (x ∷ xs) none = by (test x) refl none (each_fails test xs)
  where
    by : (passes : Bool) → test x ≡ passes → (passes || list_any test xs) ≡ false
        → (list_any test xs ≡ false → AllByRecursion (λ x. test x ≡ false) xs) → AllByRecursion (λ x. test x ≡ false) (x ∷ xs)
    by true is none others = absurd (cc)
    by false is none others = (is, others none)

module _ (s : Statement) (ss : List Statement) where
  abbrev before : IndexEntry → RecipeFacts
  before entry = facts_by entry.target (numbered entry.number ss)

  abbrev after : IndexEntry → RecipeFacts
  after entry = facts_by entry.target (numbered entry.number (ss ++ s ∷ []))

  pushed : (number : ℕ) (same : Bool) → (s.number == number) ≡ same
      → numbered number (ss ++ s ∷ []) ≡ numbered number ss ++ cond same (s ∷ []) []
  pushed number same is = filter-append (λ t. t.number == number) ss (s ∷ [])
      ∙ ap (λ (b : Bool). numbered number ss ++ cond b (s ∷ []) []) is

  -- A statement about this target, and one about another.
  about : (entry : IndexEntry) → (s.number == entry.number) ≡ true → after entry ≡ with_statement entry.target s.form s.text (before entry)
  about entry is = ap (facts_by entry.target) (pushed entry.number true is) ∙ facts_by-push entry.target s (numbered entry.number ss)

  apart : (entry : IndexEntry) → (s.number == entry.number) ≡ false → after entry ≡ before entry
  apart entry is = ap (facts_by entry.target) (pushed entry.number false is ∙ append-nil (numbered entry.number ss))

  others_kept : (index : List IndexEntry) → AllByRecursion (λ number. nat_eq s.number number ≡ false) (numbers_of index)
      → map before index ≡ map after index
  others_kept [] none = refl
  others_kept (entry ∷ index) none = λ i. sym (apart entry none.0) i ∷ others_kept index none.1 i

  -- The target at this position has the number, and no other has.
  at_place : (index : List IndexEntry) (place : ℕ) (target : List ℕ) (d : RecipeFacts) → place < length index
      → nat_eq s.number (get_or (numbers_of index) place 0) ≡ true
      → get_or (listed_targets index) place [] ≡ target
      → IsDistinct nat_eq (numbers_of index)
      → set (map before index) place (with_statement target s.form s.text (get_or (map before index) place d)) ≡ map after index
  unfolding IsDistinct
  at_place [] place target d below is named distinct = absurd (omega (arith, below))
  at_place (entry ∷ index) zero target d below is named distinct =
      let same : s.number ≡ entry.number = eqb-true s.number entry.number is in
      λ i. (ap (λ (t : List ℕ). with_statement t s.form s.text (before entry)) (sym named) ∙ sym (about entry is)) i
      ∷ others_kept index (subst (λ (n : ℕ). AllByRecursion (λ other. nat_eq n other ≡ false) (numbers_of index)) (sym same) distinct.0) i
  at_place (entry ∷ index) (suc place) target d below is named distinct =
      let same : s.number ≡ get_or (numbers_of index) place 0 = eqb-true s.number (get_or (numbers_of index) place 0) is in
      let other : nat_eq s.number entry.number ≡ false =
      ap (λ (n : ℕ). nat_eq n entry.number) same ∙ nat_eq_equiv.symm (get_or (numbers_of index) place 0) entry.number
      ∙ apart_from_distinct nat_eq (numbers_of (entry ∷ index)) 0 (suc place) 0 distinct (omega arith)
      (omega (arith, below, length-map index (λ (e : IndexEntry). e.number))) in
      λ i. sym (apart entry other) i ∷ at_place index place target d (omega (arith, below)) is named distinct.1 i

  module _ (index : List IndexEntry) (facts : List RecipeFacts) (are : AreFacts index ss facts) where
    pub found : (place : ℕ) (target : List ℕ) (d : RecipeFacts) → position (nat_eq s.number) (numbers_of index) ≡ Some place
        → get_or (listed_targets index) place [] ≡ target
        → IsDistinct nat_eq (numbers_of index)
        → AreFacts index (ss ++ s ∷ []) (set facts place (with_statement target s.form s.text (get_or facts place d)))
    found place target d is named distinct =
        let at = position-Some (nat_eq s.number) (numbers_of index) place 0 is in
        (λ i. set (are i) place (with_statement target s.form s.text (get_or (are i) place d)))
        ∙ at_place index place target d (omega (arith, at.0, length-map index (λ (e : IndexEntry). e.number))) at.1 named distinct

    pub missing : position (nat_eq s.number) (numbers_of index) ≡ None → AreFacts index (ss ++ s ∷ []) facts
    missing none = are ∙ others_kept index
        (each_fails (nat_eq s.number) (numbers_of index) (sym (some_place (nat_eq s.number) (numbers_of index)) ∙ ap is_some none))

-- No statements.
pub none_stated : (index : List IndexEntry) → AreFacts index [] (replicate (length index) nothing)
none_stated [] = refl
none_stated (entry ∷ index) = λ i. nothing ∷ none_stated index i
