-- Each target that has a log is known, and is among all targets of a build.
use Rattle.std.proofs.Common.{◌≡◌, ℕ, zero, suc, ◌+◌, take, slice_get, Bool, true, false, not, cond, List, [], ◌∷◌, ◌++◌, None, Some, nat_eq, refl, sym, ap, ◌∙◌, append_assoc, arith}
use Rattle.std.specs.Cmp.Lexicographic.{pointwise}
use Rattle.std.specs.List.{position_from}
use Rattle.std.proofs.lemmas.Iterator.Adapters.{position_from-zero}
use Rattle.std.proofs.lemmas.Bool.{or_left, or_right}
use Rattle.std.proofs.lemmas.Cmp.{nat_list_eq_equiv}
use Rattle.std.proofs.lemmas.List.Folds.{list_any-append}
use Rattle.redo_logs.specs.Logs.{Log, targets_of}
use Rattle.redo_view.specs.Expansion.{is_among}
use Rattle.redo_view.specs.View.{find_unknown}
use Rattle.redo_json.specs.Every.{every_target}

module _ (logs : List Log) where
  abbrev is_unknown : List ℕ → Bool
  is_unknown name = not (is_among name (targets_of logs))

  -- Known names after known names.
  known_after : (first second : List (List ℕ)) (i : ℕ) → position_from is_unknown i first ≡ None
      → ((j : ℕ) → position_from is_unknown j second ≡ None) → position_from is_unknown i (first ++ second) ≡ None
  known_after [] second i known others = others i
  known_after (name ∷ first) second i known others =
      by (is_unknown name) refl (λ rest. known_after first second (i + 1) rest others)
    where
      by : (b : Bool) → is_unknown name ≡ b
          → (position_from is_unknown (i + 1) first ≡ None → position_from is_unknown (i + 1) (first ++ second) ≡ None)
          → position_from is_unknown i (name ∷ (first ++ second)) ≡ None
      by true is later =
          absurd (let found : Some i ≡ None = sym (ap (λ b. cond b (Some i) (position_from is_unknown (i + 1) first)) is) ∙ known in cc)
      by false is later =
          ap (λ b. cond b (Some i) (position_from is_unknown (i + 1) (first ++ second))) is
          ∙ later (sym (ap (λ b. cond b (Some i) (position_from is_unknown (i + 1) first)) is) ∙ known)

  among_last : (name : List ℕ) (names : List (List ℕ)) → is_among name (names ++ name ∷ []) ≡ true
  among_last name names =
      list_any-append (pointwise nat_eq name) names (name ∷ [])
      ∙ or_right (is_among name names) (is_among name (name ∷ []))
      (or_left (pointwise nat_eq name name) false (nat_list_eq_equiv.refl name))

  among_later : (name : List ℕ) (before after : List (List ℕ)) → is_among name before ≡ true → is_among name (before ++ after) ≡ true
  among_later name before after is = list_any-append (pointwise nat_eq name) before after
      ∙ or_left (is_among name before) (is_among name after) is

  all_known_from : (before part : List (List ℕ)) → targets_of logs ≡ before ++ part → (i : ℕ) → position_from is_unknown i part ≡ None
  all_known_from before [] are i = refl
  all_known_from before (name ∷ part) are i =
      let split : targets_of logs ≡ (before ++ name ∷ []) ++ part = are ∙ sym (append_assoc before (name ∷ []) part) in
      let among : is_among name (targets_of logs) ≡ true =
      ap (is_among name) split ∙ among_later name (before ++ name ∷ []) part (among_last name before) in
      ap (λ b. cond (not b) (Some i) (position_from is_unknown (i + 1) part)) among
      ∙ all_known_from (before ++ name ∷ []) part split (i + 1)

  pub all_known : (requested : List (List ℕ)) → find_unknown logs requested ≡ None → find_unknown logs (every_target logs requested) ≡ None
  all_known requested known =
      position_from-zero is_unknown (every_target logs requested)
      ∙ known_after requested (targets_of logs) 0 (sym (position_from-zero is_unknown requested) ∙ known)
      (all_known_from [] (targets_of logs) refl)

pub among_every : (logs : List Log) (requested : List (List ℕ)) (target : List ℕ) → is_among target (targets_of logs) ≡ true
    → is_among target (every_target logs requested) ≡ true
among_every logs requested target is =
    list_any-append (pointwise nat_eq target) requested (targets_of logs)
    ∙ or_right (is_among target requested) (is_among target (targets_of logs)) is

take_next : (names : List (List ℕ)) (at : ℕ) (name : List ℕ) → slice_get names at ≡ Some name
    → take (suc at) names ≡ take at names ++ name ∷ []
take_next [] at name is = absurd (cc)
take_next (first ∷ others) zero name is = cc
take_next (first ∷ others) (suc at) name is = ap (λ (l : List (List ℕ)). first ∷ l) (take_next others at name is)

-- One more name was appended.
pub one_more : (names : List (List ℕ)) (at : ℕ) (before so_far : List (List ℕ)) (copy name : List ℕ)
    → so_far ≡ before ++ take at names → copy ≡ name → slice_get names at ≡ Some name
    → so_far ++ copy ∷ [] ≡ before ++ take (at + 1) names
one_more names at before so_far copy name were same is =
    let next : suc at ≡ at + 1 = omega (arith) in
    ap (λ (l : List (List ℕ)). l ++ copy ∷ []) were
    ∙ append_assoc before (take at names) (copy ∷ [])
    ∙ ap (λ (l : List (List ℕ)). before ++ l)
    (ap (λ (n : List ℕ). take at names ++ n ∷ []) same ∙ sym (take_next names at name is) ∙ ap (λ (n : ℕ). take n names) next)
