-- The targets that the outline of a baseline shows.
use Rattle.std.proofs.Common.{◌≡◌, ℕ, zero, suc, ◌+◌, take, slice_get, cond, Bool, true, false, not, List, [], ◌∷◌, ◌++◌, None, Some, is_some, nat_eq, refl, sym, ap, ◌∙◌, append_assoc, arith}
use Rattle.std.specs.Cmp.Lexicographic.{pointwise}
use Rattle.std.specs.List.{position_from}
use Rattle.std.proofs.lemmas.Iterator.Adapters.{position_from-zero}
use Rattle.std.proofs.lemmas.List.Elements.{filter-append}
use Rattle.redo_line.proofs.PlaceLemmas.{some_place}
use Rattle.redo_logs.specs.Logs.{Log, log_number, targets_of}
use Rattle.redo_view.specs.Expansion.{is_among}
use Rattle.redo_view.specs.View.{find_unknown}
use Rattle.redo_compare.specs.Baseline.{baseline_targets, known_targets}

module _ (logs : List Log) where
  abbrev is_known : List ℕ → Bool
  is_known name = is_among name (targets_of logs)

  abbrev is_unknown : List ℕ → Bool
  is_unknown name = not (is_known name)

  none_from : (names : List (List ℕ)) (i : ℕ) → position_from is_unknown i (known_targets logs names) ≡ None
  none_from [] i = refl
  none_from (name ∷ names) i = by (is_known name) refl (none_from names i) (none_from names (i + 1))
    where
      by : (b : Bool) → is_known name ≡ b → position_from is_unknown i (known_targets logs names) ≡ None
          → position_from is_unknown (i + 1) (known_targets logs names) ≡ None
          → position_from is_unknown i (cond b (name ∷ known_targets logs names) (known_targets logs names)) ≡ None
      by true is here later =
          ap (λ b. cond (not b) (Some i) (position_from is_unknown (i + 1) (known_targets logs names))) is ∙ later
      by false is here later = here

  -- Each target of a baseline has a log.
  pub all_known : (requested : List (List ℕ)) → find_unknown logs (baseline_targets logs requested) ≡ None
  all_known requested =
      position_from-zero is_unknown (baseline_targets logs requested) ∙ none_from (requested ++ targets_of logs) 0

  -- A name has a log exactly if a log with it is found.
  pub found-known : (name : List ℕ) → is_some (log_number name logs) ≡ is_known name
  found-known name = some_place (pointwise nat_eq name) (targets_of logs)

  -- The requested targets, and then all targets.
  pub both-known : (requested : List (List ℕ)) (names first all : List (List ℕ)) → names ≡ []
      → first ≡ names ++ known_targets logs requested → all ≡ first ++ known_targets logs (targets_of logs)
      → all ≡ baseline_targets logs requested
  both-known requested names first all none one two =
      two ∙ ap (λ (l : List (List ℕ)). l ++ known_targets logs (targets_of logs))
      (one ∙ ap (λ (l : List (List ℕ)). l ++ known_targets logs requested) none)
      ∙ sym (filter-append is_known requested (targets_of logs))

  -- One more name is appended if it is known.
  pub known-true : (name : List ℕ) → is_known name ≡ true → known_targets logs (name ∷ []) ≡ name ∷ []
  known-true name is = ap (λ b. cond b (name ∷ []) []) is

  pub known-false : (name : List ℕ) → is_known name ≡ false → known_targets logs (name ∷ []) ≡ []
  known-false name is = ap (λ b. cond b (name ∷ []) []) is

take_next : (names : List (List ℕ)) (at : ℕ) (name : List ℕ) → slice_get names at ≡ Some name
    → take (suc at) names ≡ take at names ++ name ∷ []
take_next [] at name is = absurd (cc)
take_next (first ∷ others) zero name is = cc
take_next (first ∷ others) (suc at) name is = ap (λ (l : List (List ℕ)). first ∷ l) (take_next others at name is)

-- The known ones of one more name were appended.
pub one_more : (logs : List Log) (names : List (List ℕ)) (at : ℕ) (before so_far more : List (List ℕ)) (name : List ℕ)
    → so_far ≡ before ++ known_targets logs (take at names) → more ≡ so_far ++ known_targets logs (name ∷ [])
    → slice_get names at ≡ Some name → more ≡ before ++ known_targets logs (take (at + 1) names)
one_more logs names at before so_far more name were appended is =
    let next : suc at ≡ at + 1 = omega (arith) in
    appended ∙ ap (λ (l : List (List ℕ)). l ++ known_targets logs (name ∷ [])) were
    ∙ append_assoc before (known_targets logs (take at names)) (known_targets logs (name ∷ []))
    ∙ ap (λ (l : List (List ℕ)). before ++ l)
    (sym (filter-append (is_known logs) (take at names) (name ∷ []))
    ∙ ap (known_targets logs) (sym (take_next names at name is) ∙ ap (λ (n : ℕ). take n names) next))
