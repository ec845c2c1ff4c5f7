-- The state of the loop that enters names.
use Rattle.std.proofs.Common.{◌≡◌, ℕ, ◌+◌, nat_eq, false, List, [], ◌∷◌, ◌++◌, None, IsSome, Result, Ok, Err, IfOk, OnOk, is_some, true≢false, length, map, position, refl, sym, ap, ◌∙◌, subst, arith}
use Rattle.std.specs.Cmp.Lexicographic.{pointwise}
use Rattle.std.specs.Result.{result_and}
use Rattle.std.specs.List.{IsDistinct, AllByRecursion, position_from}
use Rattle.std.proofs.lemmas.Iterator.Adapters.{position_from-zero}
use Rattle.std.proofs.lemmas.Cmp.{nat_list_eq_equiv}
use Rattle.std.proofs.lemmas.List.{append_assoc, append-nil, map_push}
use Rattle.std.proofs.lemmas.Map.Keys.{IsDistinct-head, IsDistinct-tail}
use Rattle.redo_logs.specs.Logs.{Log, new_log, targets_of, log_number}

-- The first names have a log, and these are left.
pub record Entered (names left : List (List ℕ)) (table : List Log) : Type 0 where
  pub first : List (List ℕ)
  pub names_are : names ≡ first ++ left
  pub table_is : table ≡ map new_log first

-- A property of all names holds of one among them.
in_midst : (P : List ℕ → Type 0) (first : List (List ℕ)) (name : List ℕ) (others : List (List ℕ))
    → AllByRecursion P (first ++ name ∷ others) → P name
in_midst P [] name others all = all.0
in_midst P (one ∷ first) name others all = in_midst P first name others all.1

-- If no name occurs twice, a name isn't among the names before it.
none_before : (first : List (List ℕ)) (name : List ℕ) (others : List (List ℕ)) (from : ℕ)
    → IsDistinct (pointwise nat_eq) (first ++ name ∷ others) → position_from (pointwise nat_eq name) from first ≡ None
none_before [] name others from distinct = refl
none_before (one ∷ first) name others from distinct =
    let apart = in_midst (λ y. pointwise nat_eq one y ≡ false) first name others
    (IsDistinct-head (pointwise nat_eq) one (first ++ name ∷ others) distinct) in
    let flipped : pointwise nat_eq name one ≡ false = nat_list_eq_equiv.symm name one ∙ apart in
    rw (flipped) (none_before first name others (from + 1) (IsDistinct-tail (pointwise nat_eq) one (first ++ name ∷ others) distinct))

pub targets-entered : (first : List (List ℕ)) → targets_of (map new_log first) ≡ first
targets-entered [] = refl
targets-entered (target ∷ first) = ap (λ ts. target ∷ ts) (targets-entered first)

module _ (names left : List (List ℕ)) (table : List Log) (so_far : Entered names left table) where
  module _ (name : List ℕ) (others : List (List ℕ)) (left_is : left ≡ name ∷ others) where
    names_here : names ≡ so_far.first ++ name ∷ others
    names_here = so_far.names_are ∙ ap (λ l. so_far.first ++ l) left_is

    pub one_entered : (after : List Log) → after ≡ table ++ new_log name ∷ [] → Entered names others after
    one_entered after is = record {
      first = so_far.first ++ name ∷ [];
      names_are = names_here ∙ sym (append_assoc so_far.first (name ∷ []) others);
      table_is = is ∙ ap (λ t. t ++ new_log name ∷ []) so_far.table_is ∙ sym (map_push new_log so_far.first name);
    }

    -- The next name has no log yet.
    pub not_twice : IsDistinct (pointwise nat_eq) names → IsSome (log_number name table) → ⊥
    not_twice distinct there =
        let none : log_number name table ≡ None =
        ap (log_number name) so_far.table_is ∙ ap (position (pointwise nat_eq name)) (targets-entered so_far.first)
        ∙ position_from-zero (pointwise nat_eq name) so_far.first
        ∙ none_before so_far.first name others 0 (subst (IsDistinct (pointwise nat_eq)) names_here distinct) in
        true≢false (sym there ∙ ap is_some none)

  pub all_entered : length left ≡ 0 → table ≡ map new_log names
  all_entered none = so_far.table_is ∙ ap (map new_log) (by left none so_far.names_are)
    where
      by : (l : List (List ℕ)) → length l ≡ 0 → names ≡ so_far.first ++ l → so_far.first ≡ names
      by [] none is = sym (is ∙ append-nil so_far.first)
      by (name ∷ l) none is = absurd (omega (arith, none))

-- If `P` holds of the value whenever `given` is `Ok`, it holds of `result_and given (Ok value)`.
pub ok_of_and : {A B E : Type 0} (P : B → Type 0) (given : Result A E) (value : B) → OnOk given (P value)
    → IfOk (result_and given (Ok value)) P
ok_of_and P (Ok done) value is = is
ok_of_and P (Err fault) value is = tt
