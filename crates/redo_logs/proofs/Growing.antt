-- Adding one log to a table.
use Rattle.std.proofs.Common.{◌≡◌, ◌≢◌, ℕ, zero, suc, ◌+◌, ◌-◌, ◌≤◌, ◌<◌, Bool, true, false, cond, eqb, ltb, nat_eq, List, [], ◌∷◌, ◌++◌, Option, None, Some, is_some, length, take, replicate, get_or, slice_get, slice_set, position, refl, sym, ap, ◌∙◌, subst, arith}
use Rattle.std.specs.Cmp.Lexicographic.{pointwise, same_text}
use Rattle.std.specs.List.{AllByRecursion, IsDistinct, flat_map, list_any, position_from}
use Rattle.std.proofs.lemmas.Bool.{ltb-true, ltb-false, eqb-true, eqb-false}
use Rattle.std.proofs.lemmas.Cmp.{nat_list_eq_equiv}
use Rattle.std.proofs.lemmas.Iterator.Adapters.{position_from-zero}
use Rattle.std.proofs.lemmas.List.{length_push, length-map, map_push, take_all, get_or_past, length-set, get_or_append_left, get_or-append_right, get_or-set_same, get_or-set_other}
use Rattle.std.proofs.lemmas.Option.{get_or_from_slice_get, same_Some, slice_get_within}
use Rattle.std.proofs.lemmas.Map.Keys.{IsDistinct-push, apart_from_distinct}
use Rattle.redo_line.proofs.PlaceLemmas.{some_place, first_passes}
use Rattle.redo_logs.specs.declared.log_state.LogState.TheVariants.{Running}
use Rattle.redo_logs.specs.declared.log_table.Log.{Log as Stored}
use Rattle.redo_logs.specs.Logs.{Log, IsTable, max_logs, new_log, targets_of, log_number}
use Rattle.redo_logs.specs.Numbering.{name_at}
use Rattle.redo_logs.specs.Private.Store.{HasNumber, Parts, Within, denotes}
use Rattle.redo_logs.specs.Private.Stored.{IsLogWithin, IsStored, log_of, logs_of}

-- A new target can be added to a table that isn't full.
IsTable-grown : (logs : List Log) (target : List ℕ) → IsTable logs → length logs < max_logs
    → list_any (pointwise nat_eq target) (targets_of logs) ≡ false
    → IsTable (logs ++ new_log target ∷ [])
IsTable-grown logs target table room absent =
    record {
      size = omega (arith, room, length_push logs (new_log target));
      targets_differ =
          subst (IsDistinct (pointwise nat_eq)) (sym (map_push (λ (log : Log). log.target) logs (new_log target)))
          (IsDistinct-push nat_list_eq_equiv (targets_of logs) target table.targets_differ absent);
    }

-- An appended element that doesn't pass changes no position.
module _ {A : Type 0} (p : A → Bool) (x : A) (fails : p x ≡ false) where
  others_from : (i : ℕ) (xs : List A) → position_from p i (xs ++ x ∷ []) ≡ position_from p i xs
  others_from i [] = ap (λ b. cond b (Some i) None) fails
  others_from i (y ∷ xs) = ap (cond (p y) (Some i)) (others_from (i + 1) xs)

  position_others : (xs : List A) → position p (xs ++ x ∷ []) ≡ position p xs
  position_others xs = position_from-zero p (xs ++ x ∷ []) ∙ others_from 0 xs ∙ sym (position_from-zero p xs)

-- The element that is found passes.
module _ {A : Type 0} (p : A → Bool) (d : A) where
  record Found (i n : ℕ) (xs : List A) : Type 0 where
    pub place : ℕ
    pub is : n ≡ i + place
    pub below : place < length xs
    pub passes : p (get_or xs place d) ≡ true

  found_from : (i n : ℕ) (xs : List A) → position_from p i xs ≡ Some n → Found i n xs
  found_from i n [] is = absurd (cc)
  found_from i n (x ∷ xs) is = by (p x) refl is (found_from (i + 1) n xs)
    where
      by : (b : Bool) → p x ≡ b → cond b (Some i) (position_from p (i + 1) xs) ≡ Some n
          → (position_from p (i + 1) xs ≡ Some n → Found (i + 1) n xs) → Found i n (x ∷ xs)
      by true passes is others = record {
        place = 0;
        is = let here = same_Some _ _ is in
            omega (arith, here);
        below = omega arith;
        passes = passes;
      }
      by false passes is others =
          let rest = others is in
          record {
            place = suc rest.place;
            is = let behind = rest.is in omega (arith, behind);
            below = let below = rest.below in
                omega (arith, below);
            passes = rest.passes;
          }

-- The position at which a name is found is its number.
pub found_name : (names : List (List ℕ)) (name : List ℕ) (number : ℕ) → position (pointwise nat_eq name) names ≡ Some number
    → HasNumber names number name
found_name names name number is =
    let found = found_from (pointwise nat_eq name) [] 0 number names (sym (position_from-zero (pointwise nat_eq name) names) ∙ is) in
    let same : found.place ≡ number = let place = found.is in omega (arith, place) in
    record {
      below = subst (λ n. n < length names) same found.below;
      is = ap (λ n. get_or names n []) (sym same) ∙ sym (same_text name (get_or names found.place []) (sym found.passes));
    }

-- A name that equals the name at a position has this position as its number.
pub name_there : (names : List (List ℕ)) (name other : List ℕ) (number : ℕ) →
    slice_get names number ≡ Some other → true ≡ pointwise nat_eq other name → HasNumber names number name
name_there names name other number at is = record {
  below = slice_get_within names number other at;
  is = get_or_from_slice_get names number other [] at ∙ same_text other name is;
}

-- ---- the numbers of logs

abbrev none : Option ℕ
none = None

none_left : (n i : ℕ) → get_or (replicate n none) i none ≡ none
none_left zero i = refl
none_left (suc n) zero = refl
none_left (suc n) (suc i) = none_left n i

-- Growing `places` by items without a number changes no number.
pub padded : (places : List (Option ℕ)) (n number : ℕ) → length places ≤ n
    → get_or (take n places ++ replicate (n - length places) None) number None ≡ get_or places number None
padded places n number room = ap (λ front. get_or (front ++ replicate (n - length places) None) number None) (take_all n places room)
    ∙ by (ltb number (length places)) refl
  where
    by : (before : Bool) → ltb number (length places) ≡ before
        → get_or (places ++ replicate (n - length places) None) number None ≡ get_or places number None
    by true is = get_or_append_left places (replicate (n - length places) None) None number (ltb-true number (length places) is)
    by false is =
        let behind = ltb-false number (length places) is in
        get_or-append_right places (replicate (n - length places) None) (length places) number None refl behind
        ∙ none_left (n - length places) (number - length places) ∙ sym (get_or_past places number None behind)

module _ (parts : Parts) (logs : List Stored) (places : List (Option ℕ)) where
  -- Other `places` with the same numbers.
  pub placed_stored : (others : List (Option ℕ)) → length others ≤ length parts.names
      → ((number : ℕ) → get_or others number None ≡ get_or places number None) → IsStored parts logs places → IsStored parts logs others
  placed_stored others within same stored = record {
    table = stored.table;
    within = stored.within;
    names_differ = stored.names_differ;
    places_within = within;
    are_places = λ number below. same number ∙ stored.are_places number below;
  }

  -- Names with different numbers differ.
  differ : (one other : ℕ) → IsDistinct (pointwise nat_eq) parts.names → one < length parts.names → other < length parts.names → one ≢ other
      → pointwise nat_eq (name_at parts.names one) (name_at parts.names other) ≡ false
  differ one other distinct below below' not_same = by (ltb one other) refl
    where
      apart : other ≤ one → other < one
      apart least = omega (arith, least, not_same)

      by : (before : Bool) → ltb one other ≡ before → pointwise nat_eq (name_at parts.names one) (name_at parts.names other) ≡ false
      by true is = apart_from_distinct (pointwise nat_eq) parts.names one other [] distinct (ltb-true one other is) below'
      by false is =
          nat_list_eq_equiv.symm (name_at parts.names one) (name_at parts.names other)
          ∙ apart_from_distinct (pointwise nat_eq) parts.names other one [] distinct (apart (ltb-false one other is)) below

  module _ (number : ℕ) (log : Stored) (name_is : log.name ≡ number) (empty : log.records ≡ []) (running : log.state ≡ Running) where
    abbrev target : List ℕ
    target = name_at parts.names number

    -- The log that is stored last.
    pub one_stored : logs_of parts (logs ++ log ∷ []) ≡ logs_of parts logs ++ new_log target ∷ []
    one_stored =
        map_push (log_of parts) logs log
        ∙ (λ i. logs_of parts logs ++ record {
          target = name_at parts.names (name_is i);
          entries = flat_map (denotes parts) (empty i);
          state = running i;
        } ∷ [])

    module _ (stored : IsStored parts logs places) (below : number < length parts.names) (room : length logs < max_logs)
        (has_place : number < length places)
        (absent : log_number target (logs_of parts logs) ≡ None) where
      -- The table with one log more.
      pub one_more : IsStored parts (logs ++ log ∷ []) (slice_set places number (Some (length logs)))
      one_more =
          record {
            table = subst IsTable (sym one_stored)
                (IsTable-grown (logs_of parts logs) target stored.table (omega (arith, room, length-map logs (log_of parts))) none_there);
            within = within_push logs stored.within;
            names_differ = stored.names_differ;
            places_within = omega (arith, stored.places_within, length-set places number (Some (length logs)));
            are_places = λ other below'. placed other below' (eqb other number) refl;
          }
        where
          none_there : list_any (pointwise nat_eq target) (targets_of (logs_of parts logs)) ≡ false
          none_there = sym (some_place (pointwise nat_eq target) (targets_of (logs_of parts logs))) ∙ ap is_some absent

          within_push : (ls : List Stored) → AllByRecursion (IsLogWithin parts) ls → AllByRecursion (IsLogWithin parts) (ls ++ log ∷ [])
          within_push [] within = (
            record {
              name = subst (λ n. n < length parts.names) (sym name_is) below;
              records = subst (AllByRecursion (Within parts)) (sym empty) tt;
            },
            tt,
          )
          within_push (l ∷ ls) within = (within.0, within_push ls within.1)

          targets_then : targets_of (logs_of parts (logs ++ log ∷ [])) ≡ targets_of (logs_of parts logs) ++ target ∷ []
          targets_then = ap targets_of one_stored ∙ map_push (λ (l : Log). l.target) (logs_of parts logs) (new_log target)

          count : length (targets_of (logs_of parts logs)) ≡ length logs
          count = length-map (logs_of parts logs) (λ (l : Log). l.target) ∙ length-map logs (log_of parts)

          placed : (other : ℕ) → other < length parts.names → (same : Bool) → eqb other number ≡ same
              → get_or (slice_set places number (Some (length logs))) other None
              ≡ log_number (name_at parts.names other) (logs_of parts (logs ++ log ∷ []))
          placed other below' true is =
              let same = eqb-true other number is in
              ap (λ n. get_or (slice_set places number (Some (length logs))) n None) same
              ∙ get_or-set_same places number (Some (length logs)) None has_place
              ∙ sym (ap (position (pointwise nat_eq (name_at parts.names other))) targets_then
              ∙ ap (λ n. position (pointwise nat_eq (name_at parts.names n)) (targets_of (logs_of parts logs) ++ target ∷ [])) same
              ∙ first_passes (pointwise nat_eq target) (targets_of (logs_of parts logs)) target [] absent (nat_list_eq_equiv.refl target)
              ∙ ap Some count)
          placed other below' false is =
              let apart = eqb-false other number is in
              get_or-set_other places number other (Some (length logs)) None apart
              ∙ stored.are_places other below'
              ∙ sym (ap (position (pointwise nat_eq (name_at parts.names other))) targets_then
              ∙ position_others (pointwise nat_eq (name_at parts.names other)) target
              (differ other number stored.names_differ below' below apart) (targets_of (logs_of parts logs)))
