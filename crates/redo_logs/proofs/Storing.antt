-- The logs of a table, and how they are stored.
use Rattle.std.proofs.Common.{◌≡◌, ℕ, zero, suc, ◌≤◌, ◌<◌, nat_eq, Bool, true, false, ◌&&◌, ◌||◌, true≢false, ◌-◌, List, [], ◌∷◌, ◌++◌, Option, None, Some, length, map, slice_get, slice_set, get_or, ltb, position, is_some, refl, sym, ap, ◌∙◌, subst, arith}
use Rattle.std.specs.Cmp.Lexicographic.{pointwise}
use Rattle.std.specs.List.{AllByRecursion, flat_map, list_all, list_any}
use Rattle.std.proofs.lemmas.Grind.{flat_map-append}
use Rattle.std.proofs.lemmas.Bool.{ltb-true, ltb-false}
use Rattle.std.proofs.lemmas.List.{length-map, get_or_past, get_or-append_right, length-append}
use Rattle.std.proofs.lemmas.List.Folds.{list_any_at}
use Rattle.std.proofs.lemmas.Option.{same_Some, slice_get_within}
use Rattle.redo_line.proofs.PlaceLemmas.{some_place}
use Rattle.redo_line.specs.declared.entry.Entry.{Entry}
use Rattle.redo_logs.specs.declared.log_table.Log.{Log as Stored}
use Rattle.redo_logs.specs.declared.log_state.LogState.{LogState}
use Rattle.redo_logs.specs.declared.store.PackedEntries.{PackedEntries}
use Rattle.redo_logs.specs.Logs.{Log, IsTable, update_log, with_entries, targets_of, states_of, log_number, ends, has_ended}
use Rattle.redo_logs.specs.Numbering.{name_at}
use Rattle.redo_logs.specs.Private.Store.{Parts, Extends, NamesExtend, Within, denotes}
use Rattle.redo_logs.specs.Private.Stored.{IsLogWithin, IsStored, log_of, logs_of}
use Rattle.redo_logs.proofs.ChangedLemmas.{IsTable-update_log, targets-update_log}
use Rattle.redo_logs.proofs.Keeping.{front_length, name_grown, all_seen_grown, all_within_grown}

abbrev state_of : Stored → LogState
state_of stored = stored.state

module _ (parts : Parts) where
  pub states_stored : (logs : List Stored) → states_of (logs_of parts logs) ≡ map state_of logs
  states_stored [] = refl
  states_stored (log ∷ logs) = ap (λ states. log.state ∷ states) (states_stored logs)

  -- All logs have ended exactly if all stored states say so.
  pub all_stored : (logs : List Stored) → list_all has_ended (logs_of parts logs) ≡ list_all (λ (stored : Stored). ends stored.state) logs
  all_stored [] = refl
  all_stored (log ∷ logs) = ap (λ others. ends log.state && others) (all_stored logs)

  -- Replacing a stored log by one that denotes the changed log changes this log of the table.
  pub written : (logs : List Stored) (number : ℕ) (old new : Stored) (change : Log → Log)
      → slice_get logs number ≡ Some old → log_of parts new ≡ change (log_of parts old)
      → logs_of parts (slice_set logs number new) ≡ update_log number change (logs_of parts logs)
  written [] number old new change at says = refl
  written (log ∷ logs) zero old new change at says =
      ap (λ l. l ∷ logs_of parts logs) (says ∙ ap (λ (stored : Stored). change (log_of parts stored)) (sym (same_Some _ _ at)))
  written (log ∷ logs) (suc number) old new change at says = ap (λ ls. log_of parts log ∷ ls) (written logs number old new change at says)

  pub written_within : (logs : List Stored) (number : ℕ) (old new : Stored)
      → slice_get logs number ≡ Some old → (IsLogWithin parts old → IsLogWithin parts new) → AllByRecursion (IsLogWithin parts) logs
      → AllByRecursion (IsLogWithin parts) (slice_set logs number new)
  written_within [] number old new at says within = within
  written_within (log ∷ logs) zero old new at says within = (says (subst (IsLogWithin parts) (same_Some _ _ at) within.0), within.1)
  written_within (log ∷ logs) (suc number) old new at says within = (within.0, written_within logs number old new at says within.1)

  -- A stored log is replaced, and its target stays the same.
  pub changed_stored : (logs : List Stored) (places : List (Option ℕ)) (number : ℕ) (old new : Stored) (change : Log → Log)
      → ((log : Log) → (change log).target ≡ log.target) → slice_get logs number ≡ Some old → log_of parts new ≡ change (log_of parts old)
      → (IsLogWithin parts old → IsLogWithin parts new) → IsStored parts logs places → IsStored parts (slice_set logs number new) places
  changed_stored logs places number old new change keeps at says within stored =
      let is = written logs number old new change at says in
      let targets : targets_of (logs_of parts (slice_set logs number new)) ≡ targets_of (logs_of parts logs) =
      ap targets_of is ∙ targets-update_log change keeps number (logs_of parts logs) in
      record {
        table = subst IsTable (sym is) (IsTable-update_log change keeps number (logs_of parts logs) stored.table);
        within = written_within logs number old new at within stored.within;
        names_differ = stored.names_differ;
        places_within = stored.places_within;
        are_places = λ name below. stored.are_places name below
            ∙ ap (λ ts. position (pointwise nat_eq (name_at parts.names name)) ts) (sym targets);
      }

-- ---- one log

module _ (parts : Parts) (old new : Stored) (name_is : new.name ≡ old.name) where
  -- The `PackedEntries` values are the same.
  module _ (same : new.records ≡ old.records) where
    pub same_log : new.state ≡ old.state → log_of parts new ≡ log_of parts old
    same_log state = λ i. record { target = name_at parts.names (name_is i); entries = flat_map (denotes parts) (same i); state = state i }

    pub same_log_within : IsLogWithin parts old → IsLogWithin parts new
    same_log_within within = record {
      name = subst (λ n. n < length parts.names) (sym name_is) within.name;
      records = subst (AllByRecursion (Within parts)) (sym same) within.records;
    }

  -- `PackedEntries` values are appended.
  module _ (records : List PackedEntries) (more : new.records ≡ old.records ++ records) where
    pub entries_log : (entries : List Entry) → flat_map (denotes parts) records ≡ entries → new.state ≡ old.state
        → log_of parts new ≡ with_entries entries (log_of parts old)
    entries_log entries are state =
        let all = ap (flat_map (denotes parts)) more ∙ flat_map-append (denotes parts) old.records records
        ∙ ap (λ es. flat_map (denotes parts) old.records ++ es) are in
        λ i. record { target = name_at parts.names (name_is i); entries = all i; state = state i }

    pub entries_log_within : AllByRecursion (Within parts) records → IsLogWithin parts old → IsLogWithin parts new
    entries_log_within there within = record {
      name = subst (λ n. n < length parts.names) (sym name_is) within.name;
      records = subst (AllByRecursion (Within parts)) (sym more) (both old.records within.records);
    }
      where
        both : (first : List PackedEntries) → AllByRecursion (Within parts) first → AllByRecursion (Within parts) (first ++ records)
        both [] all = there
        both (r ∷ first) all = (all.0, both first all.1)

-- A log that has a state exists.
pub has_state : (parts : Parts) (logs : List Stored) (table : List Log) (number : ℕ) (state : LogState) → logs_of parts logs ≡ table
    → slice_get (states_of table) number ≡ Some state → number < length logs
has_state parts logs table number state is at =
    omega (
      arith,
      slice_get_within (states_of table) number state at,
      length-map table (λ (log : Log). log.state),
      ap length is,
      length-map logs (log_of parts),
    )

-- ---- names

-- The element at a position.
all_at : {A : Type 0} (P : A → Type 0) (xs : List A) (i : ℕ) (d : A) → AllByRecursion P xs → i < length xs → P (get_or xs i d)
all_at P [] i d all within = absurd (omega (arith, within))
all_at P (x ∷ xs) zero d all within = all.0
all_at P (x ∷ xs) (suc i) d all within = all_at P xs i d all.1 (omega (arith, within))

none_at : {A : Type 0} (p : A → Bool) (xs : List A) (i : ℕ) (d : A) → list_any p xs ≡ false → i < length xs → p (get_or xs i d) ≡ false
none_at p xs i d none within = by (p (get_or xs i d)) refl
  where
    by : (b : Bool) → p (get_or xs i d) ≡ b → b ≡ false
    by false is = refl
    by true is = absurd (true≢false (sym (list_any_at p xs i d within is) ∙ none))

-- A name with a new number is not among the old names.
name_behind : (old new : List (List ℕ)) (number : ℕ) → (grows : NamesExtend old new) → length old ≤ number → number < length new
    → list_any (pointwise nat_eq (name_at new number)) old ≡ false
name_behind old new number grows behind below =
    subst (λ (name : List ℕ). list_any (pointwise nat_eq name) old ≡ false)
    (sym (ap (λ names. get_or names number []) grows.front.is
    ∙ get_or-append_right old grows.front.more (length old) number [] refl behind))
    (all_at (λ name. list_any (pointwise nat_eq name) old ≡ false) grows.front.more (number - length old) [] grows.differ
    (omega (arith, behind, below, ap length grows.front.is, length-append old grows.front.more)))

no_place : {A : Type 0} (p : A → Bool) (xs : List A) → list_any p xs ≡ false → position p xs ≡ None
no_place p xs none = by (position p xs) (some_place p xs ∙ none)
  where
    by : (o : Option ℕ) → is_some o ≡ false → o ≡ None
    by None absent = refl
    by (Some i) absent = absurd (cc)

module _ (parts : Parts) (name : List ℕ) where
  none_targets : (logs : List Stored) → AllByRecursion (IsLogWithin parts) logs → list_any (pointwise nat_eq name) parts.names ≡ false
      → list_any (pointwise nat_eq name) (targets_of (logs_of parts logs)) ≡ false
  none_targets [] within none = refl
  none_targets (log ∷ logs) within none =
      (λ i. none_at (pointwise nat_eq name) parts.names log.name [] none within.0.name i
      || list_any (pointwise nat_eq name) (targets_of (logs_of parts logs)))
      ∙ none_targets logs within.1 none

  -- A target has no log if its name is not found among the names.
  pub unnamed : (logs : List Stored) → AllByRecursion (IsLogWithin parts) logs → position (pointwise nat_eq name) parts.names ≡ None
      → log_number name (logs_of parts logs) ≡ None
  unnamed logs within none =
      no_place (pointwise nat_eq name) (targets_of (logs_of parts logs))
      (none_targets logs within (sym (some_place (pointwise nat_eq name) parts.names) ∙ ap is_some none))

  -- A target has no log if its name is not among the names.
  pub none_placed : (logs : List Stored) → AllByRecursion (IsLogWithin parts) logs → list_any (pointwise nat_eq name) parts.names ≡ false
      → log_number name (logs_of parts logs) ≡ None
  none_placed logs within none = no_place (pointwise nat_eq name) (targets_of (logs_of parts logs)) (none_targets logs within none)

-- More is stored.
module _ (old new : Parts) (grows : Extends old new) where
  log_grown : (stored : Stored) → IsLogWithin old stored → log_of new stored ≡ log_of old stored
  log_grown stored within =
      let target = name_grown old.names new.names stored.name grows.names within.name in
      let entries = all_seen_grown old new stored.records grows within.records in
      λ i. record { target = target i; entries = entries i; state = stored.state }

  -- The logs stay the same.
  pub logs_grown : (logs : List Stored) → AllByRecursion (IsLogWithin old) logs → logs_of new logs ≡ logs_of old logs
  logs_grown [] within = refl
  logs_grown (log ∷ logs) within = λ i. log_grown log within.0 i ∷ logs_grown logs within.1 i

  logs_within : (logs : List Stored) → AllByRecursion (IsLogWithin old) logs → AllByRecursion (IsLogWithin new) logs
  logs_within [] within = within
  logs_within (log ∷ logs) within = (
    record {
      name = omega (arith, within.0.name, front_length old.names new.names grows.names.front);
      records = all_within_grown old new log.records grows within.0.records;
    },
    logs_within logs within.1,
  )

  -- A name that is new has no log.
  pub grown_stored : (logs : List Stored) (places : List (Option ℕ)) → IsStored old logs places → IsStored new logs places
  grown_stored logs places stored =
      let same = logs_grown logs stored.within in
      record {
        table = subst IsTable (sym same) stored.table;
        within = logs_within logs stored.within;
        names_differ = grows.names.distinct stored.names_differ;
        places_within = omega (arith, stored.places_within, front_length old.names new.names grows.names.front);
        are_places = λ number below. by number below (ltb number (length old.names)) refl;
      }
    where
      targets_then : targets_of (logs_of new logs) ≡ targets_of (logs_of old logs)
      targets_then = ap targets_of (logs_grown logs stored.within)

      by : (number : ℕ) → number < length new.names → (known : Bool) → ltb number (length old.names) ≡ known
          → get_or places number None ≡ log_number (name_at new.names number) (logs_of new logs)
      by number below true known =
          let before : number < length old.names = ltb-true number (length old.names) known in
          stored.are_places number before
          ∙ (λ i. position (pointwise nat_eq (sym (name_grown old.names new.names number grows.names before) i)) (sym targets_then i))
      by number below false known =
          let behind : length old.names ≤ number = ltb-false number (length old.names) known in
          let absent = name_behind old.names new.names number grows.names behind below in
          get_or_past places number None (omega (arith, stored.places_within, behind))
          ∙ sym (ap (position (pointwise nat_eq (name_at new.names number))) targets_then
          ∙ none_placed old (name_at new.names number) logs stored.within absent)
