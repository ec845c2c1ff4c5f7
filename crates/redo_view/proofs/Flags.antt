-- Visited flags, and the names that they belong to.
use Rattle.std.proofs.Common.{◌≡◌, ℕ, zero, suc, ◌<◌, Bool, true, false, ◌||◌, if◌then◌else◌, List, [], ◌∷◌, ◌++◌, Option, None, Some, nat_eq, get_or, length, slice_get, refl, sym, ap, ◌∙◌, subst, arith}
use Rattle.std.specs.Cmp.Lexicographic.{pointwise}
use Rattle.std.specs.List.{AllByRecursion, IsDistinct}
use Rattle.std.proofs.lemmas.Cmp.{nat_list_eq_equiv}
use Rattle.std.proofs.lemmas.List.{get_or-map, length-map}
use Rattle.std.proofs.lemmas.List.Folds.{list_any-append}
use Rattle.std.proofs.lemmas.Option.{get_or_from_slice_get, none-some, same_Some, slice_get-get_or}
use Rattle.redo_logs.specs.declared.numbered.NumberedEntry.{NumberedEntry}
use Rattle.redo_logs.specs.declared.numbered.NumberedEntry.TheVariants.{Mention, Other}
use Rattle.redo_logs.specs.declared.entry_ref.EntryRef.TheVariants as other
use Rattle.redo_logs.specs.Logs.{Log, log_number, targets_of}
use Rattle.redo_logs.specs.Numbering.{IsNumbered, Numbering, name_at, numbered_value}
use Rattle.redo_options.specs.declared.options.Options.{Options}
use Rattle.redo_view.specs.declared.entry.Visited.{Visited}
use Rattle.redo_view.specs.Event.{opening_of}
use Rattle.redo_view.specs.Expansion.{ViewState, begin_log, is_among, is_mention, insert_name}
use Rattle.redo_view.specs.Private.Progress.{MatchesFlags, flags_of}
use Rattle.redo_view.specs.Private.EntryEffect.{Fits, is_set, log_to_open, mention_line, named_after, nested_log, opening_by, own_events, set_flag}
use Rattle.redo_view.proofs.Growing.{Names, more-has, insert_name-new}
use Rattle.redo_view.proofs.OneEntry as alone
use Rattle.redo_view.proofs.Shifting.{first_log}

-- ---- flags

-- The flag with a number is the flag of the name with this number.
pub flag_at : (names others : Names) (number : ℕ) → number < length names
    → is_set (flags_of names others) number ≡ is_among (name_at names number) others
flag_at names others number below = get_or-map (λ name. is_among name others) names number [] false below

-- A flag that was read.
flag_read : (flags : List Bool) (number : ℕ) (flag : Bool) → number < length flags → flag ≡ get_or flags number flag
    → flag ≡ is_set flags number
flag_read flags number flag below read =
    read ∙ same_Some (get_or flags number flag) (is_set flags number)
    (sym (slice_get-get_or flags number flag below) ∙ slice_get-get_or flags number false below)

or_none : (b : Bool) → (b || false) ≡ b
or_none true = refl
or_none false = refl

-- A property of all names holds for one.
all_at : (P : List ℕ → Type 0) (names : Names) (number : ℕ) → AllByRecursion P names → number < length names → P (name_at names number)
all_at P [] number all below = absurd (omega (arith, below))
all_at P (name ∷ names) zero all below = all.0
all_at P (name ∷ names) (suc number) all below = all_at P names number all.1 (omega (arith, below))

module _ (others : Names) where
  -- The inserted name is among them.
  insert_has : (new : List ℕ) → is_among new (insert_name new others) ≡ true
  insert_has new = by (is_among new others) refl
    where
      by : (there : Bool) → is_among new others ≡ there → is_among new (if there then others else others ++ new ∷ []) ≡ true
      by true is = is
      by false is = more-has new others

  -- Nothing else changes.
  insert_other : (new name : List ℕ) → pointwise nat_eq name new ≡ false → is_among name (insert_name new others) ≡ is_among name others
  insert_other new name differs = by (is_among new others)
    where
      by : (there : Bool) → is_among name (if there then others else others ++ new ∷ []) ≡ is_among name others
      by true = refl
      by false = list_any-append (pointwise nat_eq name) others (new ∷ []) ∙ ap (λ b. is_among name others || (b || false)) differs
          ∙ or_none (is_among name others)

  insert_others : (new : List ℕ) (names : Names) → AllByRecursion (λ name. pointwise nat_eq new name ≡ false) names
      → flags_of names (insert_name new others) ≡ flags_of names others
  insert_others new [] differ = refl
  insert_others new (name ∷ names) differ =
      λ i. insert_other new name (nat_list_eq_equiv.symm name new ∙ differ.0) i ∷ insert_others new names differ.1 i

  -- Setting the flag of a number inserts its name.
  pub set_flag-inserts : (names : Names) (number : ℕ) → IsDistinct (pointwise nat_eq) names → number < length names
      → set_flag (flags_of names others) number ≡ flags_of names (insert_name (name_at names number) others)
  unfolding IsDistinct
  set_flag-inserts [] number distinct below = absurd (omega (arith, below))
  set_flag-inserts (name ∷ names) zero distinct below = λ i. sym (insert_has name) i ∷ sym (insert_others name names distinct.0) i
  set_flag-inserts (name ∷ names) (suc number) distinct below =
      let less : number < length names = omega (arith, below) in
      λ i. sym (insert_other (name_at names number) name
      (all_at (λ other. pointwise nat_eq name other ≡ false) names number distinct.0 less)) i
      ∷ set_flag-inserts names number distinct.1 less i

-- ---- a viewer's flags

module _ (numbering : Numbering) where
  count_targets : length (targets_of numbering.logs) ≡ length numbering.logs
  count_targets = length-map numbering.logs (λ (log : Log). log.target)

  module _ (visited : Visited) (state : ViewState) (is : MatchesFlags numbering visited state) where
    -- The flag of a log states whether its target was opened.
    pub was_opened : (target : List ℕ) (number : ℕ) → log_number target numbering.logs ≡ Some number
        → is_set visited.opened.items number ≡ is_among target state.opened
    was_opened target number looked_up =
        let first = first_log target numbering.logs number looked_up in
        ap (λ flags. is_set flags number) is.opened
        ∙ flag_at (targets_of numbering.logs) state.opened number (omega (arith, first.2, count_targets))
        ∙ ap (λ name. is_among name state.opened) (get_or_from_slice_get (targets_of numbering.logs) number target [] first.0)

    -- A flag that was read states whether the log's target was opened.
    pub flag_is : (target : List ℕ) (number : ℕ) (flag : Bool) → Fits numbering visited → log_number target numbering.logs ≡ Some number
        → flag ≡ get_or visited.opened.items number flag → flag ≡ is_among target state.opened
    flag_is target number flag fits looked_up read =
        let below = (first_log target numbering.logs number looked_up).2 in
        flag_read visited.opened.items number flag (omega (arith, below, fits.logs)) read ∙ was_opened target number looked_up

    module _ (fits : Fits numbering visited) where
      -- A log that wasn't opened is begun.
      pub begins : (after : Visited) (target : List ℕ) (number name : ℕ) → log_number target numbering.logs ≡ Some number
          → is_set visited.opened.items number ≡ false
          → name < length numbering.names → slice_get (targets_of numbering.logs) number ≡ Some (name_at numbering.names name)
          → after.named.items ≡ set_flag visited.named.items name → after.opened.items ≡ set_flag visited.opened.items number
          → MatchesFlags numbering after (begin_log target state)
      begins after target number name looked_up new below named named_then opened_then =
          let first = first_log target numbering.logs number looked_up in
          let target_is : name_at (targets_of numbering.logs) number ≡ target =
          get_or_from_slice_get (targets_of numbering.logs) number target [] first.0 in
          let name_is : name_at numbering.names name ≡ target =
          sym (get_or_from_slice_get (targets_of numbering.logs) number (name_at numbering.names name) [] named) ∙ target_is in
          let absent = sym (was_opened target number looked_up) ∙ new in
          record {
            named =
                named_then ∙ ap (λ flags. set_flag flags name) is.named
                ∙ set_flag-inserts state.named numbering.names name fits.names_differ below
                ∙ ap (λ new. flags_of numbering.names (insert_name new state.named)) name_is;
            opened =
                opened_then ∙ ap (λ flags. set_flag flags number) is.opened
                ∙ set_flag-inserts state.opened (targets_of numbering.logs) number fits.table.targets_differ
                (omega (arith, first.2, count_targets))
                ∙ ap (λ new. flags_of (targets_of numbering.logs) (insert_name new state.opened)) target_is
                ∙ ap (flags_of (targets_of numbering.logs)) (insert_name-new target state.opened absent);
          }

      -- ---- one entry, by the flags and by the names

      module _ (options : Options) where
        -- Whether a mention opens its target's log.
        opening_is : (target : List ℕ) → opening_by options.recursive visited.opened.items (log_number target numbering.logs)
            ≡ alone.opening_after numbering.logs options target state.opened
        opening_is target = by (log_number target numbering.logs) refl
          where
            by : (found : Option ℕ) → log_number target numbering.logs ≡ found
                → opening_by options.recursive visited.opened.items found
                ≡ opening_of options.recursive (is_among target state.opened) found
            by None looked_up = refl
            by (Some number) looked_up = ap (λ opened. opening_of options.recursive opened (Some number))
                (was_opened target number looked_up)

        -- The events that it shows.
        pub events_are : (depth : ℕ) (entry : NumberedEntry) → IsNumbered numbering.names entry
            → own_events numbering options depth visited entry
            ≡ alone.own_events numbering.logs options depth state.named state.opened (numbered_value numbering.names entry)
        events_are depth (Mention pid how name) below =
            let target = name_at numbering.names name in
            ap (λ opening. if is_mention options how then mention_line options depth pid how target opening
            (is_set visited.named.items name) else []) (opening_is target)
            ∙ ap (λ was_named. if is_mention options how then mention_line options depth pid how target
            (alone.opening_after numbering.logs options target state.opened) was_named else [])
            (ap (λ flags. is_set flags name) is.named ∙ flag_at numbering.names state.named name below)
        events_are depth (Other (other.Text line)) numbered = refl
        events_are depth (Other (other.Mention pid how name)) numbered = absurd numbered
        events_are depth (Other (other.Done pid status name)) numbered = refl
        events_are depth (Other (other.Closing pid status)) numbered = refl
        events_are depth (Other (other.Note pid kind text)) numbered = refl

        -- Which targets are named after it.
        pub named_is : (entry : NumberedEntry) → IsNumbered numbering.names entry
            → named_after numbering options visited.named.items entry
            ≡ flags_of numbering.names (alone.named_after options state.named (numbered_value numbering.names entry))
        named_is (Mention pid how name) below = by (is_mention options how)
          where
            by : (counts : Bool) → (if counts then set_flag visited.named.items name else visited.named.items)
                ≡ flags_of numbering.names (if counts then insert_name (name_at numbering.names name) state.named else state.named)
            by true = ap (λ flags. set_flag flags name) is.named ∙ set_flag-inserts state.named numbering.names name fits.names_differ below
            by false = is.named
        named_is (Other (other.Text line)) numbered = is.named
        named_is (Other (other.Mention pid how name)) numbered = absurd numbered
        named_is (Other (other.Done pid status name)) numbered = is.named
        named_is (Other (other.Closing pid status)) numbered = is.named
        named_is (Other (other.Note pid kind text)) numbered = is.named

        -- Which log it opens.
        pub nested_log_is : (entry : NumberedEntry) → IsNumbered numbering.names entry
            → nested_log numbering options visited.opened.items entry
            ≡ alone.nested_log numbering.logs options state.opened (numbered_value numbering.names entry)
        nested_log_is (Mention pid how name) below =
            ap (λ opening. if is_mention options how then log_to_open opening else None) (opening_is (name_at numbering.names name))
        nested_log_is (Other (other.Text line)) numbered = refl
        nested_log_is (Other (other.Mention pid how name)) numbered = absurd numbered
        nested_log_is (Other (other.Done pid status name)) numbered = refl
        nested_log_is (Other (other.Closing pid status)) numbered = refl
        nested_log_is (Other (other.Note pid kind text)) numbered = refl

-- ---- the log that an entry opens

module _ (numbering : Numbering) (options : Options) (opened : List Bool) (number : ℕ) where
  -- Whether there is a log with this number, and it wasn't opened.
  abbrev pub IsNewLog : Type 0
  IsNewLog = (number < length numbering.logs) × (is_set opened number ≡ false)

  new_looked_up : (target : List ℕ) (found : Option ℕ) → log_number target numbering.logs ≡ found
      → log_to_open (opening_by options.recursive opened found) ≡ Some number → IsNewLog
  new_looked_up target None looked_up is = absurd (none-some number is)
  new_looked_up target (Some other) looked_up is = by options.recursive (is_set opened other) refl is
    where
      by : (recursive was : Bool) → is_set opened other ≡ was → log_to_open (opening_of recursive was (Some other)) ≡ Some number → IsNewLog
      by recursive true was is = absurd (none-some number is)
      by true false was is =
          let same = same_Some other number is in (
            subst (λ n. n < length numbering.logs) same (first_log target numbering.logs other looked_up).2,
            subst
                (λ n. is_set opened n ≡ false) same was,
          )
      by false false was is = absurd (none-some number is)

  new_mentioned : (target : List ℕ) (counts : Bool)
      → (if counts then log_to_open (opening_by options.recursive opened (log_number target numbering.logs)) else None) ≡ Some number
      → IsNewLog
  new_mentioned target true is = new_looked_up target (log_number target numbering.logs) refl is
  new_mentioned target false is = absurd (none-some number is)

  pub nested_log_is_new : (entry : NumberedEntry) → nested_log numbering options opened entry ≡ Some number → IsNewLog
  nested_log_is_new (Mention pid how name) is = new_mentioned (name_at numbering.names name) (is_mention options how) is
  nested_log_is_new (Other other) is = absurd (none-some number is)
