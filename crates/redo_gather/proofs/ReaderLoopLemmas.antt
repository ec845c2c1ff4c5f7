-- One step of a loop over readers.
use Rattle.std.proofs.Common.{◌≡◌, ℕ, ◌+◌, ◌<◌, true, List, [], ◌∷◌, ◌++◌, Some, length, map, slice_get, get_or, sym, ap, ◌∙◌, subst, arith}
use Rattle.std.specs.List.{list_all}
use Rattle.std.proofs.lemmas.List.{append_assoc, append-nil, length-append, length-map, map_push, map-append}
use Rattle.std.proofs.lemmas.Option.{slice_get-get_or}
use Rattle.redo_line.specs.declared.stream_fault.StreamFault.{StreamFault}
use Rattle.redo_line.specs.Source.{source}
use Rattle.redo_logs.specs.declared.log_state.LogState.TheVariants.{Running}
use Rattle.redo_logs.specs.Logs.{Log, targets_of, states_of, has_ended}
use Rattle.redo_gather.specs.Private.Storing.{HasFault, IsCompleted}
use Rattle.redo_gather.specs.Streams.{SomeMatchingStreams, KnownInput, logs_of, fault_among}
use Rattle.redo_gather.proofs.GatheredLemmas.{Gathered, count_logs, next_runs, one_gathered, fault_gathered, all_gathered, all_targets, all_have_ended}

module _ {A : Type 0} (contents : A → KnownInput) (max_bytes : ℕ) (names : List (List ℕ)) (readers : List A) where
  -- The first `number` readers were read to their ends.
  pub record Underway (read left : List A) (number : ℕ) (table : List Log) : Type 0 where
    pub readers_are : readers ≡ read ++ left
    pub number_is : number ≡ length read
    pub gathered : Gathered max_bytes names (map contents read) table

  module _ (read left : List A) (number : ℕ) (table : List Log) (so_far : Underway read left number table)
      (same : length readers ≡ length names) where
    count : number ≡ length (map contents read)
    count = so_far.number_is ∙ sym (length-map read contents)

    module _ (reader : A) (others : List A) (left_is : left ≡ reader ∷ others) where
      -- There is a name for the next reader.
      pub below_names : number < length names
      below_names = let n = so_far.number_is in
          omega (arith, ap length so_far.readers_are, ap length left_is, same, length-append read left)

      -- There is a log for it.
      pub below_logs : number < length table
      below_logs = omega (arith, below_names, count_logs max_bytes names (map contents read) table so_far.gathered)

      readers_here : readers ≡ read ++ reader ∷ others
      readers_here = so_far.readers_are ∙ ap (λ l. read ++ l) left_is

      -- There is a target for it.
      pub target_below : (target : List ℕ) × (slice_get (targets_of table) number ≡ Some target)
      target_below =
          let within : number < length (targets_of table) = omega (arith, below_logs, length-map table (λ (log : Log). log.target)) in
          (get_or (targets_of table) number [], slice_get-get_or (targets_of table) number [] within)

      module _ (target : List ℕ) (here : slice_get (targets_of table) number ≡ Some target) where
        there : slice_get (targets_of table) (length (map contents read)) ≡ Some target
        there = ap (λ (n : ℕ). slice_get (targets_of table) n) (sym count) ∙ here

        pub log_runs : slice_get (states_of table) number ≡ Some Running
        log_runs =
            ap (λ (n : ℕ). slice_get (states_of table) n) count
            ∙ next_runs max_bytes names (map contents read) table so_far.gathered target there

        pub one_more_read : (after : List Log)
            → IsCompleted max_bytes number (source target (contents reader).must_close (contents reader).stream) table after
            → Underway (read ++ reader ∷ []) others (number + 1) after
        one_more_read after completes = record {
          readers_are = readers_here ∙ sym (append_assoc read (reader ∷ []) others);
          number_is = let n = so_far.number_is in omega (arith, length-append read (reader ∷ []));
          gathered =
              subst (λ known. Gathered max_bytes names known after) (sym (map_push contents read reader))
              (one_gathered max_bytes names (map contents read) table so_far.gathered target there (contents reader) after
              (subst (λ (n : ℕ). IsCompleted max_bytes n (source target (contents reader).must_close (contents reader).stream) table after)
              count completes));
        }

        pub fault_read : (fault : StreamFault)
            → HasFault max_bytes (source target (contents reader).must_close (contents reader).stream) fault
            → SomeMatchingStreams (map contents readers) (λ streams. fault_among max_bytes names streams ≡ Some (number, fault))
        fault_read fault at_fault =
            subst (λ known. SomeMatchingStreams known (λ streams. fault_among max_bytes names streams ≡ Some (number, fault)))
            (sym (ap (map contents) readers_here ∙ map-append contents read (reader ∷ others)))
            (subst (λ (n : ℕ). SomeMatchingStreams (map contents read ++ contents reader ∷ map contents others)
            (λ streams. fault_among max_bytes names streams ≡ Some (n, fault))) (sym count)
            (fault_gathered max_bytes names (map contents read) table so_far.gathered target there (contents reader)
            (map contents others) fault at_fault))

    -- No reader is left.
    module _ (none : length left ≡ 0) where
      all_read : length (map contents read) ≡ length names
      all_read = omega (arith, none, length-map read contents, ap length so_far.readers_are, length-append read left, same)

      read_is : map contents read ≡ map contents readers
      read_is = by left none so_far.readers_are
        where
          by : (l : List A) → length l ≡ 0 → readers ≡ read ++ l → map contents read ≡ map contents readers
          by [] none is = ap (map contents) (sym (is ∙ append-nil read))
          by (x ∷ l) none is = absurd (omega (arith, none))

      pub all_logs : SomeMatchingStreams (map contents readers) (λ streams. logs_of max_bytes names streams ≡ Some table)
      all_logs = subst (λ known. SomeMatchingStreams known (λ streams. logs_of max_bytes names streams ≡ Some table)) read_is
          (all_gathered max_bytes names (map contents read) table so_far.gathered all_read)

      pub all_of_names : targets_of table ≡ names
      all_of_names = all_targets max_bytes names (map contents read) table so_far.gathered all_read

      pub all_whole : list_all has_ended table ≡ true
      all_whole = all_have_ended max_bytes names (map contents read) table so_far.gathered all_read
