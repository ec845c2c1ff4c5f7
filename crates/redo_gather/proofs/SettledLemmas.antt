-- Tables in which each log is the log of its stream, up to its end or its fault.
use Rattle.std.proofs.Common.{◌≡◌, ℕ, ◌<◌, true, List, [], ◌∷◌, ◌++◌, Option, None, Some, length, map, refl, sym, ap, ◌∙◌, arith}
use Rattle.std.specs.Option.{option_map}
use Rattle.std.specs.List.{list_all}
use Rattle.std.proofs.lemmas.List.{length-map}
use Rattle.std.proofs.lemmas.Option.{slice_get_within}
use Rattle.redo_line.specs.declared.entry.Entry.{Entry}
use Rattle.redo_line.specs.declared.stream_fault.StreamFault.{StreamFault}
use Rattle.redo_device.specs.Feed.{Stream, SomeStream}
use Rattle.redo_line.specs.Log.{unless_fault}
use Rattle.redo_line.specs.Source.{StreamInput, Source, source_fault, source, sources, with_stream}
use Rattle.redo_logs.specs.Logs.{Log, fault_in, first_failed, lowest_fault, has_ended, states_of, targets_of}
use Rattle.redo_logs.proofs.LeastFault.{behind_one, found_there}
use Rattle.redo_gather.specs.Expected.{KnownSource, log_or_part, reported_entries}
use Rattle.redo_gather.specs.Private.Storing.{state_after}
use Rattle.redo_gather.specs.Streams.{AreLogsOfReaders, MatchKnown, IsLowestFault, KnownInput, prepend_log, logs_of, complete_log}
use Rattle.redo_gather.proofs.StreamLemmas.{count_known, given_stream, whole_logs}

-- The log of a stream, up to its end or its fault.
abbrev pub log_after : ℕ → Source Stream → Log
log_after max_bytes source = record {
  target = source.target;
  entries = reported_entries max_bytes source;
  state = state_after (source_fault max_bytes source);
}

abbrev pub IsSettled : ℕ → KnownSource → Log → Type 0
IsSettled max_bytes given log = SomeStream given.stream (λ stream. log ≡ log_after max_bytes (with_stream stream given))

abbrev pub AreSettled : ℕ → List KnownSource → List Log → Type 0
AreSettled max_bytes [] [] = Unit {0}
AreSettled max_bytes [] (log ∷ logs) = ⊥
AreSettled max_bytes (given ∷ others) [] = ⊥
AreSettled max_bytes (given ∷ others) (log ∷ logs) = IsSettled max_bytes given log × AreSettled max_bytes others logs

-- The log that failed is in the table.
pub failed-within : (table : List Log) (number : ℕ) (fault : StreamFault) → first_failed table ≡ Some (number, fault)
    → number < length table
failed-within table number fault found =
    let there = slice_get_within (map fault_in (states_of table)) number (Some fault)
    (found_there (map fault_in (states_of table)) number fault found) in
    omega (arith, there, length-map (states_of table) fault_in, length-map table (λ (log : Log). log.state))

module _ (max_bytes : ℕ) where
  pub settled-count : (given : List KnownSource) (logs : List Log) → AreSettled max_bytes given logs → length logs ≡ length given
  settled-count [] [] are = refl
  settled-count [] (log ∷ logs) are = absurd are
  settled-count (given ∷ others) [] are = absurd are
  settled-count (given ∷ others) (log ∷ logs) are = omega (arith, settled-count others logs are.1)

  pub one_settled : (given : List KnownSource) (one : KnownSource) (logs : List Log) (log : Log) → AreSettled max_bytes given logs
      → IsSettled max_bytes one log → AreSettled max_bytes (given ++ one ∷ []) (logs ++ log ∷ [])
  one_settled [] one [] log are is = (is, tt)
  one_settled [] one (other ∷ logs) log are is = absurd are
  one_settled (first ∷ given) one [] log are is = absurd are
  one_settled (first ∷ given) one (other ∷ logs) log are is = (are.0, one_settled given one logs log are.1 is)

  fault_after : (fault : Option StreamFault) → fault_in (state_after fault) ≡ fault
  fault_after None = refl
  fault_after (Some fault) = refl

  -- The streams that the readers of such a table give, with their faults and their logs.
  pub record Comes (names : List (List ℕ)) (known : List KnownInput) (table : List Log) : Type 0 where
    pub streams : List (StreamInput Stream)
    pub known_are : MatchKnown known streams
    pub faults_are : map fault_in (states_of table) ≡ map (source_fault max_bytes) (sources names streams)
    pub logs_are : first_failed table ≡ None → logs_of max_bytes names streams ≡ Some table

  -- One more log, before the others.
  in_prefix_of : (fault : Option StreamFault) (target : List ℕ) (all part : List Entry) (faults : List (Option StreamFault))
      (logs : Option (List Log)) (table : List Log)
      → (lowest_fault faults ≡ None → logs ≡ Some table) → lowest_fault (fault ∷ faults) ≡ None
      → prepend_log (option_map (complete_log target) (unless_fault fault all)) logs
      ≡ Some (record { target = target; entries = log_or_part (unless_fault fault all) part; state = state_after fault } ∷ table)
  in_prefix_of (Some fault) target all part faults logs table others none = absurd (cc)
  in_prefix_of None target all part faults logs table others none =
      ap (prepend_log (Some (complete_log target all))) (others (none_after (lowest_fault faults) none))
    where
      none_after : (first : Option (ℕ × StreamFault)) → behind_one first ≡ None → first ≡ None
      none_after None none = refl
      none_after (Some found) none = absurd (cc)

  comes : (names : List (List ℕ)) (known : List KnownInput) (table : List Log) → length names ≡ length known
      → AreSettled max_bytes (sources names known) table → Comes names known table
  comes [] [] [] same are = record { streams = []; known_are = tt; faults_are = refl; logs_are = λ none. refl }
  comes [] [] (log ∷ table) same are = absurd are
  comes [] (one ∷ known) table same are = absurd (cc)
  comes (target ∷ names) [] table same are = absurd (cc)
  comes (target ∷ names) (one ∷ known) [] same are = absurd are
  comes (target ∷ names) (one ∷ known) (log ∷ table) same are =
      let given = given_stream one.stream (λ stream. log ≡ log_after max_bytes (source target one.must_close stream)) are.0 in
      let others = comes names known table (omega (arith, same)) are.1 in
      let fault_is : fault_in log.state ≡ source_fault max_bytes (source target one.must_close given.0) =
      ap (λ (l : Log). fault_in l.state) given.2 ∙ fault_after (source_fault max_bytes (source target one.must_close given.0)) in
      record {
        streams = record { must_close = one.must_close; stream = given.0 } ∷ others.streams;
        known_are = ((refl, given.1), others.known_are);
        faults_are = λ i. fault_is i ∷ others.faults_are i;
        logs_are = λ none.
            in_prefix_of (source_fault max_bytes (source target one.must_close given.0)) target _ _ (map fault_in (states_of table))
            (logs_of max_bytes names others.streams) table others.logs_are
            (ap (λ f. lowest_fault (f ∷ map fault_in (states_of table))) (sym fault_is) ∙ none)
            ∙ ap (λ (l : Log). Some (l ∷ table)) (sym given.2);
      }

  -- A whole table of such logs.
  module _ (names : List (List ℕ)) (known : List KnownInput) (table : List Log) (same : length names ≡ length known)
      (are : AreSettled max_bytes (sources names known) table) where
    all : Comes names known table
    all = comes names known table same are

    pub settled-targets : targets_of table ≡ names
    settled-targets = by names known table same are
      where
        by : (names : List (List ℕ)) (known : List KnownInput) (table : List Log) → length names ≡ length known
            → AreSettled max_bytes (sources names known) table → targets_of table ≡ names
        by [] known [] same are = refl
        by [] known (log ∷ table) same are = absurd are
        by (target ∷ names) [] table same are = absurd (omega (arith, same))
        by (target ∷ names) (one ∷ known) [] same are = absurd are
        by (target ∷ names) (one ∷ known) (log ∷ table) same are =
            let given = given_stream one.stream (λ stream. log ≡ log_after max_bytes (source target one.must_close stream)) are.0 in
            let first : log.target ≡ target = ap (λ (l : Log). l.target) given.2 in
            λ i. first i ∷ by names known table (omega (arith, same)) are.1 i

    pub settled-fault : (number : ℕ) (fault : StreamFault) → first_failed table ≡ Some (number, fault)
        → IsLowestFault max_bytes names known number fault
    settled-fault number fault found = (all.streams, all.known_are, ap lowest_fault (sym all.faults_are) ∙ found)

    module _ (none : first_failed table ≡ None) where
      pub settled-logs : AreLogsOfReaders max_bytes names known table
      settled-logs = (all.streams, all.known_are, all.logs_are none)

      pub settled-ended : list_all has_ended table ≡ true
      settled-ended = (whole_logs max_bytes names all.streams table (same ∙ count_known known all.streams all.known_are)
          (all.logs_are none)).1
