-- The state of the loop that gathers streams one after another.
use Rattle.std.proofs.Common.{◌≡◌, ℕ, true, List, [], ◌∷◌, ◌++◌, None, Some, length, map, slice_get, refl, sym, ap, ◌∙◌, arith, Result, Ok, Err, ◌≢◌, subst}
use Rattle.std.specs.List.{list_all}
use Rattle.std.specs.Result.{result_and}
use Rattle.std.proofs.lemmas.List.{append_assoc, append-nil, length-append, length-map}
use Rattle.redo_line.specs.declared.stream_fault.StreamFault.{StreamFault}
use Rattle.redo_line.specs.declared.stream_fault.StreamFault.TheVariants.{BadRecord, AfterClose, TooLong, Read, OutOfMemory, NotClosed}
use Rattle.redo_device.specs.Feed.{Stream}
use Rattle.redo_line.specs.Source.{StreamInput, source_fault, source_log, source}
use Rattle.redo_logs.specs.declared.log_state.LogState.TheVariants.{Running}
use Rattle.redo_logs.specs.Logs.{Log, new_log, targets_of, states_of, update_log, has_ended}
use Rattle.redo_logs.proofs.ChangedLemmas.{update_log-here}
use Rattle.redo_gather.specs.declared.gather_fault.GatherFault.{GatherFault}
use Rattle.redo_gather.specs.declared.gather_fault.GatherFault.TheVariants as fault_of_all
use Rattle.redo_gather.specs.Gathered.{IsGathered}
use Rattle.redo_gather.specs.GatherFault.{IfStreamFault}
use Rattle.redo_gather.specs.Private.GatherFault.{fault_of_stream}
use Rattle.redo_gather.specs.Private.Storing.{HasFault, IsCompleted, completed}
use Rattle.redo_gather.specs.Streams.{MatchKnown, SomeMatchingStreams, KnownInput, complete_log, logs_of, fault_among}
use Rattle.redo_gather.proofs.StreamLemmas.{whole_logs, one_more, fault_after, count_known, known-append, any_streams, given_stream}

-- The first logs of a table are complete, one for each reader that was read to its end. The others are empty.
pub record Gathered (max_bytes : ℕ) (names : List (List ℕ)) (known : List KnownInput) (table : List Log) : Type 0 where
  pub first : List (List ℕ)
  pub left : List (List ℕ)
  pub streams : List (StreamInput Stream)
  pub logs : List Log
  pub names_are : names ≡ first ++ left
  pub known_are : MatchKnown known streams
  pub count : length first ≡ length streams
  pub logs_are : logs_of max_bytes first streams ≡ Some logs
  pub table_is : table ≡ logs ++ map new_log left

pub none_gathered : (max_bytes : ℕ) (names : List (List ℕ)) → Gathered max_bytes names [] (map new_log names)
none_gathered max_bytes names =
    record {
      first = [];
      left = names;
      streams = [];
      logs = [];
      names_are = refl;
      known_are = tt;
      count = refl;
      logs_are = refl;
      table_is = refl;
    }

targets-append : (logs others : List Log) → targets_of (logs ++ others) ≡ targets_of logs ++ targets_of others
targets-append [] others = refl
targets-append (log ∷ logs) others = ap (λ ts. log.target ∷ ts) (targets-append logs others)

targets-new : (left : List (List ℕ)) → targets_of (map new_log left) ≡ left
targets-new [] = refl
targets-new (target ∷ left) = ap (λ ts. target ∷ ts) (targets-new left)

-- The element after `first` is the first one of `left`.
at_seam : {A : Type 0} (first left : List A) (x : A) → slice_get (first ++ left) (length first) ≡ Some x
    → (others : List A) × (left ≡ x ∷ others)
at_seam [] [] x is = absurd (cc)
at_seam [] (y ∷ left) x is = (left, (cc))
at_seam (y ∷ first) left x is = at_seam first left x is

module _ (max_bytes : ℕ) (names : List (List ℕ)) (known : List KnownInput) (table : List Log)
    (so_far : Gathered max_bytes names known table) where
  targets_are : targets_of table ≡ names
  targets_are =
      ap targets_of so_far.table_is ∙ targets-append so_far.logs (map new_log so_far.left)
      ∙ ap (λ ts. ts ++ targets_of (map new_log so_far.left))
      (whole_logs max_bytes so_far.first so_far.streams so_far.logs so_far.count so_far.logs_are).0
      ∙ ap (λ ts. so_far.first ++ ts) (targets-new so_far.left) ∙ sym so_far.names_are

  number_is : length so_far.first ≡ length known
  number_is = so_far.count ∙ sym (count_known known so_far.streams so_far.known_are)

  pub count_logs : length table ≡ length names
  count_logs = sym (length-map table (λ (log : Log). log.target)) ∙ ap length targets_are

  logs_count : length so_far.logs ≡ length so_far.first
  logs_count =
      sym (length-map so_far.logs (λ (log : Log). log.target))
      ∙ ap length (whole_logs max_bytes so_far.first so_far.streams so_far.logs so_far.count so_far.logs_are).0

  module _ (target : List ℕ) (here : slice_get (targets_of table) (length known) ≡ Some target) where
    -- The target of the next reader is the first one that is left.
    next : (others : List (List ℕ)) × (so_far.left ≡ target ∷ others)
    next =
        at_seam so_far.first so_far.left target
        (ap (λ n. slice_get (so_far.first ++ so_far.left) n) number_is ∙ ap (λ ts. slice_get ts (length known)) (sym so_far.names_are)
        ∙ ap (λ ts. slice_get ts (length known)) (sym targets_are) ∙ here)

    table_here : table ≡ so_far.logs ++ new_log target ∷ map new_log next.0
    table_here = so_far.table_is ∙ ap (λ ts. so_far.logs ++ map new_log ts) next.1

    names_here : names ≡ so_far.first ++ target ∷ next.0
    names_here = so_far.names_are ∙ ap (λ ts. so_far.first ++ ts) next.1

    pub next_runs : slice_get (states_of table) (length known) ≡ Some Running
    next_runs =
        ap (λ t. slice_get (states_of t) (length known)) table_here
        ∙ ap (λ n. slice_get (states_of (so_far.logs ++ new_log target ∷ map new_log next.0)) n) (sym (logs_count ∙ number_is))
        ∙ runs so_far.logs (map new_log next.0)
      where
        runs : (logs others : List Log) → slice_get (states_of (logs ++ new_log target ∷ others)) (length logs) ≡ Some Running
        runs [] others = refl
        runs (log ∷ logs) others = runs logs others

    pub one_gathered : (reader : KnownInput) (after : List Log)
        → IsCompleted max_bytes (length known) (source target reader.must_close reader.stream) table after
        → Gathered max_bytes names (known ++ reader ∷ []) after
    one_gathered reader after completes =
        let entries = completes.entries in
        let given = given_stream reader.stream
        (λ stream. source_log max_bytes (source target reader.must_close stream) ≡ Some entries) completes.entries_are in
        let log = complete_log target entries in
        let one : StreamInput Stream = record { must_close = reader.must_close; stream = given.0 } in record {
          first = so_far.first ++ target ∷ [];
          left = next.0;
          streams = so_far.streams ++ one ∷ [];
          logs = so_far.logs ++ log ∷ [];
          names_are = names_here ∙ sym (append_assoc so_far.first (target ∷ []) next.0);
          known_are = known-append known (reader ∷ []) so_far.streams (one ∷ []) so_far.known_are ((refl, given.1), tt);
          count = let same = so_far.count in
              omega (arith, length-append so_far.first (target ∷ []), length-append so_far.streams (one ∷ []));
          logs_are =
              one_more max_bytes target one so_far.first so_far.streams so_far.logs log so_far.count so_far.logs_are
              (ap (λ es. Rattle.std.specs.Option.option_map (complete_log target) es) given.2);
          table_is =
              completes.after_is ∙ ap (update_log (length known) (completed entries None)) table_here
              ∙ ap (λ n. update_log n (completed entries None) (so_far.logs ++ new_log target ∷ map new_log next.0))
              (sym (logs_count ∙ number_is))
              ∙ update_log-here so_far.logs (new_log target) (map new_log next.0) (completed entries None)
              ∙ sym (append_assoc so_far.logs (log ∷ []) (map new_log next.0));
        }

    pub fault_gathered : (reader : KnownInput) (unread : List KnownInput) (fault : StreamFault)
        → HasFault max_bytes (source target reader.must_close reader.stream) fault
        → SomeMatchingStreams (known ++ reader ∷ unread) (λ streams. fault_among max_bytes names streams ≡ Some (length known, fault))
    fault_gathered reader unread fault read =
        let given = given_stream reader.stream
        (λ stream. source_fault max_bytes (source target reader.must_close stream) ≡ Some fault) read in
        let one : StreamInput Stream = record { must_close = reader.must_close; stream = given.0 } in
        let others = any_streams unread in (
          so_far.streams ++ one ∷ others.0,
          known-append known (reader ∷ unread) so_far.streams (one ∷ others.0) so_far.known_are ((refl, given.1), others.1),
          ap (λ ts. fault_among max_bytes ts (so_far.streams ++ one ∷ others.0)) names_here
              ∙ fault_after max_bytes target one so_far.first so_far.streams so_far.logs next.0 others.0 fault so_far.count
              so_far.logs_are given.2
              ∙ ap (λ (n : ℕ). Some (n, fault)) number_is,
        )

  -- All readers were read to their ends.
  module _ (all : length known ≡ length names) where
    none_left : so_far.left ≡ []
    none_left = by so_far.left (let n = number_is in let c = ap length so_far.names_are in
        omega (arith, all, length-append so_far.first so_far.left))
      where
        by : (left : List (List ℕ)) → length left ≡ 0 → left ≡ []
        by [] none = refl
        by (target ∷ left) none = absurd (omega (arith, none))

    whole : logs_of max_bytes names so_far.streams ≡ Some table
    whole =
        ap (λ ts. logs_of max_bytes ts so_far.streams) (so_far.names_are ∙ ap (λ l. so_far.first ++ l) none_left ∙ append-nil so_far.first)
        ∙ so_far.logs_are
        ∙ ap Some (sym (so_far.table_is ∙ ap (λ l. so_far.logs ++ map new_log l) none_left ∙ append-nil so_far.logs))

    pub all_gathered : SomeMatchingStreams known (λ streams. logs_of max_bytes names streams ≡ Some table)
    all_gathered = (so_far.streams, so_far.known_are, whole)

    pub all_targets : targets_of table ≡ names
    all_targets = targets_are

    pub all_have_ended : list_all has_ended table ≡ true
    all_have_ended =
        (whole_logs max_bytes names so_far.streams table (sym all ∙ count_known known so_far.streams so_far.known_are) whole).1

-- A property of a stream's fault, unless this is `OutOfMemory`, holds of the gathering's fault for it.
pub of_stream : (A : Type 0) (number : ℕ) (fault : StreamFault) (P : ℕ → StreamFault → Type 0) → (fault ≢ OutOfMemory → P number fault)
    → (given : GatherFault) → given ≡ fault_of_stream number fault → IfStreamFault {A = A} (Err given) P
of_stream A number fault P p given is = subst (λ (f : GatherFault). IfStreamFault {A = A} (Err f) P) (sym is) (by fault p)
  where
    by : (fault : StreamFault) → (fault ≢ OutOfMemory → P number fault) → IfStreamFault {A = A} (Err (fault_of_stream number fault)) P
    by (BadRecord line) p = p (λ e. absurd (cc))
    by (AfterClose line) p = p (λ e. absurd (cc))
    by TooLong p = p (λ e. absurd (cc))
    by Read p = p (λ e. absurd (cc))
    by OutOfMemory p = tt
    by NotClosed p = p (λ e. absurd (cc))

-- If `P` implies `Q`, then `IfStreamFault` with `P` implies `IfStreamFault` with `Q`.
pub weaker_fault : (A B : Type 0) (P Q : ℕ → StreamFault → Type 0) → ((number : ℕ) (fault : StreamFault) → P number fault → Q number fault)
    → (given : GatherFault) → IfStreamFault {A = A} (Err given) P → IfStreamFault {A = B} (Err given) Q
weaker_fault A B P Q follows (fault_of_all.Stream number fault) is = follows number fault is
weaker_fault A B P Q follows fault_of_all.OutOfMemory is = tt

-- A gathering of no streams has no logs.
pub none_requested : {A : Type 0} (contents : A → KnownInput) (max_bytes : ℕ) (names : List (List ℕ)) (readers : List A) (table : List Log)
    → table ≡ map new_log names → length readers ≡ length names → length table ≡ 0
    → IsGathered max_bytes names (map contents readers) (Ok table)
none_requested contents max_bytes [] [] table is same none =
    subst (λ (t : List Log). IsGathered max_bytes [] [] (Ok t)) (sym is)
    (record { logs = ([], tt, refl); targets = refl; ended = refl; fault = tt; number = tt })
none_requested contents max_bytes [] (reader ∷ readers) table is same none = absurd (omega (arith, same))
none_requested contents max_bytes (name ∷ names) readers table is same none = absurd (omega (arith, ap length is, none))

-- A property of the stream's fault in `given` holds of the fault in `result_and given (Ok value)`.
pub fault_of_and : (A B : Type 0) (P : ℕ → StreamFault → Type 0) (given : Result A GatherFault) (value : B) → IfStreamFault {A = A} given P
    → IfStreamFault {A = B} (result_and given (Ok value)) P
fault_of_and A B P (Ok done) value is = tt
fault_of_and A B P (Err (fault_of_all.Stream number fault)) value is = is
fault_of_and A B P (Err fault_of_all.OutOfMemory) value is = tt
