-- The logs of a set of streams, or its fault, when streams are read one after another.
use Rattle.std.proofs.Common.{◌≡◌, ◌↔◌, ℕ, suc, true, false, List, [], ◌∷◌, ◌++◌, Option, None, Some, IsSome, length, map, refl, sym, ap, ◌∙◌, arith}
use Rattle.std.specs.Option.{option_map}
use Rattle.std.specs.List.{list_all}
use Rattle.redo_line.specs.declared.entry.Entry.{Entry}
use Rattle.redo_line.specs.declared.stream_fault.StreamFault.{StreamFault}
use Rattle.redo_device.specs.Feed.{Stream, SomeStream}
use Rattle.redo_line.specs.Log.{unless_fault}
use Rattle.redo_line.specs.Source.{StreamInput, source_fault, source, sources}
use Rattle.redo_logs.specs.Logs.{Log, lowest_fault, targets_of, has_ended}
use Rattle.redo_logs.proofs.LeastFault.{behind_one}
use Rattle.redo_gather.specs.Streams.{MatchKnown, MatchesContents, KnownInput, fully_known, fault_among, prepend_log, log_with, logs_of, complete_log}

-- One more stream, before the others.
either : (fault : Option StreamFault) (target : List ℕ) (entries : List Entry) (logs : Option (List Log))
    (faults : List (Option StreamFault)) → IsSome logs ↔ (lowest_fault faults ≡ None)
    → IsSome (prepend_log (option_map (complete_log target) (unless_fault fault entries)) logs) ↔ (lowest_fault (fault ∷ faults) ≡ None)
either (Some fault) target entries logs faults both = ((λ some. absurd (cc)), (λ none. absurd (cc)))
either None target entries None faults both =
    ((λ some. absurd (cc)), (λ none. absurd (let some = both.1 (none_after (lowest_fault faults) none) in cc)))
  where
    none_after : (first : Option (ℕ × StreamFault)) → behind_one first ≡ None → first ≡ None
    none_after None none = refl
    none_after (Some found) none = absurd (cc)
either None target entries (Some logs) faults both = ((λ some. ap behind_one (both.0 refl)), (λ none. refl))

-- Logs that exist, with one before them.
abbrev InFront : Option Log → Option (List Log) → List Log → Type 0
InFront log logs all = (first : Log) × (others : List Log) × (log ≡ Some first) × (logs ≡ Some others) × (all ≡ first ∷ others)

of_prefix : (log : Option Log) (logs : Option (List Log)) (all : List Log) → prepend_log log logs ≡ Some all → InFront log logs all
of_prefix None logs all is = absurd (cc)
of_prefix (Some log) None all is = absurd (cc)
of_prefix (Some log) (Some logs) all is = (log, logs, refl, refl, (cc))

-- If the log exists, there is no fault.
no_fault : (fault : Option StreamFault) (target : List ℕ) (entries : List Entry) (log : Log)
    → option_map (complete_log target) (unless_fault fault entries) ≡ Some log
    → (fault ≡ None) × (log.target ≡ target) × (has_ended log ≡ true)
no_fault (Some fault) target entries log is = absurd (cc)
no_fault None target entries log is =
    let log_is : complete_log target entries ≡ log = cc in
    (refl, sym (ap (λ (l : Log). l.target) log_is), sym (ap has_ended log_is))

all_ended-more : (log : Log) (logs : List Log) → has_ended log ≡ true → list_all has_ended logs ≡ true
    → list_all has_ended (log ∷ logs) ≡ true
all_ended-more log logs one others = rw (one, others)

module _ (max_bytes : ℕ) where
  pub logs_or_fault : (targets : List (List ℕ)) (streams : List (StreamInput Stream))
      → IsSome (logs_of max_bytes targets streams) ↔ (fault_among max_bytes targets streams ≡ None)
  logs_or_fault [] streams = ((λ some. refl), (λ none. refl))
  logs_or_fault (target ∷ targets) [] = ((λ some. refl), (λ none. refl))
  logs_or_fault (target ∷ targets) (stream ∷ streams) =
      either (source_fault max_bytes (source target stream.must_close stream.stream)) target _ (logs_of max_bytes targets streams) _
      (logs_or_fault targets streams)

  -- The logs of whole streams have the targets of the streams, and have ended.
  pub whole_logs : (targets : List (List ℕ)) (streams : List (StreamInput Stream)) (logs : List Log) → length targets ≡ length streams
      → logs_of max_bytes targets streams ≡ Some logs
      → (targets_of logs ≡ targets) × (list_all has_ended logs ≡ true)
  whole_logs [] [] logs same is = let none : [] ≡ logs = cc in (sym (ap targets_of none), sym (ap (list_all has_ended) none))
  whole_logs [] (stream ∷ streams) logs same is = absurd (cc)
  whole_logs (target ∷ targets) [] logs same is = absurd (cc)
  whole_logs (target ∷ targets) (stream ∷ streams) logs same is =
      let prefix = of_prefix _ _ logs is in
      let fine = no_fault (source_fault max_bytes (source target stream.must_close stream.stream)) target _ prefix.0 prefix.2 in
      let others = whole_logs targets streams prefix.1 (omega (arith, same)) prefix.3 in (
        ap targets_of prefix.4 ∙ ap (λ t. t ∷ targets_of prefix.1) fine.1 ∙ ap (λ ts. target ∷ ts) others.0,
        ap (list_all has_ended) prefix.4 ∙ all_ended-more prefix.0 prefix.1 fine.2 others.1,
      )

  module _ (target : List ℕ) (stream : StreamInput Stream) where
    -- One more stream, after the others.
    pub one_more : (targets : List (List ℕ)) (streams : List (StreamInput Stream)) (logs : List Log) (log : Log)
        → length targets ≡ length streams → logs_of max_bytes targets streams ≡ Some logs
        → log_with max_bytes (source target stream.must_close stream.stream) ≡ Some log
        → logs_of max_bytes (targets ++ target ∷ []) (streams ++ stream ∷ []) ≡ Some (logs ++ log ∷ [])
    one_more [] [] logs log same is has = let none : [] ≡ logs = cc in
        ap (λ l. prepend_log l (Some [])) has ∙ ap (λ (ls : List Log). Some (ls ++ log ∷ [])) none
    one_more [] (other ∷ streams) logs log same is has = absurd (cc)
    one_more (first ∷ targets) [] logs log same is has = absurd (cc)
    one_more (first ∷ targets) (other ∷ streams) logs log same is has =
        let prefix = of_prefix _ _ logs is in
        ap (λ l. prepend_log l (logs_of max_bytes (targets ++ target ∷ []) (streams ++ stream ∷ []))) prefix.2
        ∙ ap (prepend_log (Some prefix.0)) (one_more targets streams prefix.1 log (omega (arith, same)) prefix.3 has)
        ∙ ap (λ (ls : List Log). Some (ls ++ log ∷ [])) (sym prefix.4)

    -- A fault after streams that have none.
    pub fault_after : (targets : List (List ℕ)) (streams : List (StreamInput Stream)) (logs : List Log) (left : List (List ℕ))
        (unread : List (StreamInput Stream)) (fault : StreamFault) → length targets ≡ length streams
        → logs_of max_bytes targets streams ≡ Some logs
        → source_fault max_bytes (source target stream.must_close stream.stream) ≡ Some fault
        → fault_among max_bytes (targets ++ target ∷ left) (streams ++ stream ∷ unread) ≡ Some (length targets, fault)
    fault_after [] [] logs left unread fault same is has = rw (has)
    fault_after [] (other ∷ streams) logs left unread fault same is has = absurd (cc)
    fault_after (first ∷ targets) [] logs left unread fault same is has = absurd (cc)
    fault_after (first ∷ targets) (other ∷ streams) logs left unread fault same is has =
        let prefix = of_prefix _ _ logs is in
        let fine = no_fault (source_fault max_bytes (source first other.must_close other.stream)) first _ prefix.0 prefix.2 in
        ap (λ f. lowest_fault (f ∷ map (source_fault max_bytes) (sources (targets ++ target ∷ left) (streams ++ stream ∷ unread)))) fine.0
        ∙ ap behind_one (fault_after targets streams prefix.1 left unread fault (omega (arith, same)) prefix.3 has)
        ∙ ap (λ (n : ℕ). Some (n, fault)) (omega arith)

-- The streams that readers give.
pub count_known : (known : List KnownInput) (streams : List (StreamInput Stream)) → MatchKnown known streams → length known ≡ length streams
count_known [] [] are = refl
count_known [] (stream ∷ streams) are = absurd are
count_known (known ∷ others) [] are = absurd are
count_known (known ∷ others) (stream ∷ streams) are = ap suc (count_known others streams are.1)

pub known-append : (known more : List KnownInput) (streams unread : List (StreamInput Stream)) → MatchKnown known streams
    → MatchKnown more unread → MatchKnown (known ++ more) (streams ++ unread)
known-append [] more [] unread are rest = rest
known-append [] more (stream ∷ streams) unread are rest = absurd are
known-append (known ∷ others) more [] unread are rest = absurd are
known-append (known ∷ others) more (stream ∷ streams) unread are rest = (are.0, known-append others more streams unread are.1 rest)

-- The known stream of a reader, or an empty one.
any_stream : (known : Option Stream) → (stream : Stream) × MatchesContents known stream
any_stream None = (record { bytes = []; fails = false }, tt)
any_stream (Some stream) = (stream, refl)

pub any_streams : (known : List KnownInput) → (streams : List (StreamInput Stream)) × MatchKnown known streams
any_streams [] = ([], tt)
any_streams (known ∷ others) = (
  record { must_close = known.must_close; stream = (any_stream known.stream).0 }
      ∷ (any_streams others).0,
  ((refl, (any_stream known.stream).1), (any_streams others).1),
)

pub given_stream : (known : Option Stream) (P : Stream → Type 0) → SomeStream known P
    → (stream : Stream) × MatchesContents known stream × P stream
given_stream None P (stream, p) = (stream, tt, p)
given_stream (Some stream) P p = (stream, refl, p)

-- If all streams are known, these are the streams that the readers give.
pub all_known : (streams others : List (StreamInput Stream)) → MatchKnown (map fully_known streams) others → others ≡ streams
all_known [] [] are = refl
all_known [] (other ∷ others) are = absurd are
all_known (stream ∷ streams) [] are = absurd are
all_known (stream ∷ streams) (other ∷ others) are =
    λ i. record { must_close = are.0.0 i; stream = are.0.1 i } ∷ all_known streams others are.1 i
