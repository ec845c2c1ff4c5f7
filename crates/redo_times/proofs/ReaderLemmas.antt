-- The tallies after the streams of several readers.
use Rattle.std.proofs.Common.{◌≡◌, ℕ, suc, List, [], ◌∷◌, ◌++◌, Option, Some, length, map, slice_get, refl, sym, ap, ◌∙◌, subst, arith}
use Rattle.std.proofs.lemmas.Grind.{flat_map-append}
use Rattle.std.proofs.lemmas.List.{append-nil, length-map, map_push}
use Rattle.redo_device.specs.Feed.{SomeStream, Stream}
use Rattle.redo_device.proofs.GaveLemmas.{weaker}
use Rattle.redo_times.specs.declared.report.Report.{Report}
use Rattle.redo_times.specs.Readers.{AreTimesOfReaders, SomeStreams, logs_of, times_of_all}
use Rattle.redo_times.specs.Report.{TimedLog, log_reports, reports_of}
use Rattle.redo_times.specs.Times.{times_in}
use Rattle.redo_times.specs.Private.Tally.{AreTallies, AreTalliesOfReaders, AreTalliesOfStream, TallyValue, tally_of, times_from}

-- If `P` holds of some streams, so does a property that follows from it. There are as many streams as readers.
pub weaker_all : (known : List (Option Stream)) (P Q : List Stream → Type 0)
    → ((streams : List Stream) → length streams ≡ length known → P streams → Q streams) → SomeStreams known P → SomeStreams known Q
weaker_all [] P Q follows some = follows [] refl some
weaker_all (one ∷ known) P Q follows some =
    weaker one (λ stream. SomeStreams known (λ streams. P (stream ∷ streams)))
    (λ stream. SomeStreams known (λ streams. Q (stream ∷ streams)))
    (λ stream. weaker_all known (λ streams. P (stream ∷ streams)) (λ streams. Q (stream ∷ streams))
    (λ streams size. follows (stream ∷ streams) (ap (λ n. suc n) size))) some

-- One more reader.
pub and_one : (known : List (Option Stream)) (last : Option Stream) (P : List Stream → Type 0)
    → SomeStreams known (λ streams. SomeStream last (λ stream. P (streams ++ stream ∷ []))) → SomeStreams (known ++ last ∷ []) P
and_one [] last P some = some
and_one (one ∷ known) last P some =
    weaker one (λ stream. SomeStreams known (λ streams. SomeStream last (λ other. P (stream ∷ (streams ++ other ∷ [])))))
    (λ stream. SomeStreams (known ++ last ∷ []) (λ streams. P (stream ∷ streams)))
    (λ stream. and_one known last (λ streams. P (stream ∷ streams))) some

logs_of-none : (targets : List (List ℕ)) → logs_of targets [] ≡ []
logs_of-none [] = refl
logs_of-none (target ∷ targets) = refl

-- The log of one more stream.
logs_of-push : (targets : List (List ℕ)) (streams : List Stream) (stream : Stream) (target : List ℕ)
    → slice_get targets (length streams) ≡ Some target
    → logs_of targets (streams ++ stream ∷ []) ≡ logs_of targets streams ++ record { target = target; bytes = stream.bytes } ∷ []
logs_of-push [] streams stream target here = absurd (cc)
logs_of-push (first ∷ targets) [] stream target here = let same : first ≡ target = cc in
    λ i. record { target = same i; bytes = stream.bytes } ∷ logs_of-none targets i
logs_of-push (first ∷ targets) (one ∷ streams) stream target here =
    ap (λ logs. record { target = first; bytes = one.bytes } ∷ logs) (logs_of-push targets streams stream target here)

module _ (max_bytes : ℕ) (targets : List (List ℕ)) where
  -- The reports of one more log.
  reports-push : (logs : List TimedLog) (log : TimedLog)
      → reports_of max_bytes logs ++ log_reports max_bytes log ≡ reports_of max_bytes (logs ++ log ∷ [])
  reports-push logs log = sym (flat_map-append (log_reports max_bytes) logs (log ∷ [])
      ∙ ap (λ rs. reports_of max_bytes logs ++ rs) (append-nil (log_reports max_bytes log)))

  pub none_read : (tallies : List TallyValue) → AreTallies targets [] tallies → AreTalliesOfReaders max_bytes targets [] tallies
  none_read tallies are = subst (λ (logs : List TimedLog). AreTallies targets (reports_of max_bytes logs) tallies)
      (sym (logs_of-none targets)) are

  pub one_more : (known : List (Option Stream)) (last : Option Stream) (target : List ℕ) (old new : List TallyValue)
      → slice_get targets (length known) ≡ Some target
      → AreTalliesOfReaders max_bytes targets known old
      → ((reports : List Report) → AreTallies targets reports old
      → SomeStream last (λ stream. AreTalliesOfStream targets target reports max_bytes stream new))
      → AreTalliesOfReaders max_bytes targets (known ++ last ∷ []) new
  one_more known last target old new here are adds =
      and_one known last (λ streams. AreTallies targets (reports_of max_bytes (logs_of targets streams)) new)
      (weaker_all known (λ streams. AreTallies targets (reports_of max_bytes (logs_of targets streams)) old) _ (λ streams size tallies.
      weaker last (λ stream. AreTalliesOfStream targets target (reports_of max_bytes (logs_of targets streams)) max_bytes stream new) _
      (λ stream. subst (λ (reports : List Report). AreTallies targets reports new)
      (reports-push (logs_of targets streams) (record { target = target; bytes = stream.bytes })
      ∙ ap (reports_of max_bytes) (sym (logs_of-push targets streams stream target (ap (slice_get targets) size ∙ here)))))
      (adds (reports_of max_bytes (logs_of targets streams)) tallies)) are)

-- ---- a loop over readers

module _ {A : Type 0} (contents : A → Option Stream) (max_bytes : ℕ) (targets : List (List ℕ)) (yielded : List A) where
  -- The stream of one more reader was read.
  pub one_more_read : (reader : A) (number : ℕ) (target : List ℕ) (old new : List TallyValue) → number ≡ length yielded
      → slice_get targets number ≡ Some target
      → AreTalliesOfReaders max_bytes targets (map contents yielded) old
      → ((reports : List Report) → AreTallies targets reports old
      → SomeStream (contents reader) (λ stream. AreTalliesOfStream targets target reports max_bytes stream new))
      → AreTalliesOfReaders max_bytes targets (map contents (yielded ++ reader ∷ [])) new
  one_more_read reader number target old new number_is here are adds =
      let count : length (map contents yielded) ≡ number = length-map yielded contents ∙ sym number_is in
      subst (λ (known : List (Option Stream)). AreTalliesOfReaders max_bytes targets known new) (sym (map_push contents yielded reader))
      (one_more max_bytes targets (map contents yielded) (contents reader) target old new (ap (slice_get targets) count ∙ here) are adds)

  -- No reader is left.
  pub all_read : (readers rest : List A) (tallies : List TallyValue) → yielded ++ rest ≡ readers → length rest ≡ 0
      → AreTalliesOfReaders max_bytes targets (map contents yielded) tallies
      → AreTalliesOfReaders max_bytes targets (map contents readers) tallies
  all_read readers [] tallies all none are =
      subst (λ (rs : List A). AreTalliesOfReaders max_bytes targets (map contents rs) tallies) (sym (append-nil yielded) ∙ all) are
  all_read readers (reader ∷ rest) tallies all none are = absurd (omega (arith, none))

-- ---- the times of all targets

times-map : (reports : List Report) (targets : List (List ℕ))
    → map times_from (map (tally_of reports) targets) ≡ map (times_in reports) targets
times-map reports [] = refl
times-map reports (target ∷ targets) = ap (λ times. times_in reports target ∷ times) (times-map reports targets)

pub times_of_tallies : (max_bytes : ℕ) (targets : List (List ℕ)) (known : List (Option Stream)) (tallies : List TallyValue)
    → AreTalliesOfReaders max_bytes targets known tallies → AreTimesOfReaders max_bytes targets known (map times_from tallies)
times_of_tallies max_bytes targets known tallies =
    weaker_all known _ (λ streams. map times_from tallies ≡ times_of_all max_bytes targets streams)
    (λ streams size are. ap (map times_from) are ∙ times-map (reports_of max_bytes (logs_of targets streams)) targets)
