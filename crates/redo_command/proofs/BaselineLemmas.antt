-- What is read of a baseline.
use Rattle.std.proofs.Common.{◌≡◌, ◌≢◌, ◌∙◌, arith, inl, inr, ℕ, Bool, List, [], Option, None, Some, Result, Ok, Err, IfErr, is_some, map, refl, sym, ap, subst}
use Rattle.std.specs.Option.{option_map}
use Rattle.std.specs.Result.{result_and}
use Rattle.redo_device.specs.Feed.{Stream}
use Rattle.redo_device.specs.Sink.{Output, append_output}
use Rattle.redo_device.proofs.WritesLemmas.{append_nothing}
use Rattle.redo_line.specs.Source.{StreamInput}
use Rattle.redo_line.specs.declared.stream_fault.StreamFault.{StreamFault}
use Rattle.redo_line.specs.declared.stream_fault.StreamFault.TheVariants as stream
use Rattle.redo_logs.specs.Logs.{Log}
use Rattle.redo_gather.specs.Streams.{SomeMatchingStreams, fault_among, known_inputs, logs_of}
use Rattle.redo_index.specs.declared.index_entry.IndexEntry.{IndexEntry}
use Rattle.redo_index.specs.declared.index_fault.IndexFault.{IndexFault}
use Rattle.redo_index.specs.declared.index_fault.IndexFault.TheVariants as index_fault
use Rattle.redo_index.specs.Index.{must_close_flags}
use Rattle.redo_run.specs.Rendered.{RenderCall, SomeRenderedText}
use Rattle.redo_run.specs.Run.{fault_or, unknown_argument}
use Rattle.redo_run.specs.declared.run_fault.RunFault.TheVariants as run_fault
use Rattle.redo_view.specs.Written.{WroteAll}
use Rattle.redo_command.specs.declared.baseline.BaselineFiles.{BaselineFiles}
use Rattle.redo_command.specs.declared.baseline_fault.BaselineFault.{BaselineFault}
use Rattle.redo_command.specs.declared.baseline_fault.BaselineFault.TheVariants as baseline_fault
use Rattle.redo_command.specs.declared.failure.Failure.{Failure}
use Rattle.redo_command.specs.declared.failure.Failure.TheVariants.{Baseline, Memory}
use Rattle.redo_command.specs.Baseline.{IsReadIfAsked, IsReadOfFiles}
use Rattle.redo_command.specs.Failure.{baseline_status, index_status, stream_status}
use Rattle.redo_command.specs.Job.{IsJobWritten}
use Rattle.redo_command.specs.Laws.{FailsByBaseline, HasTextAndWroteNothing}
use Rattle.redo_command.specs.Logs.{AllGive, IsWriteResult, known_logs, listed_inputs, logs_call, opaque_logs}
use Rattle.redo_command.proofs.LogLemmas.{match_known}

-- A property of streams that readers may give is one of streams that the logs of an index may have.
pub of_listed : {A : Type 0} (contents : A → Option Stream) (known : ℕ → Option Stream) (index : List IndexEntry) (flags : List Bool)
    (readers : List A) (P : List (StreamInput Stream) → Type 0)
    → flags ≡ must_close_flags index → AllGive (known_logs known index) (map contents readers)
    → SomeMatchingStreams (known_inputs contents flags readers) P → SomeMatchingStreams (listed_inputs known index) P
of_listed contents known index flags readers P are give some =
    let given = subst (λ (f : List Bool). SomeMatchingStreams (known_inputs contents f readers) P) are some in
    (given.0, match_known contents known index readers given.0 give given.1, given.2)

-- A baseline is read exactly if there are files of one.
read_if_given : {L : Type 0} (known : L → ℕ → Option Stream) (files : Option (BaselineFiles L))
    (read : Option (Result (List Log) BaselineFault))
    → IsReadOfFiles known files read → is_some read ≡ is_some files
read_if_given known None read given = ap is_some given
read_if_given known (Some files) None given = absurd given
read_if_given known (Some files) (Some read) given = refl

-- What is written of a job with the files of a baseline is written of it with some baseline, if it asks for one.
pub opaque_job : {Facts L : Type 0} (AreFacts : Facts → Type 0) (text : Facts → Option (List Log) → List Log → List (List ℕ) → List ℕ)
    (index : List IndexEntry) (arguments : List (List ℕ)) (dir : Option (List ℕ)) (known : L → ℕ → Option Stream)
    (files : Option (BaselineFiles L)) (result : Result (Unit {0}) Failure)
    → is_some files ≡ is_some dir → IsJobWritten AreFacts (IsReadOfFiles known files) text opaque_logs index arguments None None result
    → IsJobWritten AreFacts (IsReadIfAsked dir) text opaque_logs index arguments None None result
opaque_job AreFacts text index arguments dir known files result asked (inl memory) = inl memory
opaque_job AreFacts text index arguments dir known files result asked (inr (facts, are, read, given, written)) =
    inr (facts, are, read, read_if_given known files read given ∙ asked, written)

-- ---- a failure by a baseline

abbrev failed : Failure → Result (Unit {0}) Failure
failed failure = Err failure

abbrev read_fault : BaselineFault → Result (List Log) BaselineFault
read_fault fault = Err fault

failure_in : Result (Unit {0}) Failure → Failure
failure_in (Ok done) = Memory
failure_in (Err failure) = failure

fault_in : BaselineFault → Failure → BaselineFault
fault_in other (Baseline fault) = fault
fault_in other failure = other

-- A property of the failures of a run and of the fault of a baseline is one of the failure.
pub if_err : (P : Failure → Type 0) (outcome result : Result (Unit {0}) Failure) (fault : BaselineFault)
    → result ≡ result_and outcome (failed (Baseline fault)) → IfErr outcome P → P (Baseline fault) → IfErr result P
if_err P (Ok done) result fault is run last = subst (λ r. IfErr r P) (sym is) last
if_err P (Err failure) result fault is run last = subst (λ r. IfErr r P) (sym is) run

nonzero_index : (fault : IndexFault) → index_status fault ≢ 0
nonzero_index (index_fault.BadLine line) is = let same : 3 ≡ 0 = is in omega (arith, same)
nonzero_index (index_fault.FidTwice line) is = let same : 3 ≡ 0 = is in omega (arith, same)
nonzero_index (index_fault.NameTwice line) is = let same : 3 ≡ 0 = is in omega (arith, same)
nonzero_index index_fault.TooMany is = let same : 3 ≡ 0 = is in omega (arith, same)
nonzero_index index_fault.OutOfMemory is = let same : 7 ≡ 0 = is in omega (arith, same)

nonzero_stream : (fault : StreamFault) → stream_status fault ≢ 0
nonzero_stream (stream.BadRecord line) is = let same : 4 ≡ 0 = is in omega (arith, same)
nonzero_stream (stream.AfterClose line) is = let same : 4 ≡ 0 = is in omega (arith, same)
nonzero_stream stream.TooLong is = let same : 4 ≡ 0 = is in omega (arith, same)
nonzero_stream stream.Read is = let same : 5 ≡ 0 = is in omega (arith, same)
nonzero_stream stream.OutOfMemory is = let same : 7 ≡ 0 = is in omega (arith, same)
nonzero_stream stream.NotClosed is = let same : 4 ≡ 0 = is in omega (arith, same)

pub nonzero_baseline : (fault : BaselineFault) → baseline_status fault ≢ 0
nonzero_baseline baseline_fault.NamesMissing is = let same : 5 ≡ 0 = is in omega (arith, same)
nonzero_baseline baseline_fault.NamesRead is = let same : 5 ≡ 0 = is in omega (arith, same)
nonzero_baseline (baseline_fault.Index fault) is = nonzero_index fault is
nonzero_baseline (baseline_fault.Log position number fault) is = nonzero_stream fault is

-- A run without text has no text.
no_text : (unknown : Option ℕ) (found : Option (ℕ × StreamFault)) (logs : Option (List Log)) (text : List ℕ)
    → fault_or (option_map run_fault.Unknown unknown) (fault_or (option_map (λ (f : ℕ × StreamFault). run_fault.Stream f.0 f.1) found)
    (option_map (λ (given : List Log). Ok []) logs)) ≡ Some (Ok text)
    → text ≡ []
no_text None None (Some logs) text is = cc
no_text None None None text is = cc
no_text None (Some found) logs text is = cc
no_text (Some unknown) found logs text is = cc

module _ (known : ℕ → Option Stream) (index : List IndexEntry) (arguments : List (List ℕ)) (before after : Option Output)
    (fault : BaselineFault) where
  abbrev unwritten : RenderCall
  unwritten = logs_call known (λ logs requested. []) index arguments

  -- A run doesn't fail by a baseline.
  not_a_run : (failure : Failure) → IsWriteResult unwritten before after (Err failure) → failure ≡ Baseline fault → ⊥
  not_a_run failure written is = subst (λ f. IsWriteResult unwritten before after (Err f)) is written

  wrote_nothing : SomeRenderedText unwritten (WroteAll before after) → HasTextAndWroteNothing known index arguments before after
  wrote_nothing (streams, match, (text, is, wrote)) =
      let empty = no_text (unknown_argument unwritten.targets unwritten.arguments)
      (fault_among unwritten.max_bytes unwritten.targets streams) (logs_of unwritten.max_bytes unwritten.targets streams) text is in
      (streams, match, (text, is, wrote ∙ ap (λ (t : List ℕ). append_output before t 0) empty ∙ sym (append_nothing before)))

pub baseline_has_fault : (baseline : Option (Result (List Log) BaselineFault)) (known : ℕ → Option Stream) (index : List IndexEntry)
    (arguments : List (List ℕ)) (before after : Option Output) (fault : BaselineFault)
    → FailsByBaseline baseline known index arguments before after fault → baseline ≡ Some (Err fault)
unfolding fault_in failure_in
baseline_has_fault None known index arguments before after fault fails = absurd fails.1
baseline_has_fault (Some (Ok logs)) known index arguments before after fault fails = absurd fails.1
baseline_has_fault (Some (Err other)) known index arguments before after fault (text, (outcome, written, is)) = go outcome written is
  where
    go : (outcome : Result (Unit {0}) Failure) → IsWriteResult (unwritten known index arguments before after fault) before after outcome
        → failed (Baseline fault) ≡ result_and outcome (failed (Baseline other)) → Some (read_fault other) ≡ Some (read_fault fault)
    go (Ok done) written is =
        ap (λ (b : BaselineFault). Some (read_fault b))
        (sym (ap (λ (r : Result (Unit {0}) Failure). fault_in fault (failure_in r)) is))
    go (Err failure) written is = absurd (not_a_run known index arguments before after fault failure written (sym (ap failure_in is)))

pub own_logs_have_text : (baseline : Option (Result (List Log) BaselineFault)) (known : ℕ → Option Stream) (index : List IndexEntry)
    (arguments : List (List ℕ)) (before after : Option Output) (fault : BaselineFault)
    → FailsByBaseline baseline known index arguments before after fault → HasTextAndWroteNothing known index arguments before after
unfolding failure_in
own_logs_have_text None known index arguments before after fault fails = absurd fails.1
own_logs_have_text (Some (Ok logs)) known index arguments before after fault fails = absurd fails.1
own_logs_have_text (Some (Err other)) known index arguments before after fault (text, (outcome, written, is)) = go outcome written is
  where
    go : (outcome : Result (Unit {0}) Failure) → IsWriteResult (unwritten known index arguments before after fault) before after outcome
        → failed (Baseline fault) ≡ result_and outcome (failed (Baseline other)) → HasTextAndWroteNothing known index arguments before after
    go (Ok done) written is = wrote_nothing known index arguments before after fault written
    go (Err failure) written is = absurd (not_a_run known index arguments before after fault failure written (sym (ap failure_in is)))
