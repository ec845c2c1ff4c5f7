-- The result of a run.
use Rattle.std.proofs.Common.{IsSome, is_some, ◌↔◌, ◌≡◌, ◌⊎◌, inl, inr, subst, ℕ, ◌+◌, cond, Bool, true, false, not, List, [], ◌∷◌, Option, None, Some, Result, Ok, Err, option_and_then, refl, sym, ap, ◌∙◌}
use Rattle.std.specs.Prelude.{option_map}
use Rattle.std.specs.List.{cons_option, position_from}
use Rattle.std.proofs.lemmas.Iterator.Adapters.{position_from-zero}
use Rattle.redo_line.specs.declared.stream_fault.StreamFault.{StreamFault}
use Rattle.redo_device.specs.Feed.{Stream}
use Rattle.redo_line.specs.Source.{StreamInput}
use Rattle.redo_name.specs.Names.{normal}
use Rattle.redo_logs.specs.Logs.{Log, targets_of}
use Rattle.redo_gather.specs.declared.gather_fault.GatherFault.{GatherFault}
use Rattle.redo_gather.specs.declared.gather_fault.GatherFault.TheVariants as gather
use Rattle.redo_gather.specs.GatherFault as gathering
use Rattle.redo_gather.specs.Streams.{MatchKnown, MatchesContents, SomeMatchingStreams, KnownInput, fault_among, logs_of}
use Rattle.redo_view.specs.Expansion.{is_among}
use Rattle.redo_view.specs.View.{find_unknown}
use Rattle.redo_run.specs.declared.run_fault.RunFault.{RunFault}
use Rattle.redo_run.specs.declared.run_fault.RunFault.TheVariants as fault
use Rattle.redo_run.specs.Run.{find_targets, unknown_argument, fault_or}
use Rattle.redo_run.specs.Rendered.{IsSomeRenderedFault, RenderCall, SomeRenderedText, rendered_result}
use Rattle.redo_run.specs.RunFault.{IfNoText, run_fault_of_gather}

-- A text, or the fault that is returned instead.
abbrev RunResult : Type 0
RunResult = Result (List ℕ) RunFault

-- The fault of a run whose stream has a fault, from the stream's number and this fault.
abbrev stream_fault : ℕ × StreamFault → RunFault
stream_fault found = fault.Stream found.0 found.1

-- The text of logs at the requested targets.
abbrev text_of : RenderCall → List Log → RunResult
text_of call logs = Ok (call.text logs (find_targets call.targets call.arguments))

-- Readers give some streams.
some_stream : (reported : Option Stream) → (stream : Stream) × MatchesContents reported stream
some_stream None = (record { bytes = []; fails = false }, tt)
some_stream (Some stream) = (stream, refl)

pub some_streams : (reported : List KnownInput) → (streams : List (StreamInput Stream)) × MatchKnown reported streams
some_streams [] = ([], tt)
some_streams (one ∷ reported) =
    let others = some_streams reported in
    let given = some_stream one.stream in
    (record { must_close = one.must_close; stream = given.0 } ∷ others.0, ((refl, given.1), others.1))

module _ (call : RenderCall) (streams : List (StreamInput Stream)) where
  -- The result if no argument is unknown.
  abbrev after_arguments : Option (ℕ × StreamFault) → Option RunResult
  after_arguments reported = fault_or (option_map stream_fault reported)
      (option_map (text_of call) (logs_of call.max_bytes call.targets streams))

  pub rendered-argument : (failure : RunFault) → option_map fault.Unknown (unknown_argument call.targets call.arguments) ≡ Some failure
      → rendered_result call streams ≡ Some (Err failure)
  rendered-argument failure is = ap (λ first. fault_or first (after_arguments (fault_among call.max_bytes call.targets streams))) is

  module _ (known : unknown_argument call.targets call.arguments ≡ None) where
    rendered-known : (reported : Option (ℕ × StreamFault)) → fault_among call.max_bytes call.targets streams ≡ reported
        → rendered_result call streams ≡ after_arguments reported
    rendered-known reported is = ap (λ place.
        fault_or (option_map fault.Unknown place) (after_arguments (fault_among call.max_bytes call.targets streams))) known
        ∙ ap after_arguments is

    pub rendered-stream : (number : ℕ) (reported : StreamFault) → fault_among call.max_bytes call.targets streams ≡ Some (number, reported)
        → rendered_result call streams ≡ Some (Err (fault.Stream number reported))
    rendered-stream number reported is = rendered-known (Some (number, reported)) is

    pub rendered-text : (logs : List Log) → fault_among call.max_bytes call.targets streams ≡ None
        → logs_of call.max_bytes call.targets streams ≡ Some logs → rendered_result call streams ≡ Some (text_of call logs)
    rendered-text logs none is = rendered-known None none ∙ ap (option_map (text_of call)) is

-- A property of a fault holds if the fault is returned.
pub if_rejected : (fault : RunFault) (P : RunFault → Type 0) → P fault → IfNoText (Err fault) P
if_rejected (fault.Unknown place) P p = p
if_rejected (fault.Stream number reported) P p = p
if_rejected fault.OutOfMemory P p = tt
if_rejected fault.Write P p = tt

-- The result if an argument is unknown.
pub rejected_argument : (call : RenderCall) (failure : RunFault)
    → (failure ≡ fault.OutOfMemory) ⊎ (option_map fault.Unknown (unknown_argument call.targets call.arguments) ≡ Some failure)
    → IfNoText (Err failure) (IsSomeRenderedFault call)
rejected_argument call failure (inl is) = subst (λ f. IfNoText (Err f) (IsSomeRenderedFault call)) (sym is) tt
rejected_argument call failure (inr is) =
    if_rejected failure (IsSomeRenderedFault call)
    (let streams = some_streams call.inputs in (streams.0, streams.1, rendered-argument call streams.0 failure is))

-- The targets that arguments name have logs.
module _ (logs : List Log) where
  abbrev targets : List (List ℕ)
  targets = targets_of logs

  abbrev is_unknown : List ℕ → Bool
  is_unknown name = not (is_among name targets)

  abbrev listed : List ℕ → Option (List ℕ)
  listed name = cond (is_among name targets) (Some name) None

  named_from : (name : Option (List ℕ)) (named : List (List ℕ)) → ((i : ℕ) → position_from is_unknown i named ≡ None) → (i : ℕ)
      → position_from is_unknown i (cons_option (option_and_then listed name) named) ≡ None
  named_from None named others i = others i
  named_from (Some name) named others i = by (is_among name targets) refl
    where
      by : (is_listed : Bool) → is_among name targets ≡ is_listed
          → position_from is_unknown i (cons_option (cond is_listed (Some name) None) named) ≡ None
      by true is = ap (λ b. cond (not b) (Some i) (position_from is_unknown (i + 1) named)) is ∙ others (i + 1)
      by false is = others i

  all_from : (arguments : List (List ℕ)) (i : ℕ) → position_from is_unknown i (find_targets targets arguments) ≡ None
  all_from [] i = refl
  all_from (argument ∷ arguments) i = named_from (normal None argument) (find_targets targets arguments) (all_from arguments) i

  pub named_are_known : (arguments : List (List ℕ)) → find_unknown logs (find_targets (targets_of logs) arguments) ≡ None
  named_are_known arguments = position_from-zero is_unknown (find_targets targets arguments) ∙ all_from arguments 0

pub all_known : (logs : List Log) (names requested arguments : List (List ℕ)) → targets_of logs ≡ names
    → requested ≡ find_targets names arguments → find_unknown logs requested ≡ None
all_known logs names requested arguments targets_are asked_are =
    ap (find_unknown logs) (asked_are ∙ ap (λ listed. find_targets listed arguments) (sym targets_are)) ∙ named_are_known logs arguments

-- The law that streams have logs or a fault, but not both.
abbrev pub LogsUnlessFault : Type 0
LogsUnlessFault = (max_bytes : ℕ) (targets : List (List ℕ)) (streams : List (StreamInput Stream))
    → IsSome (logs_of max_bytes targets streams) ↔ (fault_among max_bytes targets streams ≡ None)

-- A property of the text of these logs is a property of the run's text.
pub some_result_text : (call : RenderCall) (P : List ℕ → Type 0) (requested : List (List ℕ)) (logs : List Log)
    → unknown_argument call.targets call.arguments ≡ None → requested ≡ find_targets call.targets call.arguments → LogsUnlessFault
    → SomeMatchingStreams call.inputs (λ streams. logs_of call.max_bytes call.targets streams ≡ Some logs) → P (call.text logs requested)
    → SomeRenderedText call P
some_result_text call P requested logs known asked_are law given shown =
    let none = (law call.max_bytes call.targets given.0).0 (ap is_some given.2) in (
      given.0,
      given.1,
      (
        call.text logs (find_targets call.targets call.arguments),
        rendered-text call given.0 known logs none given.2,
        subst (λ names. P (call.text logs names)) asked_are shown,
      ),
    )

-- The result if a stream has a fault.
pub rejected_stream : (call : RenderCall) (failure : GatherFault) → unknown_argument call.targets call.arguments ≡ None
    → gathering.IfStreamFault {A = Unit {0}} (Err failure)
    (λ number fault. SomeMatchingStreams call.inputs (λ streams. fault_among call.max_bytes call.targets streams ≡ Some (number, fault)))
    → IfNoText (Err (run_fault_of_gather failure)) (IsSomeRenderedFault call)
rejected_stream call (gather.Stream number fault) known given = (given.0, given.1, rendered-stream call given.0 known number fault given.2)
rejected_stream call gather.OutOfMemory known given = tt

-- A run has a result.
module _ (law : LogsUnlessFault) (call : RenderCall) (streams : List (StreamInput Stream)) where
  some_logs : (reported : Option (ℕ × StreamFault)) (logs : Option (List Log)) → (reported ≡ None → IsSome logs)
      → IsSome (fault_or (option_map stream_fault reported) (option_map (text_of call) logs))
  some_logs (Some reported) logs some = refl
  some_logs None None some = absurd (let none : false ≡ true = some refl in cc)
  some_logs None (Some logs) some = refl

  some_fault_or : (place : Option ℕ) (after : Option RunResult) → IsSome after → IsSome (fault_or (option_map fault.Unknown place) after)
  some_fault_or None after some = some
  some_fault_or (Some place) after some = refl

  pub some_result : IsSome (rendered_result call streams)
  some_result =
      some_fault_or (unknown_argument call.targets call.arguments)
      (after_arguments call streams (fault_among call.max_bytes call.targets streams))
      (some_logs (fault_among call.max_bytes call.targets streams) (logs_of call.max_bytes call.targets streams)
      (law call.max_bytes call.targets streams).1)

-- Another text changes no fault.
module _ (call : RenderCall) (text : List Log → List (List ℕ) → List ℕ) (streams : List (StreamInput Stream)) (failure : RunFault) where
  abbrev other : RenderCall
  other = record call { text = text }

  fails_too : (place : Option ℕ) (reported : Option (ℕ × StreamFault)) (logs : Option (List Log))
      → fault_or (option_map fault.Unknown place) (fault_or (option_map stream_fault reported) (option_map (text_of call) logs))
      ≡ Some (Err failure)
      → fault_or (option_map fault.Unknown place) (fault_or (option_map stream_fault reported) (option_map (text_of other) logs))
      ≡ Some (Err failure)
  fails_too (Some place) reported logs is = is
  fails_too None (Some reported) logs is = is
  fails_too None None None is = is
  fails_too None None (Some logs) is = absurd (cc)

  pub same_fault : rendered_result call streams ≡ Some (Err failure) → rendered_result other streams ≡ Some (Err failure)
  same_fault = fails_too (unknown_argument call.targets call.arguments) (fault_among call.max_bytes call.targets streams)
      (logs_of call.max_bytes call.targets streams)
