-- The bytes that a form writes for events, and those that the adapter writes.
use Rattle.std.proofs.Common.{◌≡◌, ℕ, ◌+◌, ◌<◌, ◌≤◌, min, ⊎_elim, List, [], ◌∷◌, ◌++◌, Option, Result, Ok, Err, length, take, refl, sym, ◌∙◌, ap, arith}
use Rattle.std.proofs.lemmas.Bool.{cases_lt}
use Rattle.std.proofs.lemmas.List.{append_assoc, append-nil, take-append-le, take_all}
use Rattle.std.proofs.Math.Seq.{take-append-add}
use Rattle.redo_device.specs.Sink.{Output, append_output}
use Rattle.redo_device.proofs.WritesLemmas.{append_output-append_output, stops, then}
use Rattle.redo_line.specs.declared.entry.Entry.{Entry}
use Rattle.redo_line.specs.declared.entry.Entry.TheVariants.{Text, Mention, Done, Closing, Note}
use Rattle.redo_logs.specs.EntryRef.{entry_value}
use Rattle.redo_view.specs.declared.event.EventRef.{EventRef}
use Rattle.redo_view.specs.declared.event.EventRef.TheVariants as ref
use Rattle.redo_view.specs.EventRef.{IsDoneOrNote, IsWrittenAlone, event_value}
use Rattle.redo_view.specs.Event.Event.{EntryShown}
use Rattle.redo_view.specs.declared.form.FormFault.{FormFault}
use Rattle.redo_view.specs.declared.form.FormFault.TheVariants.{Write, OutOfMemory}
use Rattle.redo_view.specs.Event.{Event}
use Rattle.redo_view.specs.Form.{FormWrites, bytes_of, state_after}
use Rattle.redo_view.specs.Written.{WroteAll, WrotePrefix}
use Rattle.redo_trim.specs.declared.limit.Gauge.{Gauge}
use Rattle.redo_trim.specs.declared.trimmed.Trimmed.{Trimmed}
use Rattle.redo_trim.specs.Trim.{kept, trimmed}
use Rattle.redo_trim.specs.TrimmedForm.{form_after, form_bytes}

-- ---- parts of a text, one after the other

-- All of a text is a prefix of it.
pub all_is_prefix : (before after : Option Output) (text : List ℕ) → WroteAll before after text → WrotePrefix before after text
all_is_prefix before after text wrote =
    (length text, wrote ∙ ap (λ (t : List ℕ). append_output before t 0) (sym (take_all (length text) text (omega arith))))

module _ (before middle after : Option Output) (first part : List ℕ) where
  pub form_then : (done : Result (Unit {0}) FormFault) → middle ≡ append_output before first 0 → FormWrites middle after part done
      → FormWrites before after (first ++ part) done
  form_then (Ok u) is wrote = (then) before middle after first part (Ok tt) is wrote
  form_then (Err Write) is wrote = (then) before middle after first part (Err (record {})) is wrote
  form_then (Err OutOfMemory) is wrote = (
    length first + wrote.0,
    wrote.1 ∙ ap (λ t. append_output t (take wrote.0 part) 0) is
        ∙ append_output-append_output before first (take wrote.0 part) 0 0
        ∙ ap (λ b. append_output before b 0) (sym (take-append-add first part wrote.0)),
  )

take_within : (n : ℕ) (bytes : List ℕ) → take n bytes ≡ take (min n (length bytes)) bytes
take_within n bytes =
    ⊎_elim (λ (below : n < length bytes). ap (λ (k : ℕ). take k bytes) (let b = below in omega arith))
    (λ (above : length bytes ≤ n). take_all n bytes above ∙ sym (take_all (min n (length bytes)) bytes (omega arith)))
    (cases_lt n (length bytes))

pub form_stops : (before after : Option Output) (first part : List ℕ) (fault : FormFault) → FormWrites before after first (Err fault)
    → FormWrites before after (first ++ part) (Err fault)
form_stops before after first part Write wrote = stops before after first part (record {}) (Err (record {})) refl wrote
form_stops before after first part OutOfMemory wrote = (
  min wrote.0 (length first),
  wrote.1 ∙ ap (λ b. append_output before b 0)
      (take_within wrote.0 first ∙ sym (take-append-le (min wrote.0 (length first)) first part (omega arith))),
)

-- ---- an event that is no text line

entry_alone : (gauges : List Gauge) (depth : ℕ) (entry : Entry) → IsDoneOrNote entry
    → kept gauges (EntryShown depth entry) ≡ EntryShown depth entry ∷ []
entry_alone gauges depth (Text line) alone = absurd alone
entry_alone gauges depth (Mention pid how name) alone = refl
entry_alone gauges depth (Done pid status name) alone = refl
entry_alone gauges depth (Closing pid status) alone = refl
entry_alone gauges depth (Note pid kind text) alone = refl

pub kept_alone : (gauges : List Gauge) (event : EventRef) → IsWrittenAlone event → kept gauges (event_value event) ≡ event_value event ∷ []
kept_alone gauges (ref.Requested name opening) alone = refl
kept_alone gauges (ref.Mentioned depth pid how name opening) alone = refl
kept_alone gauges (ref.EntryShown depth entry) alone = entry_alone gauges depth (entry_value entry) alone.1
kept_alone gauges (ref.LogEnds depth) alone = refl

-- ---- lists of events

module _ {F : Type 0} (bytes : F → Event → List ℕ) (after : F → Event → F) where
  -- Two lists of events, one after the other.
  pub state-append : (form : F) (first others : List Event)
      → state_after after form (first ++ others) ≡ state_after after (state_after after form first) others
  state-append form [] others = refl
  state-append form (event ∷ first) others = state-append (after form event) first others

  pub bytes-append : (form : F) (first others : List Event)
      → bytes_of bytes after form (first ++ others)
      ≡ bytes_of bytes after form first ++ bytes_of bytes after (state_after after form first) others
  bytes-append form [] others = refl
  bytes-append form (event ∷ first) others =
      ap (λ more. bytes form event ++ more) (bytes-append (after form event) first others)
      ∙ sym (append_assoc (bytes form event) (bytes_of bytes after (after form event) first)
      (bytes_of bytes after (state_after after (after form event) first) others))

  -- ---- the adapter

  pub alone_bytes : (form : Trimmed F) (event : EventRef) → IsWrittenAlone event
      → form_bytes bytes after form (event_value event) ≡ bytes form.form (event_value event)
  alone_bytes form event alone =
      ap (bytes_of bytes after form.form) (kept_alone form.gauges event alone) ∙ append-nil (bytes form.form (event_value event))

  -- For events, the adapter writes the bytes that the inner form writes for the trimmed events.
  pub trimmed_bytes : (form : Trimmed F) (events : List Event)
      → bytes_of (form_bytes bytes after) (form_after after) form events
      ≡ bytes_of bytes after form.form (trimmed form.limits.now form.gauges events)
  trimmed_bytes form [] = refl
  trimmed_bytes form (event ∷ events) =
      let shown = kept form.gauges event in
      let next = form_after after form event in
      ap (λ more. bytes_of bytes after form.form shown ++ more) (trimmed_bytes next events)
      ∙ sym (bytes-append form.form shown (trimmed form.limits.now next.gauges events))

  pub trimmed_state : (form : Trimmed F) (events : List Event)
      → (state_after (form_after after) form events).form ≡ state_after after form.form (trimmed form.limits.now form.gauges events)
  trimmed_state form [] = refl
  trimmed_state form (event ∷ events) =
      let shown = kept form.gauges event in
      let next = form_after after form event in
      trimmed_state next events ∙ sym (state-append form.form shown (trimmed form.limits.now next.gauges events))
