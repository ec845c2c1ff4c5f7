-- The effect of events on a writer and a form.
use Rattle.std.proofs.Common.{◌≡◌, ℕ, ◌+◌, List, [], ◌∷◌, ◌++◌, Option, None, Some, Err, length, take, drop, refl, sym, ap, ◌∙◌, subst, arith}
use Rattle.std.proofs.lemmas.List.{append_assoc, append-nil, take-append-drop}
use Rattle.std.proofs.Math.Seq.{take-append_seam}
use Rattle.redo_device.specs.Sink.{Output, append_output}
use Rattle.redo_device.proofs.WritesLemmas.{append_output-append_output}
use Rattle.redo_view.specs.declared.form.FormFault.{FormFault}
use Rattle.redo_view.specs.declared.form.FormFault.TheVariants as form
use Rattle.redo_view.specs.declared.viewer.ViewFault.{ViewFault}
use Rattle.redo_view.specs.declared.viewer.ViewFault.TheVariants.{Unknown, Write, OutOfMemory}
use Rattle.redo_view.specs.Event.{Event}
use Rattle.redo_view.specs.Form.{FormWrites, bytes_of, state_after}
use Rattle.redo_view.specs.Private.Rendering.{Rendering, rendered, rendering}
use Rattle.redo_view.specs.Private.WriteResult.{WroteUntilFault}
use Rattle.redo_view.specs.View.{view_fault}
use Rattle.redo_view.specs.Written.{WrotePrefix}
use Rattle.redo_device.proofs.WritesLemmas.{in_middle}

append_output-nothing : (output : Option Output) → append_output output [] 0 ≡ output
append_output-nothing None = refl
append_output-nothing (Some taken) = λ i. Some (record { bytes = append-nil taken.bytes i; failures = none_more i })
  where
    none_more : taken.failures + 0 ≡ taken.failures
    none_more = omega arith

-- A text that stopped in the middle of a longer one.
stopped : (output middle after : Option Output) (prefix part suffix text : List ℕ) (fault : ViewFault)
    → middle ≡ append_output output prefix 0 → WroteUntilFault middle after part fault → (prefix ++ part) ++ suffix ≡ text
    → WroteUntilFault output after text fault
stopped output middle after prefix part suffix text (Unknown place) written wrote is = absurd wrote
stopped output middle after prefix part suffix text Write written wrote is =
    in_middle output text middle after prefix part suffix (record {}) (Err (record {})) refl written wrote is
stopped output middle after prefix part suffix text OutOfMemory written wrote is =
    let so_far = prefix ++ take wrote.0 part in
    let split : so_far ++ (drop wrote.0 part ++ suffix) ≡ text =
    simp append_assoc (simp append_assoc at (ap (λ p. (prefix ++ p) ++ suffix) (take-append-drop wrote.0 part))) ∙ is in (
      length so_far,
      wrote.1 ∙ ap (λ t. append_output t (take wrote.0 part) 0) written ∙ append_output-append_output output prefix (take wrote.0 part) 0 0
          ∙ ap (λ b. append_output output b 0)
          (sym (take-append_seam so_far (drop wrote.0 part ++ suffix)) ∙ ap (take (length so_far)) split),
    )

-- The fault of a form states as much about the text as the fault of a view.
pub fault_written : (before after : Option Output) (text : List ℕ) (fault : FormFault) → FormWrites before after text (Err fault)
    → WroteUntilFault before after text (view_fault fault)
fault_written before after text form.Write wrote = wrote
fault_written before after text form.OutOfMemory wrote = wrote

module _ {F : Type 0} (bytes : F → Event → List ℕ) (form_after : F → Event → F) where
  -- The state of a form after two lists of events, and their bytes.
  pub state-append : (form : F) (first others : List Event)
      → state_after form_after form (first ++ others) ≡ state_after form_after (state_after form_after form first) others
  state-append form [] others = refl
  state-append form (event ∷ first) others = state-append (form_after form event) first others

  pub bytes-append : (form : F) (first others : List Event)
      → bytes_of bytes form_after form (first ++ others)
      ≡ bytes_of bytes form_after form first ++ bytes_of bytes form_after (state_after form_after form first) others
  bytes-append form [] others = refl
  bytes-append form (event ∷ first) others =
      ap (λ more. bytes form event ++ more) (bytes-append (form_after form event) first others)
      ∙ sym (append_assoc (bytes form event) (bytes_of bytes form_after (form_after form event) first)
      (bytes_of bytes form_after (state_after form_after (form_after form event) first) others))

  -- Nothing was shown.
  pub rendered-nothing : (start : Rendering F) → start ≡ rendered bytes form_after start []
  rendered-nothing start = λ i. rendering (sym (append_output-nothing start.output) i) start.form

  -- Two lists of events, one after the other.
  pub rendered-rendered : (start : Rendering F) (first others : List Event)
      → rendered bytes form_after (rendered bytes form_after start first) others ≡ rendered bytes form_after start (first ++ others)
  rendered-rendered start first others = λ i. rendering (output i) (sym (state-append start.form first others) i)
    where
      output : append_output (append_output start.output (bytes_of bytes form_after start.form first) 0)
          (bytes_of bytes form_after (state_after form_after start.form first) others) 0
          ≡ append_output start.output (bytes_of bytes form_after start.form (first ++ others)) 0
      output =
          append_output-append_output start.output (bytes_of bytes form_after start.form first)
          (bytes_of bytes form_after (state_after form_after start.form first) others) 0 0
          ∙ ap (λ b. append_output start.output b 0) (sym (bytes-append start.form first others))

  -- Events in the middle of others, if not all of them were written.
  pub events_stopped : (start middle : Rendering F) (after : Option Output) (prefix part suffix all : List Event) (fault : ViewFault)
      → middle ≡ rendered bytes form_after start prefix
      → WroteUntilFault middle.output after (bytes_of bytes form_after middle.form part) fault → (prefix ++ part) ++ suffix ≡ all
      → WroteUntilFault start.output after (bytes_of bytes form_after start.form all) fault
  events_stopped start middle after prefix part suffix all fault shown wrote is =
      stopped start.output middle.output after (bytes_of bytes form_after start.form prefix) (bytes_of bytes form_after middle.form part)
      (bytes_of bytes form_after (state_after form_after start.form (prefix ++ part)) suffix) (bytes_of bytes form_after start.form all)
      fault (ap (λ (r : Rendering F). r.output) shown) wrote
      (ap (λ (r : Rendering F). (bytes_of bytes form_after start.form prefix ++ bytes_of bytes form_after r.form part)
      ++ bytes_of bytes form_after (state_after form_after start.form (prefix ++ part)) suffix) shown
      ∙ ap (λ b. b ++ bytes_of bytes form_after (state_after form_after start.form (prefix ++ part)) suffix)
      (sym (bytes-append start.form prefix part))
      ∙ sym (bytes-append start.form (prefix ++ part) suffix) ∙ ap (bytes_of bytes form_after start.form) is)

  -- All of these events were written, and no others.
  pub events_prefix : (start after : Rendering F) (prefix suffix all : List Event) → after ≡ rendered bytes form_after start prefix
      → prefix ++ suffix ≡ all → WrotePrefix start.output after.output (bytes_of bytes form_after start.form all)
  events_prefix start after prefix suffix all shown is =
      let front = bytes_of bytes form_after start.form prefix in
      let rest = bytes_of bytes form_after (state_after form_after start.form prefix) suffix in (
        length front,
        ap (λ (r : Rendering F). r.output) shown
            ∙ ap (λ b. append_output start.output b 0)
            (sym (take-append_seam front rest)
            ∙ ap (take (length front)) (sym (bytes-append start.form prefix suffix) ∙ ap (bytes_of bytes form_after start.form) is)),
      )

  -- One event was written.
  pub event_written : (before after : Option Output) (old new : F) (event : Event) → after ≡ append_output before (bytes old event) 0
      → new ≡ form_after old event
      → rendering after new ≡ rendered bytes form_after (rendering before old) (event ∷ [])
  event_written before after old new event wrote state =
      λ i. rendering ((wrote ∙ ap (λ b. append_output before b 0) (sym (append-nil (bytes old event)))) i) (state i)

  -- It wasn't written completely.
  pub event_failed : (before after : Option Output) (old : F) (event : Event) (fault : FormFault)
      → FormWrites before after (bytes old event) (Err fault)
      → WroteUntilFault before after (bytes_of bytes form_after old (event ∷ [])) (view_fault fault)
  event_failed before after old event fault wrote =
      subst (λ b. WroteUntilFault before after b (view_fault fault)) (sym (append-nil (bytes old event)))
      (fault_written before after (bytes old event) fault wrote)
