-- A writer and a form, and the effect of events on them.
use Rattle.std.specs.Prelude.{◌≡◌, ℕ, List, Option, Result, Ok, Err}
use Rattle.redo_device.specs.Sink.{Output, append_output}
use Rattle.redo_view.specs.declared.viewer.ViewFault.{ViewFault}
use Rattle.redo_view.specs.Event.{Event}
use Rattle.redo_view.specs.Form.{bytes_of, state_after}
use Rattle.redo_view.specs.Private.WriteResult.{WroteUntilFault}

-- The known output of the writer, and the state of the form.
pub record Rendering (F : Type 0) : Type 0 where
  pub output : Option Output
  pub form : F

abbrev pub rendering : {F : Type 0} → Option Output → F → Rendering F
rendering output form = record { output = output; form = form }

module _ {F : Type 0} (bytes : F → Event → List ℕ) (after : F → Event → F) where
  -- The writer and the form after these events.
  abbrev pub rendered : Rendering F → List Event → Rendering F
  rendered start events = rendering (append_output start.output (bytes_of bytes after start.form events) 0) (state_after after start.form events)

  -- How much of these events was written, depending on the result.
  abbrev pub RenderedOrFailed : {A : Type 0} → Rendering F → Rendering F → List Event → Result A ViewFault → Type 0
  RenderedOrFailed start now events (Ok done) = now ≡ rendered start events
  RenderedOrFailed start now events (Err fault) = WroteUntilFault start.output now.output (bytes_of bytes after start.form events) fault
