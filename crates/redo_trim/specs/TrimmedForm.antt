-- A form that passes on the events that are left: its state, and the bytes that it writes.
use Rattle.std.specs.Prelude.{ℕ, List}
use Rattle.redo_view.specs.Event.{Event}
use Rattle.redo_view.specs.Form.{bytes_of, state_after}
use Rattle.redo_trim.specs.declared.trimmed.Trimmed.{Trimmed}
use Rattle.redo_trim.specs.Trim.{gauges_after, kept}

module _ {F : Type 0} (after : F → Event → F) where
  -- The inner form has the state after the events that replace an event.
  abbrev pub form_after : Trimmed F → Event → Trimmed F
  form_after form event = record {
    form = state_after after form.form (kept form.gauges event);
    gauges = gauges_after form.limits.now form.gauges event;
    limits = form.limits;
  }

module _ {F : Type 0} (bytes : F → Event → List ℕ) (after : F → Event → F) where
  -- The bytes that the inner form writes instead of an event.
  abbrev pub form_bytes : Trimmed F → Event → List ℕ
  form_bytes form event = bytes_of bytes after form.form (kept form.gauges event)
