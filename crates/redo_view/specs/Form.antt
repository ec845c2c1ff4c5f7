-- Events in a form, which determines the bytes that are written for each.
use Rattle.std.specs.Prelude.{ℕ, List, [], ◌∷◌, ◌++◌, Option, Result, Ok, Err, map}
use Rattle.redo_device.specs.Sink.{Output}
use Rattle.redo_line.specs.declared.entry.Entry.TheVariants.{Text}
use Rattle.redo_view.specs.declared.form.FormFault.{FormFault}
use Rattle.redo_view.specs.declared.form.FormFault.TheVariants.{Write, OutOfMemory}
use Rattle.redo_view.specs.Event.{Event}
use Rattle.redo_view.specs.Event.Event.{EntryShown}
use Rattle.redo_view.specs.Written.{WroteAll, WroteUntilFailed, WrotePrefix}

-- The state of a form after events. `after` gives the state after one event.
abbrev pub state_after : {F : Type 0} → (F → Event → F) → F → List Event → F
state_after after form [] = form
state_after after form (event ∷ events) = state_after after (after form event) events

-- The bytes that a form writes for events. `bytes` gives the bytes of one event, from the state before it.
abbrev pub bytes_of : {F : Type 0} → (F → Event → List ℕ) → (F → Event → F) → F → List Event → List ℕ
bytes_of bytes after form [] = []
bytes_of bytes after form (event ∷ events) = bytes form event ++ bytes_of bytes after (after form event) events

-- Text lines at this depth.
abbrev pub text_events : ℕ → List (List ℕ) → List Event
text_events depth texts = map (λ text. EntryShown depth (Text text)) texts

-- How much of these bytes was written, depending on the result: all of them; a prefix and then one failed write; or a prefix.
abbrev pub FormWrites : Option Output → Option Output → List ℕ → Result (Unit {0}) FormFault → Type 0
FormWrites before after text (Ok done) = WroteAll before after text
FormWrites before after text (Err Write) = WroteUntilFailed before after text
FormWrites before after text (Err OutOfMemory) = WrotePrefix before after text
