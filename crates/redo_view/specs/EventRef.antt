-- The model of an event that is passed to a form.
use Rattle.std.specs.Prelude.{◌<◌, ◌^◌, ⊤}
use Rattle.redo_line.specs.declared.entry.Entry.{Entry}
use Rattle.redo_line.specs.declared.entry.Entry.TheVariants as entry
use Rattle.redo_logs.specs.EntryRef.{entry_value}
use Rattle.redo_view.specs.declared.event.EventRef.{EventRef}
use Rattle.redo_view.specs.declared.event.EventRef.TheVariants as ref
use Rattle.redo_view.specs.Event.{Event}
use Rattle.redo_view.specs.Event.Event.{Requested, Mentioned, EntryShown, LogEnds}

-- The event that an `EventRef` is modelled as.
abbrev pub event_value : EventRef → Event
event_value (ref.Requested name opening) = Requested name.now opening
event_value (ref.Mentioned depth pid how name opening) = Mentioned depth pid how name.now opening
event_value (ref.EntryShown depth entry) = EntryShown depth (entry_value entry)
event_value (ref.LogEnds depth) = LogEnds depth

-- Whether an entry is neither a text line, which is written together with the lines after it, nor a mention.
abbrev pub IsDoneOrNote : Entry → Type 0
IsDoneOrNote (entry.Text line) = ⊥
IsDoneOrNote (entry.Mention pid how name) = ⊥
IsDoneOrNote (entry.Done pid status name) = ⊤
IsDoneOrNote (entry.Closing pid status) = ⊤
IsDoneOrNote (entry.Note pid kind text) = ⊤

-- Whether an event is written by itself: its depth is in range, and it is no text line.
abbrev pub IsWrittenAlone : EventRef → Type 0
IsWrittenAlone (ref.Requested name opening) = ⊤
IsWrittenAlone (ref.Mentioned depth pid how name opening) = depth < 2 ^ 60
IsWrittenAlone (ref.EntryShown depth entry) = (depth < 2 ^ 60) × IsDoneOrNote (entry_value entry)
IsWrittenAlone (ref.LogEnds depth) = depth < 2 ^ 60
