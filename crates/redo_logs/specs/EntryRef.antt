-- The model of an entry in a table.
use Rattle.redo_line.specs.declared.entry.Entry.{Entry}
use Rattle.redo_line.specs.declared.entry.Entry.TheVariants as entry
use Rattle.redo_logs.specs.declared.entry_ref.EntryRef.{EntryRef}
use Rattle.redo_logs.specs.declared.entry_ref.EntryRef.TheVariants.{Text, Mention, Done, Closing, Note}

-- The entry that an `EntryRef` is modelled as.
abbrev pub entry_value : EntryRef → Entry
entry_value (Text line) = entry.Text line.now
entry_value (Mention pid how name) = entry.Mention pid how name.now
entry_value (Done pid status name) = entry.Done pid status name.now
entry_value (Closing pid status) = entry.Closing pid status
entry_value (Note pid kind text) = entry.Note pid kind.now text.now
