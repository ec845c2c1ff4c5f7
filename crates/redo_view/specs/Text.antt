-- How events look as plain text.
use Rattle.std.specs.Prelude.{ℕ, ◌+◌, ◌-◌, ◌*◌, ℤ, pos, zero, List, [], ◌++◌, Option, None, Some, length, replicate, codes, decimal, if◌then◌else◌}
use Rattle.std.specs.Fmt.{signed_decimal}
use Rattle.std.specs.Str.{bytes_eq}
use Rattle.redo_line.specs.declared.entry.Entry.{Entry}
use Rattle.redo_line.specs.declared.entry.Entry.TheVariants.{Text, Done, Note}
use Rattle.redo_line.specs.declared.entry.How.{How}
use Rattle.redo_line.specs.declared.entry.How.TheVariants.{Made, Waiting, Locked, Unlocked, Unchanged}
use Rattle.redo_line.specs.Lines.{with_line_feed}
use Rattle.redo_options.specs.declared.options.Options.{Options}
use Rattle.redo_view.specs.Event.{Event}
use Rattle.redo_view.specs.Event.Event.{Requested, Mentioned, EntryShown, LogEnds}

abbrev pub spaces : ℕ → List ℕ
spaces count = replicate count 32

-- The pid of the record that a redo line shows. The line of a requested target shows no record and has `-`.
abbrev pub pid_text : Option ℕ → List ℕ
pid_text None = codes "-"
pid_text (Some pid) = decimal pid

-- A text, padded with spaces to six bytes if it is shorter.
abbrev pub pad_to_six : List ℕ → List ℕ
pad_to_six text = text ++ spaces (6 - length text)

-- The text before `redo` in a redo line: with `debug_pids` the pid, padded, and one space.
abbrev pub pid_column : Options → Option ℕ → List ℕ
pid_column options pid = if options.debug_pids then pad_to_six (pid_text pid) ++ spaces 1 else []

-- The beginning of a redo line: `redo`, two spaces, and two more for each level of depth.
abbrev pub indent : ℕ → List ℕ
indent depth = codes "redo" ++ spaces (2 + 2 * depth)

abbrev pub redo_line : Options → ℕ → Option ℕ → List ℕ → List ℕ
redo_line options depth pid text = pid_column options pid ++ indent depth ++ with_line_feed text

-- The text after the name in a mention's line with `debug_locks`.
abbrev pub mention_suffix : How → List ℕ
mention_suffix Made = []
mention_suffix Waiting = codes " (WAITING)"
mention_suffix Locked = codes " (locked...)"
mention_suffix Unlocked = codes " (...unlocked!)"
mention_suffix Unchanged = codes " (unchanged)"

-- The text of another target that is done: a redo line if it failed, otherwise nothing.
abbrev pub exit_text : Options → ℕ → ℕ → ℤ → List ℕ → List ℕ
exit_text options depth pid (pos zero) name = []
exit_text options depth pid status name = redo_line options depth (Some pid) (name ++ (codes " (exit " ++ signed_decimal status ++ codes ")"))

-- The text of a note: a redo line if it is a check, otherwise a line without indent.
abbrev pub note_text : Options → ℕ → ℕ → List ℕ → List ℕ → List ℕ
note_text options depth pid kind text =
    if bytes_eq kind (codes "check") then redo_line options depth (Some pid) (codes "(" ++ text ++ codes ")")
    else codes "redo: " ++ with_line_feed text

-- The text of an entry that is no mention.
abbrev pub entry_text : Options → ℕ → Entry → List ℕ
entry_text options depth (Text line) = if options.details then with_line_feed line else []
entry_text options depth (Done pid status name) = exit_text options depth pid status name
entry_text options depth (Note pid kind text) = note_text options depth pid kind text
entry_text options depth entry = []

-- The text of an event. A mention's redo line has a suffix with `debug_locks`.
abbrev pub event_text : Options → Event → List ℕ
event_text options (Requested name opening) = redo_line options 0 None name
event_text options (Mentioned depth pid how name opening) =
    redo_line options depth (Some pid) (if options.debug_locks then name ++ mention_suffix how else name)
event_text options (EntryShown depth entry) = entry_text options depth entry
event_text options (LogEnds depth) = []
