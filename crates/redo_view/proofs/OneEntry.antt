-- The effect of one entry, without the log that it opens.
use Rattle.std.specs.Prelude.{ℕ, List, [], ◌∷◌, ◌++◌, Option, None, if◌then◌else◌}
use Rattle.redo_line.specs.declared.entry.Entry.{Entry}
use Rattle.redo_line.specs.declared.entry.Entry.TheVariants.{Text, Mention, Done, Closing, Note}
use Rattle.redo_logs.specs.Logs.{Log, log_number}
use Rattle.redo_options.specs.declared.options.Options.{Options}
use Rattle.redo_view.specs.declared.event.Opening.{Opening}
use Rattle.redo_view.specs.Event.{Event, opening_of}
use Rattle.redo_view.specs.Event.Event.{EntryShown}
use Rattle.redo_view.specs.Expansion.{ViewState, is_among, insert_name, is_mention, mention_events}
use Rattle.redo_view.specs.Private.EntryEffect.{log_to_open}

-- The opening of a mentioned target's log.
abbrev pub opening_after : List Log → Options → List ℕ → List (List ℕ) → Opening
opening_after logs options name opened = opening_of options.recursive (is_among name opened) (log_number name logs)

-- The events that an entry shows, without a log that it opens.
abbrev pub own_events : List Log → Options → ℕ → List (List ℕ) → List (List ℕ) → Entry → List Event
own_events logs options depth named opened (Text line) = EntryShown depth (Text line) ∷ []
own_events logs options depth named opened (Mention pid how name) =
    if is_mention options how then mention_events options depth pid how name (opening_after logs options name opened) named else []
own_events logs options depth named opened (Done pid status name) = EntryShown depth (Done pid status name) ∷ []
own_events logs options depth named opened (Closing pid status) = EntryShown depth (Closing pid status) ∷ []
own_events logs options depth named opened (Note pid kind text) = EntryShown depth (Note pid kind text) ∷ []

-- The targets that are named after an entry.
abbrev pub named_after : Options → List (List ℕ) → Entry → List (List ℕ)
named_after options named (Text line) = named
named_after options named (Mention pid how name) = if is_mention options how then insert_name name named else named
named_after options named (Done pid status name) = named
named_after options named (Closing pid status) = named
named_after options named (Note pid kind text) = named

-- The number of the log that an entry opens, if it opens one.
abbrev pub nested_log : List Log → Options → List (List ℕ) → Entry → Option ℕ
nested_log logs options opened (Text line) = None
nested_log logs options opened (Mention pid how name) =
    if is_mention options how then log_to_open (opening_after logs options name opened) else None
nested_log logs options opened (Done pid status name) = None
nested_log logs options opened (Closing pid status) = None
nested_log logs options opened (Note pid kind text) = None

-- The state after an entry, without the log that it opens.
abbrev pub mid : List Log → Options → ℕ → Entry → ViewState → ViewState
mid logs options depth entry s = record {
  named = named_after options s.named entry;
  opened = s.opened;
  events = s.events ++ own_events logs options depth s.named s.opened entry;
}
