-- The effect of one entry, by a viewer's visited flags.
--
-- Each name has a flag, by its number, which states whether it was named. Each log has a flag, by its number, which states
-- whether it was opened.
use Rattle.std.specs.Prelude.{◌≡◌, ℕ, ◌<◌, Bool, true, false, not, ◌||◌, List, [], ◌∷◌, Option, None, Some, length, nat_eq, slice_index_or, slice_set, if◌then◌else◌}
use Rattle.std.specs.Cmp.Lexicographic.{pointwise}
use Rattle.std.specs.List.{IsDistinct}
use Rattle.redo_line.specs.declared.entry.How.{How}
use Rattle.redo_logs.specs.Logs.{IsTable, log_number}
use Rattle.redo_logs.specs.declared.numbered.NumberedEntry.{NumberedEntry}
use Rattle.redo_logs.specs.declared.numbered.NumberedEntry.TheVariants.{Mention, Other}
use Rattle.redo_logs.specs.EntryRef.{entry_value}
use Rattle.redo_logs.specs.Numbering.{Numbering, name_at}
use Rattle.redo_options.specs.declared.options.Options.{Options}
use Rattle.redo_view.specs.declared.entry.Visited.{Visited}
use Rattle.redo_view.specs.declared.event.Opening.{Opening}
use Rattle.redo_view.specs.declared.event.Opening.TheVariants.{NotOpened, OpenedBefore, OpensHere}
use Rattle.redo_view.specs.Event.{Event, opening_of}
use Rattle.redo_view.specs.Event.Event.{Mentioned, EntryShown}
use Rattle.redo_view.specs.EventRef.{IsDoneOrNote}
use Rattle.redo_view.specs.Expansion.{is_mention}

-- Whether the names are distinct, the logs satisfy the invariant of a table, and there is a flag for each name and each log.
pub record Fits (numbering : Numbering) (visited : Visited) : Type 0 where
  pub names_differ : IsDistinct (pointwise nat_eq) numbering.names
  pub table : IsTable numbering.logs
  pub names : length visited.named.items ≡ length numbering.names
  pub logs : length visited.opened.items ≡ length numbering.logs

abbrev pub is_set : List Bool → ℕ → Bool
is_set flags number = slice_index_or flags number false

abbrev pub set_flag : List Bool → ℕ → List Bool
set_flag flags number = slice_set flags number true

-- The line of a mention, depending on whether its target was named.
abbrev pub mention_line : Options → ℕ → ℕ → How → List ℕ → Opening → Bool → List Event
mention_line options depth pid how name opening was_named = if options.debug_locks || not was_named then Mentioned depth pid how name opening ∷ [] else []

-- The opening of a log, if its number is known, depending on its flag.
abbrev pub opening_by : Bool → List Bool → Option ℕ → Opening
opening_by may_open opened None = NotOpened
opening_by may_open opened (Some number) = opening_of may_open (is_set opened number) (Some number)

-- The number of the log that is opened, if one is.
abbrev pub log_to_open : Opening → Option ℕ
log_to_open NotOpened = None
log_to_open (OpenedBefore number) = None
log_to_open (OpensHere number) = Some number

-- Whether an entry is no text line, and a mention has the number of a name.
abbrev pub IsNumberedRecord : List (List ℕ) → NumberedEntry → Type 0
IsNumberedRecord names (Mention pid how name) = name < length names
IsNumberedRecord names (Other other) = IsDoneOrNote (entry_value other)

module _ (numbering : Numbering) (options : Options) where
  -- The opening of the log of the target whose name has this number.
  abbrev pub mention_opening : List Bool → ℕ → Opening
  mention_opening opened name = opening_by options.recursive opened (log_number (name_at numbering.names name) numbering.logs)

  -- The events that an entry shows, without a log that it opens.
  abbrev pub own_events : ℕ → Visited → NumberedEntry → List Event
  own_events depth visited (Mention pid how name) =
      if is_mention options how then mention_line options depth pid how (name_at numbering.names name) (mention_opening visited.opened.items name) (is_set visited.named.items name) else []
  own_events depth visited (Other entry) = EntryShown depth (entry_value entry) ∷ []

  -- The visited flags of names after an entry.
  abbrev pub named_after : List Bool → NumberedEntry → List Bool
  named_after named (Mention pid how name) = if is_mention options how then set_flag named name else named
  named_after named (Other entry) = named

  -- The number of the log that an entry opens, if it opens one.
  abbrev pub nested_log : List Bool → NumberedEntry → Option ℕ
  nested_log opened (Mention pid how name) = if is_mention options how then log_to_open (mention_opening opened name) else None
  nested_log opened (Other entry) = None
