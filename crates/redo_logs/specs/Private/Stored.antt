-- How the logs of a table are stored.
use Rattle.std.specs.Prelude.{◌≡◌, ℕ, ◌≤◌, ◌<◌, nat_eq, List, Option, None, length, map, slice_index_or}
use Rattle.std.specs.List.{AllByRecursion, IsDistinct, flat_map}
use Rattle.std.specs.Cmp.Lexicographic.{pointwise}
use Rattle.redo_logs.specs.declared.log_table.Log.{Log as Stored}
use Rattle.redo_logs.specs.Logs.{Log, IsTable, log_number}
use Rattle.redo_logs.specs.Numbering.{Numbering, name_at}
use Rattle.redo_logs.specs.Private.Store.{Parts, Within, denotes}

module _ (parts : Parts) where
  -- The log that a stored log denotes.
  abbrev pub log_of : Stored → Log
  log_of stored = record { target = name_at parts.names stored.name; entries = flat_map (denotes parts) stored.records; state = stored.state }

  abbrev pub logs_of : List Stored → List Log
  logs_of logs = map log_of logs

  -- The logs, with the names.
  abbrev pub numbering_of : List Stored → Numbering
  numbering_of logs = record { logs = logs_of logs; names = parts.names }

  -- Whether everything that a stored log refers to exists.
  pub record IsLogWithin (stored : Stored) : Type 0 where
    pub name : stored.name < length parts.names
    pub records : AllByRecursion (Within parts) stored.records

  -- Whether `places` has the number of the log of each name's target, by the name's number. A name past the end has no log.
  abbrev pub ArePlaces : List Stored → List (Option ℕ) → Type 0
  ArePlaces logs places = (number : ℕ) → number < length parts.names → slice_index_or places number None ≡ log_number (name_at parts.names number) (logs_of logs)

  pub record IsStored (logs : List Stored) (places : List (Option ℕ)) : Type 0 where
    pub table : IsTable (logs_of logs)
    pub within : AllByRecursion IsLogWithin logs
    pub names_differ : IsDistinct (pointwise nat_eq) parts.names
    pub places_within : length places ≤ length parts.names
    pub are_places : ArePlaces logs places
