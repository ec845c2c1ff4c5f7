-- A table of logs, modelled as a list of logs.
use Rattle.std.specs.Prelude.{ℕ, zero, suc, ◌+◌, ◌≤◌, nat_eq, Bool, true, false, List, [], ◌∷◌, ◌++◌, Option, None, Some, length, map, position, slice_get, option_and_then}
use Rattle.std.specs.Option.{option_map}
use Rattle.std.specs.List.{IsDistinct}
use Rattle.std.specs.Cmp.Lexicographic.{pointwise}
use Rattle.redo_line.specs.declared.entry.Entry.{Entry}
use Rattle.redo_line.specs.declared.stream_fault.StreamFault.{StreamFault}
use Rattle.redo_logs.specs.declared.log_state.LogState.{LogState}
use Rattle.redo_logs.specs.declared.log_state.LogState.TheVariants.{Running, Ended, Failed}

-- The log of a target.
pub record Log : Type 0 where
  pub target : List ℕ
  pub entries : List Entry
  pub state : LogState

-- The maximum number of logs in a table.
abbrev pub max_logs : ℕ
max_logs = 1048575

abbrev pub targets_of : List Log → List (List ℕ)
targets_of logs = map (λ (log : Log). log.target) logs

abbrev pub states_of : List Log → List LogState
states_of logs = map (λ (log : Log). log.state) logs

-- The invariant of a table: it isn't too long, and no target occurs in it twice.
pub record IsTable (logs : List Log) : Type 0 where
  pub size : length logs ≤ max_logs
  pub targets_differ : IsDistinct (pointwise nat_eq) (targets_of logs)

-- A new log: no entries, and running.
abbrev pub new_log : List ℕ → Log
new_log target = record { target = target; entries = []; state = Running }

abbrev pub with_entry : Entry → Log → Log
with_entry entry log = record { target = log.target; entries = log.entries ++ entry ∷ []; state = log.state }

abbrev pub with_entries : List Entry → Log → Log
with_entries entries log = record { target = log.target; entries = log.entries ++ entries; state = log.state }

abbrev pub with_state : LogState → Log → Log
with_state state log = record { target = log.target; entries = log.entries; state = state }

-- The logs, with log `number` changed.
abbrev pub update_log : ℕ → (Log → Log) → List Log → List Log
update_log number change [] = []
update_log zero change (log ∷ logs) = change log ∷ logs
update_log (suc number) change (log ∷ logs) = log ∷ update_log number change logs

-- The number of a target's log, if it has one.
abbrev pub log_number : List ℕ → List Log → Option ℕ
log_number target logs = position (pointwise nat_eq target) (targets_of logs)

-- Entry `k` of log `i`, if there is one.
abbrev pub entry_at : ℕ → ℕ → List Log → Option Entry
entry_at i k logs = option_and_then (λ (log : Log). slice_get log.entries k) (slice_get logs i)

abbrev pub ends : LogState → Bool
ends Running = false
ends Ended = true
ends (Failed fault) = false

abbrev pub has_ended : Log → Bool
has_ended log = ends log.state

abbrev pub fault_in : LogState → Option StreamFault
fault_in Running = None
fault_in Ended = None
fault_in (Failed fault) = Some fault

-- The lowest position that has a fault, and this fault, if there is one.
abbrev pub lowest_fault : List (Option StreamFault) → Option (ℕ × StreamFault)
lowest_fault [] = None
lowest_fault (Some fault ∷ faults) = Some (0, fault)
lowest_fault (None ∷ faults) = option_map (λ (found : ℕ × StreamFault). (found.0 + 1, found.1)) (lowest_fault faults)

-- The lowest number of a failed log, and its fault, if a log failed.
abbrev pub first_failed : List Log → Option (ℕ × StreamFault)
first_failed logs = lowest_fault (map fault_in (states_of logs))
