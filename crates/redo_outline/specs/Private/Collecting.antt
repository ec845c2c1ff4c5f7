-- The state of a collector after events.
use Rattle.std.specs.Prelude.{ℕ, zero, suc, Bool, true, false, ◌||◌, ℤ, List, [], ◌∷◌, ◌++◌, Option, None, Some, length, replicate, option_and_then, slice_get}
use Rattle.redo_line.specs.declared.entry.Entry.{Entry}
use Rattle.redo_line.specs.declared.entry.Entry.TheVariants.{Done}
use Rattle.redo_logs.specs.Logs.{Log, log_number}
use Rattle.redo_view.specs.declared.event.Opening.{Opening}
use Rattle.redo_view.specs.declared.event.Opening.TheVariants.{NotOpened, OpenedBefore, OpensHere}
use Rattle.redo_view.specs.Event.{Event}
use Rattle.redo_view.specs.Event.Event.{Requested, Mentioned, EntryShown, LogEnds}
use Rattle.redo_outline.specs.declared.collector.Bracket.{Bracket}
use Rattle.redo_outline.specs.declared.collector.OpenedLog.{OpenedLog}
use Rattle.redo_outline.specs.Outline.{is_visible_entry}

pub record Collected : Type 0 where
  pub logs : List Log
  pub opened : List OpenedLog
  pub innermost : Option ℕ
  pub brackets : List Bracket
  pub after_others : Bool
  pub statuses : List (Option ℤ)

abbrev pub initial : List Log → Collected
initial logs = record {
  logs = logs;
  opened = [];
  innermost = None;
  brackets = [];
  after_others = false;
  statuses = replicate (length logs) None;
}

-- Adds something else than a log, if it is visible.
abbrev pub other_shown : Bool → Collected → Collected
other_shown visible collected = record collected { after_others = visible || collected.after_others }

abbrev pub opened_log : ℕ → Option ℕ → OpenedLog
opened_log number parent = record { number = number; parent = parent }

abbrev pub bracket : Bool → Bool → Bracket
bracket opens after_others = record { opens = opens; after_others = after_others }

abbrev pub log_begun : ℕ → Collected → Collected
log_begun number collected = record collected {
  opened = collected.opened ++ opened_log number collected.innermost ∷ [];
  innermost = Some (length collected.opened);
  brackets = collected.brackets ++ bracket true collected.after_others ∷ [];
  after_others = false;
}

abbrev pub parent_of : List OpenedLog → Option ℕ → Option ℕ
parent_of opened position = option_and_then (λ (log : OpenedLog). log.parent) (option_and_then (slice_get opened) position)

abbrev pub log_ended : Collected → Collected
log_ended collected = record collected {
  innermost = parent_of collected.opened collected.innermost;
  brackets = collected.brackets ++ bracket false collected.after_others ∷ [];
  after_others = false;
}

abbrev pub line_shown : Opening → Collected → Collected
line_shown NotOpened collected = other_shown true collected
line_shown (OpenedBefore number) collected = other_shown true collected
line_shown (OpensHere number) collected = log_begun number collected

-- The statuses. The status of log `number` is set unless it was set before.
abbrev pub with_status : ℕ → ℤ → List (Option ℤ) → List (Option ℤ)
with_status number status [] = []
with_status zero status (None ∷ statuses) = Some status ∷ statuses
with_status zero status (Some old ∷ statuses) = Some old ∷ statuses
with_status (suc number) status (old ∷ statuses) = old ∷ with_status number status statuses

abbrev pub with_status_at : Option ℕ → ℤ → List (Option ℤ) → List (Option ℤ)
with_status_at None status statuses = statuses
with_status_at (Some number) status statuses = with_status number status statuses

abbrev pub statuses_after : List Log → Entry → List (Option ℤ) → List (Option ℤ)
statuses_after logs (Done pid status name) statuses = with_status_at (log_number name logs) status statuses
statuses_after logs entry statuses = statuses

abbrev pub entry_shown : Entry → Collected → Collected
entry_shown entry collected = record collected {
  after_others = is_visible_entry entry || collected.after_others;
  statuses = statuses_after collected.logs entry collected.statuses;
}

abbrev pub after_event : Event → Collected → Collected
after_event (Requested name opening) collected = line_shown opening collected
after_event (Mentioned depth pid how name opening) collected = line_shown opening collected
after_event (EntryShown depth entry) collected = entry_shown entry collected
after_event (LogEnds depth) collected = log_ended collected
