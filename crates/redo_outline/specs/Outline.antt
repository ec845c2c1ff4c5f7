-- The outline: each log that is opened, in order, with the facts about it and about the logs in it.
use Rattle.std.specs.Prelude.{ℕ, suc, ◌+◌, Bool, true, false, not, ◌&&◌, ◌||◌, ℤ, List, [], ◌∷◌, ◌++◌, Option, None, Some, length, slice_index_or, if◌then◌else◌}
use Rattle.std.specs.List.{count_by}
use Rattle.redo_line.specs.declared.entry.Entry.{Entry}
use Rattle.redo_line.specs.declared.entry.Entry.TheVariants.{Done, Closing}
use Rattle.redo_logs.specs.Logs.{Log}
use Rattle.redo_view.specs.Event.{Event}
use Rattle.redo_view.specs.Event.Event.{Requested, Mentioned, EntryShown, LogEnds}
use Rattle.redo_outline.specs.declared.node.Node.{Node}
use Rattle.redo_outline.specs.declared.node.RunTimes.{RunTimes}
use Rattle.redo_outline.specs.Contents.{Contents, contents_of}
use Rattle.redo_outline.specs.Contents.Contents.{Nothing, Shown, Opened}
use Rattle.redo_outline.specs.Facts.{entries_at, is_failure, is_warning, saturated, target_status, text_size, texts_of}

-- Whether an entry that is no mention is visible. A closing record is not, and neither is another target that is done with status 0.
abbrev pub is_visible_entry : Entry → Bool
is_visible_entry (Done pid status name) = is_failure (Some status)
is_visible_entry (Closing pid status) = false
is_visible_entry entry = true

-- Whether an event that opens no log is visible.
abbrev pub is_visible : Event → Bool
is_visible (Requested name opening) = true
is_visible (Mentioned depth pid how name opening) = true
is_visible (EntryShown depth entry) = is_visible_entry entry
is_visible (LogEnds depth) = false

-- The number of logs that are opened in some contents, at any depth.
abbrev pub log_count : Contents → ℕ
log_count Nothing = 0
log_count (Shown event rest) = log_count rest
log_count (Opened event number inside rest) = suc (log_count inside + log_count rest)

-- The number of logs that are opened directly in some contents.
abbrev pub child_count : Contents → ℕ
child_count Nothing = 0
child_count (Shown event rest) = child_count rest
child_count (Opened event number inside rest) = suc (child_count rest)

-- Whether anything but logs is visible directly in some contents.
abbrev pub has_others : Contents → Bool
has_others Nothing = false
has_others (Shown event rest) = is_visible event || has_others rest
has_others (Opened event number inside rest) = has_others rest

module _ (logs : List Log) (status : ℕ → Option ℤ) where
  -- The output of a target, and its size.
  abbrev pub printed : ℕ → List (List ℕ)
  printed number = texts_of (entries_at number logs)

  abbrev pub warning_count : ℕ → ℕ
  warning_count number = saturated (count_by is_warning (printed number))

  -- The number of warnings in the logs that are opened in some contents.
  abbrev pub warnings_in : Contents → ℕ
  warnings_in Nothing = 0
  warnings_in (Shown event rest) = warnings_in rest
  warnings_in (Opened event number inside rest) = saturated (warning_count number + (warnings_in inside + warnings_in rest))

  abbrev pub has_failed : ℕ → Bool
  has_failed number = is_failure (status number)

  -- Whether a target whose log is opened in some contents failed.
  abbrev pub has_failures : Contents → Bool
  has_failures Nothing = false
  has_failures (Shown event rest) = has_failures rest
  has_failures (Opened event number inside rest) = has_failed number || (has_failures inside || has_failures rest)

  -- Whether only logs are visible in some contents, at any depth, and no target failed there.
  abbrev pub is_silent : Contents → Bool
  is_silent Nothing = true
  is_silent (Shown event rest) = not (is_visible event) && is_silent rest
  is_silent (Opened event number inside rest) = not (has_failed number) && (is_silent inside && is_silent rest)

  -- The number of silent logs in a row with which some contents begin.
  abbrev pub silent_count : Contents → ℕ
  silent_count Nothing = 0
  silent_count (Shown event rest) = if is_visible event then 0 else silent_count rest
  silent_count (Opened event number inside rest) = if not (has_failed number) && is_silent inside then suc (silent_count rest) else 0

  -- The facts about the log with which some contents begin. `parent` is the position of the log that contains it.
  abbrev pub node_of : Option ℕ → ℕ → Contents → Contents → Node
  node_of parent number inside rest = record {
    number = number;
    parent = parent;
    status = status number;
    lines = saturated (length (printed number));
    bytes = saturated (text_size (printed number));
    warnings = warning_count number;
    below = log_count inside;
    children = child_count inside;
    others = has_others inside;
    warnings_below = warnings_in inside;
    fails_below = has_failures inside;
    silent = (if not (has_failed number) && is_silent inside then suc (silent_count rest) else 0);
    took = None;
    ended = None;
  }

  -- The nodes of some contents. The first one has the position `position`: a position is the number of nodes before it.
  abbrev pub nodes_of : Option ℕ → ℕ → Contents → List Node
  nodes_of parent position Nothing = []
  nodes_of parent position (Shown event rest) = nodes_of parent position rest
  nodes_of parent position (Opened event number inside rest) =
      node_of parent number inside rest ∷ (nodes_of (Some position) (suc position) inside ++ nodes_of parent (suc position + log_count inside) rest)

abbrev pub unknown_times : RunTimes
unknown_times = record { took = None; ended = None }

-- How long the target of the log with this number took, and when it ended. `times` has this for each log, by its number.
abbrev pub times_at : List RunTimes → ℕ → RunTimes
times_at times number = slice_index_or times number unknown_times

-- A node, with how long its target took, and when it ended.
abbrev pub with_times : List RunTimes → Node → Node
with_times times node = record node { took = (times_at times node.number).took; ended = (times_at times node.number).ended }

-- A node, but its numbers of warnings are 0.
abbrev pub without_warnings : Node → Node
without_warnings node = record node { warnings = 0; warnings_below = 0 }

-- The outline of these events.
abbrev pub outline_of : List Log → List Event → List Node
outline_of logs events = nodes_of logs (target_status logs events) None 0 (contents_of events)
