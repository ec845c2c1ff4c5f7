-- The statements of the laws.
use Rattle.std.specs.Prelude.{◌≡◌, ℕ, ◌+◌, ◌-◌, ◌<◌, ◌^◌, Bool, List, [], ◌∷◌, ◌++◌, nat_le, if◌then◌else◌}
use Rattle.std.specs.List.{AllByRecursion}
use Rattle.redo_line.specs.declared.entry.Entry.{Entry}
use Rattle.redo_line.specs.declared.entry.Entry.TheVariants.{Text, Note}
use Rattle.redo_line.specs.Entry.{IsEntry}
use Rattle.redo_view.specs.Event.{Event}
use Rattle.redo_view.specs.Event.Event.{EntryShown}
use Rattle.redo_view.specs.Form.{text_events}
use Rattle.redo_outline.specs.Contents.{Contents, contents_of}
use Rattle.redo_outline.specs.Contents.Contents.{Nothing, Shown, Opened}
use Rattle.redo_outline.specs.Facts.{text_size}
use Rattle.redo_outline.specs.Laws.{events_of}
use Rattle.redo_outline.specs.Outline.{log_count}
use Rattle.redo_trim.specs.declared.limit.Limit.{Limit}
use Rattle.redo_trim.specs.Trim.{line_size, marker, trim, trimmed}

-- ---- the tree

-- Whether the tree of these events has exactly these events.
abbrev pub AreInTree : List Event → Type 0
AreInTree events = events_of 0 (contents_of events) ≡ events

-- The trimmed events make a tree again.
abbrev pub StayInTree : List Limit → List Event → Type 0
StayInTree limits events = AreInTree events → AreInTree (trimmed limits [] events)

-- It is the tree of all events, trimmed.
abbrev pub TreeIsTrimmed : List Limit → List Event → Type 0
TreeIsTrimmed limits events = AreInTree events → contents_of (trimmed limits [] events) ≡ trim limits [] (contents_of events)

-- No log is left out.
abbrev pub KeepsLogs : List Limit → Contents → Type 0
KeepsLogs limits contents = log_count (trim limits [] contents) ≡ log_count contents

-- Whether each limit lets the tail begin at once, so that it limits nothing.
abbrev pub AreNoLimits : List Limit → Type 0
AreNoLimits limits = AllByRecursion (λ limit. limit.tail ≡ 0) limits

-- ---- events other than text lines

-- The events that are neither text lines nor notes of an empty kind, as the marker is one.
abbrev pub other_events : List Event → List Event
other_events [] = []
other_events (EntryShown depth (Text line) ∷ events) = other_events events
other_events (EntryShown depth (Note pid [] text) ∷ events) = other_events events
other_events (event ∷ events) = event ∷ other_events events

-- Whether no line of any log is shown as this event.
abbrev pub IsInNoLog : Event → Type 0
IsInNoLog event =
    (depth : ℕ) (target line : List ℕ) (ended : Bool) (entry : Entry)
    → IsEntry target line ended entry → EntryShown depth entry ≡ event → ⊥

-- ---- the lines of one log

-- The head: the longest beginning that has at most this many bytes.
abbrev pub head_lines : ℕ → List (List ℕ) → List (List ℕ)
head_lines bytes [] = []
head_lines bytes (line ∷ lines) = if nat_le (line_size line) bytes then line ∷ head_lines (bytes - line_size line) lines else []

-- The lines after the head.
abbrev pub after_head : ℕ → List (List ℕ) → List (List ℕ)
after_head bytes [] = []
after_head bytes (line ∷ lines) = if nat_le (line_size line) bytes then after_head (bytes - line_size line) lines else line ∷ lines

-- The lines that begin at byte `tail` or after it, if the first one begins at byte `begin`.
abbrev pub lines_from : ℕ → ℕ → List (List ℕ) → List (List ℕ)
lines_from tail begin [] = []
lines_from tail begin (line ∷ lines) = if nat_le tail begin then line ∷ lines else lines_from tail (begin + line_size line) lines

-- Those that begin before it.
abbrev pub lines_before : ℕ → ℕ → List (List ℕ) → List (List ℕ)
lines_before tail begin [] = []
lines_before tail begin (line ∷ lines) = if nat_le tail begin then [] else line ∷ lines_before tail (begin + line_size line) lines

-- The tail: the lines after the head that begin at the limit's `tail` or after it.
abbrev pub tail_lines : Limit → List (List ℕ) → List (List ℕ)
tail_lines limit lines = lines_from limit.tail (text_size (head_lines limit.head lines)) (after_head limit.head lines)

-- The lines between them.
abbrev pub left_out : Limit → List (List ℕ) → List (List ℕ)
left_out limit lines = lines_before limit.tail (text_size (head_lines limit.head lines)) (after_head limit.head lines)

-- The head and the tail.
abbrev pub head_and_tail : Limit → List (List ℕ) → List (List ℕ)
head_and_tail limit lines = head_lines limit.head lines ++ tail_lines limit lines

-- Whether both numbers of a limit fit into 64 bits, as they do in the program.
pub record FitsInto64Bits (limit : Limit) : Type 0 where
  pub head : limit.head < 2 ^ 64
  pub tail : limit.tail < 2 ^ 64

-- One marker, if any lines are left out.
abbrev pub marker_for : ℕ → List (List ℕ) → List Event
marker_for depth [] = []
marker_for depth (line ∷ lines) = marker depth ∷ []

-- The head and the tail of a log, and between them a marker if any lines are left out.
abbrev pub marked_lines : ℕ → Limit → List (List ℕ) → List Event
marked_lines depth limit lines =
    text_events depth (head_lines limit.head lines) ++ (marker_for depth (left_out limit lines) ++ text_events depth (tail_lines limit lines))

-- The text lines directly in some contents.
abbrev pub lines_in : Contents → List (List ℕ)
lines_in Nothing = []
lines_in (Shown (EntryShown depth (Text line)) rest) = line ∷ lines_in rest
lines_in (Shown event rest) = lines_in rest
lines_in (Opened event number inside rest) = lines_in rest
