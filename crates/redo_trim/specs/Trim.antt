-- The trimmed events: logs without the middle of long ones.
use Rattle.std.specs.Prelude.{ℕ, ◌+◌, Bool, ◌||◌, List, [], ◌∷◌, ◌++◌, Option, None, Some, length, nat_le, codes, slice_index_or, if◌then◌else◌}
use Rattle.redo_line.specs.declared.entry.Entry.TheVariants.{Text, Note}
use Rattle.redo_view.specs.Event.{Event}
use Rattle.redo_view.specs.Event.Event.{EntryShown, LogEnds}
use Rattle.redo_outline.specs.Contents.{Contents, opened_number}
use Rattle.redo_outline.specs.Contents.Contents.{Nothing, Shown, Opened}
use Rattle.redo_outline.specs.Facts.{saturated}
use Rattle.redo_trim.specs.declared.limit.Gauge.{Gauge}
use Rattle.redo_trim.specs.declared.limit.Limit.{Limit}
use Rattle.redo_trim.specs.declared.limit.Showing.{Showing}
use Rattle.redo_trim.specs.declared.limit.Showing.TheVariants as showing

-- A log with this limit is shown whole.
abbrev pub no_limit : Limit
no_limit = record { head = 0; tail = 0 }

-- The limit of a log, by the log's number.
abbrev pub limit_of : List Limit → ℕ → Limit
limit_of limits number = slice_index_or limits number no_limit

-- The number of bytes of a text line, with its line feed.
abbrev pub line_size : List ℕ → ℕ
line_size line = length line + 1

-- ---- one text line

-- Whether the next line of a log is shown. `size` is its number of bytes: it begins in the tail, or it ends in the head.
abbrev pub is_kept : Gauge → ℕ → Bool
is_kept gauge size = nat_le gauge.limit.tail gauge.seen || nat_le (gauge.seen + size) gauge.limit.head

-- Only the first line that is left out begins in the head or at its end. The marker takes its place.
abbrev pub showing_of : Gauge → ℕ → Showing
showing_of gauge size =
    if is_kept gauge size then showing.Whole
    else if nat_le gauge.seen gauge.limit.head then showing.Marker
    else showing.Nothing

-- How a line is shown in the innermost open log. If none is open, each line is shown.
abbrev pub showing_in : Option Gauge → ℕ → Showing
showing_in None size = showing.Whole
showing_in (Some gauge) size = showing_of gauge size

-- ---- one event

abbrev pub marker_text : List ℕ
marker_text = codes "Lines are left out here. The command at the end of this page shows all of them."

-- The marker is a note of an empty kind. No log has one, because the kind of a record has at least one byte.
abbrev pub marker : ℕ → Event
marker depth = EntryShown depth (Note 0 [] marker_text)

abbrev pub line_shown : Showing → ℕ → List ℕ → List Event
line_shown showing.Whole depth line = EntryShown depth (Text line) ∷ []
line_shown showing.Marker depth line = marker depth ∷ []
line_shown showing.Nothing depth line = []

-- The events that replace an event in a log with this gauge.
abbrev pub kept_in : Option Gauge → Event → List Event
kept_in gauge (EntryShown depth (Text line)) = line_shown (showing_in gauge (line_size line)) depth line
kept_in gauge event = event ∷ []

abbrev pub innermost : List Gauge → Option Gauge
innermost [] = None
innermost (gauge ∷ outer) = Some gauge

-- The events that replace an event. There is a gauge for each open log, the innermost log first.
abbrev pub kept : List Gauge → Event → List Event
kept gauges event = kept_in (innermost gauges) event

-- ---- gauges

-- After text lines of this many bytes.
abbrev pub with_bytes : ℕ → Gauge → Gauge
with_bytes size gauge = record { limit = gauge.limit; seen = saturated (gauge.seen + size) }

abbrev pub with_text : ℕ → List Gauge → List Gauge
with_text size [] = []
with_text size (gauge ∷ outer) = with_bytes size gauge ∷ outer

-- After an event that neither opens a log nor ends one.
abbrev pub after_shown : Event → List Gauge → List Gauge
after_shown (EntryShown depth (Text line)) gauges = with_text (line_size line) gauges
after_shown event gauges = gauges

abbrev pub after_end : List Gauge → List Gauge
after_end [] = []
after_end (gauge ∷ outer) = outer

-- These events and the contents after them. None of the events opens a log.
abbrev pub with_shown_all : List Event → Contents → Contents
with_shown_all [] rest = rest
with_shown_all (event ∷ events) rest = Shown event (with_shown_all events rest)

module _ (limits : List Limit) where
  -- The gauge of a log that begins.
  abbrev pub gauge_of : ℕ → Gauge
  gauge_of number = record { limit = limit_of limits number; seen = 0 }

  abbrev pub with_opened : Option ℕ → List Gauge → List Gauge
  with_opened None gauges = gauges
  with_opened (Some number) gauges = gauge_of number ∷ gauges

  -- The gauges after an event.
  abbrev pub gauges_after : List Gauge → Event → List Gauge
  gauges_after gauges (LogEnds depth) = after_end gauges
  gauges_after gauges event = with_opened (opened_number event) (after_shown event gauges)

  -- ---- everything

  -- The events that are shown of all events. There is a gauge for each log that is open before them.
  abbrev pub trimmed : List Gauge → List Event → List Event
  trimmed gauges [] = []
  trimmed gauges (event ∷ events) = kept gauges event ++ trimmed (gauges_after gauges event) events

  -- The trimmed tree: the contents of the innermost log that are shown.
  abbrev pub trim : List Gauge → Contents → Contents
  trim gauges Nothing = Nothing
  trim gauges (Shown event rest) = with_shown_all (kept gauges event) (trim (after_shown event gauges) rest)
  trim gauges (Opened event number inside rest) = Opened event number (trim (gauge_of number ∷ gauges) inside) (trim gauges rest)
