-- Which lines of a log are shown.
use Rattle.std.proofs.Common.{◌≡◌, ℕ, zero, suc, ◌+◌, ◌-◌, ◌<◌, ◌≤◌, Bool, true, false, List, [], ◌∷◌, ◌++◌, Option, None, Some, length, refl, sym, ◌∙◌, ap, arith}
use Rattle.std.specs.Prelude.{◌||◌, nat_le, if◌then◌else◌}
use Rattle.std.specs.List.{AllByRecursion}
use Rattle.std.proofs.lemmas.Bool.{le-leb, leb-true, leb-false, lt-leb}
use Rattle.std.proofs.lemmas.List.Sums.{sum_by-cons}
use Rattle.redo_line.specs.declared.entry.Entry.TheVariants.{Text, Mention, Done, Closing, Note}
use Rattle.redo_view.specs.Event.{Event}
use Rattle.redo_view.specs.Event.Event.{Requested, Mentioned, EntryShown, LogEnds}
use Rattle.redo_view.specs.Form.{text_events}
use Rattle.redo_outline.specs.Contents.{Contents, number_of_opening}
use Rattle.redo_outline.specs.Contents.Contents.{Nothing, Shown, Opened}
use Rattle.redo_outline.specs.Facts.{saturated, text_size}
use Rattle.redo_trim.specs.declared.limit.Gauge.{Gauge}
use Rattle.redo_trim.specs.declared.limit.Limit.{Limit}
use Rattle.redo_trim.specs.declared.limit.Showing.{Showing}
use Rattle.redo_trim.specs.declared.limit.Showing.TheVariants as showing
use Rattle.redo_trim.specs.Laws.{AreNoLimits, FitsInto64Bits, after_head, head_and_tail, head_lines, left_out, lines_before, lines_from, lines_in, marked_lines, marker_for, other_events, tail_lines}
use Rattle.redo_trim.specs.Trim.{after_end, gauge_of, gauges_after, innermost, kept, limit_of, line_shown, line_size, marker, showing_in, showing_of, trim, trimmed, with_opened, with_shown_all, with_text}
use Rattle.redo_trim.specs.Private.Writing.{keeps_all}
use Rattle.redo_trim.proofs.LineLemmas.{keeps_whole}

-- ---- the parts of a log

head_parts : (bytes : ℕ) (lines : List (List ℕ)) → lines ≡ head_lines bytes lines ++ after_head bytes lines
head_parts bytes [] = refl
head_parts bytes (line ∷ lines) = by (head_parts (bytes - line_size line) lines) (nat_le (line_size line) bytes)
  where
    by : lines ≡ head_lines (bytes - line_size line) lines ++ after_head (bytes - line_size line) lines
        → (fits : Bool) → line ∷ lines ≡ (if fits then line ∷ head_lines (bytes - line_size line) lines else [])
        ++ (if fits then after_head (bytes - line_size line) lines else line ∷ lines)
    by others true = ap (λ ls. line ∷ ls) others
    by others false = refl

tail_parts : (tail begin : ℕ) (lines : List (List ℕ)) → lines ≡ lines_before tail begin lines ++ lines_from tail begin lines
tail_parts tail begin [] = refl
tail_parts tail begin (line ∷ lines) = by (tail_parts tail (begin + line_size line) lines) (nat_le tail begin)
  where
    by : lines ≡ lines_before tail (begin + line_size line) lines ++ lines_from tail (begin + line_size line) lines
        → (late : Bool) → line ∷ lines ≡ (if late then [] else line ∷ lines_before tail (begin + line_size line) lines)
        ++ (if late then line ∷ lines else lines_from tail (begin + line_size line) lines)
    by others true = refl
    by others false = ap (λ ls. line ∷ ls) others

pub three_parts : (limit : Limit) (lines : List (List ℕ))
    → lines ≡ head_lines limit.head lines ++ (left_out limit lines ++ tail_lines limit lines)
three_parts limit lines =
    let first = head_lines limit.head lines in
    head_parts limit.head lines ∙ ap (λ ls. first ++ ls) (tail_parts limit.tail (text_size first) (after_head limit.head lines))

-- ---- lines by the byte at which they begin

-- How a line is shown that begins at byte `begin`.
abbrev showing_at : Limit → ℕ → ℕ → Showing
showing_at limit begin size =
    if nat_le limit.tail begin || nat_le (begin + size) limit.head then showing.Whole
    else if nat_le begin limit.head then showing.Marker
    else showing.Nothing

abbrev gauge_at : Limit → ℕ → Gauge
gauge_at limit begin = record { limit = limit; seen = saturated begin }

module _ (limit : Limit) where
  late_whole : (begin size : ℕ) → nat_le limit.tail begin ≡ true → showing_at limit begin size ≡ showing.Whole
  late_whole begin size late =
      ap (λ (b : Bool). if b || nat_le (begin + size) limit.head then showing.Whole else if nat_le begin limit.head then showing.Marker
      else showing.Nothing) late

  head_whole : (begin size : ℕ) → nat_le (begin + size) limit.head ≡ true → showing_at limit begin size ≡ showing.Whole
  head_whole begin size within = by (nat_le limit.tail begin) refl
    where
      by : (late : Bool) → nat_le limit.tail begin ≡ late → showing_at limit begin size ≡ showing.Whole
      by true is = late_whole begin size is
      by false is =
          ap (λ (b : Bool). if b || nat_le (begin + size) limit.head then showing.Whole else if nat_le begin limit.head then showing.Marker
          else showing.Nothing) is
          ∙ ap (λ (b : Bool). if b then showing.Whole else if nat_le begin limit.head then showing.Marker else showing.Nothing) within

  -- A line that is left out.
  not_whole : (begin size : ℕ) → nat_le limit.tail begin ≡ false → limit.head < begin + size
      → showing_at limit begin size ≡ (if nat_le begin limit.head then showing.Marker else showing.Nothing)
  not_whole begin size early past =
      ap (λ (b : Bool). if b || nat_le (begin + size) limit.head then showing.Whole else if nat_le begin limit.head then showing.Marker
      else showing.Nothing) early
      ∙ ap (λ (b : Bool). if b then showing.Whole else if nat_le begin limit.head then showing.Marker else showing.Nothing)
      (lt-leb (begin + size) limit.head past)

  -- The trimmed events of lines. The first line begins at byte `begin`.
  abbrev shown_at : ℕ → ℕ → List (List ℕ) → List Event
  shown_at depth begin [] = []
  shown_at depth begin (line ∷ lines) =
      line_shown (showing_at limit begin (line_size line)) depth line ++ shown_at depth (begin + line_size line) lines

  module _ (depth : ℕ) where
    in_tail : (begin : ℕ) (lines : List (List ℕ)) → limit.tail ≤ begin → shown_at depth begin lines ≡ text_events depth lines
    in_tail begin [] late = refl
    in_tail begin (line ∷ lines) late =
        ap (λ (s : Showing). line_shown s depth line ++ shown_at depth (begin + line_size line) lines)
        (late_whole begin (line_size line) (le-leb limit.tail begin late))
        ∙ ap (λ es. EntryShown depth (Text line) ∷ es) (in_tail (begin + line_size line) lines (omega (arith, late)))

    past_head : (begin : ℕ) (lines : List (List ℕ)) → limit.head < begin
        → shown_at depth begin lines ≡ text_events depth (lines_from limit.tail begin lines)
    past_head begin [] past = refl
    past_head begin (line ∷ lines) past = by (past_head (begin + line_size line) lines (omega (arith, past))) (nat_le limit.tail begin) refl
      where
        by : shown_at depth (begin + line_size line) lines ≡ text_events depth (lines_from limit.tail (begin + line_size line) lines)
            → (late : Bool) → nat_le limit.tail begin ≡ late
            → shown_at depth begin (line ∷ lines)
            ≡ text_events depth (if late then line ∷ lines else lines_from limit.tail (begin + line_size line) lines)
        by others true is = in_tail begin (line ∷ lines) (leb-true limit.tail begin is)
        by others false is =
            ap (λ (s : Showing). line_shown s depth line ++ shown_at depth (begin + line_size line) lines)
            (not_whole begin (line_size line) is (omega (arith, past))
            ∙ ap (λ (b : Bool). if b then showing.Marker else showing.Nothing) (lt-leb begin limit.head past))
            ∙ others

    after_first : (begin : ℕ) (line : List ℕ) (lines : List (List ℕ)) → begin ≤ limit.head → limit.head < begin + line_size line
        → shown_at depth begin (line ∷ lines)
        ≡ marker_for depth (lines_before limit.tail begin (line ∷ lines)) ++ text_events depth (lines_from limit.tail begin (line ∷ lines))
    after_first begin line lines within past = by (nat_le limit.tail begin) refl
      where
        by : (late : Bool) → nat_le limit.tail begin ≡ late
            → shown_at depth begin (line ∷ lines)
            ≡ marker_for depth (if late then [] else line ∷ lines_before limit.tail (begin + line_size line) lines)
            ++ text_events depth (if late then line ∷ lines else lines_from limit.tail (begin + line_size line) lines)
        by true is = in_tail begin (line ∷ lines) (leb-true limit.tail begin is)
        by false is =
            ap (λ (s : Showing). line_shown s depth line ++ shown_at depth (begin + line_size line) lines)
            (not_whole begin (line_size line) is past
            ∙ ap (λ (b : Bool). if b then showing.Marker else showing.Nothing) (le-leb begin limit.head within))
            ∙ ap (λ es. marker depth ∷ es) (past_head (begin + line_size line) lines past)

    -- The lines that are left of the head, and those after it.
    abbrev parts : ℕ → List (List ℕ) → List (List ℕ) → List Event
    parts begin first others =
        text_events depth first ++ (marker_for depth (lines_before limit.tail (begin + text_size first) others)
        ++ text_events depth (lines_from limit.tail (begin + text_size first) others))

    from_head : (begin room : ℕ) (lines : List (List ℕ)) → begin + room ≡ limit.head
        → shown_at depth begin lines ≡ parts begin (head_lines room lines) (after_head room lines)
    from_head begin room [] same = refl
    from_head begin room (line ∷ lines) same =
        by (λ below. from_head (begin + line_size line) (room - line_size line) lines (omega (arith, below, same)))
        (nat_le (line_size line) room) refl
      where
        by : (line_size line ≤ room → shown_at depth (begin + line_size line) lines
            ≡ parts (begin + line_size line) (head_lines (room - line_size line) lines) (after_head (room - line_size line) lines))
            → (fits : Bool) → nat_le (line_size line) room ≡ fits
            → shown_at depth begin (line ∷ lines)
            ≡ parts begin (if fits then line ∷ head_lines (room - line_size line) lines else [])
            (if fits then after_head (room - line_size line) lines else line ∷ lines)
        by others_shown true is =
            let within = leb-true (line_size line) room is in
            let first = head_lines (room - line_size line) lines in
            let others = after_head (room - line_size line) lines in
            let size = sum_by-cons (λ (text : List ℕ). length text + 1) line first in
            ap (λ (s : Showing). line_shown s depth line ++ shown_at depth (begin + line_size line) lines)
            (head_whole begin (line_size line) (le-leb (begin + line_size line) limit.head (omega (arith, within, same))))
            ∙ ap (λ es. EntryShown depth (Text line) ∷ es) (others_shown within)
            ∙ ap (λ (n : ℕ). EntryShown depth (Text line)
            ∷ (text_events depth first ++ (marker_for depth (lines_before limit.tail n others)
            ++ text_events depth (lines_from limit.tail n others)))) (omega (arith, size))
        by others_shown false is =
            let past = leb-false (line_size line) room is in
            after_first begin line lines (omega (arith, same)) (omega (arith, past, same))
            ∙ ap (λ (n : ℕ). marker_for depth (lines_before limit.tail n (line ∷ lines))
            ++ text_events depth (lines_from limit.tail n (line ∷ lines))) (omega arith)

    whole_log : (lines : List (List ℕ))
        → shown_at depth 0 lines ≡ text_events depth (head_lines limit.head lines)
        ++ (marker_for depth (left_out limit lines) ++ text_events depth (tail_lines limit lines))
    whole_log lines =
        let first = head_lines limit.head lines in
        let others = after_head limit.head lines in
        from_head 0 limit.head lines (omega arith)
        ∙ ap (λ (n : ℕ). text_events depth first
        ++ (marker_for depth (lines_before limit.tail n others) ++ text_events depth (lines_from limit.tail n others))) (omega arith)

-- ---- gauges

module _ (limit : Limit) (fits : FitsInto64Bits limit) where
  same_showing : (begin size : ℕ) → showing_of (gauge_at limit begin) size ≡ showing_at limit begin size
  same_showing begin size = by (nat_le limit.tail begin) refl
    where
      by : (late : Bool) → nat_le limit.tail begin ≡ late → showing_of (gauge_at limit begin) size ≡ showing_at limit begin size
      by true is =
          let from = leb-true limit.tail begin is in
          let small = fits.tail in
          ap (λ (b : Bool). if b || nat_le (saturated begin + size) limit.head then showing.Whole
          else if nat_le (saturated begin) limit.head then showing.Marker else showing.Nothing)
          (le-leb limit.tail (saturated begin) (omega (arith, from, small)))
          ∙ sym (late_whole limit begin size is)
      by false is =
          let early = leb-false limit.tail begin is in
          let small = fits.tail in
          ap (λ (n : ℕ). showing_of (record { limit = limit; seen = n }) size) (omega (arith, early, small))

  next_gauge : (begin size : ℕ) (outer : List Gauge) → with_text size (gauge_at limit begin ∷ outer) ≡ gauge_at limit (begin + size) ∷ outer
  next_gauge begin size outer = ap (λ (n : ℕ). record { limit = limit; seen = n } ∷ outer) (omega arith)

  same_lines : (limits : List Limit) (depth : ℕ) (outer : List Gauge) (begin : ℕ) (lines : List (List ℕ))
      → trimmed limits (gauge_at limit begin ∷ outer) (text_events depth lines) ≡ shown_at limit depth begin lines
  same_lines limits depth outer begin [] = refl
  same_lines limits depth outer begin (line ∷ lines) =
      ap (λ (s : Showing). line_shown s depth line
      ++ trimmed limits (with_text (line_size line) (gauge_at limit begin ∷ outer)) (text_events depth lines))
      (same_showing begin (line_size line))
      ∙ ap (λ (gs : List Gauge). line_shown (showing_at limit begin (line_size line)) depth line
      ++ trimmed limits gs (text_events depth lines)) (next_gauge begin (line_size line) outer)
      ∙ ap (λ es. line_shown (showing_at limit begin (line_size line)) depth line ++ es)
      (same_lines limits depth outer (begin + line_size line) lines)

pub shows_head_and_tail : (limits : List Limit) (number : ℕ) (lines : List (List ℕ)) (depth : ℕ) (outer : List Gauge)
    → FitsInto64Bits (limit_of limits number)
    → trimmed limits (gauge_of limits number ∷ outer) (text_events depth lines) ≡ marked_lines depth (limit_of limits number) lines
shows_head_and_tail limits number lines depth outer fits =
    let limit = limit_of limits number in
    same_lines limit fits limits depth outer 0 lines ∙ whole_log limit depth lines

-- ---- the lines directly in a log

-- The text lines among events.
abbrev lines_among : List Event → List (List ℕ)
lines_among [] = []
lines_among (EntryShown depth (Text line) ∷ events) = line ∷ lines_among events
lines_among (event ∷ events) = lines_among events

among_texts : (depth : ℕ) (lines : List (List ℕ)) → lines_among (text_events depth lines) ≡ lines
among_texts depth [] = refl
among_texts depth (line ∷ lines) = ap (λ ls. line ∷ ls) (among_texts depth lines)

texts_then : (depth : ℕ) (lines : List (List ℕ)) (events : List Event)
    → lines_among (text_events depth lines ++ events) ≡ lines ++ lines_among events
texts_then depth [] events = refl
texts_then depth (line ∷ lines) events = ap (λ ls. line ∷ ls) (texts_then depth lines events)

marker_then : (depth : ℕ) (lines : List (List ℕ)) (events : List Event)
    → lines_among (marker_for depth lines ++ events) ≡ lines_among events
marker_then depth [] events = refl
marker_then depth (line ∷ lines) events = refl

line_then : (s : Showing) (depth here : ℕ) (line : List ℕ) (rest : Contents) (events : List Event) → lines_in rest ≡ lines_among events
    → lines_in (with_shown_all (line_shown s depth line) rest) ≡ lines_among (line_shown s here line ++ events)
line_then showing.Whole depth here line rest events same = ap (λ ls. line ∷ ls) same
line_then showing.Marker depth here line rest events same = same
line_then showing.Nothing depth here line rest events same = same

module _ (limits : List Limit) (limit : Limit) (fits : FitsInto64Bits limit) (outer : List Gauge) where
  kept_among : (contents : Contents) (begin : ℕ)
      → lines_in (trim limits (gauge_at limit begin ∷ outer) contents) ≡ lines_among (shown_at limit 0 begin (lines_in contents))
  kept_among Nothing begin = refl
  kept_among (Shown (Requested name opening) rest) begin = kept_among rest begin
  kept_among (Shown (Mentioned depth pid how name opening) rest) begin = kept_among rest begin
  kept_among (Shown (EntryShown depth (Text line)) rest) begin =
      ap (λ (s : Showing). lines_in (with_shown_all (line_shown s depth line)
      (trim limits (with_text (line_size line) (gauge_at limit begin ∷ outer)) rest))) (same_showing limit fits begin (line_size line))
      ∙ ap (λ (gs : List Gauge). lines_in
      (with_shown_all (line_shown (showing_at limit begin (line_size line)) depth line) (trim limits gs rest)))
      (next_gauge limit fits begin (line_size line) outer)
      ∙ line_then (showing_at limit begin (line_size line)) depth 0 line
      (trim limits (gauge_at limit (begin + line_size line) ∷ outer) rest) (shown_at limit 0 (begin + line_size line) (lines_in rest))
      (kept_among rest (begin + line_size line))
  kept_among (Shown (EntryShown depth (Mention pid how name)) rest) begin = kept_among rest begin
  kept_among (Shown (EntryShown depth (Done pid status name)) rest) begin = kept_among rest begin
  kept_among (Shown (EntryShown depth (Closing pid status)) rest) begin = kept_among rest begin
  kept_among (Shown (EntryShown depth (Note pid kind text)) rest) begin = kept_among rest begin
  kept_among (Shown (LogEnds depth) rest) begin = kept_among rest begin
  kept_among (Opened event number inside rest) begin = kept_among rest begin

pub keeps_head_and_tail : (limits : List Limit) (number : ℕ) (contents : Contents) (outer : List Gauge)
    → FitsInto64Bits (limit_of limits number)
    → lines_in (trim limits (gauge_of limits number ∷ outer) contents) ≡ head_and_tail (limit_of limits number) (lines_in contents)
keeps_head_and_tail limits number contents outer fits =
    let limit = limit_of limits number in
    let lines = lines_in contents in
    let first = head_lines limit.head lines in
    let last = tail_lines limit lines in
    kept_among limits limit fits outer contents 0 ∙ ap lines_among (whole_log limit 0 lines)
    ∙ texts_then 0 first (marker_for 0 (left_out limit lines) ++ text_events 0 last)
    ∙ ap (λ ls. first ++ ls) (marker_then 0 (left_out limit lines) (text_events 0 last) ∙ among_texts 0 last)

-- ---- events other than text lines

line_no_other : (s : Showing) (depth : ℕ) (line : List ℕ) (events : List Event)
    → other_events (line_shown s depth line ++ events) ≡ other_events events
line_no_other showing.Whole depth line events = refl
line_no_other showing.Marker depth line events = refl
line_no_other showing.Nothing depth line events = refl

pub keeps_others : (limits : List Limit) (gauges : List Gauge) (events : List Event)
    → other_events (trimmed limits gauges events) ≡ other_events events
keeps_others limits gauges [] = refl
keeps_others limits gauges (Requested name opening ∷ events) =
    ap (λ es. Requested name opening ∷ es) (keeps_others limits (gauges_after limits gauges (Requested name opening)) events)
keeps_others limits gauges (Mentioned depth pid how name opening ∷ events) =
    ap (λ es. Mentioned depth pid how name opening ∷ es)
    (keeps_others limits (gauges_after limits gauges (Mentioned depth pid how name opening)) events)
keeps_others limits gauges (EntryShown depth (Text line) ∷ events) =
    let next = with_text (line_size line) gauges in
    line_no_other (showing_in (innermost gauges) (line_size line)) depth line (trimmed limits next events) ∙ keeps_others limits next events
keeps_others limits gauges (EntryShown depth (Mention pid how name) ∷ events) =
    ap (λ es. EntryShown depth (Mention pid how name) ∷ es) (keeps_others limits gauges events)
keeps_others limits gauges (EntryShown depth (Done pid status name) ∷ events) =
    ap (λ es. EntryShown depth (Done pid status name) ∷ es) (keeps_others limits gauges events)
keeps_others limits gauges (EntryShown depth (Closing pid status) ∷ events) =
    ap (λ es. EntryShown depth (Closing pid status) ∷ es) (keeps_others limits gauges events)
keeps_others limits gauges (EntryShown depth (Note pid [] text) ∷ events) = keeps_others limits gauges events
keeps_others limits gauges (EntryShown depth (Note pid (byte ∷ kind) text) ∷ events) =
    ap (λ es. EntryShown depth (Note pid (byte ∷ kind) text) ∷ es) (keeps_others limits gauges events)
keeps_others limits gauges (LogEnds depth ∷ events) =
    ap (λ es. LogEnds depth ∷ es) (keeps_others limits (gauges_after limits gauges (LogEnds depth)) events)

-- ---- logs without a limit

abbrev HasNone : Gauge → Type 0
HasNone gauge = gauge.limit.tail ≡ 0

no_limit_of : (limits : List Limit) (number : ℕ) → AllByRecursion (λ (limit : Limit). limit.tail ≡ 0) limits
    → (limit_of limits number).tail ≡ 0
no_limit_of [] number none = refl
no_limit_of (limit ∷ limits) zero none = none.0
no_limit_of (limit ∷ limits) (suc number) none = no_limit_of limits number none.1

none_kept : (gauges : List Gauge) → AllByRecursion HasNone gauges → keeps_all gauges ≡ true
none_kept [] none = refl
none_kept (gauge ∷ outer) none = ap (λ (n : ℕ). nat_le n gauge.seen) none.0 ∙ le-leb 0 gauge.seen (omega arith)

all_kept : (gauges : List Gauge) (event : Event) → keeps_all gauges ≡ true → kept gauges event ≡ event ∷ []
all_kept gauges (Requested name opening) keeps = refl
all_kept gauges (Mentioned depth pid how name opening) keeps = refl
all_kept gauges (EntryShown depth (Text line)) keeps =
    ap (λ (s : Showing). line_shown s depth line) (keeps_whole gauges (line_size line) keeps)
all_kept gauges (EntryShown depth (Mention pid how name)) keeps = refl
all_kept gauges (EntryShown depth (Done pid status name)) keeps = refl
all_kept gauges (EntryShown depth (Closing pid status)) keeps = refl
all_kept gauges (EntryShown depth (Note pid kind text)) keeps = refl
all_kept gauges (LogEnds depth) keeps = refl

module _ (limits : List Limit) (none : AllByRecursion (λ (limit : Limit). limit.tail ≡ 0) limits) where
  opened_none : (number : Option ℕ) (gauges : List Gauge) → AllByRecursion HasNone gauges
      → AllByRecursion HasNone (with_opened limits number gauges)
  opened_none None gauges have = have
  opened_none (Some number) gauges have = (no_limit_of limits number none, have)

  text_none : (size : ℕ) (gauges : List Gauge) → AllByRecursion HasNone gauges → AllByRecursion HasNone (with_text size gauges)
  text_none size [] have = have
  text_none size (gauge ∷ outer) have = have

  end_none : (gauges : List Gauge) → AllByRecursion HasNone gauges → AllByRecursion HasNone (after_end gauges)
  end_none [] have = have
  end_none (gauge ∷ outer) have = have.1

  after_none : (gauges : List Gauge) (event : Event) → AllByRecursion HasNone gauges
      → AllByRecursion HasNone (gauges_after limits gauges event)
  after_none gauges (Requested name opening) have = opened_none (number_of_opening opening) gauges have
  after_none gauges (Mentioned depth pid how name opening) have = opened_none (number_of_opening opening) gauges have
  after_none gauges (EntryShown depth (Text line)) have = text_none (line_size line) gauges have
  after_none gauges (EntryShown depth (Mention pid how name)) have = have
  after_none gauges (EntryShown depth (Done pid status name)) have = have
  after_none gauges (EntryShown depth (Closing pid status)) have = have
  after_none gauges (EntryShown depth (Note pid kind text)) have = have
  after_none gauges (LogEnds depth) have = end_none gauges have

  whole_from : (gauges : List Gauge) (events : List Event) → AllByRecursion HasNone gauges → trimmed limits gauges events ≡ events
  whole_from gauges [] have = refl
  whole_from gauges (event ∷ events) have =
      ap (λ es. es ++ trimmed limits (gauges_after limits gauges event) events) (all_kept gauges event (none_kept gauges have))
      ∙ ap (λ es. event ∷ es) (whole_from (gauges_after limits gauges event) events (after_none gauges event have))

pub are_whole : (limits : List Limit) (events : List Event) → AreNoLimits limits → trimmed limits [] events ≡ events
are_whole limits events none = whole_from limits none [] events tt
