-- The targets of the logs that events open.
use Rattle.std.proofs.Common.{◌≡◌, ℕ, zero, suc, ◌+◌, Bool, true, false, ℤ, List, [], ◌∷◌, ◌++◌, Option, None, Some, get_or, length, map, refl, sym, ◌∙◌, ap, subst, arith}
use Rattle.std.specs.Prelude.{nat_eq, not, ◌||◌, slice_get, if◌then◌else◌}
use Rattle.std.specs.Cmp.Lexicographic.{pointwise, same_text}
use Rattle.std.specs.List.{AllByRecursion}
use Rattle.std.proofs.lemmas.List.{append_assoc, length-append}
use Rattle.std.proofs.lemmas.List.Quantifiers.{position-Some}
use Rattle.std.proofs.lemmas.Option.{slice_get-get_or}
use Rattle.redo_line.specs.declared.entry.Entry.{Entry}
use Rattle.redo_line.specs.declared.entry.Entry.TheVariants.{Text, Mention, Done, Closing, Note}
use Rattle.redo_line.specs.declared.entry.How.{How}
use Rattle.redo_logs.specs.Logs.{Log, log_number, targets_of}
use Rattle.redo_options.specs.declared.options.Options.{Options}
use Rattle.redo_view.specs.declared.event.Opening.{Opening}
use Rattle.redo_view.specs.declared.event.Opening.TheVariants.{NotOpened, OpenedBefore, OpensHere}
use Rattle.redo_view.specs.Event.{Event, opening_of, opens_here}
use Rattle.redo_view.specs.Event.Event.{Requested, Mentioned, EntryShown, LogEnds}
use Rattle.redo_view.specs.Expansion.{ShowLog, ViewState, append_event, begin_log, entries_of_target, is_among, is_mention, mention_events, mention_opening, request_event, show_entries, show_entry, show_log, show_log_within, show_mention, show_mention_line, show_target, show_targets, shown_events}
use Rattle.redo_outline.specs.declared.node.Node.{Node}
use Rattle.redo_outline.specs.declared.node.RunTimes.{RunTimes}
use Rattle.redo_outline.specs.Contents.{Contents, contents_from, contents_of, innermost, opened_number, with_event, with_first}
use Rattle.redo_outline.specs.Contents.Contents.{Nothing, Shown, Opened}
use Rattle.redo_outline.specs.Facts.{name_or_empty, target_at}
use Rattle.redo_outline.specs.Outline.{log_count, node_of, nodes_of, with_times}
use Rattle.redo_trim.specs.declared.limit.Gauge.{Gauge}
use Rattle.redo_trim.specs.declared.limit.Limit.{Limit}
use Rattle.redo_trim.specs.declared.limit.Showing.{Showing}
use Rattle.redo_trim.specs.declared.limit.Showing.TheVariants as showing
use Rattle.redo_trim.specs.Trim.{after_shown, gauge_of, kept, line_shown, line_size, showing_in, trim, with_shown_all}
use Rattle.redo_trim.specs.Trim as trimming
use Rattle.redo_page.specs.Tree.{node_at}
use Rattle.redo_page.proofs.TreeIds.{nodes_counted}

-- ---- events

-- The log with the number of an opening is the log of this target.
abbrev pub IsOpeningOf : List Log → List ℕ → Opening → Type 0
IsOpeningOf logs name NotOpened = Unit {0}
IsOpeningOf logs name (OpenedBefore number) = log_number name logs ≡ Some number
IsOpeningOf logs name (OpensHere number) = log_number name logs ≡ Some number

abbrev pub NamesItsLog : List Log → Event → Type 0
NamesItsLog logs (Requested name opening) = IsOpeningOf logs name opening
NamesItsLog logs (Mentioned depth pid how name opening) = IsOpeningOf logs name opening
NamesItsLog logs event = Unit {0}

abbrev pub AllName : List Log → List Event → Type 0
AllName logs events = AllByRecursion (NamesItsLog logs) events

opening_names : (logs : List Log) (name : List ℕ) (may_open was_opened : Bool)
    → IsOpeningOf logs name (opening_of may_open was_opened (log_number name logs))
opening_names logs name may_open was_opened = by may_open was_opened (log_number name logs) refl
  where
    by : (may was : Bool) (found : Option ℕ) → log_number name logs ≡ found → IsOpeningOf logs name (opening_of may was found)
    by may was None is = tt
    by may true (Some number) is = is
    by true false (Some number) is = is
    by false false (Some number) is = tt

both_name : (logs : List Log) (events others : List Event) → AllName logs events → AllName logs others → AllName logs (events ++ others)
both_name logs [] others first last = last
both_name logs (event ∷ events) others first last = (first.0, both_name logs events others first.1 last)

module _ (logs : List Log) (options : Options) where
  abbrev Names : ViewState → Type 0
  Names state = AllName logs state.events

  abbrev ShowsNames : ShowLog → Type 0
  ShowsNames show = (target : List ℕ) (depth : ℕ) (state : ViewState) → Names state → Names (show target depth state)

  other_names : (event : Event) (state : ViewState) → NamesItsLog logs event → Names state → Names (append_event event state)
  other_names event state is names = both_name logs state.events (event ∷ []) names (is, tt)

  module _ (show : ShowLog) (shows : ShowsNames show) where
    mention_names : (depth pid : ℕ) (how : How) (name : List ℕ) (state : ViewState) → Names state
        → Names (show_mention logs options show depth pid how name state)
    mention_names depth pid how name state names = by (opens_here opening)
      where
        opening : Opening
        opening = mention_opening logs options name state

        line : (shown : Bool) → AllName logs (if shown then Mentioned depth pid how name opening ∷ [] else [])
        line true = (opening_names logs name options.recursive (is_among name state.opened), tt)
        line false = tt

        mentioned : Names (show_mention_line options depth pid how name opening state)
        mentioned = both_name logs state.events (mention_events options depth pid how name opening state.named) names
            (line (options.debug_locks || not (is_among name state.named)))

        by : (opens : Bool) → Names (if opens then show name (depth + 1) (show_mention_line options depth pid how name opening state)
            else show_mention_line options depth pid how name opening state)
        by true = shows name (depth + 1) (show_mention_line options depth pid how name opening state) mentioned
        by false = mentioned

    entry_names : (depth : ℕ) (entry : Entry) (state : ViewState) → Names state → Names (show_entry logs options show depth entry state)
    entry_names depth (Text line) state names = other_names (EntryShown depth (Text line)) state tt names
    entry_names depth (Mention pid how name) state names = by (is_mention options how)
      where
        by : (counts : Bool) → Names (if counts then show_mention logs options show depth pid how name state else state)
        by true = mention_names depth pid how name state names
        by false = names
    entry_names depth (Done pid status name) state names = other_names (EntryShown depth (Done pid status name)) state tt names
    entry_names depth (Closing pid status) state names = other_names (EntryShown depth (Closing pid status)) state tt names
    entry_names depth (Note pid kind text) state names = other_names (EntryShown depth (Note pid kind text)) state tt names

    entries_name : (depth : ℕ) (entries : List Entry) (state : ViewState) → Names state
        → Names (show_entries logs options show depth entries state)
    entries_name depth [] state names = names
    entries_name depth (entry ∷ entries) state names =
        entries_name depth entries (show_entry logs options show depth entry state) (entry_names depth entry state names)

  within_names : (levels : ℕ) → ShowsNames (show_log_within logs options levels)
  unfolding show_log_within
  within_names zero target depth state names = names
  within_names (suc levels) target depth state names =
      let inner = show_log_within logs options levels in
      other_names (LogEnds depth) (show_entries logs options inner depth (entries_of_target target logs) (begin_log target state)) tt
      (entries_name inner (within_names levels) depth (entries_of_target target logs) (begin_log target state) names)

  log_names : ShowsNames (show_log logs options)
  unfolding show_log
  log_names target depth state names = within_names (length logs + 1) target depth state names

  target_names : (target : List ℕ) (state : ViewState) → Names state → Names (show_target logs options target state)
  target_names target state names = by (is_among target state.opened)
    where
      by : (again : Bool) → Names (if again then state
          else show_log logs options target 1 (append_event (request_event logs target) state))
      by true = names
      by false = log_names target 1 (append_event (request_event logs target) state)
          (other_names (request_event logs target) state (opening_names logs target true false) names)

  targets_name : (targets : List (List ℕ)) (state : ViewState) → Names state → Names (show_targets logs options targets state)
  targets_name [] state names = names
  targets_name (target ∷ targets) state names =
      targets_name targets (show_target logs options target state) (target_names target state names)

  shown_names : (requested : List (List ℕ)) → AllName logs (shown_events logs options requested)
  shown_names requested = targets_name requested (record { named = []; opened = []; events = [] }) tt

-- ---- contents

-- Each event of some contents names its log. An event that opens a log opens the log with this number.
abbrev pub AreNamed : List Log → Contents → Type 0
AreNamed logs Nothing = Unit {0}
AreNamed logs (Shown event rest) = NamesItsLog logs event × AreNamed logs rest
AreNamed logs (Opened event number inside rest) = (opened_number event ≡ Some number) × NamesItsLog logs event × AreNamed logs inside
    × AreNamed logs rest

abbrev AllNamed : List Log → List Contents → Type 0
AllNamed logs contents = AllByRecursion (AreNamed logs) contents

first_named : (logs : List Log) (event : Event) (number : Option ℕ) → opened_number event ≡ number → NamesItsLog logs event
    → (contents : List Contents) → AllNamed logs contents → AllNamed logs (with_first event number contents)
first_named logs event None is names [] all = tt
first_named logs event None is names (inner ∷ outer) all = ((names, all.0), all.1)
first_named logs event (Some number) is names [] all = tt
first_named logs event (Some number) is names (inner ∷ []) all = ((is, names, all.0, tt), tt)
first_named logs event (Some number) is names (inner ∷ next ∷ outer) all = ((is, names, all.0, all.1.0), all.1.1)

event_named : (logs : List Log) (event : Event) → NamesItsLog logs event → (contents : List Contents) → AllNamed logs contents
    → AllNamed logs (with_event event contents)
event_named logs (Requested name opening) names contents all =
    first_named logs (Requested name opening) (opened_number (Requested name opening)) refl names contents all
event_named logs (Mentioned depth pid how name opening) names contents all =
    first_named logs (Mentioned depth pid how name opening) (opened_number (Mentioned depth pid how name opening)) refl names contents all
event_named logs (EntryShown depth entry) names contents all = first_named logs (EntryShown depth entry) None refl tt contents all
event_named logs (LogEnds depth) names contents all = (tt, all)

events_named : (logs : List Log) (events : List Event) → AllName logs events → AllNamed logs (contents_from events)
events_named logs [] names = (tt, tt)
events_named logs (event ∷ events) names = event_named logs event names.0 (contents_from events) (events_named logs events names.1)

pub contents_named : (logs : List Log) (options : Options) (requested : List (List ℕ))
    → AreNamed logs (contents_of (shown_events logs options requested))
contents_named logs options requested =
    by (contents_from (shown_events logs options requested))
    (events_named logs (shown_events logs options requested) (shown_names logs options requested))
  where
    by : (contents : List Contents) → AllNamed logs contents → AreNamed logs (innermost contents)
    by [] all = tt
    by (inner ∷ outer) all = all.0

-- ---- the rest of long logs

shown_all_named : (logs : List Log) (events : List Event) (rest : Contents) → AllName logs events → AreNamed logs rest
    → AreNamed logs (with_shown_all events rest)
shown_all_named logs [] rest names named = named
shown_all_named logs (event ∷ events) rest names named = (names.0, shown_all_named logs events rest names.1 named)

kept_named : (logs : List Log) (gauges : List Gauge) (event : Event) → NamesItsLog logs event → AllName logs (kept gauges event)
kept_named logs gauges (Requested name opening) names = (names, tt)
kept_named logs gauges (Mentioned depth pid how name opening) names = (names, tt)
kept_named logs gauges (EntryShown depth (Text line)) names = by (showing_in (trimming.innermost gauges) (line_size line))
  where
    by : (found : Showing) → AllName logs (line_shown found depth line)
    by showing.Whole = (tt, tt)
    by showing.Marker = (tt, tt)
    by showing.Nothing = tt
kept_named logs gauges (EntryShown depth (Mention pid how name)) names = (tt, tt)
kept_named logs gauges (EntryShown depth (Done pid status name)) names = (tt, tt)
kept_named logs gauges (EntryShown depth (Closing pid status)) names = (tt, tt)
kept_named logs gauges (EntryShown depth (Note pid kind text)) names = (tt, tt)
kept_named logs gauges (LogEnds depth) names = (tt, tt)

module _ (limits : List Limit) where
  pub trim_named : (logs : List Log) (gauges : List Gauge) (contents : Contents) → AreNamed logs contents
      → AreNamed logs (trim limits gauges contents)
  trim_named logs gauges Nothing named = tt
  trim_named logs gauges (Shown event rest) named =
      shown_all_named logs (kept gauges event) (trim limits (after_shown event gauges) rest) (kept_named logs gauges event named.0)
      (trim_named logs (after_shown event gauges) rest named.1)
  trim_named logs gauges (Opened event number inside rest) named = (
    named.0,
    named.1,
    trim_named logs (gauge_of limits number ∷ gauges) inside named.2,
    trim_named logs gauges rest named.3,
  )

-- ---- positions

-- A node has this number, and this many logs below it.
pub record IsNodeOf (number below : ℕ) (node : Node) : Type 0 where
  pub number_is : node.number ≡ number
  pub below_is : node.below ≡ below

-- Each log that is opened in some contents has its node at its position.
abbrev pub ArePlaced : List Node → ℕ → Contents → Type 0
ArePlaced nodes position Nothing = Unit {0}
ArePlaced nodes position (Shown event rest) = ArePlaced nodes position rest
ArePlaced nodes position (Opened event number inside rest) =
    IsNodeOf number (log_count inside) (node_at nodes position) × ArePlaced nodes (suc position) inside
    × ArePlaced nodes (suc position + log_count inside) rest

pub at_length : (before : List Node) (node : Node) (rest : List Node) → node_at (before ++ (node ∷ rest)) (length before) ≡ node
at_length [] node rest = refl
at_length (other ∷ before) node rest = at_length before node rest

pub nodes_placed : (logs : List Log) (status : ℕ → Option ℤ) (parent : Option ℕ) (position : ℕ) (contents : Contents)
    (before after whole : List Node) → length before ≡ position → before ++ (nodes_of logs status parent position contents ++ after) ≡ whole
    → ArePlaced whole position contents
nodes_placed logs status parent position Nothing before after whole counted is = tt
nodes_placed logs status parent position (Shown event rest) before after whole counted is =
    nodes_placed logs status parent position rest before after whole counted is
nodes_placed logs status parent position (Opened event number inside rest) before after whole counted is =
    let node = node_of logs status parent number inside rest in
    let inner = nodes_of logs status (Some position) (suc position) inside in
    let others = nodes_of logs status parent (suc position + log_count inside) rest in
    let inner_count = nodes_counted logs status (Some position) (suc position) inside in
    let one_more = length-append before (node ∷ []) in
    let all = length-append before (node ∷ inner) in
    let split : before ++ (node ∷ (inner ++ (others ++ after))) ≡ whole =
    ap (λ (t : List Node). before ++ (node ∷ t)) (sym (append_assoc inner others after)) ∙ is in (
      subst (IsNodeOf number (log_count inside))
          (sym (ap (λ (n : ℕ). node_at whole n) (sym counted) ∙ ap (λ (w : List Node). node_at w (length before)) (sym split)
          ∙ at_length before node (inner ++ (others ++ after)))) (record { number_is = refl; below_is = refl }),
      nodes_placed logs status (Some position) (suc position) inside (before ++ (node ∷ [])) (others ++ after) whole
          (omega (arith, counted, one_more)) (append_assoc before (node ∷ []) (inner ++ (others ++ after)) ∙ split),
      nodes_placed logs status parent (suc position + log_count inside) rest (before ++ (node ∷ inner)) after whole
          (omega (arith, counted, all, inner_count)) (append_assoc before (node ∷ inner) (others ++ after) ∙ split),
    )

-- Other nodes with the same numbers.
pub same_placed : (nodes others : List Node)
    → ((position : ℕ) → IsNodeOf (node_at nodes position).number (node_at nodes position).below (node_at others position))
    → (position : ℕ) (contents : Contents) → ArePlaced nodes position contents → ArePlaced others position contents
same_placed nodes others same position Nothing placed = tt
same_placed nodes others same position (Shown event rest) placed = same_placed nodes others same position rest placed
same_placed nodes others same position (Opened event number inside rest) placed = (
  record {
    number_is = (same position).number_is ∙ placed.0.number_is;
    below_is = (same position).below_is ∙ placed.0.below_is;
  },
  same_placed nodes others same (suc position) inside placed.1,
  same_placed nodes others same (suc position + log_count inside) rest placed.2,
)

pub timed_node : (times : List RunTimes) (nodes : List Node) (position : ℕ)
    → IsNodeOf (node_at nodes position).number (node_at nodes position).below (node_at (map (with_times times) nodes) position)
timed_node times [] position = record { number_is = refl; below_is = refl }
timed_node times (node ∷ nodes) zero = record { number_is = refl; below_is = refl }
timed_node times (node ∷ nodes) (suc position) = timed_node times nodes position

shown_count : (events : List Event) (rest : Contents) → log_count (with_shown_all events rest) ≡ log_count rest
shown_count [] rest = refl
shown_count (event ∷ events) rest = shown_count events rest

shown_placed : (nodes : List Node) (position : ℕ) (events : List Event) (rest : Contents) → ArePlaced nodes position rest
    → ArePlaced nodes position (with_shown_all events rest)
shown_placed nodes position [] rest placed = placed
shown_placed nodes position (event ∷ events) rest placed = shown_placed nodes position events rest placed

module _ (limits : List Limit) where
  pub trim_count : (gauges : List Gauge) (contents : Contents) → log_count (trim limits gauges contents) ≡ log_count contents
  trim_count gauges Nothing = refl
  trim_count gauges (Shown event rest) = shown_count (kept gauges event) (trim limits (after_shown event gauges) rest)
      ∙ trim_count (after_shown event gauges) rest
  trim_count gauges (Opened event number inside rest) =
      ap (λ (n : ℕ). suc (n + log_count (trim limits gauges rest))) (trim_count (gauge_of limits number ∷ gauges) inside)
      ∙ ap (λ (n : ℕ). suc (log_count inside + n)) (trim_count gauges rest)

  pub trim_placed : (nodes : List Node) (gauges : List Gauge) (position : ℕ) (contents : Contents) → ArePlaced nodes position contents
      → ArePlaced nodes position (trim limits gauges contents)
  trim_placed nodes gauges position Nothing placed = tt
  trim_placed nodes gauges position (Shown event rest) placed =
      shown_placed nodes position (kept gauges event) (trim limits (after_shown event gauges) rest)
      (trim_placed nodes (after_shown event gauges) position rest placed)
  trim_placed nodes gauges position (Opened event number inside rest) placed = (
    record {
      number_is = placed.0.number_is;
      below_is = placed.0.below_is ∙ sym (trim_count (gauge_of limits number ∷ gauges) inside);
    },
    trim_placed nodes (gauge_of limits number ∷ gauges) (suc position) inside placed.1,
    rw (trim_count (gauge_of limits number ∷ gauges) inside)
        (trim_placed nodes gauges (suc position + log_count inside) rest placed.2),
  )

-- ---- names

pub target_named : (logs : List Log) (name : List ℕ) (number : ℕ) → log_number name logs ≡ Some number → target_at logs number ≡ name
target_named logs name number is =
    let found = position-Some (pointwise nat_eq name) (targets_of logs) number [] is in
    by (slice_get-get_or (targets_of logs) number [] found.0)
    ∙ sym (same_text name (get_or (targets_of logs) number []) (sym found.1))
  where
    by : slice_get (targets_of logs) number ≡ Some (get_or (targets_of logs) number [])
        → target_at logs number ≡ get_or (targets_of logs) number []
    by at = ap name_or_empty at
