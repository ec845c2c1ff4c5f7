-- The events that a log adds don't depend on the events before it, and its entries are shown one after another.
use Rattle.std.proofs.Common.{◌≡◌, ℕ, zero, suc, ◌+◌, ◌<◌, Bool, true, false, List, [], ◌∷◌, ◌++◌, None, Some, is_some, length, refl, sym, ap, ◌∙◌, subst, arith}
use Rattle.std.specs.Prelude.{nat_eq, slice_get, cond, if◌then◌else◌}
use Rattle.std.specs.List.{flat_map, position_from}
use Rattle.std.specs.Cmp.Lexicographic.{pointwise, same_text}
use Rattle.std.proofs.lemmas.Iterator.Adapters.{position_from-zero}
use Rattle.std.proofs.lemmas.List.Concat.{flat_map-append}
use Rattle.std.proofs.lemmas.List.{append_assoc, append-nil}
use Rattle.std.proofs.lemmas.Option.{none-some, same_Some}
use Rattle.redo_line.specs.declared.entry.Entry.{Entry}
use Rattle.redo_line.specs.declared.entry.Entry.TheVariants.{Text, Mention, Done, Closing, Note}
use Rattle.redo_line.specs.declared.entry.How.{How}
use Rattle.redo_logs.specs.Logs.{Log, targets_of, log_number, entry_at}
use Rattle.redo_options.specs.declared.options.Options.{Options}
use Rattle.redo_view.specs.declared.event.Opening.{Opening}
use Rattle.redo_view.specs.Event.{Event}
use Rattle.redo_view.specs.Event.Event.{EntryShown, LogEnds}
use Rattle.redo_view.specs.Expansion.{ShowLog, ViewState, is_among, insert_name, append_event, entries_of_target, is_mention, mention_events, mention_opening, show_mention_line, begin_log, end_log, show_entry, show_entries, show_log_within, show_log}
use Rattle.redo_view.specs.Private.Branches.{show_log_if, show_mention_if}
use Rattle.redo_view.specs.Laws.{TextIsAppendOnly, prepend_events}
use Rattle.redo_view.specs.Text.{event_text}
use Rattle.redo_view.specs.Private.EntryEffect.{log_to_open}
use Rattle.redo_view.proofs.OneEntry.{mid, nested_log, opening_after}
use Rattle.redo_view.proofs.Openings.{none_opens, looked_up-listed, should_open, some_opens}

-- ---- events before the shown ones

-- The state without any shown events.
abbrev without_events : ViewState → ViewState
without_events s = record { named = s.named; opened = s.opened; events = [] }

-- A state is its events before the state with nothing shown.
after_own : (s : ViewState) → s ≡ prepend_events s.events (without_events s)
after_own s = λ i. record { named = s.named; opened = s.opened; events = sym (append-nil s.events) i }

-- Whether a function does the same after any events.
abbrev pub Shifts : ShowLog → Type 0
Shifts inner = (name : List ℕ) (depth : ℕ) (x : List Event) (s : ViewState)
    → inner name depth (prepend_events x s) ≡ prepend_events x (inner name depth s)

-- An event is added after any others.
event-shift : (x : List Event) (event : Event) (s : ViewState)
    → append_event event (prepend_events x s) ≡ prepend_events x (append_event event s)
event-shift x event s = λ i. record { named = s.named; opened = s.opened; events = append_assoc x s.events (event ∷ []) i }

-- A mention does the same after any events.
show_mention_line-shift : (options : Options) (depth pid : ℕ) (how : How) (name : List ℕ) (opening : Opening) (x : List Event)
    (s : ViewState) → show_mention_line options depth pid how name opening (prepend_events x s)
    ≡ prepend_events x (show_mention_line options depth pid how name opening s)
show_mention_line-shift options depth pid how name opening x s = λ i. record {
  named = insert_name name s.named;
  opened = s.opened;
  events = append_assoc x s.events (mention_events options depth pid how name opening s.named) i;
}

module _ (logs : List Log) (options : Options) where
  module _ (inner : ShowLog) (shifts : Shifts inner) where
    -- The log that a mention opens, or doesn't.
    mentioned-shift : (depth pid : ℕ) (how : How) (name : List ℕ) (x : List Event) (s : ViewState) (opening : Bool)
        → show_log_if logs options opening inner name (depth + 1)
        (show_mention_line options depth pid how name (mention_opening logs options name s) (prepend_events x s))
        ≡ prepend_events x (show_log_if logs options opening inner name (depth + 1)
        (show_mention_line options depth pid how name (mention_opening logs options name s) s))
    mentioned-shift depth pid how name x s true =
        ap (inner name (depth + 1)) (show_mention_line-shift options depth pid how name (mention_opening logs options name s) x s)
        ∙ shifts name (depth + 1) x (show_mention_line options depth pid how name (mention_opening logs options name s) s)
    mentioned-shift depth pid how name x s false =
        show_mention_line-shift options depth pid how name (mention_opening logs options name s) x s

    one-shift : (depth : ℕ) (entry : Entry) (x : List Event) (s : ViewState)
        → show_entry logs options inner depth entry (prepend_events x s) ≡ prepend_events x (show_entry logs options inner depth entry s)
    one-shift depth (Text line) x s = event-shift x (EntryShown depth (Text line)) s
    one-shift depth (Mention pid how name) x s = by (is_mention options how)
      where
        by : (counts : Bool) → show_mention_if logs options counts inner depth pid how name (prepend_events x s)
            ≡ prepend_events x (show_mention_if logs options counts inner depth pid how name s)
        by true = mentioned-shift depth pid how name x s (should_open logs options name s)
        by false = refl
    one-shift depth (Done pid status name) x s = event-shift x (EntryShown depth (Done pid status name)) s
    one-shift depth (Closing pid status) x s = event-shift x (EntryShown depth (Closing pid status)) s
    one-shift depth (Note pid kind text) x s = event-shift x (EntryShown depth (Note pid kind text)) s

    -- Entries in order.
    all-shift : (depth : ℕ) (entries : List Entry) (x : List Event) (s : ViewState)
        → show_entries logs options inner depth entries (prepend_events x s)
        ≡ prepend_events x (show_entries logs options inner depth entries s)
    all-shift depth [] x s = refl
    all-shift depth (entry ∷ entries) x s =
        ap (λ t. show_entries logs options inner depth entries t) (one-shift depth entry x s)
        ∙ all-shift depth entries x (show_entry logs options inner depth entry s)

  -- Any number of levels.
  within-shift : (levels : ℕ) → Shifts (show_log_within logs options levels)
  unfolding show_log_within
  within-shift zero target depth x s = refl
  within-shift (suc levels) target depth x s =
      ap (end_log depth) (all-shift (show_log_within logs options levels) (within-shift levels) depth (entries_of_target target logs) x
      (begin_log target s))
      ∙ event-shift x (LogEnds depth) (show_entries logs options (show_log_within logs options levels) depth (entries_of_target target logs)
      (begin_log target s))

  -- The events that a log adds don't depend on the events before it.
  pub show_log-shift : (target : List ℕ) (depth : ℕ) (x : List Event) (s : ViewState)
      → show_log logs options target depth (prepend_events x s) ≡ prepend_events x (show_log logs options target depth s)
  unfolding show_log
  show_log-shift target depth x s = within-shift (length logs + 1) target depth x s

  -- The text that a log adds doesn't depend on the events before it.
  pub text-shift : TextIsAppendOnly logs options (show_log logs options)
  text-shift target depth x s =
      ap (λ (t : ViewState). flat_map (event_text options) t.events) (show_log-shift target depth x s)
      ∙ flat_map-append (event_text options) x (show_log logs options target depth s).events

  -- The events that entries add don't depend on the events before them.
  pub entries-shift : (depth : ℕ) (entries : List Entry) (x : List Event) (s : ViewState)
      → show_entries logs options (show_log logs options) depth entries (prepend_events x s)
      ≡ prepend_events x (show_entries logs options (show_log logs options) depth entries s)
  entries-shift depth entries x s = all-shift (show_log logs options) show_log-shift depth entries x s

  -- ---- events are only added

  -- After entries, the events begin with the events before them.
  pub events-grow : (depth : ℕ) (entries : List Entry) (s : ViewState)
      → (rest : List Event) × ((show_entries logs options (show_log logs options) depth entries s).events ≡ s.events ++ rest)
  events-grow depth entries s =
      let suffix : ViewState → ViewState = λ t. show_entries logs options (show_log logs options) depth entries t in (
        (suffix (without_events s)).events,
        ap (λ t. (suffix t).events) (after_own s)
            ∙ ap (λ (t : ViewState). t.events) (entries-shift depth entries s.events (without_events s)),
      )

  -- After a log, the events begin with the events before it.
  pub log_events-grow : (target : List ℕ) (depth : ℕ) (s : ViewState)
      → (rest : List Event) × ((show_log logs options target depth s).events ≡ s.events ++ rest)
  log_events-grow target depth s = (
    (show_log logs options target depth (without_events s)).events,
    ap (λ t. (show_log logs options target depth t).events) (after_own s)
        ∙ ap (λ (t : ViewState). t.events) (show_log-shift target depth s.events (without_events s)),
  )

  -- ---- two lists of entries

  pub entries-append : (inner : ShowLog) (depth : ℕ) (first others : List Entry) (s : ViewState)
      → show_entries logs options inner depth (first ++ others) s
      ≡ show_entries logs options inner depth others (show_entries logs options inner depth first s)
  entries-append inner depth [] others s = refl
  entries-append inner depth (entry ∷ first) others s =
      entries-append inner depth first others (show_entry logs options inner depth entry s)

-- ---- the effect of one entry

-- The state after a record, which counts as a mention or doesn't, without the log that it opens.
abbrev mid_if : Bool → Options → ℕ → ℕ → How → List ℕ → Opening → ViewState → ViewState
mid_if counts options depth pid how name opening s = record {
  named = if counts then insert_name name s.named else s.named;
  opened = s.opened;
  events = s.events ++ (if counts then mention_events options depth pid how name opening s.named else []);
}

module _ (logs : List Log) (options : Options) (inner : ShowLog) (depth : ℕ) where
  -- An entry that opens no log.
  pub entry-alone : (entry : Entry) (s : ViewState) → nested_log logs options s.opened entry ≡ None
      → show_entry logs options inner depth entry s ≡ mid logs options depth entry s
  entry-alone (Text line) s is = refl
  entry-alone (Mention pid how name) s is = by (is_mention options how) is
    where
      by : (counts : Bool) → (if counts then log_to_open (opening_after logs options name s.opened) else None) ≡ None
          → show_mention_if logs options counts inner depth pid how name s
          ≡ mid_if counts options depth pid how name (mention_opening logs options name s) s
      by true none =
          let mentioned = show_mention_line options depth pid how name (mention_opening logs options name s) s in
          ap (λ opening. show_log_if logs options opening inner name (depth + 1) mentioned)
          (none_opens (opening_after logs options name s.opened) none)
      by false none = λ i. record { named = s.named; opened = s.opened; events = sym (append-nil s.events) i }
  entry-alone (Done pid status name) s is = refl
  entry-alone (Closing pid status) s is = refl
  entry-alone (Note pid kind text) s is = refl

  -- The effect of an entry that opens the log with this number, and which target's log this is.
  abbrev pub OpensOne : ℕ → Entry → ViewState → Type 0
  OpensOne number entry s =
      (name : List ℕ) × (log_number name logs ≡ Some number) × (is_among name s.opened ≡ false) × (is_among name (targets_of logs) ≡ true)
      × (show_entry logs options inner depth entry s ≡ inner name (depth + 1) (mid logs options depth entry s))

  -- An entry with the number of a log opens that log.
  pub entry-should_open : (entry : Entry) (s : ViewState) (number : ℕ) → nested_log logs options s.opened entry ≡ Some number
      → OpensOne number entry s
  entry-should_open (Text line) s number is = absurd (none-some number is)
  entry-should_open (Mention pid how name) s number is = by (is_mention options how) is
    where
      by : (counts : Bool) → (if counts then log_to_open (opening_after logs options name s.opened) else None) ≡ Some number
          → (n : List ℕ) × (log_number n logs ≡ Some number) × (is_among n s.opened ≡ false) × (is_among n (targets_of logs) ≡ true)
          × (show_mention_if logs options counts inner depth pid how name s
          ≡ inner n (depth + 1) (mid_if counts options depth pid how name (mention_opening logs options name s) s))
      by true some =
          let mentioned = show_mention_line options depth pid how name (mention_opening logs options name s) s in
          let parts = some_opens options.recursive (is_among name s.opened) (log_number name logs) number some in
          let listed : is_among name (targets_of logs) ≡ true = sym (looked_up-listed name logs) ∙ ap is_some parts.0 in
          (name, parts.0, parts.1, listed, ap (λ opening. show_log_if logs options opening inner name (depth + 1) mentioned) parts.2)
      by false some = absurd (none-some number some)
  entry-should_open (Done pid status name) s number is = absurd (none-some number is)
  entry-should_open (Closing pid status) s number is = absurd (none-some number is)
  entry-should_open (Note pid kind text) s number is = absurd (none-some number is)

-- ---- the log of a target

module _ (target : List ℕ) where
  -- Whether the log at a position is the log of the target.
  abbrev IsAt : ℕ → List Log → List Entry → Type 0
  IsAt j logs entries = (slice_get (targets_of logs) j ≡ Some target) × ((k : ℕ) → entry_at j k logs ≡ slice_get entries k)
      × (j < length logs)

  -- Whether the target's log is found. `number` counts positions from `i`.
  abbrev FoundFrom : ℕ → ℕ → List Log → List Entry → Type 0
  FoundFrom i number logs entries = (j : ℕ) × (number ≡ i + j) × IsAt j logs entries

  -- It is the first log, or it is found after it.
  first_or : (log : Log) (logs : List Log) (i number : ℕ) (same : Bool) → pointwise nat_eq target log.target ≡ same
      → (position_from (pointwise nat_eq target) (i + 1) (targets_of logs) ≡ Some number
      → FoundFrom (i + 1) number logs (entries_of_target target logs))
      → cond same (Some i) (position_from (pointwise nat_eq target) (i + 1) (targets_of logs)) ≡ Some number
      → FoundFrom i number (log ∷ logs) (if same then log.entries else entries_of_target target logs)
  first_or log logs i number true same suffix is =
      let here = same_Some i number is in
      (0, omega (arith, here), (ap Some (sym (same_text target log.target (sym same))), (λ k. refl), omega arith))
  first_or log logs i number false same suffix is =
      let found = suffix is in (suc found.0, omega (arith, found.1), (found.2.0, found.2.1, omega (arith, found.2.2)))

  -- This holds for any list of logs.
  first_from : (logs : List Log) (i number : ℕ) → position_from (pointwise nat_eq target) i (targets_of logs) ≡ Some number
      → FoundFrom i number logs (entries_of_target target logs)
  first_from [] i number is = absurd (none-some number is)
  first_from (log ∷ logs) i number is =
      first_or log logs i number (pointwise nat_eq target log.target) refl (first_from logs (i + 1) number) is

  -- The log with this number is the target's log.
  pub first_log : (logs : List Log) (number : ℕ) → log_number target logs ≡ Some number
      → (slice_get (targets_of logs) number ≡ Some target)
      × ((k : ℕ) → entry_at number k logs ≡ slice_get (entries_of_target target logs) k) × (number < length logs)
  first_log logs number is =
      let found = first_from logs 0 number (sym (position_from-zero (pointwise nat_eq target) (targets_of logs)) ∙ is) in
      let there : found.0 ≡ number = omega (arith, found.1) in
      subst (λ j. IsAt j logs (entries_of_target target logs)) there found.2
