-- The statements of the laws about the expansion.
use Rattle.std.specs.Prelude.{◌≡◌, ◌↔◌, ℕ, ◌+◌, true, false, ◌⊎◌, nat_eq, List, [], ◌∷◌, ◌++◌, None, Some, slice_get, if◌then◌else◌}
use Rattle.std.specs.List.{IsDistinct, flat_map}
use Rattle.std.specs.Cmp.Lexicographic.{pointwise}
use Rattle.redo_line.specs.declared.entry.Entry.{Entry}
use Rattle.redo_line.specs.declared.entry.Entry.TheVariants.{Mention}
use Rattle.redo_line.specs.declared.entry.How.{How}
use Rattle.redo_logs.specs.Logs.{Log, targets_of}
use Rattle.redo_options.specs.declared.options.Options.{Options}
use Rattle.redo_view.specs.declared.event.Opening.{Opening}
use Rattle.redo_view.specs.Event.{Event, opens_here}
use Rattle.redo_view.specs.Event.Event.{Requested, Mentioned}
use Rattle.redo_view.specs.Expansion.{ShowLog, ViewState, is_among, append_event, entries_of_target, is_mention, show_mention_line, begin_log, end_log}
use Rattle.redo_view.specs.Expansion.{mention_opening, request_event, show_entry, show_entries, show_log, expand, shown_events}
use Rattle.redo_view.specs.View.{find_unknown}
use Rattle.redo_view.specs.Reachable.{mentioned_in, IsReachable}
use Rattle.redo_view.specs.Text.{event_text, redo_line}

-- The state with the events `before` shown before all others.
abbrev pub prepend_events : List Event → ViewState → ViewState
prepend_events before state = record { named = state.named; opened = state.opened; events = before ++ state.events }

-- The target of the log that an event opens.
abbrev pub opened_name : Event → List (List ℕ)
opened_name (Requested name opening) = if opens_here opening then name ∷ [] else []
opened_name (Mentioned depth pid how name opening) = if opens_here opening then name ∷ [] else []
opened_name event = []

-- Whether the entries of each log's target are the entries of this log.
abbrev pub HaveTheirEntries : List Log → Type 0
HaveTheirEntries logs = (number : ℕ) (log : Log) → slice_get logs number ≡ Some log → entries_of_target log.target logs ≡ log.entries

module _ (logs : List Log) (options : Options) where
  -- Whether opening a log begins it, shows its entries and ends it, and opens the logs that they mention in the same way.
  abbrev pub SatisfiesEquation : ShowLog → Type 0
  SatisfiesEquation show =
      (target : List ℕ) (depth : ℕ) (state : ViewState)
      → show target depth state ≡ end_log depth (show_entries logs options show depth (entries_of_target target logs) (begin_log target state))

  -- Whether every other opening that does so shows the same as this one.
  abbrev pub IsUniqueSolution : ShowLog → Type 0
  IsUniqueSolution show =
      (other : ShowLog) → SatisfiesEquation other
      → (target : List ℕ) (depth : ℕ) (state : ViewState) → other target depth state ≡ show target depth state

  -- The last entry is shown after all others, once.
  abbrev pub LastEntryIsShownLast : ShowLog → Type 0
  LastEntryIsShownLast show =
      (depth : ℕ) (others : List Entry) (entry : Entry) (state : ViewState)
      → show_entries logs options show depth (others ++ entry ∷ []) state
      ≡ show_entry logs options show depth entry (show_entries logs options show depth others state)

  -- Showing two lists of entries in a row is the same as showing the first list and then the second.
  abbrev pub PartsAreShownInOrder : ShowLog → Type 0
  PartsAreShownInOrder show =
      (depth : ℕ) (first others : List Entry) (state : ViewState)
      → show_entries logs options show depth (first ++ others) state
      ≡ show_entries logs options show depth others (show_entries logs options show depth first state)

  -- Events before everything that was shown stay there, and nothing else depends on them.
  abbrev pub IsAppendOnly : ShowLog → Type 0
  IsAppendOnly show =
      (target : List ℕ) (depth : ℕ) (before : List Event) (state : ViewState)
      → show target depth (prepend_events before state) ≡ prepend_events before (show target depth state)

  -- The text of events before all others stays there, too.
  abbrev pub TextIsAppendOnly : ShowLog → Type 0
  TextIsAppendOnly show =
      (target : List ℕ) (depth : ℕ) (before : List Event) (state : ViewState)
      → flat_map (event_text options) (show target depth (prepend_events before state)).events
      ≡ flat_map (event_text options) before ++ flat_map (event_text options) (show target depth state).events

  -- The targets whose logs are opened for the requested targets, in the order in which they are opened.
  abbrev pub opened_for : List (List ℕ) → List (List ℕ)
  opened_for requested = (expand logs options requested).opened

  -- The events open these logs, in this order, if each requested target has a log.
  abbrev pub AreOpenedByEvents : List (List ℕ) → Type 0
  AreOpenedByEvents requested = find_unknown logs requested ≡ None → flat_map opened_name (shown_events logs options requested) ≡ opened_for requested

  -- No log is opened twice.
  abbrev pub HasNoDuplicates : List (List ℕ) → Type 0
  HasNoDuplicates requested = IsDistinct (pointwise nat_eq) (opened_for requested)

  -- Only targets that are reached from the requested targets are opened.
  abbrev pub OnlyReachable : List (List ℕ) → Type 0
  OnlyReachable requested = (target : List ℕ) → is_among target (opened_for requested) ≡ true → IsReachable logs options requested target

  -- All targets that are reached are opened.
  abbrev pub AllReachable : List (List ℕ) → Type 0
  AllReachable requested = (target : List ℕ) → IsReachable logs options requested target → is_among target (opened_for requested) ≡ true

  -- With `recursive`, a mention opens its target's log right after the mention's line, one level deeper, if there is such a
  -- log and it wasn't opened before.
  abbrev pub MentionedFirst : How → List ℕ → Type 0
  MentionedFirst how name =
      (depth pid : ℕ) (state : ViewState) → is_mention options how ≡ true → options.recursive ≡ true
      → is_among name (targets_of logs) ≡ true → is_among name state.opened ≡ false
      → show_entry logs options (show_log logs options) depth (Mention pid how name) state
      ≡ show_log logs options name (depth + 1) (show_mention_line options depth pid how name (mention_opening logs options name state) state)

  -- If the target's log was opened before, only the mention's line is shown.
  abbrev pub MentionedAgain : How → List ℕ → Type 0
  MentionedAgain how name =
      (depth pid : ℕ) (state : ViewState) → is_mention options how ≡ true → is_among name state.opened ≡ true
      → show_entry logs options (show_log logs options) depth (Mention pid how name) state ≡ show_mention_line options depth pid how name (mention_opening logs options name state) state

  -- Without `recursive`, or if the target has no log, only the mention's line is shown.
  abbrev pub MentionedUnopened : How → List ℕ → Type 0
  MentionedUnopened how name =
      (depth pid : ℕ) (state : ViewState) → is_mention options how ≡ true → (options.recursive ≡ false) ⊎ (is_among name (targets_of logs) ≡ false)
      → show_entry logs options (show_log logs options) depth (Mention pid how name) state ≡ show_mention_line options depth pid how name (mention_opening logs options name state) state

  -- One more requested target shows its line and its log after the others, if its log wasn't opened before.
  abbrev pub RequestedFirst : List (List ℕ) → Type 0
  RequestedFirst requested =
      (target : List ℕ) → is_among target (opened_for requested) ≡ false
      → expand logs options (requested ++ target ∷ [])
      ≡ show_log logs options target 1 (append_event (request_event logs target) (expand logs options requested))

  -- It shows nothing if its log was opened before.
  abbrev pub RequestedAgain : List (List ℕ) → Type 0
  RequestedAgain requested =
      (target : List ℕ) → is_among target (opened_for requested) ≡ true
      → expand logs options (requested ++ target ∷ []) ≡ expand logs options requested

-- ---- which targets are named

module _ (options : Options) where
  -- Without `debug_locks`, a mention of a target that isn't named shows its line, which is the target's, and names the target.
  abbrev pub NamedFirst : How → List ℕ → Type 0
  NamedFirst how name =
      (depth pid : ℕ) (opening : Opening) (state : ViewState) → options.debug_locks ≡ false → is_among name state.named ≡ false
      → (show_mention_line options depth pid how name opening state
      ≡ record { named = state.named ++ name ∷ []; opened = state.opened; events = state.events ++ Mentioned depth pid how name opening ∷ [] })
      × (event_text options (Mentioned depth pid how name opening) ≡ redo_line options depth (Some pid) name)

  -- Without `debug_locks`, a mention of a target that is named changes nothing.
  abbrev pub NamedAgain : How → List ℕ → Type 0
  NamedAgain how name =
      (depth pid : ℕ) (opening : Opening) (state : ViewState) → options.debug_locks ≡ false → is_among name state.named ≡ true
      → show_mention_line options depth pid how name opening state ≡ state

module _ (logs : List Log) (options : Options) where
  -- Whether the log of `target` names `name`: a log names its target and the targets that its entries mention.
  abbrev pub IsNamedIn : List ℕ → List ℕ → Type 0
  IsNamedIn target name = (name ≡ target) ⊎ (mentioned_in options name (entries_of_target target logs) ≡ true)

  -- Whether `name` is named by a log that was opened in between.
  abbrev pub IsNamedBetween : ViewState → ViewState → List ℕ → Type 0
  IsNamedBetween before after name =
      (target : List ℕ) × (is_among target before.opened ≡ false) × (is_among target after.opened ≡ true) × IsNamedIn target name

  -- Whether exactly these targets are named: the targets named before, `these`, and the targets named by a log that was
  -- opened in between.
  abbrev pub AreNamed : (List ℕ → Type 0) → ViewState → ViewState → Type 0
  AreNamed these before after =
      (name : List ℕ) → (is_among name after.named ≡ true) ↔ ((is_among name before.named ≡ true) ⊎ (these name ⊎ IsNamedBetween before after name))

  -- After entries: `these` are the targets that they mention.
  abbrev pub NamedByEntries : List Entry → Type 0
  NamedByEntries entries =
      (depth : ℕ) (state : ViewState)
      → AreNamed (λ name. mentioned_in options name entries ≡ true) state (show_entries logs options (show_log logs options) depth entries state)

  -- After a log: `these` are the targets that it names.
  abbrev pub NamedByLog : List ℕ → Type 0
  NamedByLog target = (depth : ℕ) (state : ViewState) → AreNamed (IsNamedIn target) state (show_log logs options target depth state)

  -- In the end, exactly the targets that the opened logs name are named.
  abbrev pub NamedFinally : List (List ℕ) → Type 0
  NamedFinally requested =
      (name : List ℕ)
      → (is_among name (expand logs options requested).named ≡ true) ↔ ((target : List ℕ) × (is_among target (opened_for logs options requested) ≡ true) × IsNamedIn target name)
