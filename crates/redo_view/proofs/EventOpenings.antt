-- The logs that events open are the opened logs, in order.
use Rattle.std.proofs.Common.{◌≡◌, ℕ, zero, suc, ◌+◌, ◌<◌, ◌≤◌, Bool, true, false, not, inr, List, [], ◌∷◌, ◌++◌, Option, None, Some, is_some, cond, refl, sym, ap, ◌∙◌, subst, arith}
use Rattle.std.specs.Prelude.{◌||◌, if◌then◌else◌}
use Rattle.std.specs.List.{flat_map, position_from}
use Rattle.std.proofs.lemmas.Bool.{not-false}
use Rattle.std.proofs.lemmas.Grind.{flat_map-append}
use Rattle.std.proofs.lemmas.Iterator.Adapters.{position_from-zero}
use Rattle.std.proofs.lemmas.List.{append_assoc, append-nil}
use Rattle.redo_line.specs.declared.entry.Entry.{Entry}
use Rattle.redo_line.specs.declared.entry.Entry.TheVariants.{Text, Mention, Done, Closing, Note}
use Rattle.redo_line.specs.declared.entry.How.{How}
use Rattle.redo_logs.specs.Logs.{Log, log_number, targets_of}
use Rattle.redo_options.specs.declared.options.Options.{Options}
use Rattle.redo_view.specs.declared.event.Opening.{Opening}
use Rattle.redo_view.specs.Event.{Event, opening_of, opens_here}
use Rattle.redo_view.specs.Event.Event.{Requested, Mentioned, EntryShown, LogEnds}
use Rattle.redo_view.specs.Expansion.{ShowLog, ViewState, append_event, begin_log, entries_of_target, is_among, is_mention, mention_events, mention_opening, request_event, show_entries, show_entry, show_log, show_mention_line, show_targets}
use Rattle.redo_view.specs.Laws.{AreOpenedByEvents, opened_name}
use Rattle.redo_view.specs.Private.Branches.{show_log_if, show_mention_if, show_target_unless}
use Rattle.redo_view.proofs.Equation.{Keeping, entry_keeps, left_after, log_keeps, should_open-left, show_log_equation}
use Rattle.redo_view.proofs.Growing.{left-le}
use Rattle.redo_view.proofs.NestingLemmas.{Settled, SettledBut, begin_settles, settled_but, settled_line, shows_line}
use Rattle.redo_view.proofs.Openings.{looked_up-listed, should_open}
use Rattle.redo_view.proofs.Unopened.{left}

abbrev names_in : List Event → List (List ℕ)
names_in events = flat_map opened_name events

module _ (logs : List Log) (options : Options) where
  -- ---- the shown events, and which logs they open. `pending` is the target of a log whose opening was shown before.
  record Opens (pending : List (List ℕ)) (before after : ViewState) : Type 0 where
    shown : List Event
    names : List (List ℕ)
    is : after.events ≡ before.events ++ shown
    opened : after.opened ≡ before.opened ++ names
    same : pending ++ names_in shown ≡ names
    settled : Settled logs options after

  opens-none : (state : ViewState) → Settled logs options state → Opens [] state state
  opens-none state settled = record {
    shown = [];
    names = [];
    is = sym (append-nil state.events);
    opened = sym (append-nil state.opened);
    same = refl;
    settled = settled;
  }

  opens-both : (pending : List (List ℕ)) (before middle after : ViewState) → Opens pending before middle → Opens [] middle after
      → Opens pending before after
  opens-both pending before middle after first second = record {
    shown = first.shown ++ second.shown;
    names = first.names ++ second.names;
    is = second.is ∙ ap (λ events. events ++ second.shown) first.is ∙ append_assoc before.events first.shown second.shown;
    opened = second.opened ∙ ap (λ names. names ++ second.names) first.opened ∙ append_assoc before.opened first.names second.names;
    same = ap (λ names. pending ++ names) (flat_map-append opened_name first.shown second.shown)
        ∙ sym (append_assoc pending (names_in first.shown) (names_in second.shown))
        ∙ ap (λ names. names ++ names_in second.shown) first.same ∙ ap (λ names. first.names ++ names) second.same;
    settled = second.settled;
  }

  opens-one : (event : Event) (state : ViewState) → opened_name event ≡ [] → Settled logs options state
      → Opens [] state (append_event event state)
  opens-one event state none settled = record {
    shown = event ∷ [];
    names = [];
    is = refl;
    opened = sym (append-nil state.opened);
    same = append-nil (opened_name event) ∙ none;
    settled = settled;
  }

  -- ---- a mention's line

  module _ (depth pid : ℕ) (how : How) (name : List ℕ) (state : ViewState) (settled : Settled logs options state) where
    abbrev opening : Opening
    opening = mention_opening logs options name state

    line_opens : opens_here opening ≡ true → names_in (mention_events options depth pid how name opening state.named) ≡ name ∷ []
    line_opens opens =
        ap (λ (b : Bool). names_in (if b then Mentioned depth pid how name opening ∷ [] else []))
        (shows_line logs options depth pid how name state settled opens)
        ∙ ap (λ (b : Bool). (if b then name ∷ [] else []) ++ []) opens

    line_stays : opens_here opening ≡ false → names_in (mention_events options depth pid how name opening state.named) ≡ []
    line_stays opens = by (options.debug_locks || not (is_among name state.named))
      where
        by : (shows : Bool) → names_in (if shows then Mentioned depth pid how name opening ∷ [] else []) ≡ []
        by true = ap (λ (b : Bool). (if b then name ∷ [] else []) ++ []) opens
        by false = refl

  -- ---- entries, whose logs are shown by `inner` if fewer than `bound` logs are left

  abbrev OpensBelow : ShowLog → ℕ → Type 0
  OpensBelow inner bound =
      (name : List ℕ) (depth : ℕ) (state : ViewState) → left_after logs options name state < bound
      → SettledBut logs options name state → Opens (name ∷ []) state (inner name depth state)

  module _ (inner : ShowLog) (keeps : Keeping inner) (bound : ℕ) (opens : OpensBelow inner bound) where
    mention_opens : (depth pid : ℕ) (how : How) (name : List ℕ) (state : ViewState) (settled : Settled logs options state)
        → left logs state.opened ≤ bound → (opens : Bool) → should_open logs options name state ≡ opens
        → Opens [] state (show_log_if logs options opens inner name (depth + 1)
        (show_mention_line options depth pid how name (mention_opening logs options name state) state))
    mention_opens depth pid how name state settled fits true is =
        let between = show_mention_line options depth pid how name (mention_opening logs options name state) state in
        let less = should_open-left logs options name state is in
        let events = mention_events options depth pid how name (mention_opening logs options name state) state.named in
        let log = opens name (depth + 1) between (omega (arith, less, fits))
        (settled_but logs options depth pid how name state settled) in record {
          shown = events ++ log.shown;
          names = log.names;
          is = log.is ∙ append_assoc state.events events log.shown;
          opened = log.opened;
          same = flat_map-append opened_name events log.shown
              ∙ ap (λ names. names ++ names_in log.shown) (line_opens depth pid how name state settled is) ∙ log.same;
          settled = log.settled;
        }
    mention_opens depth pid how name state settled fits false is = record {
      shown = mention_events options depth pid how name (mention_opening logs options name state) state.named;
      names = [];
      is = refl;
      opened = sym (append-nil state.opened);
      same = line_stays depth pid how name state settled is;
      settled = settled_line logs options depth pid how name state settled is;
    }

    entry_opens : (depth : ℕ) (entry : Entry) (state : ViewState) → Settled logs options state → left logs state.opened ≤ bound
        → Opens [] state (show_entry logs options inner depth entry state)
    entry_opens depth (Text line) state settled fits = opens-one (EntryShown depth (Text line)) state refl settled
    entry_opens depth (Mention pid how name) state settled fits = by (is_mention options how)
      where
        by : (counts : Bool) → Opens [] state (show_mention_if logs options counts inner depth pid how name state)
        by true = mention_opens depth pid how name state settled fits (should_open logs options name state) refl
        by false = opens-none state settled
    entry_opens depth (Done pid status name) state settled fits = opens-one (EntryShown depth (Done pid status name)) state refl settled
    entry_opens depth (Closing pid status) state settled fits = opens-one (EntryShown depth (Closing pid status)) state refl settled
    entry_opens depth (Note pid kind text) state settled fits = opens-one (EntryShown depth (Note pid kind text)) state refl settled

    entries_open : (depth : ℕ) (entries : List Entry) (state : ViewState) → Settled logs options state → left logs state.opened ≤ bound
        → Opens [] state (show_entries logs options inner depth entries state)
    entries_open depth [] state settled fits = opens-none state settled
    entries_open depth (entry ∷ entries) state settled fits =
        let after = show_entry logs options inner depth entry state in
        let first = entry_opens depth entry state settled fits in
        opens-both [] state after (show_entries logs options inner depth entries after) first
        (entries_open depth entries after first.settled
        (omega (arith, left-le logs state.opened after.opened (entry_keeps logs options inner keeps entry depth state), fits)))

  -- ---- a log

  log_opens_at : (bound : ℕ) → OpensBelow (show_log logs options) bound → OpensBelow (show_log logs options) (suc bound)
  log_opens_at bound opens name depth state fits settled =
      subst (λ (after : ViewState). Opens (name ∷ []) state after) (sym (show_log_equation logs options name depth state)) (record {
        shown = inside.shown ++ LogEnds depth ∷ [];
        names = name ∷ inside.names;
        is = ap (λ events. events ++ LogEnds depth ∷ []) inside.is ∙ append_assoc state.events inside.shown (LogEnds depth ∷ []);
        opened = inside.opened ∙ append_assoc state.opened (name ∷ []) inside.names;
        same = ap (λ names. name ∷ names)
            (flat_map-append opened_name inside.shown (LogEnds depth ∷ []) ∙ append-nil (names_in inside.shown) ∙ inside.same);
        settled = inside.settled;
      })
    where
      after : ViewState
      after = show_entries logs options (show_log logs options) depth (entries_of_target name logs) (begin_log name state)

      inside : Opens [] (begin_log name state) after
      inside =
          entries_open (show_log logs options) (log_keeps logs options) bound opens depth (entries_of_target name logs)
          (begin_log name state) (begin_settles logs options name state settled) (omega (arith, fits))

  log_opens_below : (bound : ℕ) → OpensBelow (show_log logs options) bound
  log_opens_below zero name depth state fits settled = absurd (omega (arith, fits))
  log_opens_below (suc bound) name depth state fits settled = log_opens_at bound (log_opens_below bound) name depth state fits settled

  log_opens : (name : List ℕ) (state : ViewState) → SettledBut logs options name state
      → Opens (name ∷ []) state (show_log logs options name 1 state)
  log_opens name state settled = log_opens_below (suc (left_after logs options name state)) name 1 state (omega arith) settled

  -- ---- requested targets

  request_opens : (name : List ℕ) → is_among name (targets_of logs) ≡ true → opened_name (request_event logs name) ≡ name ∷ []
  request_opens name listed = by (log_number name logs) (looked_up-listed name logs ∙ listed)
    where
      by : (found : Option ℕ) → is_some found ≡ true → opened_name (Requested name (opening_of true false found)) ≡ name ∷ []
      by None is = absurd (cc)
      by (Some number) is = refl

  target_opens : (known : Bool) (name : List ℕ) (state : ViewState) → is_among name (targets_of logs) ≡ true → Settled logs options state
      → Opens [] state (show_target_unless logs options known name state)
  target_opens true name state listed settled = opens-none state settled
  target_opens false name state listed settled =
      let requested = append_event (request_event logs name) state in
      let log = log_opens name requested (λ other. inr (settled other)) in record {
        shown = request_event logs name ∷ log.shown;
        names = log.names;
        is = log.is ∙ append_assoc state.events (request_event logs name ∷ []) log.shown;
        opened = log.opened;
        same = ap (λ names. names ++ names_in log.shown) (request_opens name listed) ∙ log.same;
        settled = log.settled;
      }

  targets_open : (requested : List (List ℕ)) (from : ℕ) (state : ViewState)
      → position_from (λ name. not (is_among name (targets_of logs))) from requested ≡ None → Settled logs options state
      → Opens [] state (show_targets logs options requested state)
  targets_open [] from state none settled = opens-none state settled
  targets_open (name ∷ requested) from state none settled =
      by (not (is_among name (targets_of logs))) refl none (λ next rest opens. targets_open requested (from + 1) next rest opens)
    where
      by : (b : Bool) → not (is_among name (targets_of logs)) ≡ b
          → cond b (Some from) (position_from (λ name. not (is_among name (targets_of logs))) (from + 1) requested) ≡ None
          → ((next : ViewState) → position_from (λ name. not (is_among name (targets_of logs))) (from + 1) requested ≡ None
          → Settled logs options next → Opens [] next (show_targets logs options requested next))
          → Opens [] state (show_targets logs options (name ∷ requested) state)
      by true is found others = absurd (cc)
      by false is rest others =
          let after = show_target_unless logs options (is_among name state.opened) name state in
          let first = target_opens (is_among name state.opened) name state (not-false (is_among name (targets_of logs)) is) settled in
          opens-both [] state after (show_targets logs options requested after) first (others after rest first.settled)

pub events_open : (logs : List Log) (options : Options) (requested : List (List ℕ)) → AreOpenedByEvents logs options requested
events_open logs options requested known =
    let all = targets_open logs options requested 0 (record { named = []; opened = []; events = [] })
    (sym (position_from-zero (λ name. not (is_among name (targets_of logs))) requested) ∙ known)
    (λ name recursive listed named. absurd (cc)) in
    ap names_in all.is ∙ all.same ∙ sym all.opened
