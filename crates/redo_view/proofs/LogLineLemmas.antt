-- Each log that is opened shows its text lines.
use Rattle.std.proofs.Common.{◌≡◌, ℕ, zero, suc, ◌+◌, ◌<◌, ◌≤◌, Bool, true, false, not, inr, List, [], ◌∷◌, ◌++◌, Option, None, Some, is_some, cond, refl, sym, ap, ◌∙◌, subst, arith}
use Rattle.std.specs.Prelude.{◌||◌, option_and_then, if◌then◌else◌, nat_eq}
use Rattle.std.specs.Cmp.Lexicographic.{pointwise}
use Rattle.std.specs.List.{position_from}
use Rattle.std.proofs.lemmas.Bool.{not-false}
use Rattle.std.proofs.lemmas.Cmp.{nat_list_eq_equiv}
use Rattle.std.proofs.lemmas.Iterator.Adapters.{position_from-zero}
use Rattle.std.proofs.lemmas.List.{append_assoc, append-nil}
use Rattle.std.proofs.lemmas.Option.{none-some, same_Some}
use Rattle.redo_line.specs.declared.entry.Entry.{Entry}
use Rattle.redo_line.specs.declared.entry.Entry.TheVariants.{Text, Mention, Done, Closing, Note}
use Rattle.redo_line.specs.declared.entry.How.{How}
use Rattle.redo_logs.specs.Logs.{Log, log_number, targets_of}
use Rattle.redo_options.specs.declared.options.Options.{Options}
use Rattle.redo_view.specs.declared.event.Opening.{Opening}
use Rattle.redo_view.specs.declared.event.Opening.TheVariants.{NotOpened, OpenedBefore, OpensHere}
use Rattle.redo_view.specs.Event.{Event, opening_of, opens_here}
use Rattle.redo_view.specs.Event.Event.{Requested, Mentioned, EntryShown, LogEnds}
use Rattle.redo_view.specs.Expansion.{ShowLog, ViewState, append_event, begin_log, end_log, entries_of_target, is_among, is_mention, mention_events, mention_opening, request_event, show_entries, show_entry, show_log, show_mention_line, show_targets}
use Rattle.redo_view.specs.LogLines.{LinesLeft, LogsShowTheirLines, after_opening, lines_left, lines_left_after, lines_of_log, text_lines}
use Rattle.redo_view.specs.Private.Branches.{show_log_if, show_mention_if, show_target_unless}
use Rattle.redo_view.proofs.Equation.{Keeping, entry_keeps, left_after, log_keeps, should_open-left, show_log_equation}
use Rattle.redo_view.proofs.Growing.{left-le}
use Rattle.redo_view.proofs.NestingLemmas.{Settled, SettledBut, begin_settles, settled_but, settled_line, shows_line}
use Rattle.redo_view.proofs.Openings.{looked_up-listed, should_open}
use Rattle.redo_view.proofs.Unopened.{left}

-- ---- the lines of a target

-- A position that is counted from a number on isn't below it.
later_found : {A : Type 0} (test : A → Bool) (start : ℕ) (xs : List A) (number : ℕ) → position_from test start xs ≡ Some number
    → number < start → ⊥
later_found test start [] number is below = none-some number is
later_found test start (x ∷ xs) number is below = by (test x) is (λ found. later_found test (start + 1) xs number found (omega arith))
  where
    by : (passes : Bool) → cond passes (Some start) (position_from test (start + 1) xs) ≡ Some number
        → (position_from test (start + 1) xs ≡ Some number → ⊥) → ⊥
    by true found later = let same : start ≡ number = same_Some start number found in omega arith
    by false found later = later found

numbered_from : (name : List ℕ) (logs : List Log) (start number : ℕ)
    → position_from (pointwise nat_eq name) start (targets_of logs) ≡ Some (start + number)
    → text_lines (entries_of_target name logs) ≡ lines_of_log number logs
numbered_from name [] start number is = absurd (none-some (start + number) is)
numbered_from name (log ∷ logs) start number is =
    by (pointwise nat_eq name log.target) number is
    (λ later found. numbered_from name logs (start + 1) later (found ∙ ap Some (omega arith)))
  where
    by : (same : Bool) (at : ℕ) → cond same (Some start) (position_from (pointwise nat_eq name) (start + 1) (targets_of logs))
        ≡ Some (start + at)
        → ((later : ℕ) → position_from (pointwise nat_eq name) (start + 1) (targets_of logs) ≡ Some (start + suc later)
        → text_lines (entries_of_target name logs) ≡ lines_of_log later logs)
        → text_lines (if same then log.entries else entries_of_target name logs) ≡ lines_of_log at (log ∷ logs)
    by true zero found others = refl
    by true (suc at) found others = let wrong : start ≡ start + suc at = same_Some start (start + suc at) found in absurd (omega arith)
    by false zero found others = absurd (later_found (pointwise nat_eq name) (start + 1) (targets_of logs) (start + 0) found (omega arith))
    by false (suc at) found others = others at found

pub numbered : (name : List ℕ) (logs : List Log) (number : ℕ) → log_number name logs ≡ Some number
    → text_lines (entries_of_target name logs) ≡ lines_of_log number logs
numbered name logs number is = numbered_from name logs 0 number
    (sym (position_from-zero (pointwise nat_eq name) (targets_of logs)) ∙ is ∙ ap Some (omega arith))

module _ (logs : List Log) (options : Options) where
  -- ---- the lines that are left

  left-append : (first others : List Event) (left : LinesLeft)
      → lines_left_after logs left (first ++ others)
      ≡ option_and_then (λ (next : LinesLeft). lines_left_after logs next others) (lines_left_after logs left first)
  left-append [] others left = refl
  left-append (event ∷ first) others left = by (λ next. left-append first others next) (lines_left logs left event)
    where
      by : ((next : LinesLeft) → lines_left_after logs next (first ++ others)
          ≡ option_and_then (λ (n : LinesLeft). lines_left_after logs n others) (lines_left_after logs next first))
          → (next : Option LinesLeft) → option_and_then (λ (n : LinesLeft). lines_left_after logs n (first ++ others)) next
          ≡ option_and_then (λ (n : LinesLeft). lines_left_after logs n others)
          (option_and_then (λ (n : LinesLeft). lines_left_after logs n first) next)
      by later None = refl
      by later (Some next) = later next

  abbrev lines_of : List ℕ → List (List ℕ)
  lines_of name = text_lines (entries_of_target name logs)

  -- ---- shown events, from some lines that are left to others

  record Shows (from to : LinesLeft) (before after : ViewState) : Type 0 where
    shown : List Event
    is : after.events ≡ before.events ++ shown
    leaves : lines_left_after logs from shown ≡ Some to
    settled : Settled logs options after

  shows-none : (left : LinesLeft) (state : ViewState) → Settled logs options state → Shows left left state state
  shows-none left state settled = record { shown = []; is = sym (append-nil state.events); leaves = refl; settled = settled }

  shows-both : (from between to : LinesLeft) (before middle after : ViewState) → Shows from between before middle
      → Shows between to middle after → Shows from to before after
  shows-both from between to before middle after first second = record {
    shown = first.shown ++ second.shown;
    is = second.is ∙ ap (λ events. events ++ second.shown) first.is ∙ append_assoc before.events first.shown second.shown;
    leaves = left-append first.shown second.shown from
        ∙ ap (option_and_then (λ (n : LinesLeft). lines_left_after logs n second.shown)) first.leaves ∙ second.leaves;
    settled = second.settled;
  }

  shows-one : (from to : LinesLeft) (event : Event) (state : ViewState) → lines_left logs from event ≡ Some to → Settled logs options state
      → Shows from to state (append_event event state)
  shows-one from to event state is settled =
      record {
        shown = event ∷ [];
        is = refl;
        leaves = ap (option_and_then (λ (n : LinesLeft). lines_left_after logs n [])) is;
        settled = settled;
      }

  -- ---- a mention's line

  after_none : (opening : Opening) (left : LinesLeft) → opens_here opening ≡ false → after_opening logs opening left ≡ left
  after_none NotOpened left none = refl
  after_none (OpenedBefore number) left none = refl
  after_none (OpensHere number) left none = absurd (cc)

  after_some : (may_open was_opened : Bool) (name : List ℕ) (left : LinesLeft) (found : Option ℕ) → log_number name logs ≡ found
      → opens_here (opening_of may_open was_opened found) ≡ true
      → after_opening logs (opening_of may_open was_opened found) left ≡ lines_of name ∷ left
  after_some may_open was_opened name left None is opens = absurd (cc)
  after_some may_open true name left (Some number) is opens = absurd (cc)
  after_some true false name left (Some number) is opens = ap (λ (lines : List (List ℕ)). lines ∷ left) (sym (numbered name logs number is))
  after_some false false name left (Some number) is opens = absurd (cc)

  module _ (depth pid : ℕ) (how : How) (name : List ℕ) (state : ViewState) (settled : Settled logs options state) where
    abbrev opening : Opening
    opening = mention_opening logs options name state

    line_opens : (left : LinesLeft) → opens_here opening ≡ true
        → lines_left_after logs left (mention_events options depth pid how name opening state.named) ≡ Some (lines_of name ∷ left)
    line_opens left opens =
        ap (λ (b : Bool). lines_left_after logs left (if b then Mentioned depth pid how name opening ∷ [] else []))
        (shows_line logs options depth pid how name state settled opens)
        ∙ ap Some (after_some options.recursive (is_among name state.opened) name left (log_number name logs) refl opens)

    line_stays : (left : LinesLeft) → opens_here opening ≡ false
        → lines_left_after logs left (mention_events options depth pid how name opening state.named) ≡ Some left
    line_stays left opens = by (options.debug_locks || not (is_among name state.named))
      where
        by : (shows : Bool) → lines_left_after logs left (if shows then Mentioned depth pid how name opening ∷ [] else []) ≡ Some left
        by true = ap Some (after_none opening left opens)
        by false = refl

  -- ---- entries, whose logs are shown by `inner` if fewer than `bound` logs are left

  abbrev ShowsBelow : ShowLog → ℕ → Type 0
  ShowsBelow inner bound =
      (name : List ℕ) (depth : ℕ) (outer : LinesLeft) (state : ViewState) → left_after logs options name state < bound
      → SettledBut logs options name state → Shows (lines_of name ∷ outer) outer state (inner name depth state)

  module _ (inner : ShowLog) (keeps : Keeping inner) (bound : ℕ) (shows : ShowsBelow inner bound) where
    mention_shows : (depth pid : ℕ) (how : How) (name : List ℕ) (outer : LinesLeft) (state : ViewState)
        (settled : Settled logs options state) → left logs state.opened ≤ bound → (opens : Bool)
        → should_open logs options name state ≡ opens
        → Shows outer outer state (show_log_if logs options opens inner name (depth + 1)
        (show_mention_line options depth pid how name (mention_opening logs options name state) state))
    mention_shows depth pid how name outer state settled fits true is =
        let between = show_mention_line options depth pid how name (mention_opening logs options name state) state in
        let less = should_open-left logs options name state is in
        let events = mention_events options depth pid how name (mention_opening logs options name state) state.named in
        let log = shows name (depth + 1) outer between (omega (arith, less, fits))
        (settled_but logs options depth pid how name state settled) in record {
          shown = events ++ log.shown;
          is = log.is ∙ append_assoc state.events events log.shown;
          leaves = left-append events log.shown outer
              ∙ ap (option_and_then (λ (n : LinesLeft). lines_left_after logs n log.shown))
              (line_opens depth pid how name state settled outer is) ∙ log.leaves;
          settled = log.settled;
        }
    mention_shows depth pid how name outer state settled fits false is = record {
      shown = mention_events options depth pid how name (mention_opening logs options name state) state.named;
      is = refl;
      leaves = line_stays depth pid how name state settled outer is;
      settled = settled_line logs options depth pid how name state settled is;
    }

    entry_shows : (depth : ℕ) (entry : Entry) (entries : List Entry) (outer : LinesLeft) (state : ViewState) → Settled logs options state
        → left logs state.opened ≤ bound
        → Shows (text_lines (entry ∷ entries) ∷ outer) (text_lines entries ∷ outer) state (show_entry logs options inner depth entry state)
    entry_shows depth (Text line) entries outer state settled fits =
        shows-one ((line ∷ text_lines entries) ∷ outer) (text_lines entries ∷ outer) (EntryShown depth (Text line)) state
        (ap (λ (b : Bool). if b then Some (text_lines entries ∷ outer) else None) (nat_list_eq_equiv.refl line)) settled
    entry_shows depth (Mention pid how name) entries outer state settled fits = by (is_mention options how)
      where
        by : (counts : Bool) → Shows (text_lines entries ∷ outer) (text_lines entries ∷ outer) state
            (show_mention_if logs options counts inner depth pid how name state)
        by true = mention_shows depth pid how name (text_lines entries ∷ outer) state settled fits
            (should_open logs options name state) refl
        by false = shows-none (text_lines entries ∷ outer) state settled
    entry_shows depth (Done pid status name) entries outer state settled fits =
        shows-one (text_lines entries ∷ outer) (text_lines entries ∷ outer) (EntryShown depth (Done pid status name)) state refl settled
    entry_shows depth (Closing pid status) entries outer state settled fits =
        shows-one (text_lines entries ∷ outer) (text_lines entries ∷ outer) (EntryShown depth (Closing pid status)) state refl settled
    entry_shows depth (Note pid kind text) entries outer state settled fits =
        shows-one (text_lines entries ∷ outer) (text_lines entries ∷ outer) (EntryShown depth (Note pid kind text)) state refl settled

    entries_show : (depth : ℕ) (entries : List Entry) (outer : LinesLeft) (state : ViewState) → Settled logs options state
        → left logs state.opened ≤ bound
        → Shows (text_lines entries ∷ outer) ([] ∷ outer) state (show_entries logs options inner depth entries state)
    entries_show depth [] outer state settled fits = shows-none ([] ∷ outer) state settled
    entries_show depth (entry ∷ entries) outer state settled fits =
        let after = show_entry logs options inner depth entry state in
        let first = entry_shows depth entry entries outer state settled fits in
        shows-both (text_lines (entry ∷ entries) ∷ outer) (text_lines entries ∷ outer) ([] ∷ outer) state after
        (show_entries logs options inner depth entries after) first
        (entries_show depth entries outer after first.settled
        (omega (arith, left-le logs state.opened after.opened (entry_keeps logs options inner keeps entry depth state), fits)))

  -- ---- a log

  log_shows_at : (bound : ℕ) → ShowsBelow (show_log logs options) bound → ShowsBelow (show_log logs options) (suc bound)
  log_shows_at bound shows name depth outer state fits settled =
      subst (λ (after : ViewState). Shows (lines_of name ∷ outer) outer state after) (sym (show_log_equation logs options name depth state))
      (shows-both (lines_of name ∷ outer) ([] ∷ outer) outer state after (end_log depth after)
      (record { shown = inside.shown; is = inside.is; leaves = inside.leaves; settled = inside.settled })
      (shows-one ([] ∷ outer) outer (LogEnds depth) after refl inside.settled))
    where
      after : ViewState
      after = show_entries logs options (show_log logs options) depth (entries_of_target name logs) (begin_log name state)

      inside : Shows (lines_of name ∷ outer) ([] ∷ outer) (begin_log name state) after
      inside =
          entries_show (show_log logs options) (log_keeps logs options) bound shows depth (entries_of_target name logs) outer
          (begin_log name state)
          (begin_settles logs options name state settled) (omega (arith, fits))

  log_shows_below : (bound : ℕ) → ShowsBelow (show_log logs options) bound
  log_shows_below zero name depth outer state fits settled = absurd (omega (arith, fits))
  log_shows_below (suc bound) name depth outer state fits settled =
      log_shows_at bound (log_shows_below bound) name depth outer state fits settled

  log_shows : (name : List ℕ) (state : ViewState) → SettledBut logs options name state
      → Shows (lines_of name ∷ []) [] state (show_log logs options name 1 state)
  log_shows name state settled = log_shows_below (suc (left_after logs options name state)) name 1 [] state (omega arith) settled

  -- ---- requested targets

  request_opens : (name : List ℕ) → is_among name (targets_of logs) ≡ true
      → lines_left logs [] (request_event logs name) ≡ Some (lines_of name ∷ [])
  request_opens name listed = by (log_number name logs) refl (looked_up-listed name logs ∙ listed)
    where
      by : (found : Option ℕ) → log_number name logs ≡ found → is_some found ≡ true
          → lines_left logs [] (Requested name (opening_of true false found)) ≡ Some (lines_of name ∷ [])
      by None found is = absurd (cc)
      by (Some number) found is = ap (λ (lines : List (List ℕ)). Some (lines ∷ [])) (sym (numbered name logs number found))

  target_shows : (known : Bool) (name : List ℕ) (state : ViewState) → is_among name (targets_of logs) ≡ true → Settled logs options state
      → Shows [] [] state (show_target_unless logs options known name state)
  target_shows true name state listed settled = shows-none [] state settled
  target_shows false name state listed settled =
      let requested = append_event (request_event logs name) state in
      shows-both [] (lines_of name ∷ []) [] state requested (show_log logs options name 1 requested)
      (shows-one [] (lines_of name ∷ []) (request_event logs name) state (request_opens name listed) settled)
      (log_shows name requested (λ other. inr (settled other)))

  targets_show : (requested : List (List ℕ)) (from : ℕ) (state : ViewState)
      → position_from (λ name. not (is_among name (targets_of logs))) from requested ≡ None → Settled logs options state
      → Shows [] [] state (show_targets logs options requested state)
  targets_show [] from state none settled = shows-none [] state settled
  targets_show (name ∷ requested) from state none settled =
      by (not (is_among name (targets_of logs))) refl none (λ next rest shows. targets_show requested (from + 1) next rest shows)
    where
      by : (b : Bool) → not (is_among name (targets_of logs)) ≡ b
          → cond b (Some from) (position_from (λ name. not (is_among name (targets_of logs))) (from + 1) requested) ≡ None
          → ((next : ViewState) → position_from (λ name. not (is_among name (targets_of logs))) (from + 1) requested ≡ None
          → Settled logs options next → Shows [] [] next (show_targets logs options requested next))
          → Shows [] [] state (show_targets logs options (name ∷ requested) state)
      by true is found others = absurd (cc)
      by false is rest others =
          let after = show_target_unless logs options (is_among name state.opened) name state in
          let first = target_shows (is_among name state.opened) name state (not-false (is_among name (targets_of logs)) is) settled in
          shows-both [] [] [] state after (show_targets logs options requested after) first (others after rest first.settled)

pub logs_show_lines : (logs : List Log) (options : Options) (requested : List (List ℕ)) → LogsShowTheirLines logs options requested
logs_show_lines logs options requested known =
    let all = targets_show logs options requested 0 (record { named = []; opened = []; events = [] })
    (sym (position_from-zero (λ name. not (is_among name (targets_of logs))) requested) ∙ known)
    (λ name recursive listed named. absurd (cc)) in
    ap (lines_left_after logs []) all.is ∙ all.leaves
