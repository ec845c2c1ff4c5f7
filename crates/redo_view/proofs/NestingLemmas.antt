-- The depth of each event is the number of open logs, and each log that is opened ends.
use Rattle.std.proofs.Common.{◌≡◌, ◌⊎◌, ℕ, zero, suc, ◌+◌, ◌<◌, ◌≤◌, Bool, true, false, not, inl, inr, List, [], ◌∷◌, ◌++◌, Option, None, Some, is_some, cond, refl, sym, ap, ◌∙◌, subst, arith}
use Rattle.std.specs.Prelude.{◌&&◌, ◌||◌, option_and_then, if◌then◌else◌, nat_eq}
use Rattle.std.specs.List.{position_from}
use Rattle.std.proofs.lemmas.Bool.{and_cases, and_from, both_ways, eq-eqb, not-false, not-true, or_right}
use Rattle.std.proofs.lemmas.Iterator.Adapters.{position_from-zero}
use Rattle.std.proofs.lemmas.List.{append_assoc, append-nil}
use Rattle.redo_line.specs.declared.entry.Entry.{Entry}
use Rattle.redo_line.specs.declared.entry.Entry.TheVariants.{Text, Mention, Done, Closing, Note}
use Rattle.redo_line.specs.declared.entry.How.{How}
use Rattle.redo_logs.specs.Logs.{Log, log_number, targets_of}
use Rattle.redo_options.specs.declared.options.Options.{Options}
use Rattle.redo_view.specs.declared.event.Opening.{Opening}
use Rattle.redo_view.specs.Event.{Event, opening_of, opens_here}
use Rattle.redo_view.specs.Event.Event.{Requested, Mentioned, EntryShown, LogEnds}
use Rattle.redo_view.specs.Expansion.{ShowLog, ViewState, append_event, begin_log, end_log, entries_of_target, insert_name, is_among, is_mention, mention_events, mention_opening, request_event, show_entries, show_entry, show_log, show_mention_line, show_targets}
use Rattle.redo_view.specs.Nesting.{AreNested, open_after, open_after_all, with_opening}
use Rattle.redo_view.specs.Private.Branches.{show_log_if, show_mention_if, show_target_unless}
use Rattle.redo_view.proofs.Equation.{Keeping, entry_keeps, left_after, log_keeps, should_open-left, show_log_equation}
use Rattle.redo_view.proofs.Growing.{left-le, more-has, more-keeps, more-only}
use Rattle.redo_view.proofs.Openings.{looked_up-listed, should_open, should_open-is, should_open-parts}
use Rattle.redo_view.proofs.Unopened.{left}

-- ---- the number of open logs

-- Two lists of events, one after the other.
open-append : (first others : List Event) (count : ℕ)
    → open_after_all count (first ++ others) ≡ option_and_then (λ (next : ℕ). open_after_all next others) (open_after_all count first)
open-append [] others count = refl
open-append (event ∷ first) others count = by (λ next. open-append first others next) (open_after count event)
  where
    by : ((next : ℕ) → open_after_all next (first ++ others)
        ≡ option_and_then (λ (n : ℕ). open_after_all n others) (open_after_all next first))
        → (next : Option ℕ) → option_and_then (λ (n : ℕ). open_after_all n (first ++ others)) next
        ≡ option_and_then (λ (n : ℕ). open_after_all n others) (option_and_then (λ (n : ℕ). open_after_all n first) next)
    by later None = refl
    by later (Some next) = later next

-- An event whose depth is the number of open logs.
at_depth : (count depth next : ℕ) → count ≡ depth → (if nat_eq count depth then Some next else None) ≡ Some next
at_depth count depth next same = ap (λ (b : Bool). if b then Some next else None) (eq-eqb count depth same)

opens_one : (opening : Opening) (count : ℕ) → opens_here opening ≡ true → with_opening opening count ≡ suc count
opens_one opening count opens = ap (λ (b : Bool). if b then suc count else count) opens

opens_none : (opening : Opening) (count : ℕ) → opens_here opening ≡ false → with_opening opening count ≡ count
opens_none opening count opens = ap (λ (b : Bool). if b then suc count else count) opens

one_event : (count next : ℕ) (event : Event) → open_after count event ≡ Some next → open_after_all count (event ∷ []) ≡ Some next
one_event count next event is = ap (option_and_then (λ (n : ℕ). open_after_all n [])) is

-- ---- named and opened

module _ (logs : List Log) (options : Options) where
  -- Whether a target is opened if it is named, has a log, and logs are opened recursively.
  abbrev pub IsSettled : ViewState → List ℕ → Type 0
  IsSettled state name = options.recursive ≡ true → is_among name (targets_of logs) ≡ true → is_among name state.named ≡ true
      → is_among name state.opened ≡ true

  -- Whether this holds for all targets.
  abbrev pub Settled : ViewState → Type 0
  Settled state = (name : List ℕ) → IsSettled state name

  -- Whether this holds for all targets but one.
  abbrev pub SettledBut : List ℕ → ViewState → Type 0
  SettledBut target state = (name : List ℕ) → (name ≡ target) ⊎ IsSettled state name

  inserted : (name target : List ℕ) (names : List (List ℕ)) → is_among name (insert_name target names) ≡ true
      → (is_among name names ≡ true) ⊎ (name ≡ target)
  inserted name target names = by (is_among target names)
    where
      by : (there : Bool) → is_among name (if there then names else names ++ target ∷ []) ≡ true
          → (is_among name names ≡ true) ⊎ (name ≡ target)
      by true is = inl is
      by false is = more-only name target names is

  -- A log that is begun is opened.
  pub begin_settles : (target : List ℕ) (state : ViewState) → SettledBut target state → Settled (begin_log target state)
  begin_settles target state settled name recursive listed named = by (settled name)
    where
      itself : name ≡ target → is_among name (state.opened ++ target ∷ []) ≡ true
      itself same = ap (λ n. is_among n (state.opened ++ target ∷ [])) same ∙ more-has target state.opened

      by : (name ≡ target) ⊎ IsSettled state name → is_among name (state.opened ++ target ∷ []) ≡ true
      by (inl same) = itself same
      by (inr settled) = elim (inserted name target state.named named) [
        | inl old ↦ more-keeps target state.opened name (settled recursive listed old)
        | inr same ↦ itself same
      ]

  -- ---- shown events, from one number of open logs to another

  record Nests (from to : ℕ) (before after : ViewState) : Type 0 where
    shown : List Event
    is : after.events ≡ before.events ++ shown
    nested : open_after_all from shown ≡ Some to
    settled : Settled after

  nests-none : (count : ℕ) (state : ViewState) → Settled state → Nests count count state state
  nests-none count state settled = record { shown = []; is = sym (append-nil state.events); nested = refl; settled = settled }

  nests-both : (from between to : ℕ) (before middle after : ViewState) → Nests from between before middle → Nests between to middle after
      → Nests from to before after
  nests-both from between to before middle after first second = record {
    shown = first.shown ++ second.shown;
    is = second.is ∙ ap (λ events. events ++ second.shown) first.is ∙ append_assoc before.events first.shown second.shown;
    nested = open-append first.shown second.shown from ∙ ap (option_and_then (λ (n : ℕ). open_after_all n second.shown)) first.nested
        ∙ second.nested;
    settled = second.settled;
  }

  nests-one : (from to : ℕ) (event : Event) (state : ViewState) → open_after from event ≡ Some to → Settled state
      → Nests from to state (append_event event state)
  nests-one from to event state is settled =
      record { shown = event ∷ []; is = refl; nested = one_event from to event is; settled = settled }

  -- ---- a mention's line

  module _ (depth pid : ℕ) (how : How) (name : List ℕ) (state : ViewState) (settled : Settled state) where
    abbrev opening : Opening
    opening = mention_opening logs options name state

    abbrev mentioned : ViewState
    mentioned = show_mention_line options depth pid how name opening state

    abbrev line : Event
    line = Mentioned depth pid how name opening

    -- If the mention opens the log, its target isn't named yet, so there is a line.
    pub shows_line : opens_here opening ≡ true → (options.debug_locks || not (is_among name state.named)) ≡ true
    shows_line opens = or_right options.debug_locks (not (is_among name state.named)) (by (is_among name state.named) refl)
      where
        by : (named : Bool) → is_among name state.named ≡ named → not named ≡ true
        by false named = refl
        by true named =
            let parts = should_open-parts logs options name state opens in
            absurd (both_ways (is_among name state.opened) (not-true (is_among name state.opened) parts.2)
            (settled name parts.0 parts.1 named))

    line_opens : opens_here opening ≡ true
        → open_after_all depth (mention_events options depth pid how name opening state.named) ≡ Some (suc depth)
    line_opens opens =
        ap (λ (b : Bool). open_after_all depth (if b then line ∷ [] else [])) (shows_line opens)
        ∙ one_event depth (suc depth) line
        (at_depth depth depth (with_opening opening depth) refl ∙ ap Some (opens_one opening depth opens))

    line_stays : opens_here opening ≡ false
        → open_after_all depth (mention_events options depth pid how name opening state.named) ≡ Some depth
    line_stays opens = by (options.debug_locks || not (is_among name state.named))
      where
        by : (shows : Bool) → open_after_all depth (if shows then line ∷ [] else []) ≡ Some depth
        by true = one_event depth depth line
            (at_depth depth depth (with_opening opening depth) refl ∙ ap Some (opens_none opening depth opens))
        by false = refl

    -- Only the mentioned target may not be opened yet.
    pub settled_but : SettledBut name mentioned
    settled_but other = by (is_among other (insert_name name state.named)) refl
      where
        by : (named : Bool) → is_among other (insert_name name state.named) ≡ named → (other ≡ name) ⊎ IsSettled mentioned other
        by false unnamed = inr (λ recursive listed named. absurd (both_ways (is_among other (insert_name name state.named)) unnamed named))
        by true named = elim (inserted other name state.named named) [
          | inl old ↦ inr (λ recursive listed same. settled other recursive listed old)
          | inr same ↦ inl same
        ]

    -- If the mention doesn't open its log, there is none, or it is opened.
    pub settled_line : opens_here opening ≡ false → Settled mentioned
    settled_line opens other recursive listed named = elim (inserted other name state.named named) [
      | inl old ↦ settled other recursive listed old
      | inr same ↦ ap (λ n. is_among n state.opened) same ∙ itself (ap (λ n. is_among n (targets_of logs)) (sym same) ∙ listed)
    ]
      where
        itself : is_among name (targets_of logs) ≡ true → is_among name state.opened ≡ true
        itself there =
            let both = options.recursive && is_among name (targets_of logs) in
            elim (and_cases both (not (is_among name state.opened)) (sym (should_open-is logs options name state) ∙ opens)) [
              | inl neither ↦ absurd (both_ways both neither (and_from options.recursive (is_among name (targets_of logs)) recursive there))
              | inr known ↦ not-false (is_among name state.opened) known
            ]

  -- ---- entries, whose logs are shown by `inner` if fewer than `bound` logs are left

  abbrev NestsBelow : ShowLog → ℕ → Type 0
  NestsBelow inner bound =
      (name : List ℕ) (depth outer : ℕ) (state : ViewState) → depth ≡ suc outer → left_after logs options name state < bound
      → SettledBut name state → Nests depth outer state (inner name depth state)

  module _ (inner : ShowLog) (keeps : Keeping inner) (bound : ℕ) (nests : NestsBelow inner bound) where
    mention_nests : (depth pid : ℕ) (how : How) (name : List ℕ) (state : ViewState) (settled : Settled state)
        → left logs state.opened ≤ bound → (opens : Bool) → should_open logs options name state ≡ opens
        → Nests depth depth state (show_log_if logs options opens inner name (depth + 1)
        (show_mention_line options depth pid how name (mention_opening logs options name state) state))
    mention_nests depth pid how name state settled fits true is =
        let between = show_mention_line options depth pid how name (mention_opening logs options name state) state in
        let less = should_open-left logs options name state is in
        let log = nests name (depth + 1) depth between (omega arith) (omega (arith, less, fits))
        (settled_but depth pid how name state settled) in record {
          shown = mention_events options depth pid how name (mention_opening logs options name state) state.named ++ log.shown;
          is = log.is ∙ append_assoc state.events
              (mention_events options depth pid how name (mention_opening logs options name state) state.named) log.shown;
          nested =
              open-append (mention_events options depth pid how name (mention_opening logs options name state) state.named) log.shown depth
              ∙ ap (option_and_then (λ (n : ℕ). open_after_all n log.shown)) (line_opens depth pid how name state settled is)
              ∙ ap (λ (n : ℕ). open_after_all n log.shown) (omega arith) ∙ log.nested;
          settled = log.settled;
        }
    mention_nests depth pid how name state settled fits false is = record {
      shown = mention_events options depth pid how name (mention_opening logs options name state) state.named;
      is = refl;
      nested = line_stays depth pid how name state settled is;
      settled = settled_line depth pid how name state settled is;
    }

    entry_nests : (depth : ℕ) (entry : Entry) (state : ViewState) → Settled state → left logs state.opened ≤ bound
        → Nests depth depth state (show_entry logs options inner depth entry state)
    entry_nests depth (Text line) state settled fits =
        nests-one depth depth (EntryShown depth (Text line)) state (at_depth depth depth depth refl) settled
    entry_nests depth (Mention pid how name) state settled fits = by (is_mention options how)
      where
        by : (counts : Bool) → Nests depth depth state (show_mention_if logs options counts inner depth pid how name state)
        by true = mention_nests depth pid how name state settled fits (should_open logs options name state) refl
        by false = nests-none depth state settled
    entry_nests depth (Done pid status name) state settled fits =
        nests-one depth depth (EntryShown depth (Done pid status name)) state (at_depth depth depth depth refl) settled
    entry_nests depth (Closing pid status) state settled fits =
        nests-one depth depth (EntryShown depth (Closing pid status)) state (at_depth depth depth depth refl) settled
    entry_nests depth (Note pid kind text) state settled fits =
        nests-one depth depth (EntryShown depth (Note pid kind text)) state (at_depth depth depth depth refl) settled

    entries_nest : (depth : ℕ) (entries : List Entry) (state : ViewState) → Settled state → left logs state.opened ≤ bound
        → Nests depth depth state (show_entries logs options inner depth entries state)
    entries_nest depth [] state settled fits = nests-none depth state settled
    entries_nest depth (entry ∷ entries) state settled fits =
        let after = show_entry logs options inner depth entry state in
        let first = entry_nests depth entry state settled fits in
        nests-both depth depth depth state after (show_entries logs options inner depth entries after) first
        (entries_nest depth entries after first.settled
        (omega (arith, left-le logs state.opened after.opened (entry_keeps logs options inner keeps entry depth state), fits)))

  -- ---- a log

  ends_one : (depth outer : ℕ) → depth ≡ suc outer → open_after depth (LogEnds depth) ≡ Some outer
  ends_one depth outer same = ap (λ (n : ℕ). open_after n (LogEnds depth)) same ∙ at_depth (suc outer) depth outer (sym same)

  log_nests_at : (bound : ℕ) → NestsBelow (show_log logs options) bound → NestsBelow (show_log logs options) (suc bound)
  log_nests_at bound nests name depth outer state same fits settled =
      subst (λ (after : ViewState). Nests depth outer state after) (sym (show_log_equation logs options name depth state))
      (nests-both depth depth outer state after (end_log depth after)
      (record { shown = inside.shown; is = inside.is; nested = inside.nested; settled = inside.settled })
      (nests-one depth outer (LogEnds depth) after (ends_one depth outer same) inside.settled))
    where
      after : ViewState
      after = show_entries logs options (show_log logs options) depth (entries_of_target name logs) (begin_log name state)

      inside : Nests depth depth (begin_log name state) after
      inside =
          entries_nest (show_log logs options) (log_keeps logs options) bound nests depth (entries_of_target name logs)
          (begin_log name state)
          (begin_settles name state settled) (omega (arith, fits))

  log_nests_below : (bound : ℕ) → NestsBelow (show_log logs options) bound
  log_nests_below zero name depth outer state same fits settled = absurd (omega (arith, fits))
  log_nests_below (suc bound) name depth outer state same fits settled =
      log_nests_at bound (log_nests_below bound) name depth outer state same fits settled

  log_nests : (name : List ℕ) (state : ViewState) → SettledBut name state → Nests 1 0 state (show_log logs options name 1 state)
  log_nests name state settled = log_nests_below (suc (left_after logs options name state)) name 1 0 state refl (omega arith) settled

  -- ---- requested targets

  request_opens : (name : List ℕ) → is_among name (targets_of logs) ≡ true → open_after 0 (request_event logs name) ≡ Some 1
  request_opens name listed = by (log_number name logs) (looked_up-listed name logs ∙ listed)
    where
      by : (found : Option ℕ) → is_some found ≡ true → open_after 0 (Requested name (opening_of true false found)) ≡ Some 1
      by None is = absurd (cc)
      by (Some number) is = refl

  target_nests : (known : Bool) (name : List ℕ) (state : ViewState) → is_among name (targets_of logs) ≡ true → Settled state
      → Nests 0 0 state (show_target_unless logs options known name state)
  target_nests true name state listed settled = nests-none 0 state settled
  target_nests false name state listed settled =
      let requested = append_event (request_event logs name) state in
      nests-both 0 1 0 state requested (show_log logs options name 1 requested)
      (nests-one 0 1 (request_event logs name) state (request_opens name listed) settled)
      (log_nests name requested (λ other. inr (settled other)))

  targets_nest : (requested : List (List ℕ)) (from : ℕ) (state : ViewState)
      → position_from (λ name. not (is_among name (targets_of logs))) from requested ≡ None → Settled state
      → Nests 0 0 state (show_targets logs options requested state)
  targets_nest [] from state none settled = nests-none 0 state settled
  targets_nest (name ∷ requested) from state none settled =
      by (not (is_among name (targets_of logs))) refl none (λ next rest nested. targets_nest requested (from + 1) next rest nested)
    where
      by : (b : Bool) → not (is_among name (targets_of logs)) ≡ b
          → cond b (Some from) (position_from (λ name. not (is_among name (targets_of logs))) (from + 1) requested) ≡ None
          → ((next : ViewState) → position_from (λ name. not (is_among name (targets_of logs))) (from + 1) requested ≡ None → Settled next
          → Nests 0 0 next (show_targets logs options requested next))
          → Nests 0 0 state (show_targets logs options (name ∷ requested) state)
      by true is found others = absurd (cc)
      by false is rest others =
          let after = show_target_unless logs options (is_among name state.opened) name state in
          let first = target_nests (is_among name state.opened) name state (not-false (is_among name (targets_of logs)) is) settled in
          nests-both 0 0 0 state after (show_targets logs options requested after) first (others after rest first.settled)

pub are_nested : (logs : List Log) (options : Options) (requested : List (List ℕ)) → AreNested logs options requested
are_nested logs options requested known =
    let all = targets_nest logs options requested 0 (record { named = []; opened = []; events = [] })
    (sym (position_from-zero (λ name. not (is_among name (targets_of logs))) requested) ∙ known)
    (λ name recursive listed named. absurd (cc)) in
    ap (open_after_all 0) all.is ∙ all.nested
