-- The expansion opens each log in a log that mentions its target. No log that ended before mentions it.
use Rattle.std.proofs.Common.{◌≡◌, ◌⊎◌, ℕ, zero, suc, ◌+◌, ◌<◌, ◌≤◌, Bool, true, false, not, inl, inr, List, [], ◌∷◌, ◌++◌, Option, None, Some, is_some, refl, sym, ap, ◌∙◌, subst, arith, append_assoc, append-nil}
use Rattle.std.specs.Prelude.{◌||◌, nat_eq, if◌then◌else◌}
use Rattle.std.specs.Cmp.Lexicographic.{pointwise, same_text}
use Rattle.std.proofs.lemmas.Bool.{and_from, both_ways, or_cases, or_left, or_right}
use Rattle.std.proofs.lemmas.Cmp.{nat_list_eq_equiv}
use Rattle.redo_line.proofs.PlaceLemmas.{some_place}
use Rattle.redo_line.specs.declared.entry.Entry.{Entry}
use Rattle.redo_line.specs.declared.entry.Entry.TheVariants.{Text, Mention, Done, Closing, Note}
use Rattle.redo_line.specs.declared.entry.How.{How}
use Rattle.redo_logs.specs.Logs.{Log, log_number, targets_of}
use Rattle.redo_options.specs.declared.options.Options.{Options}
use Rattle.redo_view.specs.declared.event.Opening.{Opening}
use Rattle.redo_view.specs.declared.event.Opening.TheVariants.{NotOpened, OpenedBefore, OpensHere}
use Rattle.redo_view.specs.Event.{Event, opening_of, opens_here}
use Rattle.redo_view.specs.Event.Event.{Requested, Mentioned, EntryShown, LogEnds}
use Rattle.redo_view.specs.Expansion.{ViewState, append_event, begin_log, end_log, entries_of_target, insert_name, is_among, is_mention, mention_events, request_event, show_entries, show_entry, show_log, show_mention, show_mention_line, show_target, show_targets, shown_events}
use Rattle.redo_view.specs.Laws.{NamedByEntries, SatisfiesEquation}
use Rattle.redo_view.specs.Reachable.{mentioned_in, mentions_target}
use Rattle.redo_outline.specs.Contents.{contents_of, number_of_opening}
use Rattle.redo_outline.specs.Facts.{target_at}
use Rattle.redo_json.specs.Build.{Request, options_of}
use Rattle.redo_json.specs.Laws.{log_mentions}
use Rattle.redo_json.proofs.LeftLemmas.{Keeps, front-has, front-keeps, insert-keeps, insert-only, left, left-le, left-lt, more-has, more-keeps}
use Rattle.redo_json.proofs.OpeningLemmas.{target_named}
use Rattle.redo_json.proofs.ParentTreeLemmas.{AreRight, Fits, HasReason, NextFits, Opens, Parent, contents_right}

-- No log is open.
abbrev whole : List Parent
whole = None ∷ []

module _ (request : Request) (logs : List Log) (requested : List (List ℕ)) where
  abbrev options : Options
  options = options_of request

  abbrev FitsHere : List Event → List Parent → List (List ℕ) → Type 0
  FitsHere events parents ended = Fits request logs requested events parents ended

  -- ---- named and opened

  -- Whether a target is opened if it is named and has a log.
  abbrev IsSettled : ViewState → List ℕ → Type 0
  IsSettled state name = is_among name (targets_of logs) ≡ true → is_among name state.named ≡ true → is_among name state.opened ≡ true

  abbrev Settled : ViewState → Type 0
  Settled state = (name : List ℕ) → IsSettled state name

  -- Whether this holds for all targets but one.
  abbrev SettledBut : List ℕ → ViewState → Type 0
  SettledBut target state = (name : List ℕ) → (name ≡ target) ⊎ IsSettled state name

  -- Whether the targets that the logs of these targets mention are named.
  abbrev HaveNamed : List (List ℕ) → ViewState → Type 0
  HaveNamed ended state = (other : List ℕ) → is_among other ended ≡ true → (name : List ℕ) → log_mentions request logs other name ≡ true
      → is_among name state.named ≡ true

  -- A log that is begun is opened.
  begin_settles : (target : List ℕ) (state : ViewState) → SettledBut target state → Settled (begin_log target state)
  begin_settles target state settled name listed named = by (settled name)
    where
      itself : name ≡ target → is_among name (state.opened ++ target ∷ []) ≡ true
      itself same = ap (λ (n : List ℕ). is_among n (state.opened ++ target ∷ [])) same ∙ more-has target state.opened

      by : (name ≡ target) ⊎ IsSettled state name → is_among name (state.opened ++ target ∷ []) ≡ true
      by (inl same) = itself same
      by (inr is) = elim (insert-only name target state.named named) [
        | inl old ↦ more-keeps target state.opened name (is listed old)
        | inr same ↦ itself same
      ]

  listed_at : (name : List ℕ) (number : ℕ) → log_number name logs ≡ Some number → is_among name (targets_of logs) ≡ true
  listed_at name number found = sym (some_place (pointwise nat_eq name) (targets_of logs)) ∙ ap is_some found

  -- A target with a log that isn't opened isn't named.
  unnamed_at : (name : List ℕ) (number : ℕ) (state : ViewState) → Settled state → log_number name logs ≡ Some number
      → is_among name state.opened ≡ false → is_among name state.named ≡ false
  unnamed_at name number state settled found new = by (is_among name state.named) refl
    where
      by : (named : Bool) → is_among name state.named ≡ named → named ≡ false
      by false is = refl
      by true is = absurd (both_ways (is_among name state.opened) new (settled name (listed_at name number found) is))

  -- So no log that ended mentions it.
  opens_at : (parent : Parent) (ended : List (List ℕ)) (name : List ℕ) (number : ℕ) (state : ViewState)
      → log_number name logs ≡ Some number → HasReason request logs requested parent name → is_among name state.named ≡ false
      → HaveNamed ended state → Opens request logs requested parent ended number
  opens_at parent ended name number state found reason unnamed known =
      let target : target_at logs number ≡ name = target_named logs name number found in record {
        is_own = ap (λ (n : List ℕ). log_number n logs) target ∙ found;
        reason = subst (HasReason request logs requested parent) (sym target) reason;
        unmentioned = λ other among. ap (log_mentions request logs other) target
            ∙ by other among (log_mentions request logs other name) refl;
      }
    where
      by : (other : List ℕ) → is_among other ended ≡ true → (mentions : Bool) → log_mentions request logs other name ≡ mentions
          → mentions ≡ false
      by other among false is = refl
      by other among true is = absurd (both_ways (is_among name state.named) unnamed (known other among name is))

  -- ---- shown events, from some open logs to others. `ended` are the targets of the logs that ended before.

  record Shows (from to : List Parent) (ended : List (List ℕ)) (before after : ViewState) : Type 0 where
    shown : List Event
    now : List (List ℕ)
    is : after.events ≡ before.events ++ shown
    fits : (later : List Event) → FitsHere later to now → FitsHere (shown ++ later) from ended
    settled : Settled after
    opened : Keeps before.opened after.opened
    named : Keeps before.named after.named
    known : HaveNamed now after

  shows-none : (parents : List Parent) (ended : List (List ℕ)) (state : ViewState) → Settled state → HaveNamed ended state
      → Shows parents parents ended state state
  shows-none parents ended state settled known = record {
    shown = [];
    now = ended;
    is = sym (append-nil state.events);
    fits = λ later right. right;
    settled = settled;
    opened = λ name among. among;
    named = λ name among. among;
    known = known;
  }

  shows-both : (from between to : List Parent) (ended : List (List ℕ)) (before middle after : ViewState)
      (first : Shows from between ended before middle) → Shows between to first.now middle after → Shows from to ended before after
  shows-both from between to ended before middle after first second = record {
    shown = first.shown ++ second.shown;
    now = second.now;
    is = second.is ∙ ap (λ (events : List Event). events ++ second.shown) first.is
        ∙ append_assoc before.events first.shown second.shown;
    fits = λ later right. subst (λ (events : List Event). FitsHere events from ended)
        (sym (append_assoc first.shown second.shown later)) (first.fits (second.shown ++ later) (second.fits later right));
    settled = second.settled;
    opened = λ name among. second.opened name (first.opened name among);
    named = λ name among. second.named name (first.named name among);
    known = second.known;
  }

  shows-entry : (parent : Parent) (outer : List Parent) (ended : List (List ℕ)) (depth : ℕ) (entry : Entry) (state : ViewState)
      → Settled state → HaveNamed ended state
      → Shows (parent ∷ outer) (parent ∷ outer) ended state (append_event (EntryShown depth entry) state)
  shows-entry parent outer ended depth entry state settled known = record {
    shown = EntryShown depth entry ∷ [];
    now = ended;
    is = refl;
    fits = λ later right. right;
    settled = settled;
    opened = λ name among. among;
    named = λ name among. among;
    known = known;
  }

  -- ---- logs, shown if fewer than `bound` logs are left

  abbrev left_after : List ℕ → ViewState → ℕ
  left_after name state = left logs (state.opened ++ name ∷ [])

  abbrev ShowsBelow : ℕ → Type 0
  ShowsBelow bound =
      (name : List ℕ) (depth : ℕ) (outer : List Parent) (ended : List (List ℕ)) (state : ViewState) → left_after name state < bound
      → SettledBut name state → HaveNamed ended state → Shows (Some name ∷ outer) outer ended state (show_log logs options name depth state)

  module _ (bound : ℕ) (below : ShowsBelow bound) (parent : List ℕ) (outer : List Parent) where
    abbrev here : List Parent
    here = Some parent ∷ outer

    module _ (ended : List (List ℕ)) (depth pid : ℕ) (how : How) (name : List ℕ) (state : ViewState) (settled : Settled state)
        (known : HaveNamed ended state)
      where
        abbrev mentioned : Opening → ViewState
        mentioned opening = show_mention_line options depth pid how name opening state

        abbrev events : Opening → List Event
        events opening = mention_events options depth pid how name opening state.named

        known_after : HaveNamed ended (mentioned NotOpened)
        known_after other among n is = insert-keeps name state.named n (known other among n is)

        -- Only the mentioned target may not be opened yet.
        settled_but : SettledBut name (mentioned NotOpened)
        settled_but other = by (is_among other (insert_name name state.named)) refl
          where
            by : (named : Bool) → is_among other (insert_name name state.named) ≡ named
                → (other ≡ name) ⊎ IsSettled (mentioned NotOpened) other
            by false unnamed = inr (λ listed named. absurd (both_ways (is_among other (insert_name name state.named)) unnamed named))
            by true named = elim (insert-only other name state.named named) [
              | inl old ↦ inr (λ listed same. settled other listed old)
              | inr same ↦ inl same
            ]

        -- A mention that opens no log, because there is none, or because it was opened before.
        stays : (opening : Opening) → number_of_opening opening ≡ None
            → (is_among name (targets_of logs) ≡ true → is_among name state.opened ≡ true)
            → Shows here here ended state (mentioned opening)
        stays opening none itself = record {
          shown = events opening;
          now = ended;
          is = refl;
          fits = line (options.debug_locks || not (is_among name state.named));
          settled = λ other listed named. elim (insert-only other name state.named named) [
            | inl old ↦ settled other listed old
            | inr same ↦ ap (λ (n : List ℕ). is_among n state.opened) same
                ∙ itself (ap (λ (n : List ℕ). is_among n (targets_of logs)) (sym same) ∙ listed)
          ];
          opened = λ n among. among;
          named = insert-keeps name state.named;
          known = known_after;
        }
          where
            line : (shows : Bool) (later : List Event) → FitsHere later here ended
                → FitsHere ((if shows then Mentioned depth pid how name opening ∷ [] else []) ++ later) here ended
            line true later right =
                subst (NextFits request logs requested (Fits request logs requested later) (Some parent) outer ended) (sym none) right
            line false later right = right

        -- A mention that opens a log.
        opens : is_among parent state.opened ≡ true → log_mentions request logs parent name ≡ true → left logs state.opened ≤ bound
            → (number : ℕ) → log_number name logs ≡ Some number → is_among name state.opened ≡ false
            → Shows here here ended state (show_log logs options name (depth + 1) (mentioned (OpensHere number)))
        opens around mentions few number found new = record {
          shown = events (OpensHere number) ++ log.shown;
          now = log.now;
          is = log.is ∙ append_assoc state.events (events (OpensHere number)) log.shown;
          fits = λ later right.
              subst (λ (shows : Bool). FitsHere (((if shows then line ∷ [] else []) ++ log.shown) ++ later) here ended)
              (sym is_shown)
              ((
                opens_at (Some parent) ended name number state found (other, mentions) unnamed known,
                subst (λ (n : List ℕ). FitsHere (log.shown ++ later) (Some n ∷ here) ended) (sym (target_named logs name number found))
                    (log.fits later right),
              ));
          settled = log.settled;
          opened = log.opened;
          named = λ n among. log.named n (insert-keeps name state.named n among);
          known = log.known;
        }
          where
            line : Event
            line = Mentioned depth pid how name (OpensHere number)

            unnamed : is_among name state.named ≡ false
            unnamed = unnamed_at name number state settled found new

            is_shown : (options.debug_locks || not (is_among name state.named)) ≡ true
            is_shown = or_right options.debug_locks (not (is_among name state.named)) (ap not unnamed)

            other : name ≡ parent → ⊥
            other same = both_ways (is_among name state.opened) new (ap (λ (n : List ℕ). is_among n state.opened) same ∙ around)

            log : Shows (Some name ∷ here) here ended (mentioned (OpensHere number))
                (show_log logs options name (depth + 1) (mentioned (OpensHere number)))
            log = let less = left-lt logs name state.opened (listed_at name number found) new in
                below name (depth + 1) here ended (mentioned (OpensHere number)) (omega (arith, less, few)) settled_but known_after

        mention_shows : is_among parent state.opened ≡ true → log_mentions request logs parent name ≡ true → left logs state.opened ≤ bound
            → (found : Option ℕ) → log_number name logs ≡ found → (was : Bool) → is_among name state.opened ≡ was
            → Shows here here ended state (if opens_here (opening_of true was found)
            then show_log logs options name (depth + 1) (mentioned (opening_of true was found)) else mentioned (opening_of true was found))
        mention_shows around mentions few None found was is = stays NotOpened refl (λ listed.
            absurd (both_ways (is_among name (targets_of logs))
            (sym (some_place (pointwise nat_eq name) (targets_of logs)) ∙ ap is_some found) listed))
        mention_shows around mentions few (Some number) found true is = stays (OpenedBefore number) refl (λ listed. is)
        mention_shows around mentions few (Some number) found false is = opens around mentions few number found is

    entry_shows : (ended : List (List ℕ)) (depth : ℕ) (entry : Entry) (state : ViewState) → Settled state → HaveNamed ended state
        → is_among parent state.opened ≡ true → left logs state.opened ≤ bound
        → ((name : List ℕ) → mentions_target options name entry ≡ true → log_mentions request logs parent name ≡ true)
        → Shows here here ended state (show_entry logs options (show_log logs options) depth entry state)
    entry_shows ended depth (Text line) state settled known around few mentions =
        shows-entry (Some parent) outer ended depth (Text line) state settled known
    entry_shows ended depth (Mention pid how name) state settled known around few mentions = by (is_mention options how) refl
      where
        by : (counts : Bool) → is_mention options how ≡ counts → Shows here here ended state
            (if counts then show_mention logs options (show_log logs options) depth pid how name state else state)
        by true counts = mention_shows ended depth pid how name state settled known around
            (mentions name (and_from (is_mention options how) (pointwise nat_eq name name) counts (nat_list_eq_equiv.refl name))) few
            (log_number name logs) refl (is_among name state.opened) refl
        by false counts = shows-none here ended state settled known
    entry_shows ended depth (Done pid status name) state settled known around few mentions =
        shows-entry (Some parent) outer ended depth (Done pid status name) state settled known
    entry_shows ended depth (Closing pid status) state settled known around few mentions =
        shows-entry (Some parent) outer ended depth (Closing pid status) state settled known
    entry_shows ended depth (Note pid kind text) state settled known around few mentions =
        shows-entry (Some parent) outer ended depth (Note pid kind text) state settled known

    entries_show : (ended : List (List ℕ)) (depth : ℕ) (entries : List Entry) (state : ViewState) → Settled state → HaveNamed ended state
        → is_among parent state.opened ≡ true → left logs state.opened ≤ bound
        → ((name : List ℕ) → mentioned_in options name entries ≡ true → log_mentions request logs parent name ≡ true)
        → Shows here here ended state (show_entries logs options (show_log logs options) depth entries state)
    entries_show ended depth [] state settled known around few mentions = shows-none here ended state settled known
    entries_show ended depth (entry ∷ entries) state settled known around few mentions =
        let after = show_entry logs options (show_log logs options) depth entry state in
        let first = entry_shows ended depth entry state settled known around few (λ name is.
        mentions name (or_left (mentions_target options name entry) (mentioned_in options name entries) is)) in
        shows-both here here here ended state after (show_entries logs options (show_log logs options) depth entries after) first
        (entries_show first.now depth entries after first.settled first.known (first.opened parent around)
        (omega (arith, left-le logs state.opened after.opened first.opened, few)) (λ name is.
        mentions name (or_right (mentions_target options name entry) (mentioned_in options name entries) is)))

  module _ (equation : SatisfiesEquation logs options (show_log logs options))
      (names : (entries : List Entry) → NamedByEntries logs options entries)
      (unlisted : (target : List ℕ) → is_among target (targets_of logs) ≡ false → entries_of_target target logs ≡ [])
    where
      log_shows_at : (bound : ℕ) → ShowsBelow bound → ShowsBelow (suc bound)
      log_shows_at bound below name depth outer ended state few settled known =
          subst (λ (end : ViewState). Shows (Some name ∷ outer) outer ended state end) (sym (equation name depth state)) (record {
            shown = inside.shown ++ LogEnds depth ∷ [];
            now = name ∷ inside.now;
            is = ap (λ (events : List Event). events ++ LogEnds depth ∷ []) inside.is
                ∙ append_assoc state.events inside.shown (LogEnds depth ∷ []);
            fits = λ later right. subst (λ (events : List Event). FitsHere events (Some name ∷ outer) ended)
                (sym (append_assoc inside.shown (LogEnds depth ∷ []) later)) (inside.fits (LogEnds depth ∷ later) right);
            settled = inside.settled;
            opened = λ other among. inside.opened other (more-keeps name state.opened other among);
            named = λ other among. inside.named other (insert-keeps name state.named other among);
            known = known_now;
          })
        where
          begun : ViewState
          begun = begin_log name state

          after : ViewState
          after = show_entries logs options (show_log logs options) depth (entries_of_target name logs) (begin_log name state)

          inside : Shows (Some name ∷ outer) (Some name ∷ outer) ended (begin_log name state) after
          inside = entries_show bound below name outer ended depth (entries_of_target name logs) (begin_log name state)
              (begin_settles name state settled) (λ other among n is. insert-keeps name state.named n (known other among n is))
              (more-has name state.opened) (omega (arith, few)) (λ n is. is)

          -- The log itself named the targets that it mentions.
          known_now : HaveNamed (name ∷ inside.now) after
          known_now other among n is = elim (or_cases (pointwise nat_eq other name) (is_among other inside.now) among) [
            | inl same ↦ (names (entries_of_target name logs) depth (begin_log name state) n).1
                (inr (inl (ap (λ (t : List ℕ). log_mentions request logs t n) (sym (same_text other name (sym same))) ∙ is)))
            | inr old ↦ inside.known other old n is
          ]

      log_shows_below : (bound : ℕ) → ShowsBelow bound
      log_shows_below zero name depth outer ended state few settled known = absurd (omega (arith, few))
      log_shows_below (suc bound) name depth outer ended state few settled known =
          log_shows_at bound (log_shows_below bound) name depth outer ended state few settled known

      log_shows : (name : List ℕ) (outer : List Parent) (ended : List (List ℕ)) (state : ViewState) → SettledBut name state
          → HaveNamed ended state → Shows (Some name ∷ outer) outer ended state (show_log logs options name 1 state)
      log_shows name outer ended state settled known =
          log_shows_below (suc (left_after name state)) name 1 outer ended state (omega arith) settled known

      -- ---- requested targets

      module _ (name : List ℕ) (ended : List (List ℕ)) (state : ViewState) (asked : is_among name requested ≡ true)
          (settled : Settled state) (known : HaveNamed ended state)
        where
          abbrev begun : Opening → ViewState
          begun opening = append_event (Requested name opening) state

          -- Without a log there is nothing but the line of the target, and an end. What follows is in no contents.
          nothing_shown : is_among name (targets_of logs) ≡ false
              → Shows whole whole ended state (show_log logs options name 1 (begun NotOpened))
          nothing_shown none =
              subst (λ (end : ViewState). Shows whole whole ended state end) (sym (equation name 1 (begun NotOpened)
              ∙ ap (λ (entries : List Entry). end_log 1 (show_entries logs options (show_log logs options) 1 entries
              (begin_log name (begun NotOpened)))) (unlisted name none))) (record {
                shown = Requested name NotOpened ∷ LogEnds 1 ∷ [];
                now = ended;
                is = append_assoc state.events (Requested name NotOpened ∷ []) (LogEnds 1 ∷ []);
                fits = λ later right. outside later;
                settled = begin_settles name (begun NotOpened) (λ other. inr (settled other));
                opened = more-keeps name state.opened;
                named = insert-keeps name state.named;
                known = λ other among n is. insert-keeps name state.named n (known other among n is);
              })
            where
              outside : (later : List Event) → FitsHere later [] ended
              outside [] = tt
              outside (event ∷ events) = tt

          log_shown : (number : ℕ) → log_number name logs ≡ Some number → is_among name state.opened ≡ false
              → Shows whole whole ended state (show_log logs options name 1 (begun (OpensHere number)))
          log_shown number found new = record {
            shown = Requested name (OpensHere number) ∷ log.shown;
            now = log.now;
            is = log.is ∙ append_assoc state.events (Requested name (OpensHere number) ∷ []) log.shown;
            fits = λ later right. (
              opens_at None ended name number state found asked (unnamed_at name number state settled found new) known,
              subst (λ (n : List ℕ). FitsHere (log.shown ++ later) (Some n ∷ whole) ended) (sym (target_named logs name number found))
                  (log.fits later right),
            );
            settled = log.settled;
            opened = log.opened;
            named = log.named;
            known = log.known;
          }
            where
              log : Shows (Some name ∷ whole) whole ended (begun (OpensHere number))
                  (show_log logs options name 1 (begun (OpensHere number)))
              log = log_shows name whole ended (begun (OpensHere number)) (λ other. inr (settled other)) known

          target_shows : Shows whole whole ended state (show_target logs options name state)
          target_shows = by (is_among name state.opened) refl
            where
              first : is_among name state.opened ≡ false → (found : Option ℕ) → log_number name logs ≡ found
                  → Shows whole whole ended state (show_log logs options name 1 (begun (opening_of true false found)))
              first new None found = nothing_shown (sym (some_place (pointwise nat_eq name) (targets_of logs)) ∙ ap is_some found)
              first new (Some number) found = log_shown number found new

              by : (was : Bool) → is_among name state.opened ≡ was → Shows whole whole ended state
                  (if was then state else show_log logs options name 1 (append_event (request_event logs name) state))
              by true is = shows-none whole ended state settled known
              by false new = first new (log_number name logs) refl

      targets_show : (targets : List (List ℕ)) (ended : List (List ℕ)) (state : ViewState) → Keeps targets requested → Settled state
          → HaveNamed ended state → Shows whole whole ended state (show_targets logs options targets state)
      targets_show [] ended state asked settled known = shows-none whole ended state settled known
      targets_show (target ∷ targets) ended state asked settled known =
          let after = show_target logs options target state in
          let first = target_shows target ended state (asked target (front-has target targets)) settled known in
          shows-both whole whole whole ended state after (show_targets logs options targets after) first
          (targets_show targets first.now after (λ name among. asked name (front-keeps target targets name among)) first.settled
          first.known)

      pub are_right : AreRight request logs requested None [] (contents_of (shown_events logs options requested))
      are_right =
          let all = targets_show requested [] (record { named = []; opened = []; events = [] }) (λ name among. among)
          (λ name listed named. absurd (cc)) (λ other among name is. absurd (cc)) in
          contents_right request logs requested (shown_events logs options requested)
          (subst (λ (events : List Event). FitsHere events whole []) (append-nil all.shown ∙ sym all.is) (all.fits [] tt))
