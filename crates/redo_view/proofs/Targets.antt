-- Showing the requested targets, one after another.
use Rattle.std.proofs.Common.{◌≡◌, ℕ, zero, suc, ◌+◌, ◌≤◌, ◌<◌, cond, get_or, drop, Bool, true, false, not, nat_eq, List, [], ◌∷◌, ◌++◌, Option, None, Some, Ok, Err, length, take, replicate, refl, sym, ap, ◌∙◌, subst, arith}
use Rattle.std.specs.Cmp.Lexicographic.{pointwise}
use Rattle.std.specs.List.{IsDistinct, position_from}
use Rattle.std.proofs.lemmas.Bool.{not-false}
use Rattle.std.proofs.lemmas.Iterator.Adapters.{position_from-zero}
use Rattle.std.proofs.lemmas.List.{append_assoc, append-nil, length-map, take_all, take_more, take-append-drop}
use Rattle.redo_device.specs.Sink.{Output}
use Rattle.redo_logs.specs.Logs.{IsTable, Log, log_number, targets_of}
use Rattle.redo_logs.specs.Numbering.{Numbering}
use Rattle.redo_options.specs.declared.options.Options.{Options}
use Rattle.redo_view.specs.declared.entry.Visited.{Visited}
use Rattle.redo_view.specs.declared.event.Opening.TheVariants.{OpensHere}
use Rattle.redo_view.specs.declared.viewer.ViewFault.{ViewFault}
use Rattle.redo_view.specs.declared.viewer.Viewer.{Viewer}
use Rattle.redo_view.specs.Event.{Event, opening_of}
use Rattle.redo_view.specs.Event.Event.{Requested}
use Rattle.redo_view.specs.Expansion.{ViewState, is_among, append_event, request_event, show_targets, shown_events}
use Rattle.redo_view.specs.Form.{bytes_of}
use Rattle.redo_view.specs.Private.Branches.{show_target_unless}
use Rattle.redo_view.specs.Private.Progress.{HasShown, MatchesFlags, ShowedOrFailed, flags_of, initial_state}
use Rattle.redo_view.specs.Private.EntryEffect.{Fits}
use Rattle.redo_view.specs.Private.Rendering.{Rendering, rendered}
use Rattle.redo_view.specs.Private.WriteResult.{WroteUntilFault}
use Rattle.redo_view.specs.Private.Viewing.{KeepsContext, rendering_of}
use Rattle.redo_view.specs.Private.Viewing as viewing
use Rattle.redo_view.specs.View.{find_unknown}
use Rattle.redo_view.proofs.Rendered.{events_stopped, rendered-nothing, rendered-rendered}
use Rattle.redo_view.proofs.Shifting.{log_events-grow}
use Rattle.redo_view.proofs.Walking.{context_then}

-- The line of a requested target, by the number of its log.
request_by : (target : List ℕ) (logs : List Log) (number : ℕ) → log_number target logs ≡ Some number
    → Requested target (OpensHere number) ≡ request_event logs target
request_by target logs number looked_up = ap (λ found. Requested target (opening_of true false found)) (sym looked_up)

module _ {F : Type 0} (bytes : F → Event → List ℕ) (form_after : F → Event → F) (numbering : Numbering) (options : Options)
    (target : List ℕ) (first now : Rendering F) (visited : Visited) (state : ViewState)
    (has : HasShown bytes form_after numbering first now visited state) where
  -- Its log was opened before.
  pub target_again : is_among target state.opened ≡ true
      → HasShown bytes form_after numbering first now visited
      (show_target_unless numbering.logs options (is_among target state.opened) target state)
  target_again old = subst (λ b. HasShown bytes form_after numbering first now visited
      (show_target_unless numbering.logs options b target state)) (sym old) has

  module _ (number : ℕ) (looked_up : log_number target numbering.logs ≡ Some number) where
    abbrev line : Event
    line = Requested target (OpensHere number)

    -- Its line wasn't written completely.
    pub line_stopped : is_among target state.opened ≡ false → (after : Rendering F) (seen : Visited) (fault : ViewFault)
        → WroteUntilFault now.output after.output (bytes_of bytes form_after now.form (line ∷ [])) fault
        → ShowedOrFailed bytes form_after numbering {A = Unit {0}} first after seen
        (show_target_unless numbering.logs options (is_among target state.opened) target state) (Err fault)
    line_stopped new after seen fault wrote =
        let requested = append_event (request_event numbering.logs target) state in
        let more = log_events-grow numbering.logs options target 1 requested in
        subst (λ b. ShowedOrFailed bytes form_after numbering {A = Unit {0}} first after seen
        (show_target_unless numbering.logs options b target state) (Err fault)) (sym new)
        (events_stopped bytes form_after first now after.output state.events (request_event numbering.logs target ∷ []) more.0
        (show_target_unless numbering.logs options false target state).events fault has.rendering
        (subst (λ event. WroteUntilFault now.output after.output (bytes_of bytes form_after now.form (event ∷ [])) fault)
        (request_by target numbering.logs number looked_up) wrote) (sym more.1))

    -- Its line was written.
    pub line_written : (after : Rendering F) → after ≡ rendered bytes form_after now (line ∷ [])
        → HasShown bytes form_after numbering first after visited (append_event (request_event numbering.logs target) state)
    line_written after shown = record {
      flags = record { named = has.flags.named; opened = has.flags.opened };
      rendering =
          shown ∙ ap (λ event. rendered bytes form_after now (event ∷ [])) (request_by target numbering.logs number looked_up)
          ∙ ap (λ (r : Rendering F). rendered bytes form_after r (request_event numbering.logs target ∷ [])) has.rendering
          ∙ rendered-rendered bytes form_after first state.events (request_event numbering.logs target ∷ []);
    }

no_flags : (names : List (List ℕ)) → replicate (length names) false ≡ flags_of names []
no_flags [] = refl
no_flags (name ∷ names) = ap (λ flags. false ∷ flags) (no_flags names)

pub none_visited : (numbering : Numbering) (visited : Visited) → visited.named.items ≡ replicate (length numbering.names) false
    → visited.opened.items ≡ replicate (length numbering.logs) false → MatchesFlags numbering visited initial_state
none_visited numbering visited named opened = record {
  named = named ∙ no_flags numbering.names;
  opened =
      opened ∙ ap (λ (n : ℕ). replicate n false) (sym (length-map numbering.logs (λ (log : Log). log.target)))
      ∙ no_flags (targets_of numbering.logs);
}

module _ (logs : List Log) (options : Options) where
  pub show_targets-append : (first others : List (List ℕ)) (state : ViewState)
      → show_targets logs options (first ++ others) state ≡ show_targets logs options others (show_targets logs options first state)
  show_targets-append [] others state = refl
  show_targets-append (name ∷ first) others state =
      show_targets-append first others (show_target_unless logs options (is_among name state.opened) name state)

  -- The events shown before stay a prefix.
  one_grows : (b : Bool) (name : List ℕ) (state : ViewState)
      → (rest : List Event) × ((show_target_unless logs options b name state).events ≡ state.events ++ rest)
  one_grows true name state = ([], sym (append-nil state.events))
  one_grows false name state =
      let line = request_event logs name ∷ [] in
      let more = log_events-grow logs options name 1 (append_event (request_event logs name) state) in
      (line ++ more.0, more.1 ∙ append_assoc state.events line more.0)

  targets_grow : (requested : List (List ℕ)) (state : ViewState)
      → (rest : List Event) × ((show_targets logs options requested state).events ≡ state.events ++ rest)
  targets_grow [] state = ([], sym (append-nil state.events))
  targets_grow (name ∷ requested) state =
      let one = one_grows (is_among name state.opened) name state in
      let more = targets_grow requested (show_target_unless logs options (is_among name state.opened) name state) in
      (one.0 ++ more.0, more.1 ∙ ap (λ t. t ++ more.0) one.1 ∙ append_assoc state.events one.0 more.0)

-- A requested target has a log if none is unknown.
none_unknown : (logs : List Log) (requested : List (List ℕ)) (from k : ℕ) (default : List ℕ)
    → position_from (λ name. not (is_among name (targets_of logs))) from requested ≡ None → k < length requested
    → not (is_among (get_or requested k default) (targets_of logs)) ≡ false
none_unknown logs [] from k default none below = absurd (omega (arith, below))
none_unknown logs (name ∷ requested) from k default none below =
    by (not (is_among name (targets_of logs))) refl k below (λ others j less. none_unknown logs requested (from + 1) j default others less)
  where
    by : (b : Bool) → not (is_among name (targets_of logs)) ≡ b → (k : ℕ) → k < length (name ∷ requested)
        → (position_from (λ n. not (is_among n (targets_of logs))) (from + 1) requested ≡ None → (j : ℕ) → j < length requested
        → not (is_among (get_or requested j default) (targets_of logs)) ≡ false)
        → not (is_among (get_or (name ∷ requested) k default) (targets_of logs)) ≡ false
    by true is k below others =
        absurd (let found : Some from ≡ None = sym
        (ap (λ b. cond b (Some from) (position_from (λ n. not (is_among n (targets_of logs))) (from + 1) requested)) is) ∙ none in cc)
    by false is zero below others = is
    by false is (suc k) below others =
        others (sym (ap (λ b. cond b (Some from) (position_from (λ n. not (is_among n (targets_of logs))) (from + 1) requested)) is) ∙ none)
        k (omega (arith, below))

pub is_known : (logs : List Log) (requested : List (List ℕ)) (k : ℕ) (default name : List ℕ) → find_unknown logs requested ≡ None
    → k < length requested → get_or requested k default ≡ name → is_among name (targets_of logs) ≡ true
is_known logs requested k default name none below is =
    not-false (is_among name (targets_of logs)) (ap (λ n. not (is_among n (targets_of logs))) (sym is)
    ∙ none_unknown logs requested 0 k default (sym (position_from-zero (λ n. not (is_among n (targets_of logs))) requested) ∙ none) below)

-- If one value is the negation of another, the other is the negation of the one.
pub flipped : (a b : Bool) → a ≡ not b → b ≡ not a
flipped a true is = sym (ap not is)
flipped a false is = sym (ap not is)

-- ---- a viewer

-- The state after the first `k` requested targets.
abbrev pub targets_so_far : List Log → Options → List (List ℕ) → ℕ → ViewState
targets_so_far logs options requested k = show_targets logs options (take k requested) initial_state

-- Since its creation, the viewer kept its logs, options, form and writer, and it showed the first `k` requested targets.
pub record HasShownTargets {F W : Type 0} (bytes : F → Event → List ℕ) (form_after : F → Event → F) (written : W → Option Output)
    (requested : List (List ℕ)) (k : ℕ) (first now : Viewer F W) : Type 0 where
  pub context : KeepsContext first now
  pub names_differ : IsDistinct (pointwise nat_eq) now.logs.now.names
  pub table : IsTable now.logs.now.logs
  pub has : HasShown bytes form_after now.logs.now (rendering_of written first) (rendering_of written now) now.visited.now
      (targets_so_far now.logs.now.logs now.options requested k)

module _ {F W : Type 0} {bytes : F → Event → List ℕ} {form_after : F → Event → F} {written : W → Option Output} {requested : List (List ℕ)}
    {k : ℕ} {first now : Viewer F W} (so_far : HasShownTargets bytes form_after written requested k first now) where
  abbrev logs : List Log
  logs = now.logs.now.logs

  abbrev state : ViewState
  state = targets_so_far logs now.options requested k

  abbrev start : Rendering F
  start = rendering_of written first

  -- There is a flag for each name and each log.
  pub fits_still : Fits now.logs.now now.visited.now
  fits_still = record {
    names_differ = so_far.names_differ;
    table = so_far.table;
    names = ap length so_far.has.flags.named ∙ length-map now.logs.now.names (λ name. is_among name state.named);
    logs =
        ap length so_far.has.flags.opened ∙ length-map (targets_of logs) (λ name. is_among name state.opened)
        ∙ length-map logs (λ (log : Log). log.target);
  }

  same : shown_events logs now.options requested ≡ shown_events first.logs.now.logs first.options requested
  same = λ i. shown_events (so_far.context.logs i).logs (so_far.context.options i) requested

  -- All targets were shown.
  pub all_shown : length requested ≤ k
      → viewing.WroteEvents bytes form_after written {A = Unit {0}} first now
      (shown_events first.logs.now.logs first.options requested) (Ok tt)
  all_shown end =
      so_far.has.rendering ∙ ap (λ names. rendered bytes form_after start (show_targets logs now.options names initial_state).events)
      (take_all k requested end) ∙ ap (rendered bytes form_after start) same

  module _ (default : List ℕ) {name : List ℕ} (below : k < length requested) (name_is : get_or requested k default ≡ name) where
    -- The next target has a log.
    pub known_still : find_unknown first.logs.now.logs requested ≡ None → is_among name (targets_of logs) ≡ true
    known_still none = rw so_far.context.logs (is_known first.logs.now.logs requested k default name none below name_is)

    -- The state after the next target.
    abbrev next : ViewState
    next = show_target_unless logs now.options (is_among name state.opened) name state

    next_is : next ≡ targets_so_far logs now.options requested (k + 1)
    next_is =
        sym (ap (λ names. show_targets logs now.options names initial_state)
        (take_more requested k default below ∙ ap (λ n. take k requested ++ n ∷ []) name_is)
        ∙ show_targets-append logs now.options (take k requested) (name ∷ []) initial_state)

    -- The next target was shown.
    pub one_more_shown : {after : Viewer F W} {done : Unit {0}}
        → viewing.ShowedTargetOrFailed bytes form_after written name now after (Ok done)
        → HasShownTargets bytes form_after written requested (k + 1) first after
    one_more_shown {after = after} shows = record {
      context = context_then so_far.context shows.context;
      names_differ = rw shows.context.logs so_far.names_differ;
      table = rw shows.context.logs so_far.table;
      has = rw (shows.context.logs, shows.context.options)
          (subst (HasShown bytes form_after now.logs.now start (rendering_of written after) after.visited.now) next_is
          (shows.shows start state so_far.has));
    }

    -- The next target wasn't shown, or not completely.
    pub one_stopped : {after : Viewer F W} {fault : ViewFault}
        → viewing.ShowedTargetOrFailed bytes form_after written {A = Unit {0}} name now after (Err fault)
        → viewing.WroteEvents bytes form_after written {A = Unit {0}} first after (shown_events first.logs.now.logs first.options requested)
        (Err fault)
    one_stopped {after = after} {fault = fault} shows =
        let more = targets_grow logs now.options (drop (k + 1) requested) (targets_so_far logs now.options requested (k + 1)) in
        events_stopped bytes form_after start start (written after.out.now) [] next.events more.0
        (shown_events first.logs.now.logs first.options requested) fault (rendered-nothing bytes form_after start)
        (shows.shows start state so_far.has)
        (ap (λ (s : ViewState). s.events ++ more.0) next_is ∙ sym more.1 ∙ ap (λ (s : ViewState). s.events)
        (sym (show_targets-append logs now.options (take (k + 1) requested) (drop (k + 1) requested) initial_state)
        ∙ ap (λ names. show_targets logs now.options names initial_state) (take-append-drop (k + 1) requested))
        ∙ same)
