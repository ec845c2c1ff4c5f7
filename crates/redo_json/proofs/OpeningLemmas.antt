-- The targets of the logs that events open.
use Rattle.std.proofs.Common.{◌≡◌, ℕ, zero, suc, ◌+◌, Bool, true, false, ℤ, List, [], ◌∷◌, ◌++◌, Option, None, Some, get_or, length, refl, sym, ◌∙◌, ap}
use Rattle.std.specs.Prelude.{not, ◌||◌, slice_get, nat_eq, if◌then◌else◌}
use Rattle.std.specs.Cmp.Lexicographic.{pointwise, same_text}
use Rattle.std.specs.List.{AllByRecursion, flat_map}
use Rattle.std.proofs.lemmas.List.{append-nil, map-append}
use Rattle.std.proofs.lemmas.List.Concat.{flat_map-append}
use Rattle.std.proofs.lemmas.List.Quantifiers.{position-Some}
use Rattle.std.proofs.lemmas.Option.{none-some, slice_get-get_or}
use Rattle.redo_line.specs.declared.entry.Entry.{Entry}
use Rattle.redo_line.specs.declared.entry.Entry.TheVariants.{Text, Mention, Done, Closing, Note}
use Rattle.redo_line.specs.declared.entry.How.{How}
use Rattle.redo_logs.specs.Logs.{Log, log_number, targets_of}
use Rattle.redo_options.specs.declared.options.Options.{Options}
use Rattle.redo_view.specs.declared.event.Opening.{Opening}
use Rattle.redo_view.specs.declared.event.Opening.TheVariants.{NotOpened, OpenedBefore, OpensHere}
use Rattle.redo_view.specs.Event.{Event, opening_of, opens_here}
use Rattle.redo_view.specs.Event.Event.{Requested, Mentioned, EntryShown, LogEnds}
use Rattle.redo_view.specs.Expansion.{ShowLog, ViewState, append_event, begin_log, entries_of_target, is_among, is_mention, mention_events, mention_opening, request_event, show_entries, show_entry, show_log, show_log_within, show_mention, show_mention_line, show_target, show_targets, shown_events}
use Rattle.redo_view.specs.Laws.{opened_name}
use Rattle.redo_outline.specs.Contents.{Contents, contents_from, contents_of, innermost, opened_number, with_event, with_first}
use Rattle.redo_outline.specs.Contents.Contents.{Nothing, Shown, Opened}
use Rattle.redo_outline.specs.Facts.{entries_at, name_or_empty, target_at, target_status, texts_of}
use Rattle.redo_outline.specs.Laws.{events_of}
use Rattle.redo_outline.specs.Outline.{log_count, node_of, outline_of}
use Rattle.redo_outline.specs.declared.node.Node.{Node}
use Rattle.redo_json.specs.Build.{Request, log_values, needs_of, values_in}
use Rattle.redo_json.specs.Laws.{IsOfLog, targets_in}
use Rattle.redo_json.specs.Object.{LogValues}
use Rattle.redo_json.proofs.NodeLemmas.{both_count, first_count, node_here, nodes_in, split_both, split_first}

-- ---- events

-- The log with the number of an opening is the log of this target.
abbrev pub IsOpeningOf : List Log → List ℕ → Opening → Type 0
IsOpeningOf logs name NotOpened = Unit {0}
IsOpeningOf logs name (OpenedBefore number) = log_number name logs ≡ Some number
IsOpeningOf logs name (OpensHere number) = log_number name logs ≡ Some number

abbrev pub NamesItsLog : List Log → Event → Type 0
NamesItsLog logs (Requested name opening) = IsOpeningOf logs name opening
NamesItsLog logs (Mentioned depth pid how name opening) = IsOpeningOf logs name opening
NamesItsLog logs event = Unit {0}

abbrev pub AllName : List Log → List Event → Type 0
AllName logs events = AllByRecursion (NamesItsLog logs) events

opening_names : (logs : List Log) (name : List ℕ) (may_open was_opened : Bool)
    → IsOpeningOf logs name (opening_of may_open was_opened (log_number name logs))
opening_names logs name may_open was_opened = by may_open was_opened (log_number name logs) refl
  where
    by : (may was : Bool) (found : Option ℕ) → log_number name logs ≡ found → IsOpeningOf logs name (opening_of may was found)
    by may was None is = tt
    by may true (Some number) is = is
    by true false (Some number) is = is
    by false false (Some number) is = tt

both_name : (logs : List Log) (events others : List Event) → AllName logs events → AllName logs others → AllName logs (events ++ others)
both_name logs [] others first last = last
both_name logs (event ∷ events) others first last = (first.0, both_name logs events others first.1 last)

module _ (logs : List Log) (options : Options) where
  abbrev Names : ViewState → Type 0
  Names state = AllName logs state.events

  abbrev ShowsNames : ShowLog → Type 0
  ShowsNames show = (target : List ℕ) (depth : ℕ) (state : ViewState) → Names state → Names (show target depth state)

  other_names : (event : Event) (state : ViewState) → NamesItsLog logs event → Names state → Names (append_event event state)
  other_names event state is names = both_name logs state.events (event ∷ []) names (is, tt)

  module _ (show : ShowLog) (shows : ShowsNames show) where
    mention_names : (depth pid : ℕ) (how : How) (name : List ℕ) (state : ViewState) → Names state
        → Names (show_mention logs options show depth pid how name state)
    mention_names depth pid how name state names = by (opens_here opening)
      where
        opening : Opening
        opening = mention_opening logs options name state

        line : (shown : Bool) → AllName logs (if shown then Mentioned depth pid how name opening ∷ [] else [])
        line true = (opening_names logs name options.recursive (is_among name state.opened), tt)
        line false = tt

        mentioned : Names (show_mention_line options depth pid how name opening state)
        mentioned = both_name logs state.events (mention_events options depth pid how name opening state.named) names
            (line (options.debug_locks || not (is_among name state.named)))

        by : (opens : Bool) → Names (if opens then show name (depth + 1) (show_mention_line options depth pid how name opening state)
            else show_mention_line options depth pid how name opening state)
        by true = shows name (depth + 1) (show_mention_line options depth pid how name opening state) mentioned
        by false = mentioned

    entry_names : (depth : ℕ) (entry : Entry) (state : ViewState) → Names state → Names (show_entry logs options show depth entry state)
    entry_names depth (Text line) state names = other_names (EntryShown depth (Text line)) state tt names
    entry_names depth (Mention pid how name) state names = by (is_mention options how)
      where
        by : (counts : Bool) → Names (if counts then show_mention logs options show depth pid how name state else state)
        by true = mention_names depth pid how name state names
        by false = names
    entry_names depth (Done pid status name) state names = other_names (EntryShown depth (Done pid status name)) state tt names
    entry_names depth (Closing pid status) state names = other_names (EntryShown depth (Closing pid status)) state tt names
    entry_names depth (Note pid kind text) state names = other_names (EntryShown depth (Note pid kind text)) state tt names

    entries_name : (depth : ℕ) (entries : List Entry) (state : ViewState) → Names state
        → Names (show_entries logs options show depth entries state)
    entries_name depth [] state names = names
    entries_name depth (entry ∷ entries) state names =
        entries_name depth entries (show_entry logs options show depth entry state) (entry_names depth entry state names)

  within_names : (levels : ℕ) → ShowsNames (show_log_within logs options levels)
  unfolding show_log_within
  within_names zero target depth state names = names
  within_names (suc levels) target depth state names =
      let inner = show_log_within logs options levels in
      other_names (LogEnds depth) (show_entries logs options inner depth (entries_of_target target logs) (begin_log target state)) tt
      (entries_name inner (within_names levels) depth (entries_of_target target logs) (begin_log target state) names)

  log_names : ShowsNames (show_log logs options)
  unfolding show_log
  log_names target depth state names = within_names (length logs + 1) target depth state names

  target_names : (target : List ℕ) (state : ViewState) → Names state → Names (show_target logs options target state)
  target_names target state names = by (is_among target state.opened)
    where
      by : (again : Bool) → Names (if again then state
          else show_log logs options target 1 (append_event (request_event logs target) state))
      by true = names
      by false = log_names target 1 (append_event (request_event logs target) state)
          (other_names (request_event logs target) state (opening_names logs target true false) names)

  targets_name : (targets : List (List ℕ)) (state : ViewState) → Names state → Names (show_targets logs options targets state)
  targets_name [] state names = names
  targets_name (target ∷ targets) state names =
      targets_name targets (show_target logs options target state) (target_names target state names)

  shown_names : (requested : List (List ℕ)) → AllName logs (shown_events logs options requested)
  shown_names requested = targets_name requested (record { named = []; opened = []; events = [] }) tt

-- ---- contents

-- Each event of some contents names its log. An event that opens a log opens the log with this number.
abbrev pub AreNamed : List Log → Contents → Type 0
AreNamed logs Nothing = Unit {0}
AreNamed logs (Shown event rest) = (opened_number event ≡ None) × NamesItsLog logs event × AreNamed logs rest
AreNamed logs (Opened event number inside rest) = (opened_number event ≡ Some number) × NamesItsLog logs event × AreNamed logs inside
    × AreNamed logs rest

abbrev AllNamed : List Log → List Contents → Type 0
AllNamed logs contents = AllByRecursion (AreNamed logs) contents

first_named : (logs : List Log) (event : Event) (number : Option ℕ) → opened_number event ≡ number → NamesItsLog logs event
    → (contents : List Contents) → AllNamed logs contents → AllNamed logs (with_first event number contents)
first_named logs event None is names [] all = tt
first_named logs event None is names (inner ∷ outer) all = ((is, names, all.0), all.1)
first_named logs event (Some number) is names [] all = tt
first_named logs event (Some number) is names (inner ∷ []) all = ((is, names, all.0, tt), tt)
first_named logs event (Some number) is names (inner ∷ next ∷ outer) all = ((is, names, all.0, all.1.0), all.1.1)

event_named : (logs : List Log) (event : Event) → NamesItsLog logs event → (contents : List Contents) → AllNamed logs contents
    → AllNamed logs (with_event event contents)
event_named logs (Requested name opening) names contents all =
    first_named logs (Requested name opening) (opened_number (Requested name opening)) refl names contents all
event_named logs (Mentioned depth pid how name opening) names contents all =
    first_named logs (Mentioned depth pid how name opening) (opened_number (Mentioned depth pid how name opening)) refl names contents all
event_named logs (EntryShown depth entry) names contents all = first_named logs (EntryShown depth entry) None refl tt contents all
event_named logs (LogEnds depth) names contents all = (tt, all)

events_named : (logs : List Log) (events : List Event) → AllName logs events → AllNamed logs (contents_from events)
events_named logs [] names = (tt, tt)
events_named logs (event ∷ events) names = event_named logs event names.0 (contents_from events) (events_named logs events names.1)

pub contents_named : (logs : List Log) (options : Options) (requested : List (List ℕ))
    → AreNamed logs (contents_of (shown_events logs options requested))
contents_named logs options requested =
    by (contents_from (shown_events logs options requested))
    (events_named logs (shown_events logs options requested) (shown_names logs options requested))
  where
    by : (contents : List Contents) → AllNamed logs contents → AreNamed logs (innermost contents)
    by [] all = tt
    by (inner ∷ outer) all = all.0

-- ---- names

pub target_named : (logs : List Log) (name : List ℕ) (number : ℕ) → log_number name logs ≡ Some number → target_at logs number ≡ name
target_named logs name number is =
    let found = position-Some (pointwise nat_eq name) (targets_of logs) number [] is in
    by (slice_get-get_or (targets_of logs) number [] found.0)
    ∙ sym (same_text name (get_or (targets_of logs) number []) (sym found.1))
  where
    by : slice_get (targets_of logs) number ≡ Some (get_or (targets_of logs) number [])
        → target_at logs number ≡ get_or (targets_of logs) number []
    by at = ap name_or_empty at

-- ---- the targets of objects

opens_none : (logs : List Log) (event : Event) → opened_number event ≡ None → opened_name event ≡ []
opens_none logs (Requested name NotOpened) is = refl
opens_none logs (Requested name (OpenedBefore number)) is = refl
opens_none logs (Requested name (OpensHere number)) is = absurd (none_some number is)
  where
    none_some : (n : ℕ) → Some n ≡ None → ⊥
    none_some n is = cc
opens_none logs (Mentioned depth pid how name NotOpened) is = refl
opens_none logs (Mentioned depth pid how name (OpenedBefore number)) is = refl
opens_none logs (Mentioned depth pid how name (OpensHere number)) is = absurd (cc)
opens_none logs (EntryShown depth entry) is = refl
opens_none logs (LogEnds depth) is = refl

opens_one : (logs : List Log) (event : Event) (number : ℕ) → opened_number event ≡ Some number → NamesItsLog logs event
    → opened_name event ≡ target_at logs number ∷ []
opens_one logs (Requested name NotOpened) number is names = absurd (cc)
opens_one logs (Requested name (OpenedBefore before)) number is names = absurd (cc)
opens_one logs (Requested name (OpensHere here)) number is names =
    ap (λ (n : List ℕ). n ∷ []) (sym (target_named logs name number (names ∙ is)))
opens_one logs (Mentioned depth pid how name NotOpened) number is names = absurd (cc)
opens_one logs (Mentioned depth pid how name (OpenedBefore before)) number is names = absurd (cc)
opens_one logs (Mentioned depth pid how name (OpensHere here)) number is names =
    ap (λ (n : List ℕ). n ∷ []) (sym (target_named logs name number (names ∙ is)))
opens_one logs (EntryShown depth entry) number is names = absurd (cc)
opens_one logs (LogEnds depth) number is names = absurd (cc)

module _ (request : Request) (logs : List Log) (status : ℕ → Option ℤ) where
  pub targets_are : (depth : ℕ) (parent : Option (List ℕ)) (contents : Contents) → AreNamed logs contents
      → targets_in (values_in request logs status parent contents) ≡ flat_map opened_name (events_of depth contents)
  targets_are depth parent Nothing named = refl
  targets_are depth parent (Shown event rest) named =
      targets_are depth parent rest named.2
      ∙ ap (λ (ns : List (List ℕ)). ns ++ flat_map opened_name (events_of depth rest)) (sym (opens_none logs event named.0))
  targets_are depth parent (Opened event number inside rest) named =
      let inner = values_in request logs status (Some (target_at logs number)) inside in
      let outer = values_in request logs status parent rest in
      ap (λ (ns : List (List ℕ)). target_at logs number ∷ ns)
      (map-append (λ (values : LogValues). values.target) inner outer
      ∙ (λ i. targets_are (depth + 1) (Some (target_at logs number)) inside named.2 i ++ targets_are depth parent rest named.3 i)
      ∙ sym (flat_map-append opened_name (events_of (depth + 1) inside) (LogEnds (depth + 1) ∷ events_of depth rest)))
      ∙ ap (λ (ns : List (List ℕ)). ns ++ flat_map opened_name (events_of (depth + 1) inside ++ LogEnds (depth + 1) ∷ events_of depth rest))
      (sym (opens_one logs event number named.0 named.1))

-- ---- the logs of objects

-- The log with the number of an opening.
record FoundLog (logs : List Log) (number : ℕ) : Type 0 where
  log : Log
  is_log : slice_get logs number ≡ Some log
  target : target_at logs number ≡ log.target
  entries : entries_at number logs ≡ log.entries

found_at : (logs : List Log) (number : ℕ) (name : List ℕ) → slice_get (targets_of logs) number ≡ Some name → FoundLog logs number
found_at [] number name is = absurd (none-some name is)
found_at (log ∷ logs) zero name is = record { log = log; is_log = refl; target = refl; entries = refl }
found_at (log ∷ logs) (suc number) name is =
    let rest = found_at logs number name is in
    record { log = rest.log; is_log = rest.is_log; target = rest.target; entries = rest.entries }

found_log : (logs : List Log) (event : Event) (number : ℕ) → opened_number event ≡ Some number → NamesItsLog logs event
    → FoundLog logs number
found_log logs event number is names = by event is names
  where
    named : (name : List ℕ) (here : ℕ) → log_number name logs ≡ Some here → Some here ≡ Some number → FoundLog logs number
    named name here found same =
        let place = position-Some (pointwise nat_eq name) (targets_of logs) number [] (found ∙ same) in
        found_at logs number (get_or (targets_of logs) number []) (slice_get-get_or (targets_of logs) number [] place.0)

    by : (e : Event) → opened_number e ≡ Some number → NamesItsLog logs e → FoundLog logs number
    by (Requested name NotOpened) same found = absurd (cc)
    by (Requested name (OpenedBefore before)) same found = absurd (cc)
    by (Requested name (OpensHere here)) same found = named name here found same
    by (Mentioned depth pid how name NotOpened) same found = absurd (cc)
    by (Mentioned depth pid how name (OpenedBefore before)) same found = absurd (cc)
    by (Mentioned depth pid how name (OpensHere here)) same found = named name here found same
    by (EntryShown depth entry) same found = absurd (cc)
    by (LogEnds depth) same found = absurd (cc)

pub all-append : {A : Type 0} (P : A → Type 0) (xs ys : List A) → AllByRecursion P xs → AllByRecursion P ys → AllByRecursion P (xs ++ ys)
all-append P [] ys first last = last
all-append P (x ∷ xs) ys first last = (first.0, all-append P xs ys first.1 last)

module _ (request : Request) (logs : List Log) (events : List Event) where
  abbrev node_at : Option ℕ → ℕ → Contents → Contents → Node
  node_at around number inside rest = node_of logs (target_status logs events) around number inside rest

  of_log : (parent : Option (List ℕ)) (around : Option ℕ) (position number : ℕ) (inside rest : Contents) → FoundLog logs number
      → slice_get (outline_of logs events) position ≡ Some (node_at around number inside rest)
      → IsOfLog request logs events (log_values request logs parent (node_at None number inside rest))
  of_log parent around position number inside rest found here = record {
    number = number;
    log = found.log;
    is_log = found.is_log;
    target = found.target;
    status = refl;
    start_ms = refl;
    end_ms = refl;
    cpu_ms = refl;
    peak_kb = refl;
    directory = refl;
    commands = refl;
    needs = λ i. needs_of (found.target i) (found.entries i);
    lines = ap texts_of found.entries;
    position = position;
    node = node_at around number inside rest;
    is_node = here;
    of_log = refl;
    changes = refl;
  }

  abbrev objects_in : Option (List ℕ) → Contents → List LogValues
  objects_in parent contents = values_in request logs (target_status logs events) parent contents

  abbrev nodes : Option ℕ → ℕ → Contents → List Node
  nodes around position contents = nodes_in logs (target_status logs events) around position contents

  -- The nodes of some contents are within the outline: `before` are the nodes before them, and `after` those after them.
  values_within : (before after : List Node) (around : Option ℕ) (position : ℕ) (parent : Option (List ℕ)) (contents : Contents)
      → outline_of logs events ≡ before ++ (nodes around position contents ++ after) → length before ≡ position → AreNamed logs contents
      → AllByRecursion (IsOfLog request logs events) (objects_in parent contents)
  values_within before after around position parent Nothing whole counted named = tt
  values_within before after around position parent (Shown event rest) whole counted named =
      values_within before after around position parent rest whole counted named.2
  values_within before after around position parent (Opened event number inside rest) whole counted named =
      let status = target_status logs events in
      let all = outline_of logs events in
      let one = node_at around number inside rest in
      let inner = nodes (Some position) (suc position) inside in
      let outer = nodes around (suc position + log_count inside) rest in
      let first : List Node = before ++ one ∷ [] in
      let both : List Node = first ++ inner in
      let in_log = split_first logs status all before after around position number event inside rest whole counted in
      let in_rest = split_both logs status all before after around position number event inside rest whole counted in
      let first_counted = first_count logs status all before after around position number event inside rest whole counted in
      let both_counted = both_count logs status all before after around position number event inside rest whole counted in
      let here = node_here logs status all before after around position number event inside rest whole counted in (
        of_log parent around position number inside rest (found_log logs event number named.0 named.1) here,
        all-append (IsOfLog request logs events) (objects_in (Some (target_at logs number)) inside) (objects_in parent rest)
            (values_within first (outer ++ after) (Some position) (suc position) (Some (target_at logs number)) inside in_log first_counted
            named.2)
            (values_within both after around (suc position + log_count inside) parent rest in_rest both_counted named.3),
      )

  pub values_of_logs : AreNamed logs (contents_of events)
      → AllByRecursion (IsOfLog request logs events) (objects_in None (contents_of events))
  values_of_logs named =
      values_within [] [] None 0 None (contents_of events) (sym (append-nil (outline_of logs events))) refl named
