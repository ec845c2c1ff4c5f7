-- The numbers of a build are exact if the numbers of its logs are.
use Rattle.std.proofs.Common.{ℕ, zero, suc, ◌+◌, ◌<◌, ◌≤◌, ◌^◌, Bool, true, false, not, ℤ, List, [], ◌∷◌, ◌++◌, Option, None, Some, IfSome, filter_map, length, option_map, slice_get, slice_index_or, arith}
use Rattle.std.specs.Prelude.{nat_eq, ◌||◌, if◌then◌else◌}
use Rattle.std.specs.Cmp.Lexicographic.{pointwise}
use Rattle.std.specs.List.{AllByRecursion, cons_option}
use Rattle.std.specs.Option.{option_or}
use Rattle.redo_facts.specs.Facts.{RecipeFacts, nothing}
use Rattle.redo_facts.specs.declared.statement.Usage.{Usage}
use Rattle.redo_line.specs.declared.entry.Entry.{Entry}
use Rattle.redo_line.specs.declared.entry.Entry.TheVariants.{Text, Mention, Done, Closing, Note}
use Rattle.redo_line.specs.declared.entry.How.{How}
use Rattle.redo_logs.specs.Logs.{Log, log_number}
use Rattle.redo_options.specs.declared.options.Options.{Options}
use Rattle.redo_times.specs.Time.{IsInRange}
use Rattle.redo_times.specs.Times.{AreInRange}
use Rattle.redo_view.specs.declared.event.Opening.{Opening}
use Rattle.redo_view.specs.Event.{Event, opens_here}
use Rattle.redo_view.specs.Event.Event.{Requested, Mentioned, EntryShown, LogEnds}
use Rattle.redo_view.specs.Expansion.{ShowLog, ViewState, append_event, begin_log, entries_of_target, is_among, is_mention, mention_events, mention_opening, request_event, show_entries, show_entry, show_log, show_log_within, show_mention, show_mention_line, show_target, show_targets, shown_events}
use Rattle.redo_outline.specs.Contents.{Contents, contents_of}
use Rattle.redo_outline.specs.Contents.Contents.{Nothing, Shown, Opened}
use Rattle.redo_outline.specs.Facts.{closing_status, done_status, entries_at, is_number, status_if, target_at, target_status, text_of, texts_of}
use Rattle.redo_outline.specs.Outline.{node_of}
use Rattle.redo_outline.specs.declared.node.Node.{Node}
use Rattle.redo_compare.specs.Baseline.{BaselineValue}
use Rattle.redo_compare.specs.Changes.{all_or_none}
use Rattle.redo_compare.specs.LogChanges.{diagnostics_in, earlier_number}
use Rattle.redo_compare.specs.Occurrences.{OccurrenceValue, first_source, occurrence_if, occurrences_from}
use Rattle.redo_compare.specs.Rounds.{left_after, new_since, occurs, same_key, same_source, unknown_in, without}
use Rattle.redo_diagnostics.specs.Diagnostic.{PartsValue, parts_of}
use Rattle.redo_json.specs.Build.{Request, build_events, build_values, changes_in, cpu_time, log_values, options_of, unknown_times, values_in}
use Rattle.redo_json.specs.Laws.{HasExactEntries, HasExactInputs, HasExactNumbers, HasExactUsage, HasFewEntries, IsExact, IsExactEntry, IsExactSigned, gone_count}

all-append : {A : Type 0} (P : A → Type 0) (xs ys : List A) → AllByRecursion P xs → AllByRecursion P ys → AllByRecursion P (xs ++ ys)
all-append P [] ys first last = last
all-append P (x ∷ xs) ys first last = (first.0, all-append P xs ys first.1 last)

-- ---- the statuses that are shown

abbrev ShowsExact : Event → Type 0
ShowsExact (EntryShown depth entry) = IsExactEntry entry
ShowsExact event = Unit {0}

module _ (logs : List Log) (options : Options) (exact : AllByRecursion HasExactEntries logs) where
  abbrev Exact : ViewState → Type 0
  Exact state = AllByRecursion ShowsExact state.events

  abbrev ShowsLog : ShowLog → Type 0
  ShowsLog show = (target : List ℕ) (depth : ℕ) (state : ViewState) → Exact state → Exact (show target depth state)

  entries_exact : (target : List ℕ) (all : List Log) → AllByRecursion HasExactEntries all
      → AllByRecursion IsExactEntry (entries_of_target target all)
  entries_exact target [] each = tt
  entries_exact target (log ∷ others) each = by (pointwise nat_eq target log.target) (entries_exact target others each.1)
    where
      by : (is : Bool) → AllByRecursion IsExactEntry (entries_of_target target others)
          → AllByRecursion IsExactEntry (if is then log.entries else entries_of_target target others)
      by true rest = each.0.statuses
      by false rest = rest

  one_more : (event : Event) (state : ViewState) → ShowsExact event → Exact state → Exact (append_event event state)
  one_more event state is so_far = all-append ShowsExact state.events (event ∷ []) so_far (is, tt)

  module _ (show : ShowLog) (shows : ShowsLog show) where
    mention_exact : (depth pid : ℕ) (how : How) (name : List ℕ) (state : ViewState) → Exact state
        → Exact (show_mention logs options show depth pid how name state)
    mention_exact depth pid how name state so_far = by (opens_here opening)
      where
        opening : Opening
        opening = mention_opening logs options name state

        line : (shown : Bool) → AllByRecursion ShowsExact (if shown then Mentioned depth pid how name opening ∷ [] else [])
        line true = (tt, tt)
        line false = tt

        mentioned : Exact (show_mention_line options depth pid how name opening state)
        mentioned = all-append ShowsExact state.events (mention_events options depth pid how name opening state.named) so_far
            (line (options.debug_locks || not (is_among name state.named)))

        by : (opens : Bool) → Exact (if opens then show name (depth + 1) (show_mention_line options depth pid how name opening state)
            else show_mention_line options depth pid how name opening state)
        by true = shows name (depth + 1) (show_mention_line options depth pid how name opening state) mentioned
        by false = mentioned

    entry_exact : (depth : ℕ) (entry : Entry) (state : ViewState) → IsExactEntry entry → Exact state
        → Exact (show_entry logs options show depth entry state)
    entry_exact depth (Text line) state is so_far = one_more (EntryShown depth (Text line)) state tt so_far
    entry_exact depth (Mention pid how name) state is so_far = by (is_mention options how)
      where
        by : (counts : Bool) → Exact (if counts then show_mention logs options show depth pid how name state else state)
        by true = mention_exact depth pid how name state so_far
        by false = so_far
    entry_exact depth (Done pid status name) state is so_far = one_more (EntryShown depth (Done pid status name)) state is so_far
    entry_exact depth (Closing pid status) state is so_far = one_more (EntryShown depth (Closing pid status)) state is so_far
    entry_exact depth (Note pid kind text) state is so_far = one_more (EntryShown depth (Note pid kind text)) state tt so_far

    all_exact : (depth : ℕ) (entries : List Entry) (state : ViewState) → AllByRecursion IsExactEntry entries → Exact state
        → Exact (show_entries logs options show depth entries state)
    all_exact depth [] state each so_far = so_far
    all_exact depth (entry ∷ entries) state each so_far =
        all_exact depth entries (show_entry logs options show depth entry state) each.1 (entry_exact depth entry state each.0 so_far)

  within_exact : (levels : ℕ) → ShowsLog (show_log_within logs options levels)
  unfolding show_log_within
  within_exact zero target depth state so_far = so_far
  within_exact (suc levels) target depth state so_far =
      let inner = show_log_within logs options levels in
      one_more (LogEnds depth) (show_entries logs options inner depth (entries_of_target target logs) (begin_log target state)) tt
      (all_exact inner (within_exact levels) depth (entries_of_target target logs) (begin_log target state)
      (entries_exact target logs exact) so_far)

  log_exact : ShowsLog (show_log logs options)
  unfolding show_log
  log_exact target depth state so_far = within_exact (length logs + 1) target depth state so_far

  target_exact : (target : List ℕ) (state : ViewState) → Exact state → Exact (show_target logs options target state)
  target_exact target state so_far = by (is_among target state.opened)
    where
      by : (again : Bool) → Exact (if again then state
          else show_log logs options target 1 (append_event (request_event logs target) state))
      by true = so_far
      by false = log_exact target 1 (append_event (request_event logs target) state)
          (one_more (request_event logs target) state tt so_far)

  targets_exact : (targets : List (List ℕ)) (state : ViewState) → Exact state → Exact (show_targets logs options targets state)
  targets_exact [] state so_far = so_far
  targets_exact (target ∷ targets) state so_far =
      targets_exact targets (show_target logs options target state) (target_exact target state so_far)

  events_exact : (requested : List (List ℕ)) → AllByRecursion ShowsExact (shown_events logs options requested)
  events_exact requested = targets_exact requested (record { named = []; opened = []; events = [] }) tt

-- ---- the status of a target

first_exact : {A : Type 0} (f : A → Option ℤ) (P : A → Type 0) → ((x : A) → P x → IsExactSigned (f x)) → (xs : List A)
    → AllByRecursion P xs → IsExactSigned (slice_get (filter_map f xs) 0)
first_exact f P exact [] all = tt
first_exact f P exact (x ∷ xs) all = by (f x) (exact x all.0) (first_exact f P exact xs all.1)
  where
    by : (found : Option ℤ) → IsExactSigned found → IsExactSigned (slice_get (filter_map f xs) 0)
        → IsExactSigned (slice_get (cons_option found (filter_map f xs)) 0)
    by None here rest = rest
    by (Some status) here rest = here

closing_exact : (entry : Entry) → IsExactEntry entry → IsExactSigned (closing_status entry)
closing_exact (Text line) is = tt
closing_exact (Mention pid how name) is = tt
closing_exact (Done pid status name) is = tt
closing_exact (Closing pid status) is = is
closing_exact (Note pid kind text) is = tt

done_exact : (logs : List Log) (number : ℕ) (event : Event) → ShowsExact event → IsExactSigned (done_status logs number event)
done_exact logs number (Requested name opening) is = tt
done_exact logs number (Mentioned depth pid how name opening) is = tt
done_exact logs number (EntryShown depth (Text line)) is = tt
done_exact logs number (EntryShown depth (Mention pid how name)) is = tt
done_exact logs number (EntryShown depth (Done pid status name)) is = by (is_number number (log_number name logs))
  where
    by : (same : Bool) → IsExactSigned (status_if same status)
    by true = is
    by false = tt
done_exact logs number (EntryShown depth (Closing pid status)) is = tt
done_exact logs number (EntryShown depth (Note pid kind text)) is = tt
done_exact logs number (LogEnds depth) is = tt

either_exact : (one other : Option ℤ) → IsExactSigned one → IsExactSigned other → IsExactSigned (option_or one other)
either_exact None other first second = second
either_exact (Some status) other first second = first

entries_at_exact : (number : ℕ) (logs : List Log) → AllByRecursion HasExactEntries logs
    → AllByRecursion IsExactEntry (entries_at number logs) × (length (entries_at number logs) ≤ 2 ^ 53)
entries_at_exact number [] all = (tt, omega arith)
entries_at_exact zero (log ∷ logs) all = (all.0.statuses, all.0.few)
entries_at_exact (suc number) (log ∷ logs) all = entries_at_exact number logs all.1

status_exact : (logs : List Log) (events : List Event) (number : ℕ) → AllByRecursion HasExactEntries logs
    → AllByRecursion ShowsExact events → IsExactSigned (target_status logs events number)
status_exact logs events number exact shown =
    either_exact _ _ (first_exact closing_status IsExactEntry closing_exact (entries_at number logs) (entries_at_exact number logs exact).0)
    (first_exact (done_status logs number) ShowsExact (done_exact logs number) events shown)

-- ---- the other numbers

texts_few : (entries : List Entry) → length (texts_of entries) ≤ length entries
texts_few [] = omega arith
texts_few (entry ∷ entries) = by (text_of entry) (texts_few entries)
  where
    by : (text : Option (List ℕ)) → length (texts_of entries) ≤ length entries
        → length (cons_option text (texts_of entries)) ≤ suc (length entries)
    by None few = omega (arith, few)
    by (Some text) few = omega (arith, few)

item_is : {A : Type 0} (P : A → Type 0) (xs : List A) (n : ℕ) (other : A) → AllByRecursion P xs → P other → P (slice_index_or xs n other)
item_is P [] n other all is = is
item_is P (x ∷ xs) zero other all is = all.0
item_is P (x ∷ xs) (suc n) other all is = item_is P xs n other all.1 is

time_exact : (time : Option ℕ) → IfSome time IsInRange → IsExact time
time_exact None is = tt
time_exact (Some time) is = let low = is.1 in omega (arith, low)

cpu_exact : (usage : Option Usage) → IfSome usage HasExactUsage → IsExact (option_map cpu_time usage)
cpu_exact None is = tt
cpu_exact (Some usage) is = let user = is.user in let system = is.system in omega (arith, user, system)

peak_exact : (usage : Option Usage) → IfSome usage HasExactUsage → IsExact (option_map (λ (u : Usage). u.peak_kb) usage)
peak_exact None is = tt
peak_exact (Some usage) is = let peak = is.peak in omega (arith, peak)

-- ---- what is gone

entries_few : (number : ℕ) (logs : List Log) → AllByRecursion HasFewEntries logs → length (entries_at number logs) < 2 ^ 53
entries_few number [] few = omega arith
entries_few zero (log ∷ logs) few = few.0
entries_few (suc number) (log ∷ logs) few = entries_few number logs few.1

unknown_few : (same : OccurrenceValue → OccurrenceValue → Bool) (left now : List OccurrenceValue)
    → length (unknown_in same left now) ≤ length now
unknown_few same left [] = omega arith
unknown_few same left (one ∷ others) =
    by (occurs same one left) (unknown_few same (without same one left) others) (unknown_few same left others)
  where
    by : (known : Bool) → length (unknown_in same (without same one left) others) ≤ length others
        → length (unknown_in same left others) ≤ length others
        → length (if known then unknown_in same (without same one left) others else one ∷ unknown_in same left others)
        ≤ suc (length others)
    by true fewer more = omega (arith, fewer)
    by false fewer more = omega (arith, more)

new_few : (earlier now : List OccurrenceValue) → length (new_since earlier now) ≤ length now
new_few earlier now =
    let first = unknown_few same_source earlier now in
    let second = unknown_few same_key (left_after same_source earlier now) (unknown_in same_source earlier now) in
    omega (arith, first, second)

occurrences_few : (position : ℕ) (lines : List (List ℕ)) → length (occurrences_from position lines) ≤ length lines
occurrences_few position [] = omega arith
occurrences_few position (line ∷ lines) = by (parts_of line) (occurrences_few (suc position) lines)
  where
    by : (found : Option PartsValue) → length (occurrences_from (suc position) lines) ≤ length lines
        → length (occurrence_if position found (first_source lines) (occurrences_from (suc position) lines)) ≤ suc (length lines)
    by None few = omega (arith, few)
    by (Some value) few = omega (arith, few)

gone_few : (earlier : List Log) (now : List OccurrenceValue) (number : Option ℕ) → AllByRecursion HasFewEntries earlier
    → length (new_since now (all_or_none (option_map (diagnostics_in earlier) number))) < 2 ^ 53
gone_few earlier now None few = let none = new_few now [] in omega (arith, none)
gone_few earlier now (Some number) few =
    let gone = new_few now (diagnostics_in earlier number) in
    let found = occurrences_few 0 (texts_of (entries_at number earlier)) in
    let texts = texts_few (entries_at number earlier) in
    let entries = entries_few number earlier few in
    omega (arith, gone, found, texts, entries)

gone_exact : (baseline : Option BaselineValue) (logs : List Log) (node : Node)
    → IfSome baseline (λ (some : BaselineValue). AllByRecursion HasFewEntries some.logs)
    → IsExact (gone_count (changes_in baseline logs node))
gone_exact None logs node few = tt
gone_exact (Some baseline) logs node few =
    gone_few baseline.logs (diagnostics_in logs node.number) (earlier_number baseline.logs logs node.number) few

module _ (request : Request) (logs : List Log) (requested : List (List ℕ)) (inputs : HasExactInputs request logs) where
  abbrev node_at : ℕ → Contents → Contents → Node
  node_at number inside rest = node_of logs (target_status logs (build_events request logs requested)) None number inside rest

  value_exact : (parent : Option (List ℕ)) (number : ℕ) (inside rest : Contents)
      → HasExactNumbers (log_values request logs parent (node_at number inside rest))
  value_exact parent number inside rest =
      let times = item_is AreInRange request.times number unknown_times inputs.times (tt, tt) in
      let usage = item_is (λ (facts : RecipeFacts). IfSome facts.usage HasExactUsage) request.facts number nothing inputs.usage tt in
      let few = (entries_at_exact number logs inputs.entries).1 in
      let texts = texts_few (entries_at number logs) in (
        status_exact logs (build_events request logs requested) number inputs.entries
            (events_exact logs (options_of request) inputs.entries requested),
        time_exact (slice_index_or request.times number unknown_times).began times.0,
        time_exact (slice_index_or request.times number unknown_times).ended times.1,
        cpu_exact (slice_index_or request.facts number nothing).usage usage,
        peak_exact (slice_index_or request.facts number nothing).usage usage,
        omega (arith, few, texts),
        gone_exact request.baseline logs (node_at number inside rest) inputs.baseline,
      )

  contents_exact : (parent : Option (List ℕ)) (contents : Contents)
      → AllByRecursion HasExactNumbers
      (values_in request logs (target_status logs (build_events request logs requested)) parent contents)
  contents_exact parent Nothing = tt
  contents_exact parent (Shown event rest) = contents_exact parent rest
  contents_exact parent (Opened event number inside rest) = (
    value_exact parent number inside rest,
    all-append HasExactNumbers
        (values_in request logs (target_status logs (build_events request logs requested)) (Some (target_at logs number)) inside)
        (values_in request logs (target_status logs (build_events request logs requested)) parent rest)
        (contents_exact (Some (target_at logs number)) inside) (contents_exact parent rest),
  )

  pub build_exact : AllByRecursion HasExactNumbers (build_values request logs requested)
  build_exact = contents_exact None (contents_of (build_events request logs requested))
