-- How many bytes of logs the tree shows.
use Rattle.std.proofs.Common.{◌≡◌, ℕ, zero, suc, ◌+◌, ◌-◌, ◌*◌, ◌<◌, ◌≤◌, ◌^◌, Bool, true, false, ℤ, List, [], ◌∷◌, ◌++◌, Option, None, Some, cond, leb, length, map, max, min, refl, sym, ◌∙◌, ap, subst, arith}
use Rattle.std.specs.Prelude.{◌&&◌, ◌==◌, ◌||◌, nat_eq, nat_lt, not, sum_by, if◌then◌else◌}
use Rattle.std.specs.Cmp.Lexicographic.{pointwise}
use Rattle.std.specs.List.{AllByRecursion, IsDistinct, flat_map, position_from}
use Rattle.std.proofs.lemmas.Bool.{eq-eqb, eqb-true, leb-false, leb-true, ltb-false, ltb-true}
use Rattle.std.proofs.lemmas.Cmp.{nat_list_eq_equiv}
use Rattle.std.proofs.lemmas.Grind.{flat_map-append}
use Rattle.std.proofs.lemmas.Iterator.Adapters.{position_from-zero}
use Rattle.std.proofs.lemmas.List.{length-append, length-map, map-append}
use Rattle.std.proofs.lemmas.List.Quantifiers.{position-Some}
use Rattle.std.proofs.lemmas.List.Sums.{sum_by-append, sum_by-cons}
use Rattle.std.proofs.lemmas.Option.{none-some}
use Rattle.redo_line.specs.declared.entry.Entry.TheVariants.{Text, Mention, Done, Closing, Note}
use Rattle.redo_line.specs.Lines.{with_line_feed}
use Rattle.redo_logs.specs.Logs.{Log, log_number, targets_of}
use Rattle.redo_options.specs.declared.options.Options.{Options}
use Rattle.redo_view.specs.declared.event.Opening.{Opening}
use Rattle.redo_view.specs.declared.event.Opening.TheVariants.{NotOpened, OpenedBefore, OpensHere}
use Rattle.redo_view.specs.Event.{Event}
use Rattle.redo_view.specs.Event.Event.{Requested, Mentioned, EntryShown, LogEnds}
use Rattle.redo_view.specs.Laws.{opened_name}
use Rattle.redo_view.specs.LogLines.{lines_left_after, lines_of_log}
use Rattle.redo_html.specs.Parts.{Part}
use Rattle.redo_outline.specs.declared.node.Node.{Node}
use Rattle.redo_outline.specs.declared.node.RunTimes.{RunTimes}
use Rattle.redo_outline.specs.Contents.{Contents, contents_from, contents_of, innermost, number_of_opening, opened_number, with_event, with_first}
use Rattle.redo_outline.specs.Contents.Contents.{Nothing, Shown, Opened}
use Rattle.redo_outline.specs.Facts.{entries_at, saturated, target_at, target_status, text_size}
use Rattle.redo_outline.specs.Facts as facts
use Rattle.redo_outline.specs.Laws.{events_of}
use Rattle.redo_outline.specs.Outline.{log_count, node_of, nodes_of, outline_of, with_times}
use Rattle.redo_trim.specs.declared.limit.Gauge.{Gauge}
use Rattle.redo_trim.specs.declared.limit.Limit.{Limit}
use Rattle.redo_trim.specs.Laws.{head_and_tail}
use Rattle.redo_trim.specs.Trim.{after_shown, gauge_of, kept, limit_of, no_limit, trim, with_shown_all}
use Rattle.redo_page.specs.Laws.{PositionedLine, event_lines, positioned_bytes, positioned_lines}
use Rattle.redo_page.proofs.PartNames.{log_bytes, unmoved}
use Rattle.redo_page.specs.Page.{Request, options_of, page_contents, page_events, page_outline, run_times}
use Rattle.redo_page.specs.Limits.{at_most, bytes_shown, cap_for, fit_in, highest_cap, limit_at, limit_if, limits_of, min_cap, position_limit, tree_limits}
use Rattle.redo_page.specs.Tree.{Build, articles, is_moved, is_moved_if, node_at, position_of}
use Rattle.redo_page.specs.Private.Streaming.{streamed_tree}
use Rattle.redo_page.proofs.LimitLemmas.{highest_fits, limit_in, limits_from}
use Rattle.redo_page.proofs.OpeningLemmas.{AreNamed, ArePlaced, NamesItsLog, contents_named, target_named, trim_named}
use Rattle.redo_page.proofs.PageIds.{outline_counted}
use Rattle.redo_page.proofs.PageNames.{page_placed}
use Rattle.redo_page.proofs.PagePartLemmas.{page_tree}
use Rattle.redo_page.proofs.PageLines.{Have, direct_lines, entry_texts, positioned_at, printed_lines, whole_has_none}
use Rattle.redo_page.proofs.TreeItems.{tree_is_streamed}
use Rattle.redo_page.proofs.TreeNames.{event_name}
use Rattle.redo_page.proofs.TreeLines.{bytes-append, tree_text}

-- ---- each log is opened once

-- The events that open no log have no number.
abbrev ShowsNone : Contents → Type 0
ShowsNone Nothing = Unit {0}
ShowsNone (Shown event rest) = (opened_number event ≡ None) × ShowsNone rest
ShowsNone (Opened event number inside rest) = ShowsNone inside × ShowsNone rest

abbrev AllShow : List Contents → Type 0
AllShow contents = AllByRecursion ShowsNone contents

first_shows : (event : Event) (number : Option ℕ) → opened_number event ≡ number → (contents : List Contents) → AllShow contents
    → AllShow (with_first event number contents)
first_shows event None is [] all = tt
first_shows event None is (inner ∷ outer) all = ((is, all.0), all.1)
first_shows event (Some number) is [] all = tt
first_shows event (Some number) is (inner ∷ []) all = ((all.0, tt), tt)
first_shows event (Some number) is (inner ∷ next ∷ outer) all = ((all.0, all.1.0), all.1.1)

event_shows : (event : Event) (contents : List Contents) → AllShow contents → AllShow (with_event event contents)
event_shows (Requested name opening) contents all = first_shows (Requested name opening) (number_of_opening opening) refl contents all
event_shows (Mentioned depth pid how name opening) contents all =
    first_shows (Mentioned depth pid how name opening) (number_of_opening opening) refl contents all
event_shows (EntryShown depth entry) contents all = first_shows (EntryShown depth entry) None refl contents all
event_shows (LogEnds depth) contents all = (tt, all)

events_show : (events : List Event) → AllShow (contents_from events)
events_show [] = (tt, tt)
events_show (event ∷ events) = event_shows event (contents_from events) (events_show events)

contents_show : (events : List Event) → ShowsNone (contents_of events)
contents_show events = by (contents_from events) (events_show events)
  where
    by : (contents : List Contents) → AllShow contents → ShowsNone (innermost contents)
    by [] all = tt
    by (inner ∷ outer) all = all.0

none_name : (event : Event) → opened_number event ≡ None → opened_name event ≡ []
none_name (Requested name opening) is = by opening is
  where
    by : (opening : Opening) → number_of_opening opening ≡ None → opened_name (Requested name opening) ≡ []
    by NotOpened none = refl
    by (OpenedBefore number) none = refl
    by (OpensHere number) none = absurd (none-some number (sym none))
none_name (Mentioned depth pid how name opening) is = by opening is
  where
    by : (opening : Opening) → number_of_opening opening ≡ None → opened_name (Mentioned depth pid how name opening) ≡ []
    by NotOpened none = refl
    by (OpenedBefore number) none = refl
    by (OpensHere number) none = absurd (none-some number (sym none))
none_name (EntryShown depth entry) is = refl
none_name (LogEnds depth) is = refl

some_name : (logs : List Log) (event : Event) (number : ℕ) → opened_number event ≡ Some number → NamesItsLog logs event
    → opened_name event ≡ target_at logs number ∷ []
some_name logs (Requested name opening) number is names = by opening is names
  where
    by : (opening : Opening) → number_of_opening opening ≡ Some number → NamesItsLog logs (Requested name opening)
        → opened_name (Requested name opening) ≡ target_at logs number ∷ []
    by NotOpened some named = absurd (none-some number some)
    by (OpenedBefore other) some named = absurd (none-some number some)
    by (OpensHere other) some named = ap (λ (n : List ℕ). n ∷ []) (sym (target_named logs name number (named ∙ some)))
some_name logs (Mentioned depth pid how name opening) number is names = by opening is names
  where
    by : (opening : Opening) → number_of_opening opening ≡ Some number → NamesItsLog logs (Mentioned depth pid how name opening)
        → opened_name (Mentioned depth pid how name opening) ≡ target_at logs number ∷ []
    by NotOpened some named = absurd (none-some number some)
    by (OpenedBefore other) some named = absurd (none-some number some)
    by (OpensHere other) some named = ap (λ (n : List ℕ). n ∷ []) (sym (target_named logs name number (named ∙ some)))
some_name logs (EntryShown depth entry) number is names = absurd (none-some number is)
some_name logs (LogEnds depth) number is names = absurd (none-some number is)

-- The names of the logs that are opened in some contents, in order.
abbrev names_of : List Log → List Node → List (List ℕ)
names_of logs nodes = map (λ (node : Node). target_at logs node.number) nodes

module _ (logs : List Log) (status : ℕ → Option ℤ) where
  names_opened : (parent : Option ℕ) (position depth : ℕ) (contents : Contents) → AreNamed logs contents → ShowsNone contents
      → flat_map opened_name (events_of depth contents) ≡ names_of logs (nodes_of logs status parent position contents)
  names_opened parent position depth Nothing named shows = refl
  names_opened parent position depth (Shown event rest) named shows =
      ap (λ (t : List (List ℕ)). t ++ flat_map opened_name (events_of depth rest)) (none_name event shows.0)
      ∙ names_opened parent position depth rest named.1 shows.1
  names_opened parent position depth (Opened event number inside rest) named shows =
      let inner = nodes_of logs status (Some position) (suc position) inside in
      let others = nodes_of logs status parent (suc position + log_count inside) rest in
      ap (λ (t : List (List ℕ)). t ++ flat_map opened_name (events_of (depth + 1) inside ++ LogEnds (depth + 1) ∷ events_of depth rest))
      (some_name logs event number named.0 named.1)
      ∙ ap (λ (t : List (List ℕ)). target_at logs number ∷ t)
      (flat_map-append opened_name (events_of (depth + 1) inside) (LogEnds (depth + 1) ∷ events_of depth rest)
      ∙ ap (λ (t : List (List ℕ)). t ++ flat_map opened_name (events_of depth rest))
      (names_opened (Some position) (suc position) (depth + 1) inside named.2 shows.0)
      ∙ ap (λ (t : List (List ℕ)). names_of logs inner ++ t)
      (names_opened parent (suc position + log_count inside) depth rest named.3 shows.1)
      ∙ sym (map-append (λ (node : Node). target_at logs node.number) inner others))

name_at : (logs : List Log) (nodes : List Node) (P : List ℕ → Type 0) (position : ℕ) → position < length nodes
    → AllByRecursion P (names_of logs nodes) → P (target_at logs (node_at nodes position).number)
name_at logs [] P position below all = absurd (omega (arith, below))
name_at logs (node ∷ nodes) P zero below all = all.0
name_at logs (node ∷ nodes) P (suc position) below all = name_at logs nodes P position (omega (arith, below)) all.1

-- If the names differ, the first log with the number of a log is this log.
position_once : (logs : List Log) (nodes : List Node) (from position : ℕ) → IsDistinct (pointwise nat_eq) (names_of logs nodes)
    → position < length nodes
    → position_from (λ (node : Node). node.number == (node_at nodes position).number) from nodes ≡ Some (from + position)
unfolding IsDistinct
position_once logs [] from position distinct below = absurd (omega (arith, below))
position_once logs (node ∷ nodes) from zero distinct below =
    ap (λ (b : Bool). cond b (Some from) (position_from (λ (other : Node). other.number == node.number) (from + 1) nodes))
    (eq-eqb node.number node.number refl) ∙ ap Some (omega arith)
position_once logs (node ∷ nodes) from (suc position) distinct below =
    by (node.number == (node_at nodes position).number) refl
    (position_once logs nodes (from + 1) position distinct.1 (omega (arith, below)))
  where
    by : (same : Bool) → (node.number == (node_at nodes position).number) ≡ same
        → position_from (λ (other : Node). other.number == (node_at nodes position).number) (from + 1) nodes ≡ Some (from + 1 + position)
        → cond same (Some from) (position_from (λ (other : Node). other.number == (node_at nodes position).number) (from + 1) nodes)
        ≡ Some (from + suc position)
    by true is later =
        let equal : node.number ≡ (node_at nodes position).number = eqb-true node.number (node_at nodes position).number is in
        let differs : pointwise nat_eq (target_at logs node.number) (target_at logs (node_at nodes position).number) ≡ false =
        name_at logs nodes (λ name. pointwise nat_eq (target_at logs node.number) name ≡ false) position (omega (arith, below))
        distinct.0 in
        let itself : pointwise nat_eq (target_at logs node.number) (target_at logs (node_at nodes position).number) ≡ true =
        subst (λ (n : ℕ). pointwise nat_eq (target_at logs node.number) (target_at logs n) ≡ true) equal
        (nat_list_eq_equiv.refl (target_at logs node.number)) in
        absurd (cc)
    by false is later = later ∙ ap Some (omega arith)

found_once : (logs : List Log) (nodes : List Node) (position : ℕ) → IsDistinct (pointwise nat_eq) (names_of logs nodes)
    → position < length nodes → position_of nodes (node_at nodes position).number ≡ Some position
found_once logs nodes position distinct below =
    position_from-zero (λ (node : Node). node.number == (node_at nodes position).number) nodes
    ∙ position_once logs nodes 0 position distinct below ∙ ap Some (omega arith)

-- ---- the bytes of one log

shown_bytes : Option ℕ → ℕ → ℕ
shown_bytes cap bytes = at_most cap bytes

module _ (build : Build) (cap : ℕ) where
  limit_found : (first count k : ℕ) → k < count
      → limit_of (limits_from build cap first count) k ≡ limit_in build cap (first + k)
  limit_found first zero k below = absurd (omega (arith, below))
  limit_found first (suc count) zero below = ap (limit_in build cap) (omega arith)
  limit_found first (suc count) (suc k) below =
      limit_found (first + 1) count k (omega (arith, below)) ∙ ap (limit_in build cap) (omega arith)

-- The rest of a log has at most the bytes that it may show.
abbrev Bounds : Type 0
Bounds = (limit : Limit) (lines : List (List ℕ)) → text_size (head_and_tail limit lines) ≤ limit.head + (text_size lines - limit.tail)

position_bound : (bounds : Bounds) (build : Build) (cap position : ℕ) (lines : List (List ℕ)) → is_moved build position ≡ false
    → (node_at build.nodes position).bytes ≡ text_size lines
    → text_size (head_and_tail (position_limit build.articles build.nodes cap position) lines) ≤ min (text_size lines) cap
position_bound bounds build cap position lines moved size =
    by (nat_lt cap (node_at build.nodes position).bytes) (is_moved build position) refl moved
  where
    by : (above is : Bool) → nat_lt cap (node_at build.nodes position).bytes ≡ above → is ≡ false
        → text_size (head_and_tail (if above && not is then limit_at cap (node_at build.nodes position).bytes else no_limit) lines)
        ≤ min (text_size lines) cap
    by above true is wrong = absurd (cc)
    by true false is none =
        let more : cap < (node_at build.nodes position).bytes = ltb-true cap (node_at build.nodes position).bytes is in
        let bound = bounds (limit_at cap (node_at build.nodes position).bytes) lines in
        omega (arith, more, bound, size)
    by false false is none =
        let less : (node_at build.nodes position).bytes ≤ cap = ltb-false cap (node_at build.nodes position).bytes is in
        let bound = bounds no_limit lines in
        omega (arith, less, bound, size)

-- ---- all bytes

feed_size : (lines : List (List ℕ)) → length (flat_map with_line_feed lines) ≡ text_size lines
feed_size [] = refl
feed_size (line ∷ lines) =
    length-append (with_line_feed line) (flat_map with_line_feed lines)
    ∙ ap (λ (n : ℕ). n + length (flat_map with_line_feed lines)) (length-append line (10 ∷ []))
    ∙ ap (λ (n : ℕ). length line + 1 + n) (feed_size lines) ∙ sym (sum_by-cons (λ text. length text + 1) line lines)

module _ (build : Build) where
  -- The bytes of the lines directly in a log, unless they are in an article.
  abbrev own_size : Option ℕ → List (List ℕ) → ℕ
  own_size around lines = if is_moved_if build around then 0 else text_size lines

  abbrev size : List PositionedLine → ℕ
  size lines = length (positioned_bytes (unmoved build lines))

  -- The bytes of the logs that are opened in some contents.
  abbrev log_sizes : ℕ → Contents → ℕ
  log_sizes position Nothing = 0
  log_sizes position (Shown event rest) = log_sizes position rest
  log_sizes position (Opened event number inside rest) =
      own_size (Some position) (direct_lines inside)
      + (log_sizes (suc position) inside + log_sizes (suc position + log_count inside) rest)

  size-append : (lines others : List PositionedLine) → size (lines ++ others) ≡ size lines + size others
  size-append lines others = ap length (bytes-append build lines others)
      ∙ length-append (positioned_bytes (unmoved build lines)) (positioned_bytes (unmoved build others))

  own-append : (around : Option ℕ) (lines others : List (List ℕ))
      → own_size around (lines ++ others) ≡ own_size around lines + own_size around others
  own-append around lines others = by (is_moved_if build around)
    where
      by : (moved : Bool) → (if moved then 0 else text_size (lines ++ others))
          ≡ (if moved then 0 else text_size lines) + (if moved then 0 else text_size others)
      by true = refl
      by false = sum_by-append (λ text. length text + 1) lines others

  none_size : (around : Option ℕ) → 0 ≡ own_size around []
  none_size around = by (is_moved_if build around)
    where
      by : (moved : Bool) → 0 ≡ (if moved then 0 else text_size [])
      by true = refl
      by false = refl

  event_size : (around : Option ℕ) (event : Event) → size (positioned_at around event) ≡ own_size around (event_lines event)
  event_size around (EntryShown depth (Text line)) = by (is_moved_if build around)
    where
      by : (moved : Bool) → length (positioned_bytes (if not moved then record { position = around; line = line } ∷ [] else []))
          ≡ (if moved then 0 else text_size (line ∷ []))
      by true = refl
      by false = feed_size (line ∷ [])
  event_size around (Requested name opening) = none_size around
  event_size around (Mentioned depth pid how name opening) = none_size around
  event_size around (EntryShown depth (Mention pid how name)) = none_size around
  event_size around (EntryShown depth (Done pid status name)) = none_size around
  event_size around (EntryShown depth (Closing pid status)) = none_size around
  event_size around (EntryShown depth (Note pid kind text)) = none_size around
  event_size around (LogEnds depth) = none_size around

  all_sizes : (around : Option ℕ) (position : ℕ) (contents : Contents)
      → size (positioned_lines around position contents) ≡ own_size around (direct_lines contents) + log_sizes position contents
  all_sizes around position Nothing = let none = none_size around in omega (arith, none)
  all_sizes around position (Shown event rest) =
      let both = size-append (positioned_at around event) (positioned_lines around position rest) in
      let own = event_size around event in
      let others = all_sizes around position rest in
      let joined = own-append around (event_lines event) (direct_lines rest) in
      omega (arith, both, own, others, joined)
  all_sizes around position (Opened event number inside rest) =
      let both = size-append (positioned_lines (Some position) (suc position) inside)
      (positioned_lines around (suc position + log_count inside) rest) in
      let inner = all_sizes (Some position) (suc position) inside in
      let others = all_sizes around (suc position + log_count inside) rest in
      omega (arith, both, inner, others)

-- ---- the bytes that each log may show

abbrev printed_size : List Log → ℕ → ℕ
printed_size logs number = text_size (facts.texts_of (entries_at number logs))

-- The bytes that the logs that are opened in some contents may show.
abbrev most : List Log → Option ℕ → Contents → ℕ
most logs cap Nothing = 0
most logs cap (Shown event rest) = most logs cap rest
most logs cap (Opened event number inside rest) =
    at_most cap (saturated (printed_size logs number)) + (most logs cap inside + most logs cap rest)

most_nodes : (logs : List Log) (status : ℕ → Option ℤ) (cap : Option ℕ) (times : List RunTimes) (parent : Option ℕ) (position : ℕ)
    (contents : Contents)
    → bytes_shown cap (map (with_times times) (nodes_of logs status parent position contents)) ≡ most logs cap contents
most_nodes logs status cap times parent position Nothing = refl
most_nodes logs status cap times parent position (Shown event rest) = most_nodes logs status cap times parent position rest
most_nodes logs status cap times parent position (Opened event number inside rest) =
    let inner = nodes_of logs status (Some position) (suc position) inside in
    let others = nodes_of logs status parent (suc position + log_count inside) rest in
    let node = with_times times (node_of logs status parent number inside rest) in
    let bytes = λ (n : Node). at_most cap n.bytes in
    sum_by-cons bytes node (map (with_times times) (inner ++ others))
    ∙ ap (λ (n : ℕ). bytes node + n)
    (ap (sum_by bytes) (map-append (with_times times) inner others)
    ∙ sum_by-append bytes (map (with_times times) inner) (map (with_times times) others)
    ∙ ap (λ (n : ℕ). n + bytes_shown cap (map (with_times times) others))
    (most_nodes logs status cap times (Some position) (suc position) inside)
    ∙ ap (λ (n : ℕ). most logs cap inside + n) (most_nodes logs status cap times parent (suc position + log_count inside) rest))

most_shown : (logs : List Log) (cap : Option ℕ) (events : List Event) (rest : Contents)
    → most logs cap (with_shown_all events rest) ≡ most logs cap rest
most_shown logs cap [] rest = refl
most_shown logs cap (event ∷ events) rest = most_shown logs cap events rest

most_trimmed : (logs : List Log) (cap : Option ℕ) (limits : List Limit) (gauges : List Gauge) (contents : Contents)
    → most logs cap (trim limits gauges contents) ≡ most logs cap contents
most_trimmed logs cap limits gauges Nothing = refl
most_trimmed logs cap limits gauges (Shown event rest) =
    most_shown logs cap (kept gauges event) (trim limits (after_shown event gauges) rest)
    ∙ most_trimmed logs cap limits (after_shown event gauges) rest
most_trimmed logs cap limits gauges (Opened event number inside rest) =
    let own = at_most cap (saturated (printed_size logs number)) in
    ap (λ (n : ℕ). own + (n + most logs cap (trim limits gauges rest)))
    (most_trimmed logs cap limits (gauge_of limits number ∷ gauges) inside)
    ∙ ap (λ (n : ℕ). own + (most logs cap inside + n)) (most_trimmed logs cap limits gauges rest)

-- The whole has no lines directly, and none are left then.
whole_trimmed : (limits : List Limit) (contents : Contents) → direct_lines contents ≡ [] → direct_lines (trim limits [] contents) ≡ []
whole_trimmed limits Nothing none = refl
whole_trimmed limits (Shown (Requested name opening) rest) none = whole_trimmed limits rest none
whole_trimmed limits (Shown (Mentioned depth pid how name opening) rest) none = whole_trimmed limits rest none
whole_trimmed limits (Shown (EntryShown depth (Text line)) rest) none = absurd (cc)
whole_trimmed limits (Shown (EntryShown depth (Mention pid how name)) rest) none = whole_trimmed limits rest none
whole_trimmed limits (Shown (EntryShown depth (Done pid status name)) rest) none = whole_trimmed limits rest none
whole_trimmed limits (Shown (EntryShown depth (Closing pid status)) rest) none = whole_trimmed limits rest none
whole_trimmed limits (Shown (EntryShown depth (Note pid kind text)) rest) none = whole_trimmed limits rest none
whole_trimmed limits (Shown (LogEnds depth) rest) none = whole_trimmed limits rest none
whole_trimmed limits (Opened event number inside rest) none = whole_trimmed limits rest none

number_below : (logs : List Log) (name : List ℕ) (number : ℕ) → log_number name logs ≡ Some number → number < length logs
number_below logs name number is =
    subst (λ (n : ℕ). number < n) (length-map logs (λ (log : Log). log.target))
    (position-Some (pointwise nat_eq name) (targets_of logs) number [] is).0

module _ (logs : List Log) (build : Build) (cap : Option ℕ) (lines : ℕ → List (List ℕ))
    (bound : (position number : ℕ) → (node_at build.nodes position).number ≡ number → position < length build.nodes → number < length logs
    → is_moved build position ≡ false → text_size (lines number) ≤ at_most cap (saturated (printed_size logs number))) where
  own_bound : (position number : ℕ) (inside : Contents) → (node_at build.nodes position).number ≡ number
      → position < length build.nodes → number < length logs → direct_lines inside ≡ lines number
      → own_size build (Some position) (direct_lines inside) ≤ at_most cap (saturated (printed_size logs number))
  own_bound position number inside at below few are = by (is_moved build position) refl
    where
      by : (moved : Bool) → is_moved build position ≡ moved
          → (if moved then 0 else text_size (direct_lines inside)) ≤ at_most cap (saturated (printed_size logs number))
      by true is = omega arith
      by false is =
          subst (λ (l : List (List ℕ)). text_size l ≤ at_most cap (saturated (printed_size logs number))) (sym are)
          (bound position number at below few is)

  logs_bound : (position : ℕ) (contents : Contents) → AreNamed logs contents → ArePlaced build.nodes position contents
      → position + log_count contents ≤ length build.nodes → Have lines contents
      → log_sizes build position contents ≤ most logs cap contents
  logs_bound position Nothing named placed within have = omega arith
  logs_bound position (Shown event rest) named placed within have = logs_bound position rest named.1 placed within have
  logs_bound position (Opened event number inside rest) named placed within have =
      let name = event_name logs event number named.0 named.1 in
      let few = number_below logs name.0 number name.1 in
      let own = own_bound position number inside placed.0.number_is (omega (arith, within)) few have.1 in
      let inner = logs_bound (suc position) inside named.2 placed.1 (omega (arith, within)) have.2 in
      let others = logs_bound (suc position + log_count inside) rest named.3 placed.2 (omega (arith, within)) have.3 in
      omega (arith, own, inner, others)

-- ---- the cap

few_bytes : (nodes : List Node) → bytes_shown (Some 4096) nodes ≤ 4096 * length nodes
few_bytes [] = omega arith
few_bytes (node ∷ nodes) =
    let rest = few_bytes nodes in
    let all = sum_by-cons (λ (n : Node). at_most (Some 4096) n.bytes) node nodes in
    omega (arith, rest, all)

cap_bytes : (budget : ℕ) (nodes : List Node) → 0 < budget
    → bytes_shown (cap_for budget nodes) nodes ≤ max budget (4096 * length nodes)
cap_bytes budget nodes some = by (budget == 0) refl (fit_in None budget nodes) refl
  where
    capped : bytes_shown (Some (max min_cap (highest_cap budget nodes))) nodes ≤ max budget (4096 * length nodes)
    capped = which (leb 4096 (highest_cap budget nodes)) refl
      where
        which : (high : Bool) → leb 4096 (highest_cap budget nodes) ≡ high
            → bytes_shown (Some (max min_cap (highest_cap budget nodes))) nodes ≤ max budget (4096 * length nodes)
        which true is =
            let le = leb-true 4096 (highest_cap budget nodes) is in
            let same : highest_cap budget nodes ≡ max min_cap (highest_cap budget nodes) = omega (arith, le) in
            let fit = highest_fits budget nodes in
            subst (λ (c : ℕ). bytes_shown (Some c) nodes ≤ max budget (4096 * length nodes)) same (omega (arith, fit))
        which false is =
            let lt = leb-false 4096 (highest_cap budget nodes) is in
            let same : 4096 ≡ max min_cap (highest_cap budget nodes) = omega (arith, lt) in
            let few = few_bytes nodes in
            subst (λ (c : ℕ). bytes_shown (Some c) nodes ≤ max budget (4096 * length nodes)) same (omega (arith, few))

    by : (zero_is : Bool) → (budget == 0) ≡ zero_is → (fits : Bool) → fit_in None budget nodes ≡ fits
        → bytes_shown (if zero_is || fits then None else Some (max min_cap (highest_cap budget nodes))) nodes
        ≤ max budget (4096 * length nodes)
    by true is fits fit = let none : budget ≡ 0 = eqb-true budget 0 is in absurd (omega (arith, none, some))
    by false is true fit = let le = leb-true (bytes_shown None nodes) budget fit in omega (arith, le)
    by false is false fit = capped

-- ---- the tree

module _ (bounds : Bounds) (logs : List Log) (options : Options) (nodes : List Node) (budget : ℕ)
    (sizes : (position : ℕ) → position < length nodes
    → (node_at nodes position).bytes ≡ saturated (printed_size logs (node_at nodes position).number))
    (small : (number : ℕ) → text_size (lines_of_log number logs) < 2 ^ 64)
    (once : IsDistinct (pointwise nat_eq) (names_of logs nodes)) where
  abbrev build_of : Build
  build_of = record { logs = logs; options = options; nodes = nodes; articles = articles nodes }

  abbrev left_lines : ℕ → List (List ℕ)
  left_lines number = head_and_tail (limit_of (tree_limits logs nodes budget) number) (lines_of_log number logs)

  printed_is : (number : ℕ) → saturated (printed_size logs number) ≡ text_size (lines_of_log number logs)
  printed_is number =
      let same = ap text_size (printed_lines number logs) in
      let less = small number in
      omega (arith, same, less)

  log_bound : (position number : ℕ) → (node_at nodes position).number ≡ number → position < length nodes → number < length logs
      → is_moved build_of position ≡ false
      → text_size (left_lines number) ≤ at_most (cap_for budget nodes) (saturated (printed_size logs number))
  log_bound position number at below few moved = by (cap_for budget nodes)
    where
      by : (cap : Option ℕ)
          → text_size (head_and_tail (limit_of (limits_of (articles nodes) nodes cap (length logs)) number) (lines_of_log number logs))
          ≤ at_most cap (saturated (printed_size logs number))
      by None =
          let bound = bounds no_limit (lines_of_log number logs) in
          let is = printed_is number in
          omega (arith, bound, is)
      by (Some most_bytes) =
          let found : position_of nodes number ≡ Some position =
          ap (position_of nodes) (sym at) ∙ found_once logs nodes position once below in
          let start : 0 + number ≡ number = omega arith in
          let limit : limit_of (limits_from build_of most_bytes 0 (length logs)) number
          ≡ position_limit (articles nodes) nodes most_bytes position =
          limit_found build_of most_bytes 0 (length logs) number few
          ∙ ap (limit_in build_of most_bytes) start ∙ ap (limit_if (articles nodes) nodes most_bytes) found in
          let size : (node_at nodes position).bytes ≡ text_size (lines_of_log number logs) =
          sizes position below ∙ ap (λ (n : ℕ). saturated (printed_size logs n)) at ∙ printed_is number in
          let bound = position_bound bounds build_of most_bytes position (lines_of_log number logs) moved size in
          let is = printed_is number in
          subst (λ (l : Limit). text_size (head_and_tail l (lines_of_log number logs))
          ≤ at_most (Some most_bytes) (saturated (printed_size logs number))) (sym limit) (omega (arith, bound, is))

  -- The tree shows at most these bytes.
  tree_bytes : (contents : Contents) → 0 < budget → AreNamed logs (trim (tree_limits logs nodes budget) [] contents)
      → ArePlaced nodes 0 (trim (tree_limits logs nodes budget) [] contents)
      → 0 + log_count (trim (tree_limits logs nodes budget) [] contents) ≤ length nodes
      → Have left_lines (trim (tree_limits logs nodes budget) [] contents) → direct_lines contents ≡ []
      → most logs (cap_for budget nodes) contents ≡ bytes_shown (cap_for budget nodes) nodes
      → length (log_bytes (streamed_tree logs options nodes (trim (tree_limits logs nodes budget) [] contents)))
      ≤ max budget (4096 * length nodes)
  tree_bytes contents some named placed within have none all =
      let limits = tree_limits logs nodes budget in
      let shown = trim limits [] contents in
      let text = ap length (tree_text logs options nodes shown) in
      let sizes_are = all_sizes build_of None 0 shown in
      let own = ap text_size (whole_trimmed limits contents none) in
      let bound = logs_bound logs build_of (cap_for budget nodes) left_lines log_bound 0 shown named placed within have in
      let same = most_trimmed logs (cap_for budget nodes) limits [] contents in
      let last = cap_bytes budget nodes some in
      omega (arith, text, sizes_are, own, bound, same, all, last)

-- ---- nodes

timed_names : (logs : List Log) (times : List RunTimes) (nodes : List Node)
    → names_of logs (map (with_times times) nodes) ≡ names_of logs nodes
timed_names logs times [] = refl
timed_names logs times (node ∷ nodes) = ap (λ (t : List (List ℕ)). target_at logs node.number ∷ t) (timed_names logs times nodes)

abbrev HasSize : List Log → Node → Type 0
HasSize logs node = node.bytes ≡ saturated (printed_size logs node.number)

both_sized : (logs : List Log) (nodes others : List Node) → AllByRecursion (HasSize logs) nodes → AllByRecursion (HasSize logs) others
    → AllByRecursion (HasSize logs) (nodes ++ others)
both_sized logs [] others first last = last
both_sized logs (node ∷ nodes) others first last = (first.0, both_sized logs nodes others first.1 last)

nodes_sized : (logs : List Log) (status : ℕ → Option ℤ) (parent : Option ℕ) (position : ℕ) (contents : Contents)
    → AllByRecursion (HasSize logs) (nodes_of logs status parent position contents)
nodes_sized logs status parent position Nothing = tt
nodes_sized logs status parent position (Shown event rest) = nodes_sized logs status parent position rest
nodes_sized logs status parent position (Opened event number inside rest) = (
  refl,
  both_sized logs (nodes_of logs status (Some position) (suc position) inside)
      (nodes_of logs status parent (suc position + log_count inside) rest) (nodes_sized logs status (Some position) (suc position) inside)
      (nodes_sized logs status parent (suc position + log_count inside) rest),
)

timed_size : (logs : List Log) (times : List RunTimes) (nodes : List Node) → AllByRecursion (HasSize logs) nodes → (position : ℕ)
    → position < length (map (with_times times) nodes) → HasSize logs (node_at (map (with_times times) nodes) position)
timed_size logs times [] sized position below = absurd (omega (arith, below))
timed_size logs times (node ∷ nodes) sized zero below = sized.0
timed_size logs times (node ∷ nodes) sized (suc position) below = timed_size logs times nodes sized.1 position (omega (arith, below))

-- No log has 2^64 bytes.
lines_small : (logs : List Log) → AllByRecursion (λ (log : Log). text_size (facts.texts_of log.entries) < 2 ^ 64) logs → (number : ℕ)
    → text_size (lines_of_log number logs) < 2 ^ 64
lines_small [] small number = omega arith
lines_small (log ∷ logs) small zero = subst (λ (lines : List (List ℕ)). text_size lines < 2 ^ 64) (entry_texts log.entries) small.0
lines_small (log ∷ logs) small (suc number) = lines_small logs small.1 number

-- ---- the page

module _ (bounds : Bounds) (request : Request) (logs : List Log) (requested : List (List ℕ)) where
  abbrev page_nodes : List Node
  page_nodes = page_outline request logs requested

  abbrev events : List Event
  events = page_events request logs requested

  abbrev whole : Contents
  whole = contents_of events

  abbrev page_limits : List Limit
  page_limits = tree_limits logs page_nodes request.max_bytes

  abbrev status : ℕ → Option ℤ
  status = target_status logs events

  pub page_bytes : 0 < request.max_bytes → AllByRecursion (λ (log : Log). text_size (facts.texts_of log.entries) < 2 ^ 64) logs
      → lines_left_after logs [] events ≡ Some []
      → IsDistinct (pointwise nat_eq) (flat_map opened_name events) → events_of 0 whole ≡ events
      → Have (λ number. head_and_tail (limit_of page_limits number) (lines_of_log number logs)) (page_contents request logs requested)
      → log_count (page_contents request logs requested) ≡ log_count whole
      → length (log_bytes (page_tree request logs requested)) ≤ max request.max_bytes (4096 * length page_nodes)
  page_bytes some small left distinct same have count =
      let times = map run_times request.times in
      let outline = outline_of logs events in
      let named = contents_named logs (options_of request) requested in
      let names = timed_names logs times outline
      ∙ sym (names_opened logs status None 0 0 whole named (contents_show events)) ∙ ap (flat_map opened_name) same in
      let counted = outline_counted request logs requested in
      subst (λ (tree : List Part). length (log_bytes tree) ≤ max request.max_bytes (4096 * length page_nodes))
      (sym (tree_is_streamed request logs requested))
      (tree_bytes bounds logs (options_of request) page_nodes request.max_bytes
      (timed_size logs times outline (nodes_sized logs status None 0 whole)) (lines_small logs small)
      (subst (IsDistinct (pointwise nat_eq)) (sym names) distinct) whole some (trim_named page_limits logs [] whole named)
      (page_placed request logs requested) (omega (arith, count, counted)) have (whole_has_none logs events left)
      (sym (most_nodes logs status (cap_for request.max_bytes page_nodes) times None 0 whole)))
