-- The tree of a page has the parts that are written event by event, because its nodes count silent logs.
use Rattle.std.proofs.Common.{◌≡◌, ℕ, zero, suc, ◌+◌, Bool, true, false, ℤ, List, [], ◌∷◌, ◌++◌, Option, None, Some, length, map, refl, sym, ◌∙◌, ap, subst, arith}
use Rattle.std.specs.Prelude.{◌&&◌, not, if◌then◌else◌}
use Rattle.std.proofs.lemmas.List.{append_assoc, append-nil, length-append}
use Rattle.redo_line.specs.declared.entry.Entry.TheVariants.{Text, Mention, Done, Closing, Note}
use Rattle.redo_logs.specs.Logs.{Log}
use Rattle.redo_view.specs.Event.{Event}
use Rattle.redo_view.specs.Event.Event.{Requested, Mentioned, EntryShown, LogEnds}
use Rattle.redo_html.specs.Parts.{Part}
use Rattle.redo_outline.specs.declared.node.Node.{Node}
use Rattle.redo_outline.specs.declared.node.RunTimes.{RunTimes}
use Rattle.redo_outline.specs.Contents.{Contents, contents_of}
use Rattle.redo_outline.specs.Contents.Contents.{Nothing, Shown, Opened}
use Rattle.redo_outline.specs.Facts.{is_failure, target_status}
use Rattle.redo_outline.specs.Outline.{log_count, node_of, nodes_of, outline_of, silent_count, with_times}
use Rattle.redo_trim.specs.declared.limit.Gauge.{Gauge}
use Rattle.redo_trim.specs.declared.limit.Limit.{Limit}
use Rattle.redo_trim.specs.Trim.{after_shown, gauge_of, kept, trim, with_shown_all}
use Rattle.redo_page.proofs.PartNames.{page_build}
use Rattle.redo_page.specs.declared.block.Pending.TheVariants as pending
use Rattle.redo_page.specs.declared.level.Level.{Level}
use Rattle.redo_page.specs.Limits.{tree_limits}
use Rattle.redo_page.specs.Page.{Request, options_of, page_contents, page_events, page_outline, run_times}
use Rattle.redo_page.specs.Tree.{Build, is_in_level, items_of, items_parts, level_of, node_at, position_of_name, section_end, section_start, top_level, tree_parts}
use Rattle.redo_page.specs.Tree.Items.{Seen}
use Rattle.redo_page.specs.Private.Streaming.{contents_parts, streamed_tree}
use Rattle.redo_page.proofs.ItemLemmas.{CountRows, CountsRow, contents_then, row_is, row_size}
use Rattle.redo_page.proofs.OpeningLemmas.{at_length, trim_count}
use Rattle.redo_page.proofs.TreeIds.{nodes_counted}

module _ (logs : List Log) (status : ℕ → Option ℤ) where
  -- Each node of some contents counts the silent logs in a row from its log on.
  abbrev CountSilent : List Node → ℕ → Contents → Type 0
  CountSilent nodes position Nothing = Unit {0}
  CountSilent nodes position (Shown event rest) = CountSilent nodes position rest
  CountSilent nodes position (Opened event number inside rest) =
      ((node_at nodes position).silent ≡ silent_count logs status (Opened event number inside rest))
      × CountSilent nodes (suc position) inside × CountSilent nodes (suc position + log_count inside) rest

  nodes_count : (parent : Option ℕ) (position : ℕ) (contents : Contents) (before after whole : List Node) → length before ≡ position
      → before ++ (nodes_of logs status parent position contents ++ after) ≡ whole → CountSilent whole position contents
  nodes_count parent position Nothing before after whole counted is = tt
  nodes_count parent position (Shown event rest) before after whole counted is =
      nodes_count parent position rest before after whole counted is
  nodes_count parent position (Opened event number inside rest) before after whole counted is =
      let node = node_of logs status parent number inside rest in
      let inner = nodes_of logs status (Some position) (suc position) inside in
      let others = nodes_of logs status parent (suc position + log_count inside) rest in
      let inner_count = nodes_counted logs status (Some position) (suc position) inside in
      let one_more = length-append before (node ∷ []) in
      let all = length-append before (node ∷ inner) in
      let split : before ++ (node ∷ (inner ++ (others ++ after))) ≡ whole =
      ap (λ (t : List Node). before ++ (node ∷ t)) (sym (append_assoc inner others after)) ∙ is in (
        ap (λ (n : ℕ). (node_at whole n).silent) (sym counted) ∙ ap (λ (w : List Node). (node_at w (length before)).silent) (sym split)
            ∙ ap (λ (n : Node). n.silent) (at_length before node (inner ++ (others ++ after))),
        nodes_count (Some position) (suc position) inside (before ++ (node ∷ [])) (others ++ after) whole
            (omega (arith, counted, one_more)) (append_assoc before (node ∷ []) (inner ++ (others ++ after)) ∙ split),
        nodes_count parent (suc position + log_count inside) rest (before ++ (node ∷ inner)) after whole
            (omega (arith, counted, all, inner_count)) (append_assoc before (node ∷ inner) (others ++ after) ∙ split),
      )

  -- Other nodes with the same counts.
  same_count : (nodes others : List Node) → ((position : ℕ) → (node_at others position).silent ≡ (node_at nodes position).silent)
      → (position : ℕ) (contents : Contents) → CountSilent nodes position contents → CountSilent others position contents
  same_count nodes others same position Nothing count = tt
  same_count nodes others same position (Shown event rest) count = same_count nodes others same position rest count
  same_count nodes others same position (Opened event number inside rest) count = (
    same position ∙ count.0,
    same_count nodes others same (suc position) inside count.1,
    same_count nodes others same (suc position + log_count inside) rest count.2,
  )

timed_silent : (times : List RunTimes) (nodes : List Node) (position : ℕ)
    → (node_at (map (with_times times) nodes) position).silent ≡ (node_at nodes position).silent
timed_silent times [] position = refl
timed_silent times (node ∷ nodes) zero = refl
timed_silent times (node ∷ nodes) (suc position) = timed_silent times nodes position

fits_row : (own : Bool) (count size row : ℕ) → size ≡ (if own then suc count else 0) → ((more : ℕ) → count ≡ suc more → row ≡ suc more)
    → CountsRow size row
fits_row true zero size row is later = subst (λ (n : ℕ). CountsRow n row) (sym is) tt
fits_row true (suc more) size row is later = subst (λ (n : ℕ). CountsRow n row) (sym is) (later more refl)
fits_row false count size row is later = subst (λ (n : ℕ). CountsRow n row) (sym is) tt

module _ (build : Build) (logs : List Log) (status : ℕ → Option ℤ) (limits : List Limit) where
  abbrev row_in : Level → List Gauge → ℕ → Contents → ℕ
  row_in level gauges position contents = row_size (items_of build level position (trim limits gauges contents))

  -- An event that isn't visible doesn't split a row, and isn't left out.
  unseen : (level : Level) (gauges : List Gauge) (position : ℕ) (event : Event) (rest : Contents) (more : ℕ)
      → silent_count logs status (Shown event rest) ≡ suc more
      → ((now : List Gauge) → silent_count logs status rest ≡ suc more → row_in level now position rest ≡ suc more)
      → row_in level gauges position (Shown event rest) ≡ suc more
  unseen level gauges position (Requested name opening) rest more is later = absurd (omega (arith, is))
  unseen level gauges position (Mentioned depth pid how name opening) rest more is later = absurd (omega (arith, is))
  unseen level gauges position (EntryShown depth (Text line)) rest more is later = absurd (omega (arith, is))
  unseen level gauges position (EntryShown depth (Mention pid how name)) rest more is later = absurd (omega (arith, is))
  unseen level gauges position (EntryShown depth (Done pid done name)) rest more is later =
      by (is_failure (Some done)) (not (is_in_level build level (position_of_name build name))) is
    where
      by : (failed elsewhere : Bool) → (if failed then 0 else silent_count logs status rest) ≡ suc more
          → row_size (if failed && elsewhere then Seen (EntryShown depth (Done pid done name))
          (items_of build level position (trim limits gauges rest)) else items_of build level position (trim limits gauges rest)) ≡ suc more
      by true elsewhere here = absurd (omega (arith, here))
      by false elsewhere here = later gauges here
  unseen level gauges position (EntryShown depth (Closing pid done)) rest more is later = later gauges is
  unseen level gauges position (EntryShown depth (Note pid kind text)) rest more is later = absurd (omega (arith, is))
  unseen level gauges position (LogEnds depth) rest more is later = later gauges is

  row_counted : (level : Level) (gauges : List Gauge) (position : ℕ) (contents : Contents)
      → CountSilent logs status build.nodes position contents
      → (more : ℕ) → silent_count logs status contents ≡ suc more → row_in level gauges position contents ≡ suc more
  row_counted level gauges position Nothing count more is = absurd (omega (arith, is))
  row_counted level gauges position (Shown event rest) count more is =
      unseen level gauges position event rest more is (λ now here. row_counted level now position rest count more here)
  row_counted level gauges position (Opened event number inside rest) count more is =
      let within = gauge_of limits number ∷ gauges in
      let inner = items_of build (level_of build level position) (suc position) (trim limits within inside) in
      let next = suc position + log_count (trim limits within inside) in
      row_is event position inner (items_of build level next (trim limits gauges rest)) (node_at build.nodes position).silent
      (subst (λ (n : ℕ). CountsRow (node_at build.nodes position).silent (row_in level gauges (suc position + n) rest))
      (sym (trim_count limits within inside))
      (fits_row _ (silent_count logs status rest) (node_at build.nodes position).silent
      (row_in level gauges (suc position + log_count inside) rest) count.0
      (λ other here. row_counted level gauges (suc position + log_count inside) rest count.2 other here)))
      ∙ count.0 ∙ is

  all_shown : (level : Level) (position : ℕ) (events : List Event) (rest : Contents) → CountRows build level position rest
      → CountRows build level position (with_shown_all events rest)
  all_shown level position [] rest rows = rows
  all_shown level position (event ∷ events) rest rows = all_shown level position events rest rows

  rows_counted : (level : Level) (gauges : List Gauge) (position : ℕ) (contents : Contents)
      → CountSilent logs status build.nodes position contents
      → CountRows build level position (trim limits gauges contents)
  rows_counted level gauges position Nothing count = tt
  rows_counted level gauges position (Shown event rest) count =
      all_shown level position (kept gauges event) (trim limits (after_shown event gauges) rest)
      (rows_counted level (after_shown event gauges) position rest count)
  rows_counted level gauges position (Opened event number inside rest) count =
      let within = gauge_of limits number ∷ gauges in
      let silent = (node_at build.nodes position).silent in
      let rest_of = subst
      (λ (n : ℕ). CountsRow silent (row_in level gauges (suc position + n) rest)
      × CountRows build level (suc position + n) (trim limits gauges rest))
      (sym (trim_count limits within inside)) (
        fits_row _ (silent_count logs status rest) silent (row_in level gauges (suc position + log_count inside) rest) count.0
            (λ other here. row_counted level gauges (suc position + log_count inside) rest count.2 other here),
        rows_counted level gauges (suc position + log_count inside) rest count.2,
      ) in (
        rest_of.0,
        rows_counted (level_of build level position) within (suc position) inside count.1,
        rest_of.1,
      )

-- The tree of a page.
module _ (request : Request) (logs : List Log) (requested : List (List ℕ)) where
  abbrev events : List Event
  events = page_events request logs requested

  abbrev nodes : List Node
  nodes = page_outline request logs requested

  page_rows : CountRows (page_build request logs requested) top_level 0 (page_contents request logs requested)
  page_rows =
      let status = target_status logs events in
      let own = outline_of logs events in
      rows_counted (page_build request logs requested) logs status
      (tree_limits logs nodes request.max_bytes) top_level [] 0
      (contents_of events)
      (same_count logs status own nodes (timed_silent (map run_times request.times) own) 0 (contents_of events)
      (nodes_count logs status None 0 (contents_of events) [] [] own refl (append-nil own)))

  pub items_are_streamed : items_parts (page_build request logs requested) top_level
      (items_of (page_build request logs requested) top_level 0 (page_contents request logs requested))
      ≡ contents_parts (page_build request logs requested) top_level 0 pending.Nothing (page_contents request logs requested)
  items_are_streamed =
      sym (contents_then (page_build request logs requested) top_level 0 pending.Nothing (page_contents request logs requested)
      page_rows tt)

  pub tree_is_streamed : tree_parts logs (options_of request) nodes (page_contents request logs requested)
      ≡ streamed_tree logs (options_of request) nodes (page_contents request logs requested)
  tree_is_streamed = ap (λ (ps : List Part). section_start ++ (ps ++ section_end)) items_are_streamed
