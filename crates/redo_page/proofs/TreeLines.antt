-- The text lines in the tree.
use Rattle.std.proofs.Common.{◌≡◌, ℕ, suc, ◌+◌, Bool, true, false, ℤ, List, [], ◌∷◌, ◌++◌, Option, None, Some, refl, sym, ◌∙◌, ap}
use Rattle.std.specs.Prelude.{not, nat_le, if◌then◌else◌}
use Rattle.std.specs.List.{flat_map}
use Rattle.std.proofs.lemmas.Grind.{flat_map-append}
use Rattle.std.proofs.lemmas.List.{append-nil, map-append}
use Rattle.std.proofs.lemmas.List.Elements.{filter-append}
use Rattle.redo_line.specs.declared.entry.Entry.TheVariants.{Text, Mention, Done, Closing, Note}
use Rattle.redo_line.specs.declared.entry.How.{How}
use Rattle.redo_line.specs.Lines.{with_line_feed}
use Rattle.redo_logs.specs.Logs.{Log}
use Rattle.redo_options.specs.declared.options.Options.{Options}
use Rattle.redo_view.specs.declared.event.Opening.{Opening}
use Rattle.redo_view.specs.Event.{Event}
use Rattle.redo_view.specs.Event.Event.{Requested, Mentioned, EntryShown, LogEnds}
use Rattle.redo_html.specs.declared.markup.Markup.{Markup}
use Rattle.redo_html.specs.declared.markup.Markup.TheVariants as markup
use Rattle.redo_html.specs.Parts.{Part}
use Rattle.redo_html.specs.Parts.Part.{MarkupPart, LogPart}
use Rattle.redo_outline.specs.declared.node.Node.{Node}
use Rattle.redo_outline.specs.Contents.{Contents}
use Rattle.redo_outline.specs.Contents.Contents.{Nothing, Shown, Opened}
use Rattle.redo_outline.specs.Outline.{log_count}
use Rattle.redo_page.specs.declared.block.Pending.{Pending}
use Rattle.redo_page.specs.declared.block.Pending.TheVariants as pending
use Rattle.redo_page.specs.declared.level.Level.{Level}
use Rattle.redo_page.specs.Laws.{PositionedLine, texts_of, log_text, positioned_bytes, positioned_lines}
use Rattle.redo_page.proofs.PartNames.{log_bytes, unmoved}
use Rattle.redo_page.specs.Targets.{linked_parts, parts_if}
use Rattle.redo_page.specs.Tree.{Build, articles, done_parts, empty_start, flat_start, heading_parts, is_empty, is_expanded, is_moved, is_moved_if, is_seen, level_of, max_depth, mention_parts, moved_parts, nested_start, node_at, note_parts, opening_parts, opening_position, position_of_name, request_parts, top_level}
use Rattle.redo_page.specs.Private.Streaming.{after_log, after_shown, block_for, contents_parts, end_parts, group_left, group_start, item_parts, line_part, line_parts, line_size, line_start, log_end, log_start, shown_parts, streamed_tree}
use Rattle.redo_page.proofs.PageLines.{positioned_at}
use Rattle.redo_page.proofs.Ids.{Bare, how_bare, reference, references, same_found}
use Rattle.redo_page.proofs.TreeIds.{end_bare, group_start_bare, heading_bare, line_start_bare, log_end_bare, nested_same, note_bare}

log_text_part : (part : Part) → flat_map log_text (reference part) ≡ log_text part
log_text_part (MarkupPart tag) = by tag
  where
    by : (tag : Markup) → flat_map log_text (reference (MarkupPart tag)) ≡ log_text (MarkupPart tag)
    by (markup.TargetLink number) = refl
    by tag = refl
log_text_part (LogPart style text) = append-nil text
log_text_part part = refl

pub same_text : (parts others : List Part) → references parts ≡ references others → log_bytes parts ≡ log_bytes others
same_text parts others same = same_found log_text log_text_part parts others same

-- Parts without text of logs.
abbrev Quiet : List Part → Type 0
Quiet parts = log_bytes parts ≡ []

pub bare_quiet : (parts : List Part) → Bare parts → Quiet parts
bare_quiet parts bare = same_text parts [] bare

both_quiet : (parts others : List Part) → Quiet parts → Quiet others → Quiet (parts ++ others)
both_quiet parts others first last = flat_map-append log_text parts others ∙ ap (λ t. t ++ log_bytes others) first ∙ last

quiet_if : (condition : Bool) (parts : List Part) → Quiet parts → Quiet (parts_if condition parts)
quiet_if true parts quiet = quiet
quiet_if false parts quiet = refl

linked_quiet : (position : Option ℕ) (name : List ℕ) → Quiet (linked_parts position name)
linked_quiet None name = refl
linked_quiet (Some position) name = refl

module _ (build : Build) where
  done_quiet : (status : ℤ) (name : List ℕ) → Quiet (done_parts build status name)
  done_quiet status name = same_text (done_parts build status name) (linked_parts (position_of_name build name) name)
      (simp (flat_map-append, append-nil)) ∙ linked_quiet (position_of_name build name) name

  mention_quiet : (how : How) (name : List ℕ) (opening : Opening) → Quiet (mention_parts build how name opening)
  mention_quiet how name opening =
      same_text (mention_parts build how name opening) (linked_parts (opening_position build opening) name)
      (simp (flat_map-append, append-nil, how_bare build.options.debug_locks how)) ∙ linked_quiet (opening_position build opening) name

  item_quiet : (before : Pending) (seen : Bool) (parts : List Part) → Quiet parts → Quiet (item_parts before seen parts)
  item_quiet before true parts quiet = both_quiet (end_parts before) parts (bare_quiet (end_parts before) (end_bare before)) quiet
  item_quiet before false parts quiet = refl

  -- The lines that are shown of an event.
  abbrev shown_lines : Option ℕ → Event → List ℕ
  shown_lines around event = positioned_bytes (unmoved build (positioned_at around event))

  line_text : (before : Pending) (line : List ℕ) → log_bytes (line_parts before line) ≡ with_line_feed line ++ []
  line_text before line =
      flat_map-append log_text (line_start before (line_size line)) (line_part (block_for before (line_size line)).style line ∷ [])
      ∙ ap (λ t. t ++ (with_line_feed line ++ []))
      (bare_quiet (line_start before (line_size line)) (line_start_bare before (line_size line)))

  shown_text : (level : Level) (before : Pending) (event : Event)
      → log_bytes (shown_parts build level before event) ≡ shown_lines level.position event
  shown_text level before (Requested name opening) = item_quiet before true (request_parts name) refl
  shown_text level before (Mentioned depth pid how name opening) =
      item_quiet before true (mention_parts build how name opening) (mention_quiet how name opening)
  shown_text level before (EntryShown depth (Text line)) = by (is_moved_if build level.position)
    where
      by : (moved : Bool) → log_bytes (if moved then [] else line_parts before line)
          ≡ positioned_bytes (if not moved then record { position = level.position; line = line } ∷ [] else [])
      by true = refl
      by false = line_text before line
  shown_text level before (EntryShown depth (Mention pid how name)) = refl
  shown_text level before (EntryShown depth (Done pid status name)) =
      item_quiet before (is_seen build level (EntryShown depth (Done pid status name))) (done_parts build status name)
      (done_quiet status name)
  shown_text level before (EntryShown depth (Closing pid status)) = refl
  shown_text level before (EntryShown depth (Note pid kind text)) =
      item_quiet before true (note_parts kind text) (bare_quiet (note_parts kind text) (note_bare kind text))
  shown_text level before (LogEnds depth) = refl

  -- ---- logs

  pub moved_quiet : (position : ℕ) → Quiet (moved_parts build position)
  moved_quiet position = quiet_if (is_moved build position) _ refl

  details_quiet : (expanded : Bool) (position : ℕ) (others : List Part) → Quiet others
      → Quiet (MarkupPart (if expanded then markup.OpenDetails position else markup.Details position) ∷ others)
  details_quiet true position others quiet = quiet
  details_quiet false position others quiet = quiet

  opening_quiet : (level : Level) (position : ℕ) (heading : List Part) → Bare heading → Quiet (opening_parts build level position heading)
  opening_quiet level position heading bare = by (is_empty (node_at build.nodes position)) (nat_le max_depth level.depth)
    where
      by : (empty deep : Bool) → Quiet (if empty then empty_start position heading
          else if deep then flat_start build position level.depth heading
          else nested_start build (is_expanded build level (node_at build.nodes position)) position heading)
      by true deep = bare_quiet heading bare
      by false true = same_text (flat_start build position level.depth heading)
          (MarkupPart (markup.TargetItem position) ∷ moved_parts build position) (simp (flat_map-append, bare)) ∙ moved_quiet position
      by false false =
          same_text (nested_start build (is_expanded build level (node_at build.nodes position)) position heading)
          (MarkupPart (if is_expanded build level (node_at build.nodes position) then markup.OpenDetails position
          else markup.Details position) ∷ moved_parts build position)
          (nested_same build (is_expanded build level (node_at build.nodes position)) position heading bare)
          ∙ details_quiet (is_expanded build level (node_at build.nodes position)) position (moved_parts build position)
          (moved_quiet position)

  log_start_quiet : (level : Level) (position : ℕ) (before : Pending) (event : Event) → Quiet (log_start build level position before event)
  log_start_quiet level position before event =
      both_quiet (group_start build level position before) (opening_parts build level position (heading_parts build event position))
      (bare_quiet (group_start build level position before) (group_start_bare build level position before))
      (opening_quiet level position (heading_parts build event position) (heading_bare build event position))

  -- ---- contents

  abbrev outside : PositionedLine → Bool
  outside positioned = not (is_moved_if build positioned.position)

  pub bytes-append : (lines others : List PositionedLine)
      → positioned_bytes (unmoved build (lines ++ others))
      ≡ positioned_bytes (unmoved build lines) ++ positioned_bytes (unmoved build others)
  bytes-append lines others = ap positioned_bytes (filter-append outside lines others)
      ∙ ap (flat_map with_line_feed) (map-append (λ (positioned : PositionedLine). positioned.line) (unmoved build lines)
      (unmoved build others)) ∙ flat_map-append with_line_feed (texts_of (unmoved build lines))
      (texts_of (unmoved build others))

  pub contents_text : (level : Level) (position : ℕ) (before : Pending) (contents : Contents)
      → log_bytes (contents_parts build level position before contents)
      ≡ positioned_bytes (unmoved build (positioned_lines level.position position contents))
  contents_text level position before Nothing = bare_quiet (end_parts before) (end_bare before)
  contents_text level position before (Shown event rest) =
      flat_map-append log_text (shown_parts build level before event)
      (contents_parts build level position (after_shown build level before event) rest)
      ∙ ap (λ t. t ++ log_bytes (contents_parts build level position (after_shown build level before event) rest))
      (shown_text level before event)
      ∙ ap (λ t. shown_lines level.position event ++ t) (contents_text level position (after_shown build level before event) rest)
      ∙ sym (bytes-append (positioned_at level.position event) (positioned_lines level.position position rest))
  contents_text level position before (Opened event number inside rest) =
      let left = group_left build level position before in
      let start = log_start build level position before event in
      let in_log = contents_parts build (level_of build level position) (suc position) pending.Nothing inside in
      let end = log_end build level position left in
      let others = contents_parts build level (suc position + log_count inside) (after_log left) rest in
      flat_map-append log_text start (in_log ++ (end ++ others))
      ∙ ap (λ t. t ++ log_bytes (in_log ++ (end ++ others))) (log_start_quiet level position before event)
      ∙ flat_map-append log_text in_log (end ++ others)
      ∙ ap (λ t. log_bytes in_log ++ t) (flat_map-append log_text end others
      ∙ ap (λ t. t ++ log_bytes others) (bare_quiet end (log_end_bare build level position left)))
      ∙ ap (λ t. t ++ log_bytes others) (contents_text (level_of build level position) (suc position) pending.Nothing inside)
      ∙ ap (λ t. positioned_bytes (unmoved build (positioned_lines (Some position) (suc position) inside)) ++ t)
      (contents_text level (suc position + log_count inside) (after_log left) rest)
      ∙ sym (bytes-append (positioned_lines (Some position) (suc position) inside)
      (positioned_lines level.position (suc position + log_count inside) rest))

pub tree_text : (logs : List Log) (options : Options) (nodes : List Node) (contents : Contents)
    → log_bytes (streamed_tree logs options nodes contents)
    ≡ positioned_bytes (unmoved (record { logs = logs; options = options; nodes = nodes; articles = articles nodes })
    (positioned_lines None 0 contents))
tree_text logs options nodes contents =
    let build : Build = record { logs = logs; options = options; nodes = nodes; articles = articles nodes } in
    same_text (streamed_tree logs options nodes contents)
    (MarkupPart markup.TreeSection ∷ contents_parts build top_level 0 pending.Nothing contents) (simp (flat_map-append, append-nil))
    ∙ contents_text build top_level 0 pending.Nothing contents
