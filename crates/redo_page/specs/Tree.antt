-- The tree of a page: each log where its target is mentioned first, with its contents.
use Rattle.std.specs.Prelude.{ℕ, zero, suc, ◌+◌, ◌==◌, ◌||◌, ◌&&◌, not, nat_le, Bool, true, false, ℤ, List, [], ◌∷◌, ◌++◌, Option, None, Some, codes, bytes_eq, length, position, option_and_then, slice_index_or, take, if◌then◌else◌}
use Rattle.std.specs.declared.cmp.Ordering.{Ordering}
use Rattle.std.specs.declared.cmp.Ordering.TheVariants.{Less, Equal, Greater}
use Rattle.std.specs.List.{list_any}
use Rattle.std.specs.Ordering.{nat_cmp, ordering_then}
use Rattle.redo_line.specs.declared.entry.Entry.{Entry}
use Rattle.redo_line.specs.declared.entry.Entry.TheVariants.{Text, Done, Note}
use Rattle.redo_line.specs.declared.entry.How.{How}
use Rattle.redo_logs.specs.Logs.{Log, log_number}
use Rattle.redo_options.specs.declared.options.Options.{Options}
use Rattle.redo_view.specs.declared.event.Opening.{Opening}
use Rattle.redo_view.specs.declared.event.Opening.TheVariants.{NotOpened, OpenedBefore, OpensHere}
use Rattle.redo_view.specs.Event.{Event}
use Rattle.redo_view.specs.Event.Event.{Requested, Mentioned, EntryShown, LogEnds}
use Rattle.redo_html.specs.declared.markup.Markup.{Markup}
use Rattle.redo_html.specs.declared.markup.Markup.TheVariants as markup
use Rattle.redo_html.specs.Parts.{Part}
use Rattle.redo_html.specs.Parts.Part.{MarkupPart, TextPart, NumberPart}
use Rattle.redo_outline.specs.declared.node.Node.{Node}
use Rattle.redo_outline.specs.Contents.{Contents}
use Rattle.redo_outline.specs.Contents.Contents.{Nothing, Shown, Opened}
use Rattle.redo_outline.specs.Facts.{is_failure}
use Rattle.redo_outline.specs.Outline.{log_count}
use Rattle.redo_timeline.specs.Order.{sort}
use Rattle.redo_page.specs.declared.labels.TheConstants.{ALL_LOGS, END_OF, LEVEL, NEEDS, SHOWN_ABOVE, SILENT_TARGETS, TREE_IS}
use Rattle.redo_page.specs.declared.level.Level.{Level}
use Rattle.redo_page.specs.Blocks.{text_item}
use Rattle.redo_page.specs.Targets.{parts_if, name_parts, linked_parts, exit_parts, fact_parts, facts_parts, how_parts}
use Rattle.redo_outline.specs.Facts.{target_at}

abbrev pub no_node : Node
no_node = record { number = 0; parent = None; status = None; lines = 0; bytes = 0; warnings = 0; below = 0; children = 0; others = false; warnings_below = 0; fails_below = false; silent = 0; took = None; ended = None }

abbrev pub node_at : List Node → ℕ → Node
node_at nodes position = slice_index_or nodes position no_node

-- The position of the log with this number, if it is opened.
abbrev pub position_of : List Node → ℕ → Option ℕ
position_of nodes number = position (λ (node : Node). node.number == number) nodes

-- ---- facts about a target

abbrev pub has_failed : Node → Bool
has_failed node = is_failure node.status

-- Whether a target failed, and none below it.
abbrev pub is_root_failure : Node → Bool
is_root_failure node = has_failed node && not node.fails_below

-- The positions of the nodes for which this holds. The first node has the position `position`.
abbrev pub positions_where : (Node → Bool) → ℕ → List Node → List ℕ
positions_where holds position [] = []
positions_where holds position (node ∷ nodes) = if holds node then position ∷ positions_where holds (suc position) nodes else positions_where holds (suc position) nodes

-- The target that ended first is first. Targets with an unknown end are last.
abbrev pub end_cmp : Option ℕ → Option ℕ → Ordering
end_cmp (Some ended) (Some other) = nat_cmp ended other
end_cmp (Some ended) None = Less
end_cmp None (Some other) = Greater
end_cmp None None = Equal

-- Targets by when they ended, and then in the order of the tree.
abbrev pub failure_cmp : List Node → ℕ → ℕ → Ordering
failure_cmp nodes position other = ordering_then (end_cmp (node_at nodes position).ended (node_at nodes other).ended) (nat_cmp position other)

-- The positions of the targets that failed with none below them, in the order in which the targets ended.
abbrev pub root_failures : List Node → List ℕ
root_failures nodes = sort (failure_cmp nodes) (positions_where is_root_failure 0 nodes)

-- The targets that have an article at the top of the page.
abbrev pub max_articles : ℕ
max_articles = 10

abbrev pub articles : List Node → List ℕ
articles nodes = take max_articles (root_failures nodes)

-- A build, as the tree of its page shows it: its logs, the options, the outline, and the positions of the targets that have an article.
pub record Build : Type 0 where
  pub logs : List Log
  pub options : Options
  pub nodes : List Node
  pub articles : List ℕ

-- Whether an article can show the whole output of a target. Then the article has the output, and the tree has a link to it.
abbrev pub is_short : Node → Bool
is_short node = not (node.lines == 0) && (nat_le node.lines 300 && nat_le node.bytes 40000)

-- Whether a number is one of these.
abbrev pub is_among : List ℕ → ℕ → Bool
is_among numbers number = list_any (λ other. number == other) numbers

-- Whether the output of the log at a position is in an article. `those` are the positions of the targets that have one.
abbrev pub is_in_article : List ℕ → List Node → Option ℕ → Bool
is_in_article those nodes None = false
is_in_article those nodes (Some position) = is_among those position && is_short (node_at nodes position)

abbrev pub is_empty : Node → Bool
is_empty node = node.children == 0 && not node.others

-- ---- levels

-- Logs are nested up to this depth, because browsers limit how deep elements are nested. Deeper ones follow each other.
abbrev pub max_depth : ℕ
max_depth = 60

-- Five or more silent logs in a row are one closed group.
abbrev pub min_group : ℕ
min_group = 5

-- The level of the requested targets: no log is around them.
abbrev pub top_level : Level
top_level = record { position = None; expanded = true; depth = 0 }

-- The node at a position, if there is one.
abbrev pub node_if : List Node → Option ℕ → Option Node
node_if nodes None = None
node_if nodes (Some position) = Some (node_at nodes position)

-- Whether there is only one log, and nothing else, directly in the log around.
abbrev pub has_one_child : Option Node → Bool
has_one_child None = true
has_one_child (Some node) = node.children == 1 && not node.others

abbrev pub is_silent : Option Node → Bool
is_silent None = false
is_silent (Some node) = not (node.silent == 0)

abbrev pub is_same_position : Option ℕ → Option ℕ → Bool
is_same_position None None = true
is_same_position None (Some other) = false
is_same_position (Some one) None = false
is_same_position (Some one) (Some other) = one == other

-- ---- items

-- What a list of the tree shows, in order.
pub data Items : Type 0 where
  NoItems : Items
  -- Text lines that follow each other.
  Lines : List (List ℕ) → Items → Items
  -- An event that is seen. It is no text line and opens no log.
  Seen : Event → Items → Items
  -- A log: the event that opens it, its position, and the items in it.
  LogItem : Event → ℕ → Items → Items → Items
  -- Silent logs in a row.
  SilentLogs : Items → Items → Items

-- A text line before items. It joins the text lines that follow it.
abbrev pub line_before : List ℕ → Items → Items
line_before line (Lines lines items) = Lines (line ∷ lines) items
line_before line items = Lines (line ∷ []) items

-- A silent log before items. It joins the silent logs that follow it.
abbrev pub silent_before : (Items → Items) → Items → Items
silent_before log (SilentLogs logs items) = SilentLogs (log logs) items
silent_before log items = SilentLogs (log NoItems) items

-- A log before items. `silent` is the number of silent logs in a row from this one on, or 0 if it isn't silent. So a log with 1 ends its row,
-- even if only something that the tree leaves out is between it and the next silent log.
abbrev pub log_before : ℕ → (Items → Items) → Items → Items
log_before zero log items = log items
log_before (suc zero) log items = SilentLogs (log NoItems) items
log_before silent log items = silent_before log items

-- The number of logs with which items begin.
abbrev pub leading_logs : Items → ℕ
leading_logs (LogItem event position inside items) = suc (leading_logs items)
leading_logs items = 0

-- ---- groups of silent logs

abbrev pub group_start_of : ℕ → List Part
group_start_of size =
    MarkupPart markup.Item ∷ MarkupPart markup.QuietDetails ∷ MarkupPart markup.Summary ∷ NumberPart size ∷ TextPart SILENT_TARGETS.now ∷ MarkupPart markup.EndSummary ∷ MarkupPart markup.Unordered ∷ []

-- The end of a nested list: of a group, or of the contents of a log.
abbrev pub nested_end : List Part
nested_end = MarkupPart markup.EndUnordered ∷ MarkupPart markup.EndDetails ∷ MarkupPart markup.EndItem ∷ []

-- ---- the start of a log

-- A log that contains nothing.
abbrev pub empty_start : ℕ → List Part → List Part
empty_start position heading = (MarkupPart (markup.TargetItem position) ∷ []) ++ heading

-- How deep a log is that is not nested.
abbrev pub depth_parts : ℕ → List Part
depth_parts depth = fact_parts (TextPart LEVEL.now ∷ NumberPart depth ∷ []) ++ MarkupPart markup.EndItem ∷ []

abbrev pub details_markup : Bool → ℕ → Markup
details_markup expanded position = if expanded then markup.OpenDetails position else markup.Details position

-- ---- an event that opens no log

-- A requested target whose log isn't opened.
abbrev pub request_parts : List ℕ → List Part
request_parts name = (MarkupPart markup.Item ∷ []) ++ (name_parts name ++ (MarkupPart markup.EndItem ∷ []))

-- The bytes before the text of a note. A note of an empty kind is in no log: it is a note about the page.
abbrev pub note_prefix : List ℕ → List ℕ
note_prefix kind = if length kind == 0 then [] else codes "redo: "

-- A record of a check, or another note.
abbrev pub note_parts : List ℕ → List ℕ → List Part
note_parts kind text =
    if bytes_eq kind (codes "check") then MarkupPart markup.NoteItem ∷ TextPart (codes "(") ∷ TextPart text ∷ TextPart (codes ")") ∷ MarkupPart markup.EndItem ∷ []
    else MarkupPart markup.NoteItem ∷ TextPart (note_prefix kind) ∷ TextPart text ∷ MarkupPart markup.EndItem ∷ []

module _ (build : Build) where
  -- Whether the output of a target is in its article.
  abbrev pub is_moved : ℕ → Bool
  is_moved position = is_in_article build.articles build.nodes (Some position)

  abbrev pub is_moved_if : Option ℕ → Bool
  is_moved_if position = is_in_article build.articles build.nodes position

  -- Whether a log is expanded when the page is opened: requested targets, those that failed, those around them, and the only log in an
  -- expanded one.
  abbrev pub is_expanded : Level → Node → Bool
  is_expanded level node = has_failed node || (node.fails_below || (level.expanded && has_one_child (node_if build.nodes level.position)))

  -- The level in a log.
  abbrev pub level_of : Level → ℕ → Level
  level_of level position = record { position = Some position; expanded = is_expanded level (node_at build.nodes position); depth = suc level.depth }

  -- ---- the start and the end of a log

  -- The name of a target whose log is opened, with the facts about it.
  abbrev pub heading_parts : Event → ℕ → List Part
  heading_parts (Requested name opening) position = name_parts name ++ facts_parts (node_at build.nodes position)
  heading_parts (Mentioned depth pid how name opening) position = name_parts name ++ (how_parts build.options.debug_locks how ++ facts_parts (node_at build.nodes position))
  heading_parts (EntryShown depth entry) position = []
  heading_parts (LogEnds depth) position = []

  abbrev pub moved_parts : ℕ → List Part
  moved_parts position =
      parts_if (is_moved position)
      (MarkupPart markup.NoteItem ∷ MarkupPart (markup.OutputLink position) ∷ TextPart SHOWN_ABOVE.now ∷ MarkupPart markup.EndLink ∷ MarkupPart markup.EndItem ∷ [])

  -- A log that is not nested. Its contents follow it in the same list.
  abbrev pub flat_start : ℕ → ℕ → List Part → List Part
  flat_start position depth heading = (MarkupPart (markup.TargetItem position) ∷ []) ++ (heading ++ (depth_parts depth ++ moved_parts position))

  abbrev pub flat_end : ℕ → List Part
  flat_end position =
      (MarkupPart markup.NoteItem ∷ TextPart END_OF.now ∷ []) ++ (name_parts (target_at build.logs (node_at build.nodes position).number) ++ (MarkupPart markup.EndItem ∷ []))

  -- A log that is nested.
  abbrev pub nested_start : Bool → ℕ → List Part → List Part
  nested_start expanded position heading =
      (MarkupPart markup.Item ∷ MarkupPart (details_markup expanded position) ∷ MarkupPart markup.Summary ∷ [])
      ++ (heading ++ ((MarkupPart markup.EndSummary ∷ MarkupPart markup.Unordered ∷ []) ++ moved_parts position))

  -- The three forms of a log.
  abbrev pub opening_parts : Level → ℕ → List Part → List Part
  opening_parts level position heading =
      if is_empty (node_at build.nodes position) then empty_start position heading
      else if nat_le max_depth level.depth then flat_start position level.depth heading
      else nested_start (is_expanded level (node_at build.nodes position)) position heading

  abbrev pub closing_parts : Level → ℕ → List Part
  closing_parts level position =
      if is_empty (node_at build.nodes position) then MarkupPart markup.EndItem ∷ []
      else if nat_le max_depth level.depth then flat_end position
      else nested_end

  -- ---- events that open no log

  abbrev pub opening_position : Opening → Option ℕ
  opening_position NotOpened = None
  opening_position (OpenedBefore number) = position_of build.nodes number
  opening_position (OpensHere number) = position_of build.nodes number

  abbrev pub position_of_name : List ℕ → Option ℕ
  position_of_name name = option_and_then (position_of build.nodes) (log_number name build.logs)

  -- Whether the log at a position is directly in this level. Then its badge shows how it ended.
  abbrev pub is_in_level : Level → Option ℕ → Bool
  is_in_level level None = false
  is_in_level level (Some position) = is_same_position (node_at build.nodes position).parent level.position

  -- Another target is done: this is seen if it failed and is not in this level.
  abbrev pub is_seen_done : Level → ℤ → List ℕ → Bool
  is_seen_done level status name = is_failure (Some status) && not (is_in_level level (position_of_name name))

  abbrev pub done_parts : ℤ → List ℕ → List Part
  done_parts status name =
      (MarkupPart markup.NoteItem ∷ TextPart NEEDS.now ∷ []) ++ (linked_parts (position_of_name name) name ++ (exit_parts status ++ (MarkupPart markup.EndItem ∷ [])))

  -- A mention that opens no log.
  abbrev pub mention_parts : How → List ℕ → Opening → List Part
  mention_parts how name opening =
      (MarkupPart markup.Item ∷ []) ++ (linked_parts (opening_position opening) name ++ (how_parts build.options.debug_locks how ++ (MarkupPart markup.EndItem ∷ [])))

  -- Whether an event is visible that opens no log and is no text line, and its item.
  abbrev pub is_seen_entry : Level → Entry → Bool
  is_seen_entry level (Done pid status name) = is_seen_done level status name
  is_seen_entry level (Note pid kind text) = true
  is_seen_entry level entry = false

  abbrev pub is_seen : Level → Event → Bool
  is_seen level (Requested name opening) = true
  is_seen level (Mentioned depth pid how name opening) = true
  is_seen level (EntryShown depth entry) = is_seen_entry level entry
  is_seen level (LogEnds depth) = false

  abbrev pub entry_parts : Entry → List Part
  entry_parts (Done pid status name) = done_parts status name
  entry_parts (Note pid kind text) = note_parts kind text
  entry_parts entry = []

  abbrev pub seen_parts : Event → List Part
  seen_parts (Requested name opening) = request_parts name
  seen_parts (Mentioned depth pid how name opening) = mention_parts how name opening
  seen_parts (EntryShown depth entry) = entry_parts entry
  seen_parts (LogEnds depth) = []

  -- ---- items

  -- An event that opens no log, before items.
  abbrev pub event_before : Level → Event → Items → Items
  event_before level (EntryShown depth (Text line)) items = if is_moved_if level.position then items else line_before line items
  event_before level event items = if is_seen level event then Seen event items else items

  -- The items of a log's contents. `position` is the next log's position.
  abbrev pub items_of : Level → ℕ → Contents → Items
  items_of level position Nothing = NoItems
  items_of level position (Shown event rest) = event_before level event (items_of level position rest)
  items_of level position (Opened event number inside rest) =
      log_before (node_at build.nodes position).silent (LogItem event position (items_of (level_of level position) (suc position) inside))
      (items_of level (suc position + log_count inside) rest)

  -- Whether this many silent logs in a row are a group. There are no groups in a silent log.
  abbrev pub are_group : Level → ℕ → Bool
  are_group level size = nat_le min_group size && not (is_silent (node_if build.nodes level.position))

  -- Silent logs in a row, with these parts.
  abbrev pub silent_parts : Level → ℕ → List Part → List Part
  silent_parts level size logs = if are_group level size then group_start_of size ++ (logs ++ nested_end) else logs

  -- A log, with the parts in it.
  abbrev pub log_parts : Level → Event → ℕ → List Part → List Part
  log_parts level event position inside = opening_parts level position (heading_parts event position) ++ (inside ++ closing_parts level position)

  abbrev pub items_parts : Level → Items → List Part
  items_parts level NoItems = []
  items_parts level (Lines lines items) = text_item lines ++ items_parts level items
  items_parts level (Seen event items) = seen_parts event ++ items_parts level items
  items_parts level (LogItem event position inside items) =
      log_parts level event position (items_parts (level_of level position) inside) ++ items_parts level items
  items_parts level (SilentLogs logs items) = silent_parts level (leading_logs logs) (items_parts level logs) ++ items_parts level items

-- The section with the tree.
abbrev pub section_start : List Part
section_start =
    MarkupPart markup.TreeSection ∷ MarkupPart markup.TreeHeading ∷ TextPart ALL_LOGS.now ∷ MarkupPart markup.EndHeading ∷ MarkupPart markup.QuietParagraph
    ∷ TextPart TREE_IS.now ∷ MarkupPart markup.EndParagraph ∷ MarkupPart markup.Tree ∷ []

abbrev pub section_end : List Part
section_end = MarkupPart markup.EndUnordered ∷ MarkupPart markup.EndSection ∷ []

-- The tree of everything that is shown.
abbrev pub tree_parts : List Log → Options → List Node → Contents → List Part
tree_parts logs options nodes contents =
    let build : Build = record { logs = logs; options = options; nodes = nodes; articles = articles nodes } in
    section_start ++ (items_parts build top_level (items_of build top_level 0 contents) ++ section_end)
