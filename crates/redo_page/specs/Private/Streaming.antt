-- The tree as it is written: event by event, with the open group or block. `tree_is_streamed` proves that these are the parts of `tree_parts`.
use Rattle.std.specs.Prelude.{ℕ, suc, ◌+◌, ◌-◌, ◌==◌, ◌&&◌, not, nat_le, nat_lt, Bool, List, [], ◌∷◌, ◌++◌, length, if◌then◌else◌}
use Rattle.redo_line.specs.declared.entry.Entry.TheVariants.{Text}
use Rattle.redo_line.specs.Lines.{with_line_feed}
use Rattle.redo_logs.specs.Logs.{Log}
use Rattle.redo_options.specs.declared.options.Options.{Options}
use Rattle.redo_view.specs.Event.{Event}
use Rattle.redo_view.specs.Event.Event.{EntryShown}
use Rattle.redo_html.specs.declared.markup.Markup.TheVariants as markup
use Rattle.redo_html.specs.declared.style.Style.{Style}
use Rattle.redo_html.specs.Lines.{style_after}
use Rattle.redo_html.specs.Style.{plain_style}
use Rattle.redo_html.specs.Parts.{Part}
use Rattle.redo_html.specs.Parts.Part.{MarkupPart, LogPart}
use Rattle.redo_outline.specs.declared.node.Node.{Node}
use Rattle.redo_outline.specs.Contents.{Contents}
use Rattle.redo_outline.specs.Contents.Contents.{Nothing, Shown, Opened}
use Rattle.redo_outline.specs.Outline.{log_count}
use Rattle.redo_page.specs.declared.block.Block.{Block}
use Rattle.redo_page.specs.declared.block.Pending.{Pending}
use Rattle.redo_page.specs.declared.block.Pending.TheVariants as pending
use Rattle.redo_page.specs.declared.level.Level.{Level}
use Rattle.redo_page.specs.Blocks.{max_block_bytes, max_block_lines}
use Rattle.redo_page.specs.Page.{tree_contents}
use Rattle.redo_page.specs.Scope.{View}
use Rattle.redo_page.specs.Targets.{parts_if}
use Rattle.redo_page.specs.Timeline.{timeline_parts}
use Rattle.redo_page.specs.Tree.{Build, articles, closing_parts, group_start_of, heading_parts, is_moved_if, is_seen, is_silent, level_of, min_group, nested_end, node_at, node_if, opening_parts, section_end, section_start, seen_parts, top_level}

-- ---- blocks

-- The number of bytes of a line, with its line feed.
abbrev pub line_size : List ℕ → ℕ
line_size line = length line + 1

-- Whether a line of this size fits into a block.
abbrev pub fits : Block → ℕ → Bool
fits block size = nat_lt block.lines max_block_lines && nat_le (block.bytes + size) max_block_bytes

abbrev pub new_block : Block
new_block = record { lines = 0; bytes = 0; style = plain_style }

abbrev pub with_line : Block → List ℕ → Block
with_line block line = record { lines = block.lines + 1; bytes = block.bytes + line_size line; style = style_after block.style (with_line_feed line) }

abbrev pub line_part : Style → List ℕ → Part
line_part style line = LogPart style (with_line_feed line)

-- The end of the open group or block.
abbrev pub end_parts : Pending → List Part
end_parts pending.Nothing = []
end_parts (pending.Group left) = nested_end
end_parts (pending.Text block) = MarkupPart markup.EndPre ∷ MarkupPart markup.EndItem ∷ []

-- The block that a line of this size is added to: the open block, if the line fits into it, or else a new one.
abbrev pub block_for : Pending → ℕ → Block
block_for (pending.Text block) size = if fits block size then block else new_block
block_for before size = new_block

-- The parts before such a line.
abbrev pub line_start : Pending → ℕ → List Part
line_start (pending.Text block) size = if fits block size then [] else MarkupPart markup.EndPre ∷ MarkupPart markup.Pre ∷ []
line_start before size = end_parts before ++ MarkupPart markup.Item ∷ MarkupPart markup.Pre ∷ []

-- A line, and the open block after it.
abbrev pub line_parts : Pending → List ℕ → List Part
line_parts before line = line_start before (line_size line) ++ line_part (block_for before (line_size line)).style line ∷ []

abbrev pub after_line : Pending → List ℕ → Pending
after_line before line = pending.Text (with_line (block_for before (line_size line)) line)

-- ---- groups of silent logs

-- The start of a group of this size, or nothing if it is 0.
abbrev pub group_parts : ℕ → List Part
group_parts size = parts_if (not (size == 0)) (group_start_of size)

-- The end of a group after a log, with which `left` logs were left of the group; 0 if the log is in no group.
abbrev pub group_end : ℕ → List Part
group_end left = parts_if (left == 1) nested_end

-- The group that is open after such a log.
abbrev pub after_log : ℕ → Pending
after_log left = if nat_lt 1 left then pending.Group (left - 1) else pending.Nothing

-- ---- the item of an event

-- A visible event is an item of its own. An invisible event ends nothing.
abbrev pub item_parts : Pending → Bool → List Part → List Part
item_parts before seen parts = if seen then end_parts before ++ parts else []

abbrev pub after_item : Pending → Bool → Pending
after_item before seen = if seen then pending.Nothing else before

module _ (build : Build) where
  -- The number of logs of the group that begins with the log at this position; 0 if none begins. There are no groups in a silent log.
  abbrev pub group_size : Level → ℕ → ℕ
  group_size level position =
      if nat_le min_group (node_at build.nodes position).silent && not (is_silent (node_if build.nodes level.position)) then (node_at build.nodes position).silent else 0

  -- The number of logs that are left of a group before a log, with this log; 0 if the log is in no group.
  abbrev pub group_left : Level → ℕ → Pending → ℕ
  group_left level position (pending.Group left) = left
  group_left level position before = group_size level position

  -- The parts before a log: the start of a group, if one begins here.
  abbrev pub group_start : Level → ℕ → Pending → List Part
  group_start level position (pending.Group left) = []
  group_start level position before = end_parts before ++ group_parts (group_size level position)

  -- A log before its contents, and after them.
  abbrev pub log_start : Level → ℕ → Pending → Event → List Part
  log_start level position before event = group_start level position before ++ opening_parts build level position (heading_parts build event position)

  abbrev pub log_end : Level → ℕ → ℕ → List Part
  log_end level position left = closing_parts build level position ++ group_end left

  -- A text line, unless it is in an article.
  abbrev pub text_parts : Level → Pending → List ℕ → List Part
  text_parts level before line = if is_moved_if build level.position then [] else line_parts before line

  abbrev pub after_text : Level → Pending → List ℕ → Pending
  after_text level before line = if is_moved_if build level.position then before else after_line before line

  -- An event that opens no log, and the open group or block after it.
  abbrev pub shown_parts : Level → Pending → Event → List Part
  shown_parts level before (EntryShown depth (Text line)) = text_parts level before line
  shown_parts level before event = item_parts before (is_seen build level event) (seen_parts build event)

  abbrev pub after_shown : Level → Pending → Event → Pending
  after_shown level before (EntryShown depth (Text line)) = after_text level before line
  after_shown level before event = after_item before (is_seen build level event)

  -- The parts of a log's contents. `position` is the next log's position, and `before` is the open group or block.
  abbrev pub contents_parts : Level → ℕ → Pending → Contents → List Part
  contents_parts level position before Nothing = end_parts before
  contents_parts level position before (Shown event rest) = shown_parts level before event ++ contents_parts level position (after_shown level before event) rest
  contents_parts level position before (Opened event number inside rest) =
      log_start level position before event
      ++ (contents_parts (level_of build level position) (suc position) pending.Nothing inside
      ++ (log_end level position (group_left level position before)
      ++ contents_parts level (suc position + log_count inside) (after_log (group_left level position before)) rest))

-- The tree of everything that is shown.
abbrev pub streamed_tree : List Log → Options → List Node → Contents → List Part
streamed_tree logs options nodes contents =
    let build : Build = record { logs = logs; options = options; nodes = nodes; articles = articles nodes } in
    section_start ++ (contents_parts build top_level 0 pending.Nothing contents ++ section_end)

-- The timeline and the tree.
abbrev pub streamed_body : View → Options → ℕ → List (List ℕ) → List Part
streamed_body view options budget requested =
    timeline_parts view ++ streamed_tree view.logs options view.nodes (tree_contents view.logs options budget requested view.nodes)
