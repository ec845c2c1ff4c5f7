-- The tags of the tree stay the same if names and text lines are blanked.
use Rattle.std.proofs.Common.{◌≡◌, ℤ, ℕ, zero, suc, ◌+◌, Bool, true, false, List, [], ◌∷◌, ◌++◌, Option, None, Some, drop, length, map, refl, sym, ◌∙◌, ap, arith}
use Rattle.std.specs.Prelude.{◌&&◌, not, bytes_eq, codes, nat_le, option_and_then, if◌then◌else◌}
use Rattle.std.specs.List.{flat_map}
use Rattle.std.proofs.lemmas.Grind.{flat_map-append}
use Rattle.std.proofs.lemmas.List.{length-map, map-append}
use Rattle.std.proofs.lemmas.List.Sums.{sum_by-cons}
use Rattle.redo_line.specs.declared.entry.Entry.TheVariants.{Text, Mention, Done, Closing, Note}
use Rattle.redo_line.specs.declared.entry.How.{How}
use Rattle.redo_line.specs.Lines.{with_line_feed}
use Rattle.redo_logs.specs.Logs.{Log, log_number}
use Rattle.redo_options.specs.declared.options.Options.{Options}
use Rattle.redo_view.specs.declared.event.Opening.{Opening}
use Rattle.redo_view.specs.Event.{Event}
use Rattle.redo_view.specs.Event.Event.{Requested, Mentioned, EntryShown, LogEnds}
use Rattle.redo_html.specs.declared.markup.Markup.{Markup}
use Rattle.redo_html.specs.declared.markup.Markup.TheVariants as markup
use Rattle.redo_html.specs.declared.style.Style.{Style}
use Rattle.redo_html.specs.Lines.{line_parts, style_after}
use Rattle.redo_html.specs.Parts.{Part}
use Rattle.redo_html.specs.Parts.Part.{MarkupPart, TextPart}
use Rattle.redo_html.specs.Style.{plain_style}
use Rattle.redo_outline.specs.declared.node.Node.{Node}
use Rattle.redo_outline.specs.Contents.{Contents}
use Rattle.redo_outline.specs.Contents.Contents.{Nothing, Shown, Opened}
use Rattle.redo_outline.specs.Facts.{is_failure, text_size}
use Rattle.redo_outline.specs.Outline.{log_count}
use Rattle.redo_page.specs.declared.level.Level.{Level}
use Rattle.redo_page.specs.Laws.{blank_event, blanked, markup_of}
use Rattle.redo_page.proofs.PartNames.{markups}
use Rattle.redo_page.specs.Targets.{exit_parts, how_parts, linked_parts}
use Rattle.redo_page.specs.Blocks.{lines_block, blocks_from, blocks_of, fit_together, max_block_bytes, max_block_lines, text_item}
use Rattle.redo_page.specs.Tree.{Build, Items, are_group, articles, closing_parts, depth_parts, done_parts, empty_start, event_before, flat_end, flat_start, group_start_of, heading_parts, is_empty, is_expanded, is_in_level, is_moved_if, is_seen_done, items_of, items_parts, leading_logs, level_of, line_before, log_before, log_parts, max_depth, mention_parts, moved_parts, nested_end, nested_start, node_at, note_parts, note_prefix, opening_parts, opening_position, position_of, position_of_name, section_start, seen_parts, silent_parts, top_level}
use Rattle.redo_page.specs.Tree.Items.{NoItems, Lines, Seen, LogItem, SilentLogs}
use Rattle.redo_page.proofs.ElementParts.{tree_inside}

-- Whether renamed targets have the same logs among others.
abbrev HaveSameLogs : (List ℕ → List ℕ) → List Log → List Log → Type 0
HaveSameLogs rename logs others = (name : List ℕ) → log_number (rename name) others ≡ log_number name logs

-- ---- tags

-- The tags of a block.
abbrev block_markups : List (List ℕ) → List Markup
block_markups block = markup.Pre ∷ markup.EndPre ∷ []

both_same : (a b c d : List Part) → markups a ≡ markups c → markups b ≡ markups d → markups (a ++ b) ≡ markups (c ++ d)
both_same a b c d first last = flat_map-append markup_of a b ∙ ap (λ t. t ++ markups b) first ∙ ap (λ t. markups c ++ t) last
    ∙ sym (flat_map-append markup_of c d)

-- A text line, with each byte blanked.
abbrev blank_line : List ℕ → List ℕ
blank_line line = map (λ byte. 32) line

size_same : (lines : List (List ℕ)) → text_size (map blank_line lines) ≡ text_size lines
size_same [] = refl
size_same (line ∷ lines) =
    let size = λ (text : List ℕ). length text + 1 in
    let blank = sum_by-cons size (blank_line line) (map blank_line lines) in
    let own = sum_by-cons size line lines in
    let same = length-map {B = ℕ} line (λ (byte : ℕ). 32) in
    let others = size_same lines in
    omega (arith, blank, own, same, others)

fit_same : (lines : List (List ℕ)) → fit_together (map blank_line lines) ≡ fit_together lines
fit_same lines = λ i. nat_le (length-map lines blank_line i) max_block_lines && nat_le (size_same lines i) max_block_bytes

blocks_same : (block lines : List (List ℕ))
    → flat_map block_markups (blocks_from (map blank_line block) (map blank_line lines)) ≡ flat_map block_markups (blocks_from block lines)
blocks_same block [] = refl
blocks_same block (line ∷ lines) =
    rw (sym (map-append blank_line block (line ∷ [])))
    (by (fit_together (map blank_line (block ++ line ∷ []))) (fit_together (block ++ line ∷ [])) (fit_same (block ++ line ∷ []))
    (blocks_same (block ++ line ∷ []) lines) (blocks_same (line ∷ []) lines))
  where
    by : (fit other : Bool) → fit ≡ other
        → flat_map block_markups (blocks_from (map blank_line (block ++ line ∷ [])) (map blank_line lines))
        ≡ flat_map block_markups (blocks_from (block ++ line ∷ []) lines)
        → flat_map block_markups (blocks_from (blank_line line ∷ []) (map blank_line lines))
        ≡ flat_map block_markups (blocks_from (line ∷ []) lines)
        → flat_map block_markups (if fit then blocks_from (map blank_line (block ++ line ∷ [])) (map blank_line lines)
        else map blank_line block ∷ blocks_from (blank_line line ∷ []) (map blank_line lines))
        ≡ flat_map block_markups (if other then blocks_from (block ++ line ∷ []) lines else block ∷ blocks_from (line ∷ []) lines)
    by true true is whole new = whole
    by false false is whole new = ap (λ (t : List Markup). markup.Pre ∷ markup.EndPre ∷ t) new
    by true false is whole new = absurd (cc)
    by false true is whole new = absurd (cc)

lines_have_none : (style : Style) (lines : List (List ℕ)) → markups (line_parts style lines) ≡ []
lines_have_none style [] = refl
lines_have_none style (line ∷ lines) = lines_have_none (style_after style (with_line_feed line)) lines

block_tags : (block : List (List ℕ)) → markups (lines_block block) ≡ block_markups block
block_tags block =
    ap (λ (t : List Markup). markup.Pre ∷ t)
    (flat_map-append markup_of (line_parts plain_style block) (MarkupPart markup.EndPre ∷ [])
    ∙ ap (λ (t : List Markup). t ++ markup.EndPre ∷ []) (lines_have_none plain_style block))

blocks_tags : (blocks : List (List (List ℕ))) → markups (flat_map lines_block blocks) ≡ flat_map block_markups blocks
blocks_tags [] = refl
blocks_tags (block ∷ blocks) =
    flat_map-append markup_of (lines_block block) (flat_map lines_block blocks)
    ∙ ap (λ (t : List Markup). t ++ markups (flat_map lines_block blocks)) (block_tags block)
    ∙ ap (λ (t : List Markup). block_markups block ++ t) (blocks_tags blocks)

text_tags : (lines : List (List ℕ)) → markups (text_item lines)
    ≡ markup.Item ∷ (flat_map block_markups (blocks_of lines) ++ markup.EndItem ∷ [])
text_tags lines =
    ap (λ (t : List Markup). markup.Item ∷ t)
    (flat_map-append markup_of (flat_map lines_block (blocks_of lines)) (MarkupPart markup.EndItem ∷ [])
    ∙ ap (λ (t : List Markup). t ++ markup.EndItem ∷ []) (blocks_tags (blocks_of lines)))

text_same : (lines : List (List ℕ)) → markups (text_item lines) ≡ markups (text_item (map blank_line lines))
text_same [] = refl
text_same (line ∷ lines) =
    text_tags (line ∷ lines)
    ∙ ap (λ (t : List Markup). markup.Item ∷ (t ++ markup.EndItem ∷ [])) (sym (blocks_same (line ∷ []) lines))
    ∙ sym (text_tags (map blank_line (line ∷ lines)))

note_same : (kind text : List ℕ) → markups (note_parts kind text) ≡ markups (note_parts [] [])
note_same kind text = by (bytes_eq kind (codes "check"))
  where
    by : (check : Bool) → markups (if check then note_parts (codes "check") text
        else MarkupPart markup.NoteItem ∷ TextPart (note_prefix kind) ∷ TextPart text ∷ MarkupPart markup.EndItem ∷ [])
        ≡ markups (note_parts [] [])
    by true = refl
    by false = refl

linked_same : (position : Option ℕ) (name other : List ℕ) → markups (linked_parts position name) ≡ markups (linked_parts position other)
linked_same None name other = refl
linked_same (Some position) name other = refl

module _ (rename : List ℕ → List ℕ) where
  -- Items with other names, and with blank text lines and notes.
  abbrev blank_items_of : Items → Items
  blank_items_of NoItems = NoItems
  blank_items_of (Lines lines items) = Lines (map blank_line lines) (blank_items_of items)
  blank_items_of (Seen event items) = Seen (blank_event rename event) (blank_items_of items)
  blank_items_of (LogItem event position inside items) =
      LogItem (blank_event rename event) position (blank_items_of inside) (blank_items_of items)
  blank_items_of (SilentLogs logs items) = SilentLogs (blank_items_of logs) (blank_items_of items)

-- The two builds differ in their logs alone.
module _ (rename : List ℕ → List ℕ) (logs others : List Log) (options : Options) (nodes : List Node) (shown : List ℕ)
    (numbers : HaveSameLogs rename logs others) where
  abbrev build : Build
  build = record { logs = logs; options = options; nodes = nodes; articles = shown }

  abbrev renamed : Build
  renamed = record { logs = others; options = options; nodes = nodes; articles = shown }

  named_same : (name : List ℕ) → position_of_name build name ≡ position_of_name renamed (rename name)
  named_same name = ap (option_and_then (position_of nodes)) (sym (numbers name))

  seen_same : (level : Level) (status : ℤ) (name : List ℕ)
      → is_seen_done build level status name ≡ is_seen_done renamed level status (rename name)
  seen_same level status name = ap (λ position. is_failure (Some status) && not (is_in_level build level position)) (named_same name)

  done_same : (status : ℤ) (name : List ℕ) → markups (done_parts build status name) ≡ markups (done_parts renamed status (rename name))
  done_same status name =
      let end = exit_parts status ++ (MarkupPart markup.EndItem ∷ []) in
      ap (λ t. markup.NoteItem ∷ t) (both_same (linked_parts (position_of_name build name) name) end
      (linked_parts (position_of_name renamed (rename name)) (rename name)) end
      (linked_same (position_of_name build name) name (rename name)
      ∙ ap (λ position. markups (linked_parts position (rename name))) (named_same name)) refl)

  mention_same : (how : How) (name : List ℕ) (opening : Opening)
      → markups (mention_parts build how name opening) ≡ markups (mention_parts renamed how (rename name) opening)
  mention_same how name opening =
      let end = how_parts build.options.debug_locks how ++ (MarkupPart markup.EndItem ∷ []) in
      ap (λ t. markup.Item ∷ t) (both_same (linked_parts (opening_position build opening) name) end
      (linked_parts (opening_position build opening) (rename name)) end
      (linked_same (opening_position build opening) name (rename name)) refl)

  -- The parts of an event that is seen.
  entry_same : (event : Event) → markups (seen_parts build event) ≡ markups (seen_parts renamed (blank_event rename event))
  entry_same (Requested name opening) = refl
  entry_same (Mentioned depth pid how name opening) = mention_same how name opening
  entry_same (EntryShown depth (Text line)) = refl
  entry_same (EntryShown depth (Mention pid how name)) = refl
  entry_same (EntryShown depth (Done pid status name)) = done_same status name
  entry_same (EntryShown depth (Closing pid status)) = refl
  entry_same (EntryShown depth (Note pid kind text)) = note_same kind text
  entry_same (LogEnds depth) = refl

  -- ---- logs

  heading_same : (event : Event) (position : ℕ)
      → markups (heading_parts build event position) ≡ markups (heading_parts renamed (blank_event rename event) position)
  heading_same (Requested name opening) position = refl
  heading_same (Mentioned depth pid how name opening) position = refl
  heading_same (EntryShown depth (Text line)) position = refl
  heading_same (EntryShown depth (Mention pid how name)) position = refl
  heading_same (EntryShown depth (Done pid status name)) position = refl
  heading_same (EntryShown depth (Closing pid status)) position = refl
  heading_same (EntryShown depth (Note pid kind text)) position = refl
  heading_same (LogEnds depth) position = refl

  opening_same : (level : Level) (position : ℕ) (heading other : List Part) → markups heading ≡ markups other
      → markups (opening_parts build level position heading) ≡ markups (opening_parts build level position other)
  opening_same level position heading other same =
      by (is_empty (node_at build.nodes position)) (nat_le max_depth level.depth) (is_expanded build level (node_at build.nodes position))
    where
      by : (empty deep expanded : Bool) → markups
          (if empty then empty_start position heading else if deep then flat_start build position level.depth heading
          else nested_start build expanded position heading)
          ≡ markups (if empty then empty_start position other else if deep then flat_start build position level.depth other
          else nested_start build expanded position other)
      by true deep expanded = ap (λ t. markup.TargetItem position ∷ t) same
      by false true expanded = ap (λ t. markup.TargetItem position ∷ t)
          (both_same heading (depth_parts level.depth ++ moved_parts build position) other
          (depth_parts level.depth ++ moved_parts build position) same refl)
      by false false true =
          let end = (MarkupPart markup.EndSummary ∷ MarkupPart markup.Unordered ∷ []) ++ moved_parts build position in
          ap (λ t. markup.Item ∷ markup.OpenDetails position ∷ markup.Summary ∷ t) (both_same heading end other end same refl)
      by false false false =
          let end = (MarkupPart markup.EndSummary ∷ MarkupPart markup.Unordered ∷ []) ++ moved_parts build position in
          ap (λ t. markup.Item ∷ markup.Details position ∷ markup.Summary ∷ t) (both_same heading end other end same refl)

  closing_same : (level : Level) (position : ℕ)
      → markups (closing_parts build level position) ≡ markups (closing_parts renamed level position)
  closing_same level position = by (is_empty (node_at nodes position)) (nat_le max_depth level.depth)
    where
      by : (empty deep : Bool) → markups
          (if empty then MarkupPart markup.EndItem ∷ [] else if deep then flat_end build position else nested_end)
          ≡ markups (if empty then MarkupPart markup.EndItem ∷ [] else if deep then flat_end renamed position else nested_end)
      by true deep = refl
      by false true = refl
      by false false = refl

  count_same : (contents : Contents) → log_count contents ≡ log_count (blanked rename contents)
  count_same Nothing = refl
  count_same (Shown event rest) = count_same rest
  count_same (Opened event number inside rest) =
      ap (λ n. suc (n + log_count rest)) (count_same inside) ∙ ap (λ n. suc (log_count (blanked rename inside) + n)) (count_same rest)

  -- ---- items

  line_blanked : (line : List ℕ) (items : Items) → line_before (blank_line line) (blank_items_of rename items)
      ≡ blank_items_of rename (line_before line items)
  line_blanked line NoItems = refl
  line_blanked line (Lines lines items) = refl
  line_blanked line (Seen event items) = refl
  line_blanked line (LogItem event position inside items) = refl
  line_blanked line (SilentLogs logs items) = refl

  seen_blanked : (event : Event) (seen other : Bool) (items : Items) → seen ≡ other
      → (if other then Seen (blank_event rename event) (blank_items_of rename items) else blank_items_of rename items)
      ≡ blank_items_of rename (if seen then Seen event items else items)
  seen_blanked event true true items is = refl
  seen_blanked event false false items is = refl
  seen_blanked event true false items is = absurd (cc)
  seen_blanked event false true items is = absurd (cc)

  event_blanked : (level : Level) (event : Event) (items : Items)
      → event_before renamed level (blank_event rename event) (blank_items_of rename items)
      ≡ blank_items_of rename (event_before build level event items)
  event_blanked level (Requested name opening) items = refl
  event_blanked level (Mentioned depth pid how name opening) items = refl
  event_blanked level (EntryShown depth (Text line)) items = by (is_moved_if build level.position)
    where
      by : (moved : Bool) → (if moved then blank_items_of rename items else line_before (blank_line line) (blank_items_of rename items))
          ≡ blank_items_of rename (if moved then items else line_before line items)
      by true = refl
      by false = line_blanked line items
  event_blanked level (EntryShown depth (Mention pid how name)) items = refl
  event_blanked level (EntryShown depth (Done pid status name)) items =
      seen_blanked (EntryShown depth (Done pid status name)) (is_seen_done build level status name)
      (is_seen_done renamed level status (rename name)) items (seen_same level status name)
  event_blanked level (EntryShown depth (Closing pid status)) items = refl
  event_blanked level (EntryShown depth (Note pid kind text)) items = refl
  event_blanked level (LogEnds depth) items = refl

  log_blanked : (silent : ℕ) (event : Event) (position : ℕ) (inside items : Items)
      → log_before silent (LogItem (blank_event rename event) position (blank_items_of rename inside)) (blank_items_of rename items)
      ≡ blank_items_of rename (log_before silent (LogItem event position inside) items)
  log_blanked zero event position inside items = refl
  log_blanked (suc zero) event position inside items = refl
  log_blanked (suc (suc more)) event position inside NoItems = refl
  log_blanked (suc (suc more)) event position inside (Lines lines items) = refl
  log_blanked (suc (suc more)) event position inside (Seen other items) = refl
  log_blanked (suc (suc more)) event position inside (LogItem other at within items) = refl
  log_blanked (suc (suc more)) event position inside (SilentLogs logs items) = refl

  contents_blanked : (level : Level) (position : ℕ) (contents : Contents)
      → items_of renamed level position (blanked rename contents) ≡ blank_items_of rename (items_of build level position contents)
  contents_blanked level position Nothing = refl
  contents_blanked level position (Shown event rest) =
      ap (λ (items : Items). event_before renamed level (blank_event rename event) items) (contents_blanked level position rest)
      ∙ event_blanked level event (items_of build level position rest)
  contents_blanked level position (Opened event number inside rest) =
      let silent = (node_at nodes position).silent in
      let inner = contents_blanked (level_of build level position) (suc position) inside in
      let others = ap (λ (n : ℕ). items_of renamed level (suc position + n) (blanked rename rest)) (sym (count_same inside))
      ∙ contents_blanked level (suc position + log_count inside) rest in
      (λ i. log_before silent (LogItem (blank_event rename event) position (inner i)) (others i))
      ∙ log_blanked silent event position (items_of build (level_of build level position) (suc position) inside)
      (items_of build level (suc position + log_count inside) rest)

  leading_same : (items : Items) → leading_logs items ≡ leading_logs (blank_items_of rename items)
  leading_same NoItems = refl
  leading_same (Lines lines items) = refl
  leading_same (Seen event items) = refl
  leading_same (LogItem event position inside items) = ap suc (leading_same items)
  leading_same (SilentLogs logs items) = refl

  log_same : (level : Level) (event : Event) (position : ℕ) (inside other : List Part) → markups inside ≡ markups other
      → markups (log_parts build level event position inside) ≡ markups (log_parts renamed level (blank_event rename event) position other)
  log_same level event position inside other same =
      both_same (opening_parts build level position (heading_parts build event position)) (inside ++ closing_parts build level position)
      (opening_parts renamed level position (heading_parts renamed (blank_event rename event) position))
      (other ++ closing_parts renamed level position)
      (opening_same level position (heading_parts build event position) (heading_parts renamed (blank_event rename event) position)
      (heading_same event position))
      (both_same inside (closing_parts build level position) other (closing_parts renamed level position) same
      (closing_same level position))

  silent_same : (level : Level) (size : ℕ) (logs others : List Part) → markups logs ≡ markups others
      → markups (silent_parts build level size logs) ≡ markups (silent_parts renamed level size others)
  silent_same level size logs others same = by (are_group build level size)
    where
      by : (group : Bool) → markups (if group then group_start_of size ++ (logs ++ nested_end) else logs)
          ≡ markups (if group then group_start_of size ++ (others ++ nested_end) else others)
      by true = both_same (group_start_of size) (logs ++ nested_end) (group_start_of size) (others ++ nested_end) refl
          (both_same logs nested_end others nested_end same refl)
      by false = same

  items_same : (level : Level) (items : Items) → markups (items_parts build level items)
      ≡ markups (items_parts renamed level (blank_items_of rename items))
  items_same level NoItems = refl
  items_same level (Lines lines items) =
      both_same (text_item lines) (items_parts build level items) (text_item (map blank_line lines))
      (items_parts renamed level (blank_items_of rename items)) (text_same lines) (items_same level items)
  items_same level (Seen event items) =
      both_same (seen_parts build event) (items_parts build level items) (seen_parts renamed (blank_event rename event))
      (items_parts renamed level (blank_items_of rename items)) (entry_same event) (items_same level items)
  items_same level (LogItem event position inside items) =
      let inner = items_parts build (level_of build level position) inside in
      let other = items_parts renamed (level_of renamed level position) (blank_items_of rename inside) in
      both_same (log_parts build level event position inner) (items_parts build level items)
      (log_parts renamed level (blank_event rename event) position other) (items_parts renamed level (blank_items_of rename items))
      (log_same level event position inner other (items_same (level_of build level position) inside)) (items_same level items)
  items_same level (SilentLogs logs items) =
      both_same (silent_parts build level (leading_logs logs) (items_parts build level logs)) (items_parts build level items)
      (silent_parts renamed level (leading_logs (blank_items_of rename logs)) (items_parts renamed level (blank_items_of rename logs)))
      (items_parts renamed level (blank_items_of rename items))
      (ap (λ (n : ℕ). markups (silent_parts build level n (items_parts build level logs))) (leading_same logs)
      ∙ silent_same level (leading_logs (blank_items_of rename logs)) (items_parts build level logs)
      (items_parts renamed level (blank_items_of rename logs))
      (items_same level logs))
      (items_same level items)

pub tree_same : (logs others : List Log) (rename : List ℕ → List ℕ) → HaveSameLogs rename logs others
    → (options : Options) (nodes : List Node) (contents : Contents)
    → markups (tree_inside others options nodes (blanked rename contents)) ≡ markups (tree_inside logs options nodes contents)
tree_same logs others rename numbers options nodes contents =
    let build : Build = record { logs = logs; options = options; nodes = nodes; articles = articles nodes } in
    let renamed : Build = record { logs = others; options = options; nodes = nodes; articles = articles nodes } in
    let items = items_of build top_level 0 contents in
    let blank = items_of renamed top_level 0 (blanked rename contents) in
    let last : List Part = MarkupPart markup.EndUnordered ∷ [] in
    both_same (drop 1 section_start) (items_parts renamed top_level blank ++ last) (drop 1 section_start)
    (items_parts build top_level items ++ last) refl
    (both_same (items_parts renamed top_level blank) last (items_parts build top_level items) last
    (ap (λ (these : Items). markups (items_parts renamed top_level these))
    (contents_blanked rename logs others options nodes (articles nodes) numbers top_level 0 contents)
    ∙ sym (items_same rename logs others options nodes (articles nodes) numbers top_level items)) refl)
