-- The parts of the items of some contents are those that are written event by event.
use Rattle.std.proofs.Common.{◌≡◌, ℕ, zero, suc, ◌+◌, ◌-◌, ◌<◌, Bool, true, false, List, [], ◌∷◌, ◌++◌, length, refl, sym, ◌∙◌, ap, arith}
use Rattle.std.specs.Prelude.{◌&&◌, not, nat_le, nat_lt, if◌then◌else◌}
use Rattle.std.specs.List.{flat_map}
use Rattle.std.proofs.lemmas.Bool.{cond-true, lt-ltb, leb-false, lt-leb, ne_eqb}
use Rattle.std.proofs.lemmas.List.{append_assoc, append-nil, length-append}
use Rattle.std.proofs.lemmas.List.Sums.{sum_by-append}
use Rattle.redo_line.specs.declared.entry.Entry.TheVariants.{Text, Mention, Done, Closing, Note}
use Rattle.redo_line.specs.Lines.{with_line_feed}
use Rattle.redo_view.specs.Event.{Event}
use Rattle.redo_view.specs.Event.Event.{Requested, Mentioned, EntryShown, LogEnds}
use Rattle.redo_html.specs.declared.markup.Markup.TheVariants as markup
use Rattle.redo_html.specs.declared.style.Style.{Style}
use Rattle.redo_html.specs.Lines as html
use Rattle.redo_html.specs.Parts.{Part}
use Rattle.redo_html.specs.Parts.Part.{MarkupPart, LogPart}
use Rattle.redo_html.specs.Style.{plain_style}
use Rattle.redo_outline.specs.Contents.{Contents}
use Rattle.redo_outline.specs.Contents.Contents.{Nothing, Shown, Opened}
use Rattle.redo_outline.specs.Facts.{text_size}
use Rattle.redo_outline.specs.Outline.{log_count}
use Rattle.redo_page.specs.declared.block.Block.{Block}
use Rattle.redo_page.specs.declared.block.Pending.{Pending}
use Rattle.redo_page.specs.declared.block.Pending.TheVariants as pending
use Rattle.redo_page.specs.declared.level.Level.{Level}
use Rattle.redo_page.specs.Blocks.{lines_block, blocks_from, fit_together, max_block_bytes, max_block_lines, text_item}
use Rattle.redo_page.specs.Tree.{Build, Items, closing_parts, event_before, group_start_of, heading_parts, is_moved_if, is_seen, is_silent, items_of, items_parts, leading_logs, level_of, line_before, log_before, log_parts, min_group, nested_end, node_at, node_if, opening_parts, seen_parts, silent_before, silent_parts}
use Rattle.redo_page.specs.Tree.Items.{NoItems, Lines, Seen, LogItem, SilentLogs}
use Rattle.redo_page.specs.Private.Streaming.{after_item, after_line, after_log, after_shown, contents_parts, end_parts, fits, group_end, group_left, group_parts, group_start, item_parts, line_parts, line_size, log_end, log_start, new_block, shown_parts, with_line}
use Rattle.redo_page.specs.Private.Texts.{lines_parts}

-- ---- blocks

-- Whether a block has these lines.
record HasLines (lines : List (List ℕ)) (block : Block) : Type 0 where
  pub count : block.lines ≡ length lines
  pub bytes : block.bytes ≡ text_size lines
  pub style : block.style ≡ html.style_after_lines plain_style lines

style_then : (style : Style) (lines : List (List ℕ)) (line : List ℕ)
    → html.style_after_lines style (lines ++ line ∷ []) ≡ html.style_after (html.style_after_lines style lines) (with_line_feed line)
style_then style [] line = refl
style_then style (first ∷ lines) line = style_then (html.style_after style (with_line_feed first)) lines line

parts_then : (style : Style) (lines : List (List ℕ)) (line : List ℕ)
    → html.line_parts style (lines ++ line ∷ [])
    ≡ html.line_parts style lines ++ LogPart (html.style_after_lines style lines) (with_line_feed line) ∷ []
parts_then style [] line = refl
parts_then style (first ∷ lines) line =
    ap (λ (ps : List Part). LogPart style (with_line_feed first) ∷ ps)
    (parts_then (html.style_after style (with_line_feed first)) lines line)

one_line : (line : List ℕ) → HasLines (line ∷ []) (with_line new_block line)
one_line line = record { count = refl; bytes = omega arith; style = refl }

size_then : (lines : List (List ℕ)) (line : List ℕ) → text_size (lines ++ line ∷ []) ≡ text_size lines + line_size line
size_then lines line = let all = sum_by-append (λ (text : List ℕ). length text + 1) lines (line ∷ []) in omega (arith, all)

has_then : (lines : List (List ℕ)) (block : Block) (line : List ℕ) → HasLines lines block
    → HasLines (lines ++ line ∷ []) (with_line block line)
has_then lines block line has =
    let all = length-append lines (line ∷ []) in
    let size = size_then lines line in
    let count = has.count in
    let bytes = has.bytes in
    record {
      count = omega (arith, all, count);
      bytes = omega (arith, size, bytes);
      style = ap (λ (style : Style). html.style_after style (with_line_feed line)) has.style ∙ sym (style_then plain_style lines line);
    }

fits_same : (lines : List (List ℕ)) (block : Block) (line : List ℕ) → HasLines lines block
    → fit_together (lines ++ line ∷ []) ≡ fits block (line_size line)
fits_same lines block line has =
    let all : length (lines ++ line ∷ []) ≡ suc block.lines =
    (let n = length-append lines (line ∷ []) in let count = has.count in omega (arith, n, count)) in
    let size : text_size (lines ++ line ∷ []) ≡ block.bytes + line_size line =
    (let n = size_then lines line in let bytes = has.bytes in omega (arith, n, bytes)) in
    λ i. nat_le (all i) max_block_lines && nat_le (size i) max_block_bytes

-- The lines of a block and those after it are written as blocks.
abbrev IsCut : List (List ℕ) → List (List ℕ) → Block → Type 0
IsCut lines block state = flat_map lines_block (blocks_from block lines)
    ≡ (MarkupPart markup.Pre ∷ html.line_parts plain_style block)
    ++ (lines_parts (pending.Text state) lines ++ MarkupPart markup.EndPre ∷ [])

blocks_are : (block : List (List ℕ)) (state : Block) (lines : List (List ℕ)) → HasLines block state → IsCut lines block state
blocks_are block state [] has = append-nil (lines_block block)
blocks_are block state (line ∷ lines) has =
    by (fits state (line_size line)) refl
    (blocks_are (block ++ line ∷ []) (with_line state line) lines (has_then block state line has))
    (blocks_are (line ∷ []) (with_line new_block line) lines (one_line line))
  where
    by : (fit : Bool) → fits state (line_size line) ≡ fit → IsCut lines (block ++ line ∷ []) (with_line state line)
        → IsCut lines (line ∷ []) (with_line new_block line)
        → flat_map lines_block (if fit_together (block ++ line ∷ []) then blocks_from (block ++ line ∷ []) lines
        else block ∷ blocks_from (line ∷ []) lines)
        ≡ (MarkupPart markup.Pre ∷ html.line_parts plain_style block)
        ++ (lines_parts (pending.Text state) (line ∷ lines) ++ MarkupPart markup.EndPre ∷ [])
    by true is same new =
        rw (fits_same block state line has, is)
        (same
        ∙ ap (λ (ps : List Part). (MarkupPart markup.Pre ∷ ps) ++ (lines_parts (pending.Text (with_line state line)) lines
        ++ MarkupPart markup.EndPre ∷ []))
        (parts_then plain_style block line
        ∙ ap (λ (style : Style). html.line_parts plain_style block ++ LogPart style (with_line_feed line) ∷ []) (sym has.style))
        ∙ simp append_assoc)
    by false is same new =
        rw (fits_same block state line has, is) (ap (λ (ps : List Part). lines_block block ++ ps) new ∙ simp append_assoc)

abbrev block_end : List Part → List Part
block_end rest = MarkupPart markup.EndPre ∷ MarkupPart markup.EndItem ∷ rest

-- ---- rows of silent logs

-- The number of silent logs in a row with which items begin.
abbrev pub row_size : Items → ℕ
row_size (SilentLogs logs items) = leading_logs logs
row_size items = 0

-- Whether the number of silent logs from a log on fits the row after it.
abbrev pub CountsRow : ℕ → ℕ → Type 0
CountsRow zero row = Unit {0}
CountsRow (suc zero) row = Unit {0}
CountsRow (suc (suc more)) row = row ≡ suc more

-- The open group ends with the row.
abbrev pub EndsWith : Pending → ℕ → Type 0
EndsWith pending.Nothing row = Unit {0}
EndsWith (pending.Text block) row = Unit {0}
EndsWith (pending.Group left) row = (row ≡ left) × (0 < row)

row_found : (row : ℕ) (items : Items) → row_size items ≡ suc row
    → (logs : Items) × (others : Items) × (items ≡ SilentLogs logs others) × (leading_logs logs ≡ suc row)
row_found row NoItems is = absurd (omega (arith, is))
row_found row (Lines lines items) is = absurd (omega (arith, is))
row_found row (Seen event items) is = absurd (omega (arith, is))
row_found row (LogItem event position inside items) is = absurd (omega (arith, is))
row_found row (SilentLogs logs items) is = (logs, items, refl, is)

pub row_is : (event : Event) (position : ℕ) (inner items : Items) (silent : ℕ) → CountsRow silent (row_size items)
    → row_size (log_before silent (λ (others : Items). LogItem event position inner others) items) ≡ silent
row_is event position inner items zero counts = refl
row_is event position inner items (suc zero) counts = refl
row_is event position inner items (suc (suc more)) counts =
    let found = row_found more items counts in
    ap (λ (these : Items). row_size (silent_before (λ (others : Items). LogItem event position inner others) these)) found.2
    ∙ ap suc found.3

line_no_row : (line : List ℕ) (items : Items) → row_size (line_before line items) ≡ 0
line_no_row line NoItems = refl
line_no_row line (Lines lines items) = refl
line_no_row line (Seen event items) = refl
line_no_row line (LogItem event position inside items) = refl
line_no_row line (SilentLogs logs items) = refl

after_more : (more : ℕ) → after_log (suc (suc more)) ≡ pending.Group (suc more)
after_more more = cond-true (nat_lt 1 (suc (suc more))) (pending.Group (suc (suc more) - 1)) pending.Nothing
    (lt-ltb 1 (suc (suc more)) (omega arith)) ∙ ap (λ (n : ℕ). pending.Group n) (omega arith)

and_false : (b : Bool) → (b && false) ≡ false
and_false true = refl
and_false false = refl

no_end : (more : ℕ) → group_end (suc (suc more)) ≡ []
no_end more = ap (λ (b : Bool). if b then nested_end else []) (ne_eqb (suc (suc more)) 1 (λ is. omega (arith, is)))

some_start : (more : ℕ) → group_parts (suc (suc more)) ≡ group_start_of (suc (suc more))
some_start more = ap (λ (b : Bool). if not b then group_start_of (suc (suc more)) else [])
    (ne_eqb (suc (suc more)) 0 (λ is. omega (arith, is)))

smaller_no_group : (size : ℕ) (free : Bool) → (nat_le min_group (suc size) && free) ≡ false → (nat_le min_group size && free) ≡ false
smaller_no_group size true is = by (nat_le min_group (suc size)) refl
  where
    by : (enough : Bool) → nat_le min_group (suc size) ≡ enough → (nat_le min_group size && true) ≡ false
    by true many = let no : true ≡ false = ap (λ (b : Bool). b && true) (sym many) ∙ is in cc
    by false few = ap (λ (b : Bool). b && true)
        (lt-leb min_group size (let below = leb-false min_group (suc size) few in omega (arith, below)))
smaller_no_group size false is = and_false (nat_le min_group size)

regroup : (end start opening inside closing first last others : List Part)
    → ((end ++ start) ++ opening) ++ (inside ++ ((closing ++ []) ++ (first ++ (last ++ others))))
    ≡ end ++ ((start ++ (((opening ++ (inside ++ closing)) ++ first) ++ last)) ++ others)
regroup end start opening inside closing first last others = simp (append_assoc, append-nil)

regrouped : (opening inside closing first last others : List Part)
    → opening ++ (inside ++ ((closing ++ []) ++ (first ++ (last ++ others)))) ≡ ((opening ++ (inside ++ closing)) ++ first)
    ++ (last ++ others)
regrouped opening inside closing first last others = simp (append_assoc, append-nil)

module _ (build : Build) where
  -- The parts of items after an open group or block.
  abbrev pub items_after : Level → Pending → Items → List Part
  items_after level pending.Nothing items = items_parts build level items
  items_after level (pending.Text block) (Lines lines items) =
      lines_parts (pending.Text block) lines ++ (MarkupPart markup.EndPre ∷ MarkupPart markup.EndItem ∷ items_parts build level items)
  items_after level (pending.Text block) items = MarkupPart markup.EndPre ∷ MarkupPart markup.EndItem ∷ items_parts build level items
  items_after level (pending.Group left) (SilentLogs logs items) =
      items_parts build level logs ++ (nested_end ++ items_parts build level items)
  items_after level (pending.Group left) items = nested_end ++ items_parts build level items

  -- Each node counts the silent logs in a row from its log on.
  abbrev pub CountRows : Level → ℕ → Contents → Type 0
  CountRows level position Nothing = Unit {0}
  CountRows level position (Shown event rest) = CountRows level position rest
  CountRows level position (Opened event number inside rest) =
      CountsRow (node_at build.nodes position).silent (row_size (items_of build level (suc position + log_count inside) rest))
      × CountRows (level_of build level position) (suc position) inside
      × CountRows level (suc position + log_count inside) rest

  -- ---- text lines

  line_then : (level : Level) (before : Pending) (line : List ℕ) (items : Items) → EndsWith before (row_size (line_before line items))
      → line_parts before line ++ items_after level (after_line before line) items ≡ items_after level before (line_before line items)
  line_then level (pending.Group left) line items ends =
      absurd (let none = line_no_row line items in let some = ends.1 in omega (arith, none, some))
  line_then level pending.Nothing line items ends = by items
    where
      cut : (lines : List (List ℕ)) (rest : List Part)
          → (MarkupPart markup.Item ∷ MarkupPart markup.Pre ∷ LogPart plain_style (with_line_feed line) ∷ [])
          ++ (lines_parts (pending.Text (with_line new_block line)) lines ++ (MarkupPart markup.EndPre ∷ MarkupPart markup.EndItem ∷ rest))
          ≡ text_item (line ∷ lines) ++ rest
      cut lines rest =
          sym (ap (λ (ps : List Part). (MarkupPart markup.Item ∷ (ps ++ MarkupPart markup.EndItem ∷ [])) ++ rest)
          (blocks_are (line ∷ []) (with_line new_block line) lines (one_line line)) ∙ simp append_assoc)

      by : (next : Items) → line_parts pending.Nothing line ++ items_after level (after_line pending.Nothing line) next
          ≡ items_after level pending.Nothing (line_before line next)
      by NoItems = cut [] (items_parts build level NoItems)
      by (Lines lines others) = cut lines (items_parts build level others)
      by (Seen event others) = cut [] (items_parts build level (Seen event others))
      by (LogItem event position inside others) = cut [] (items_parts build level (LogItem event position inside others))
      by (SilentLogs logs others) = cut [] (items_parts build level (SilentLogs logs others))
  line_then level (pending.Text block) line items ends = by items
    where
      more : (lines : List (List ℕ)) (rest : List Part)
          → line_parts (pending.Text block) line ++ (lines_parts (after_line (pending.Text block) line) lines ++ rest)
          ≡ lines_parts (pending.Text block) (line ∷ lines) ++ rest
      more lines rest = sym
          (append_assoc (line_parts (pending.Text block) line) (lines_parts (after_line (pending.Text block) line) lines) rest)

      by : (next : Items) → line_parts (pending.Text block) line ++ items_after level (after_line (pending.Text block) line) next
          ≡ items_after level (pending.Text block) (line_before line next)
      by NoItems = more [] (block_end (items_parts build level NoItems))
      by (Lines lines others) = more lines (block_end (items_parts build level others))
      by (Seen event others) = more [] (block_end (items_parts build level (Seen event others)))
      by (LogItem event position inside others) = more [] (block_end (items_parts build level (LogItem event position inside others)))
      by (SilentLogs logs others) = more [] (block_end (items_parts build level (SilentLogs logs others)))

  -- ---- a log

  module _ (level : Level) (position : ℕ) (event : Event) (inner items : Items) (after : Pending → List Part)
      (same : (before : Pending) → EndsWith before (row_size items) → after before ≡ items_after level before items) where
    abbrev free : Bool
    free = not (is_silent (node_if build.nodes level.position))

    abbrev log : Items → Items
    log others = LogItem event position inner others

    abbrev opening : List Part
    opening = opening_parts build level position (heading_parts build event position)

    abbrev inside : List Part
    inside = items_parts build (level_of build level position) inner

    abbrev closing : List Part
    closing = closing_parts build level position

    -- The log, if the group that it begins has this number of logs.
    abbrev begun : List Part → ℕ → List Part
    begun end size =
        ((end ++ group_parts size) ++ opening) ++ (inside ++ ((closing ++ group_end size) ++ after (after_log size)))

    -- The log, in a group.
    abbrev going : ℕ → List Part
    going left = ([] ++ opening) ++ (inside ++ ((closing ++ group_end left) ++ after (after_log left)))

    alone : (end : List Part)
        → begun end 0 ≡ end ++ (log_parts build level event position inside ++ items_parts build level items)
    alone end =
        ap (λ (ps : List Part). ((end ++ []) ++ opening) ++ (inside ++ ((closing ++ []) ++ ps))) (same pending.Nothing tt)
        ∙ simp (append_assoc, append-nil)

    last_alone : (end : List Part)
        → begun end 0 ≡ end ++ ((log_parts build level event position inside ++ []) ++ items_parts build level items)
    last_alone end = alone end ∙ simp append-nil

    begun_is : (end : List Part) (silent : ℕ) → CountsRow silent (row_size items)
        → begun end (if nat_le min_group silent && free then silent else 0) ≡ end ++ items_parts build level (log_before silent log items)
    begun_is end zero counts = alone end
    begun_is end (suc zero) counts = last_alone end
    begun_is end (suc (suc more)) counts =
        let found = row_found more items counts in
        by found.0 found.1 found.2 found.3 (nat_le min_group (suc (suc more)) && free) refl
      where
        by : (logs others : Items) → items ≡ SilentLogs logs others → leading_logs logs ≡ suc more → (group : Bool)
            → (nat_le min_group (suc (suc more)) && free) ≡ group
            → begun end (if nat_le min_group (suc (suc more)) && free then suc (suc more) else 0)
            ≡ end ++ items_parts build level (log_before (suc (suc more)) log items)
        by logs others is count true large =
            let first = items_parts build level logs in
            let last = items_parts build level others in
            let row = log_parts build level event position inside ++ first in
            let size = suc (suc more) in
            let rest : after (after_log size) ≡ first ++ (nested_end ++ last) =
            ap after (after_more more) ∙ same (pending.Group (suc more)) (counts, omega (arith, counts))
            ∙ ap (items_after level (pending.Group (suc more))) is in
            ap (λ (g : Bool). begun end (if g then size else 0)) large
            ∙ ap (λ (ps : List Part). ((end ++ ps) ++ opening) ++ (inside ++ ((closing ++ group_end size) ++ after (after_log size))))
            (some_start more)
            ∙ ap (λ (ps : List Part). ((end ++ group_start_of size) ++ opening)
            ++ (inside ++ ((closing ++ ps) ++ after (after_log size)))) (no_end more)
            ∙ ap (λ (ps : List Part). ((end ++ group_start_of size) ++ opening) ++ (inside ++ ((closing ++ []) ++ ps))) rest
            ∙ regroup end (group_start_of size) opening inside closing first nested_end last
            ∙ ap (λ (g : Bool). end ++ ((if g then group_start_of size ++ (row ++ nested_end) else row) ++ last)) (sym large)
            ∙ ap (λ (n : ℕ). end ++ (silent_parts build level (suc n) row ++ last)) (sym count)
            ∙ ap (λ (these : Items). end ++ items_parts build level (silent_before log these)) (sym is)
        by logs others is count false small =
            let first = items_parts build level logs in
            let last = items_parts build level others in
            let one = log_parts build level event position inside in
            let size = suc (suc more) in
            ap (λ (g : Bool). begun end (if g then size else 0)) small
            ∙ alone end
            ∙ ap (λ (these : Items). end ++ (one ++ items_parts build level these)) is
            ∙ ap (λ (n : ℕ). end ++ (one ++ (silent_parts build level n first ++ last))) count
            ∙ ap (λ (g : Bool). end ++ (one ++ ((if g then group_start_of (suc more) ++ (first ++ nested_end) else first) ++ last)))
            (smaller_no_group (suc more) free small)
            ∙ ap (λ (ps : List Part). end ++ ps) (sym (append_assoc one first last))
            ∙ ap (λ (g : Bool). end ++ ((if g then group_start_of size ++ ((one ++ first) ++ nested_end) else one ++ first) ++ last))
            (sym small)
            ∙ ap (λ (n : ℕ). end ++ (silent_parts build level (suc n) (one ++ first) ++ last)) (sym count)
            ∙ ap (λ (these : Items). end ++ items_parts build level (silent_before log these)) (sym is)

    -- In a group, whose rest this log begins.
    going_is : (left silent : ℕ) → CountsRow silent (row_size items) → left ≡ silent → 0 < left
        → going left ≡ items_after level (pending.Group left) (log_before silent log items)
    going_is left zero counts same_size some = absurd (omega (arith, same_size, some))
    going_is left (suc zero) counts same_size some =
        rw same_size
        (ap (λ (ps : List Part). opening ++ (inside ++ ((closing ++ nested_end) ++ ps))) (same pending.Nothing tt)
        ∙ simp (append_assoc, append-nil))
    going_is left (suc (suc more)) counts same_size some =
        let found = row_found more items counts in
        let first = items_parts build level found.0 in
        let last = items_parts build level found.1 in
        let size = suc (suc more) in
        let rest : after (after_log size) ≡ first ++ (nested_end ++ last) =
        ap after (after_more more) ∙ same (pending.Group (suc more)) (counts, omega (arith, counts))
        ∙ ap (items_after level (pending.Group (suc more))) found.2 in
        rw same_size
        (ap (λ (ps : List Part). opening ++ (inside ++ ((closing ++ ps) ++ after (after_log size)))) (no_end more)
        ∙ ap (λ (ps : List Part). opening ++ (inside ++ ((closing ++ []) ++ ps))) rest
        ∙ regrouped opening inside closing first nested_end last
        ∙ ap (λ (these : Items). items_after level (pending.Group size) (silent_before log these)) (sym found.2))

    -- No text line precedes the log.
    no_text : (block : Block) (silent : ℕ)
        → items_after level (pending.Text block) (log_before silent log items)
        ≡ end_parts (pending.Text block) ++ items_parts build level (log_before silent log items)
    no_text block zero = refl
    no_text block (suc zero) = refl
    no_text block (suc (suc more)) = by items
      where
        by : (these : Items) → items_after level (pending.Text block) (silent_before log these)
            ≡ end_parts (pending.Text block) ++ items_parts build level (silent_before log these)
        by NoItems = refl
        by (Lines lines others) = refl
        by (Seen other others) = refl
        by (LogItem other at within others) = refl
        by (SilentLogs logs others) = refl

    log_then : (before : Pending) (silent : ℕ) → (node_at build.nodes position).silent ≡ silent → CountsRow silent (row_size items)
        → EndsWith before (row_size (log_before silent log items))
        → (group_start build level position before ++ opening)
        ++ (inside ++ ((closing ++ group_end (group_left build level position before))
        ++ after (after_log (group_left build level position before))))
        ≡ items_after level before (log_before silent log items)
    log_then pending.Nothing silent is counts ends =
        ap (λ (n : ℕ). begun [] (if nat_le min_group n && free then n else 0)) is ∙ begun_is [] silent counts
    log_then (pending.Text block) silent is counts ends =
        ap (λ (n : ℕ). begun (end_parts (pending.Text block)) (if nat_le min_group n && free then n else 0)) is
        ∙ begun_is (end_parts (pending.Text block)) silent counts ∙ sym (no_text block silent)
    log_then (pending.Group left) silent is counts ends =
        going_is left silent counts (sym ends.0 ∙ row_is event position inner items silent counts)
        (let row = ends.0 in let some = ends.1 in omega (arith, row, some))

  -- ---- contents

  module _ (level : Level) (items : Items) (after : Pending → List Part)
      (same : (before : Pending) → EndsWith before (row_size items) → after before ≡ items_after level before items) where
    seen_then : (before : Pending) (event : Event) (seen : Bool)
        → EndsWith before (row_size (if seen then Seen event items else items))
        → item_parts before seen (seen_parts build event) ++ after (after_item before seen)
        ≡ items_after level before (if seen then Seen event items else items)
    seen_then pending.Nothing event true ends = ap (λ (ps : List Part). seen_parts build event ++ ps) (same pending.Nothing tt)
    seen_then (pending.Text block) event true ends =
        ap (λ (ps : List Part). (end_parts (pending.Text block) ++ seen_parts build event) ++ ps) (same pending.Nothing tt)
    seen_then (pending.Group left) event true ends =
        ap (λ (ps : List Part). (nested_end ++ seen_parts build event) ++ ps) (same pending.Nothing tt)
    seen_then before event false ends = same before ends

    shown_then : (before : Pending) (event : Event) → EndsWith before (row_size (event_before build level event items))
        → shown_parts build level before event ++ after (after_shown build level before event)
        ≡ items_after level before (event_before build level event items)
    shown_then before (Requested name opening) ends = seen_then before (Requested name opening) true ends
    shown_then before (Mentioned depth pid how name opening) ends = seen_then before (Mentioned depth pid how name opening) true ends
    shown_then before (EntryShown depth (Text line)) ends = by (is_moved_if build level.position) ends
      where
        by : (moved : Bool) → EndsWith before (row_size (if moved then items else line_before line items))
            → (if moved then [] else line_parts before line) ++ after (if moved then before else after_line before line)
            ≡ items_after level before (if moved then items else line_before line items)
        by true here = same before here
        by false here =
            ap (λ (ps : List Part). line_parts before line ++ ps) (same (after_line before line) tt)
            ∙ line_then level before line items here
    shown_then before (EntryShown depth (Mention pid how name)) ends = same before ends
    shown_then before (EntryShown depth (Done pid status name)) ends =
        seen_then before (EntryShown depth (Done pid status name)) (is_seen build level (EntryShown depth (Done pid status name))) ends
    shown_then before (EntryShown depth (Closing pid status)) ends = same before ends
    shown_then before (EntryShown depth (Note pid kind text)) ends = seen_then before (EntryShown depth (Note pid kind text)) true ends
    shown_then before (LogEnds depth) ends = same before ends

  pub contents_then : (level : Level) (position : ℕ) (before : Pending) (contents : Contents) → CountRows level position contents
      → EndsWith before (row_size (items_of build level position contents))
      → contents_parts build level position before contents ≡ items_after level before (items_of build level position contents)
  contents_then level position pending.Nothing Nothing counts ends = refl
  contents_then level position (pending.Text block) Nothing counts ends = refl
  contents_then level position (pending.Group left) Nothing counts ends = refl
  contents_then level position before (Shown event rest) counts ends =
      shown_then level (items_of build level position rest) (λ now. contents_parts build level position now rest)
      (λ now here. contents_then level position now rest counts here) before event ends
  contents_then level position before (Opened event number inside rest) counts ends =
      let next = suc position + log_count inside in
      let left = group_left build level position before in
      let others = contents_parts build level next (after_log left) rest in
      ap (λ (ps : List Part). log_start build level position before event ++ (ps ++ (log_end build level position left ++ others)))
      (contents_then (level_of build level position) (suc position) pending.Nothing inside counts.1 tt)
      ∙ log_then level position event (items_of build (level_of build level position) (suc position) inside)
      (items_of build level next rest)
      (λ now. contents_parts build level next now rest) (λ now here. contents_then level next now rest counts.2 here)
      before (node_at build.nodes position).silent refl counts.0 ends
