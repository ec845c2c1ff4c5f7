-- The elements of the tree nest.
use Rattle.std.proofs.Common.{◌≡◌, ℕ, zero, suc, ◌+◌, ◌-◌, Bool, true, false, ℤ, List, [], ◌∷◌, ◌++◌, refl, arith}
use Rattle.std.specs.Prelude.{◌==◌, not, nat_le, nat_lt, bytes_eq, codes, if◌then◌else◌}
use Rattle.std.proofs.lemmas.Bool.{lt-ltb, ne_eqb}
use Rattle.redo_line.specs.declared.entry.Entry.{Entry}
use Rattle.redo_line.specs.declared.entry.Entry.TheVariants.{Text, Mention, Done, Closing, Note}
use Rattle.redo_line.specs.declared.entry.How.{How}
use Rattle.redo_logs.specs.Logs.{Log}
use Rattle.redo_options.specs.declared.options.Options.{Options}
use Rattle.redo_view.specs.declared.event.Opening.{Opening}
use Rattle.redo_view.specs.Event.{Event}
use Rattle.redo_view.specs.Event.Event.{Requested, Mentioned, EntryShown, LogEnds}
use Rattle.redo_html.specs.declared.markup.Markup.TheVariants as markup
use Rattle.redo_html.specs.declared.markup.Markup.TheVariants.{EndItem, Pre, EndPre}
use Rattle.redo_html.specs.Parts.{Part}
use Rattle.redo_html.specs.Parts.Part.{MarkupPart, TextPart}
use Rattle.redo_outline.specs.declared.node.Node.{Node}
use Rattle.redo_outline.specs.Contents.{Contents}
use Rattle.redo_outline.specs.Contents.Contents.{Nothing, Shown, Opened}
use Rattle.redo_outline.specs.Outline.{log_count}
use Rattle.redo_page.specs.declared.block.Pending.{Pending}
use Rattle.redo_page.specs.declared.block.Pending.TheVariants as pending
use Rattle.redo_page.specs.declared.level.Level.{Level}
use Rattle.redo_page.specs.Targets.{parts_if}
use Rattle.redo_page.specs.Tree.{Build, articles, closing_parts, done_parts, empty_start, entry_parts, flat_end, flat_start, heading_parts, is_empty, is_expanded, is_moved, is_moved_if, is_seen, level_of, max_depth, mention_parts, moved_parts, nested_start, node_at, note_parts, note_prefix, opening_parts, opening_position, position_of_name, request_parts, seen_parts, top_level, nested_end}
use Rattle.redo_page.specs.Private.Streaming.{after_item, after_line, after_log, after_shown, contents_parts, end_parts, fits, group_end, group_left, group_parts, group_size, group_start, item_parts, line_parts, line_size, line_start, log_end, log_start, shown_parts, streamed_tree}
use Rattle.redo_page.proofs.Nesting.{Leads, Nest, nest_if, lead_around, lead_in, then_lead, joined}
use Rattle.redo_page.proofs.TargetNesting.{name_nests, exit_nests, facts_nest, how_nests, linked_nests}

-- ---- the open group or block

abbrev list_names : List (List ℕ)
list_names = codes "ul" ∷ codes "details" ∷ codes "li" ∷ []

abbrev text_names : List (List ℕ)
text_names = codes "pre" ∷ codes "li" ∷ []

-- The elements of the open group or block.
abbrev open_names : Pending → List (List ℕ)
open_names pending.Nothing = []
open_names (pending.Group left) = list_names
open_names (pending.Text block) = text_names

-- Some log is left of an open group.
abbrev IsOpen : Pending → Type 0
IsOpen pending.Nothing = Unit {0}
IsOpen (pending.Group left) = (left == 0) ≡ false
IsOpen (pending.Text block) = Unit {0}

end_leads : (before : Pending) → Leads (open_names before) (end_parts before) []
end_leads pending.Nothing = record { leads = λ around tags. refl }
end_leads (pending.Group left) = record { leads = λ around tags. refl }
end_leads (pending.Text block) = record { leads = λ around tags. refl }

-- ---- text lines

line_start_leads : (before : Pending) (size : ℕ) → Leads (open_names before) (line_start before size) text_names
line_start_leads pending.Nothing size = record { leads = λ around tags. refl }
line_start_leads (pending.Group left) size = record { leads = λ around tags. refl }
line_start_leads (pending.Text block) size = by (fits block size)
  where
    by : (fit : Bool) → Leads text_names (if fit then [] else MarkupPart EndPre ∷ MarkupPart Pre ∷ []) text_names
    by true = record { leads = λ around tags. refl }
    by false = record { leads = λ around tags. refl }

line_leads : (before : Pending) (line : List ℕ) → Leads (open_names before) (line_parts before line) text_names
line_leads before line = then_lead (line_start_leads before (line_size line)) (record { leads = λ around tags. refl })

-- ---- groups

-- The elements of a group, if logs are left of it.
abbrev group_names : ℕ → List (List ℕ)
group_names left = if left == 0 then [] else list_names

lead_unless : (none : Bool) {parts : List Part} {names : List (List ℕ)} → Leads [] parts names
    → Leads [] (parts_if (not none) parts) (if none then [] else names)
lead_unless true leads = record { leads = λ around tags. refl }
lead_unless false leads = leads

group_leads : (size : ℕ) → Leads [] (group_parts size) (group_names size)
group_leads size = lead_unless (size == 0) (record { leads = λ around tags. refl })

-- The end of a group after a log, and the group that is still open.
group_end_leads : (left : ℕ) → Leads (group_names left) (group_end left) (open_names (after_log left))
group_end_leads zero = record { leads = λ around tags. refl }
group_end_leads (suc zero) = record { leads = λ around tags. refl }
group_end_leads (suc (suc left)) = by (suc (suc left) == 0) (suc (suc left) == 1) (nat_lt 1 (suc (suc left)))
    (ne_eqb (suc (suc left)) 0 (omega arith)) (ne_eqb (suc (suc left)) 1 (omega arith)) (lt-ltb 1 (suc (suc left)) (omega arith))
  where
    by : (none one more : Bool) → none ≡ false → one ≡ false → more ≡ true
        → Leads (if none then [] else list_names) (parts_if one nested_end)
        (open_names (if more then pending.Group (suc (suc left) - 1) else pending.Nothing))
    by none one more isn't_none isn't_one is_more = rw (isn't_none, isn't_one, is_more) (record { leads = λ around tags. refl })

after_log_open : (left : ℕ) → IsOpen (after_log left)
after_log_open zero = tt
after_log_open (suc zero) = tt
after_log_open (suc (suc left)) = by (nat_lt 1 (suc (suc left))) (lt-ltb 1 (suc (suc left)) (omega arith))
  where
    by : (more : Bool) → more ≡ true → IsOpen (if more then pending.Group (suc (suc left) - 1) else pending.Nothing)
    by more is_more = rw is_more (ne_eqb (suc (suc left) - 1) 0 (omega arith))

-- ---- the visible item of an event

item_leads : (before : Pending) (seen : Bool) {parts : List Part} → Nest parts
    → Leads (open_names before) (item_parts before seen parts) (open_names (after_item before seen))
item_leads before true nest = then_lead (end_leads before) nest
item_leads before false nest = record { leads = λ around tags. refl }

item_open : (before : Pending) (seen : Bool) → IsOpen before → IsOpen (after_item before seen)
item_open before true is = tt
item_open before false is = is

request_nests : (name : List ℕ) → Nest (request_parts name)
request_nests name = record { leads = λ around tags. refl }

note_nests : (kind text : List ℕ) → Nest (note_parts kind text)
note_nests kind text = by (bytes_eq kind (codes "check"))
  where
    by : (check : Bool) → Nest (if check then note_parts (codes "check") text
        else MarkupPart markup.NoteItem ∷ TextPart (note_prefix kind) ∷ TextPart text ∷ MarkupPart markup.EndItem ∷ [])
    by true = record { leads = λ around tags. refl }
    by false = record { leads = λ around tags. refl }

module _ (build : Build) where
  done_nests : (status : ℤ) (name : List ℕ) → Nest (done_parts build status name)
  done_nests status name = record {
    leads = λ around tags.
        simp (joined, (linked_nests (position_of_name build name) name).leads, (exit_nests status).leads);
  }

  mention_nests : (how : How) (name : List ℕ) (opening : Opening) → Nest (mention_parts build how name opening)
  mention_nests how name opening = record {
    leads = λ around tags.
        simp (joined, (linked_nests (opening_position build opening) name).leads, (how_nests build.options.debug_locks how).leads);
  }

  entry_nests : (entry : Entry) → Nest (entry_parts build entry)
  entry_nests (Text line) = record { leads = λ around tags. refl }
  entry_nests (Mention pid how name) = record { leads = λ around tags. refl }
  entry_nests (Done pid status name) = done_nests status name
  entry_nests (Closing pid status) = record { leads = λ around tags. refl }
  entry_nests (Note pid kind text) = note_nests kind text

  seen_nests : (event : Event) → Nest (seen_parts build event)
  seen_nests (Requested name opening) = request_nests name
  seen_nests (Mentioned depth pid how name opening) = mention_nests how name opening
  seen_nests (EntryShown depth entry) = entry_nests entry
  seen_nests (LogEnds depth) = record { leads = λ around tags. refl }

  -- ---- logs

  pub heading_nests : (event : Event) (position : ℕ) → Nest (heading_parts build event position)
  heading_nests (Requested name opening) position = then_lead (name_nests name) (facts_nest (node_at build.nodes position))
  heading_nests (Mentioned depth pid how name opening) position =
      then_lead (name_nests name) (then_lead (how_nests build.options.debug_locks how) (facts_nest (node_at build.nodes position)))
  heading_nests (EntryShown depth entry) position = record { leads = λ around tags. refl }
  heading_nests (LogEnds depth) position = record { leads = λ around tags. refl }

  pub moved_nests : (position : ℕ) → Nest (moved_parts build position)
  moved_nests position = nest_if (is_moved build position) (record { leads = λ around tags. refl })

  -- The elements around the contents of a log.
  abbrev inside_names : Level → ℕ → List (List ℕ)
  inside_names level position = if is_empty (node_at build.nodes position) then codes "li" ∷ [] else if nat_le max_depth level.depth then []
      else list_names

  flat_nests : (position depth : ℕ) {heading : List Part} → Nest heading → Nest (flat_start build position depth heading)
  flat_nests position depth nest = record { leads = λ around tags. simp (joined, nest.leads, (moved_nests position).leads) }

  nested_leads : (expanded : Bool) (position : ℕ) {heading : List Part} → Nest heading
      → Leads [] (nested_start build expanded position heading) list_names
  nested_leads true position nest = record { leads = λ around tags. simp (joined, nest.leads, (moved_nests position).leads) }
  nested_leads false position nest = record { leads = λ around tags. simp (joined, nest.leads, (moved_nests position).leads) }

  opening_leads : (level : Level) (position : ℕ) {heading : List Part} → Nest heading
      → Leads [] (opening_parts build level position heading) (inside_names level position)
  opening_leads level position {heading} nest = by (is_empty (node_at build.nodes position)) (nat_le max_depth level.depth)
    where
      by : (empty deep : Bool) → Leads []
          (if empty then empty_start position heading else if deep then flat_start build position level.depth heading
          else nested_start build (is_expanded build level (node_at build.nodes position)) position heading)
          (if empty then codes "li" ∷ [] else if deep then [] else list_names)
      by true deep = record { leads = λ around tags. nest.leads (codes "li" ∷ around) tags }
      by false true = flat_nests position level.depth nest
      by false false = nested_leads (is_expanded build level (node_at build.nodes position)) position nest

  closing_leads : (level : Level) (position : ℕ) → Leads (inside_names level position) (closing_parts build level position) []
  closing_leads level position = by (is_empty (node_at build.nodes position)) (nat_le max_depth level.depth)
    where
      by : (empty deep : Bool) → Leads (if empty then codes "li" ∷ [] else if deep then [] else list_names)
          (if empty then MarkupPart EndItem ∷ [] else if deep then flat_end build position else nested_end) []
      by true deep = record { leads = λ around tags. refl }
      by false true = record { leads = λ around tags. refl }
      by false false = record { leads = λ around tags. refl }

  group_start_leads : (level : Level) (position : ℕ) (before : Pending) → IsOpen before
      → Leads (open_names before) (group_start build level position before) (group_names (group_left build level position before))
  group_start_leads level position pending.Nothing is = group_leads (group_size build level position)
  group_start_leads level position (pending.Group left) is = rw is (record { leads = λ around tags. refl })
  group_start_leads level position (pending.Text block) is =
      then_lead (end_leads (pending.Text block)) (group_leads (group_size build level position))

  log_start_leads : (level : Level) (position : ℕ) (before : Pending) (event : Event) → IsOpen before
      → Leads (open_names before) (log_start build level position before event)
      (inside_names level position ++ group_names (group_left build level position before))
  log_start_leads level position before event is =
      then_lead (group_start_leads level position before is)
      (lead_around (group_names (group_left build level position before)) (opening_leads level position (heading_nests event position)))

  log_end_leads : (level : Level) (position left : ℕ)
      → Leads (inside_names level position ++ group_names left) (log_end build level position left) (open_names (after_log left))
  log_end_leads level position left = then_lead (lead_around (group_names left) (closing_leads level position)) (group_end_leads left)

  -- ---- contents

  shown_leads : (level : Level) (before : Pending) (event : Event)
      → Leads (open_names before) (shown_parts build level before event) (open_names (after_shown build level before event))
  shown_leads level before (Requested name opening) = item_leads before true (request_nests name)
  shown_leads level before (Mentioned depth pid how name opening) = item_leads before true (mention_nests how name opening)
  shown_leads level before (EntryShown depth (Text line)) = by (is_moved_if build level.position)
    where
      by : (moved : Bool) → Leads (open_names before) (if moved then [] else line_parts before line)
          (open_names (if moved then before else after_line before line))
      by true = record { leads = λ around tags. refl }
      by false = line_leads before line
  shown_leads level before (EntryShown depth (Mention pid how name)) = record { leads = λ around tags. refl }
  shown_leads level before (EntryShown depth (Done pid status name)) =
      item_leads before (is_seen build level (EntryShown depth (Done pid status name))) (done_nests status name)
  shown_leads level before (EntryShown depth (Closing pid status)) = record { leads = λ around tags. refl }
  shown_leads level before (EntryShown depth (Note pid kind text)) = item_leads before true (note_nests kind text)
  shown_leads level before (LogEnds depth) = record { leads = λ around tags. refl }

  shown_open : (level : Level) (before : Pending) (event : Event) → IsOpen before → IsOpen (after_shown build level before event)
  shown_open level before (Requested name opening) is = tt
  shown_open level before (Mentioned depth pid how name opening) is = tt
  shown_open level before (EntryShown depth (Text line)) is = by (is_moved_if build level.position)
    where
      by : (moved : Bool) → IsOpen (if moved then before else after_line before line)
      by true = is
      by false = tt
  shown_open level before (EntryShown depth (Mention pid how name)) is = is
  shown_open level before (EntryShown depth (Done pid status name)) is =
      item_open before (is_seen build level (EntryShown depth (Done pid status name))) is
  shown_open level before (EntryShown depth (Closing pid status)) is = is
  shown_open level before (EntryShown depth (Note pid kind text)) is = tt
  shown_open level before (LogEnds depth) is = is

  pub contents_lead : (level : Level) (position : ℕ) (before : Pending) (contents : Contents) → IsOpen before
      → Leads (open_names before) (contents_parts build level position before contents) []
  contents_lead level position before Nothing is = end_leads before
  contents_lead level position before (Shown event rest) is =
      then_lead (shown_leads level before event)
      (contents_lead level position (after_shown build level before event) rest (shown_open level before event is))
  contents_lead level position before (Opened event number inside rest) is =
      let left = group_left build level position before in
      then_lead (log_start_leads level position before event is)
      (then_lead (lead_in (inside_names level position ++ group_names left)
      (contents_lead (level_of build level position) (suc position) pending.Nothing inside tt))
      (then_lead (log_end_leads level position left)
      (contents_lead level (suc position + log_count inside) (after_log left) rest (after_log_open left))))

pub tree_nests : (logs : List Log) (options : Options) (nodes : List Node) (contents : Contents)
    → Nest (streamed_tree logs options nodes contents)
tree_nests logs options nodes contents =
    let build : Build = record { logs = logs; options = options; nodes = nodes; articles = articles nodes } in
    record { leads = λ around tags. simp (joined, (contents_lead build top_level 0 pending.Nothing contents tt).leads) }
