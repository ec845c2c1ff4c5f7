-- The ids and the links of the tree.
use Rattle.std.proofs.Common.{◌≡◌, ℕ, zero, suc, ◌+◌, Bool, true, false, ℤ, List, [], ◌∷◌, ◌++◌, Option, None, Some, refl, sym, ◌∙◌, ap, subst, arith}
use Rattle.std.specs.List.{range_with_len}
use Rattle.std.specs.Prelude.{◌==◌, ◌&&◌, not, nat_le, bytes_eq, codes, length, option_and_then, if◌then◌else◌}
use Rattle.std.proofs.lemmas.Bool.{lt-ltb}
use Rattle.std.proofs.lemmas.Grind.{flat_map-append}
use Rattle.std.proofs.lemmas.List.{append-nil, length-append}
use Rattle.std.proofs.lemmas.List.Quantifiers.{position-Some}
use Rattle.redo_line.specs.declared.entry.Entry.TheVariants.{Text, Mention, Done, Closing, Note}
use Rattle.redo_line.specs.declared.entry.How.{How}
use Rattle.redo_logs.specs.Logs.{Log, log_number}
use Rattle.redo_options.specs.declared.options.Options.{Options}
use Rattle.redo_view.specs.declared.event.Opening.{Opening}
use Rattle.redo_view.specs.declared.event.Opening.TheVariants.{NotOpened, OpenedBefore, OpensHere}
use Rattle.redo_view.specs.Event.{Event}
use Rattle.redo_view.specs.Event.Event.{Requested, Mentioned, EntryShown, LogEnds}
use Rattle.redo_html.specs.declared.markup.Markup.TheVariants as markup
use Rattle.redo_html.specs.Parts.{Part}
use Rattle.redo_html.specs.Parts.Part.{MarkupPart, TextPart}
use Rattle.redo_outline.specs.declared.node.Node.{Node}
use Rattle.redo_outline.specs.Contents.{Contents}
use Rattle.redo_outline.specs.Contents.Contents.{Nothing, Shown, Opened}
use Rattle.redo_outline.specs.Outline.{log_count, nodes_of}
use Rattle.redo_page.specs.declared.labels.TheConstants.{SHOWN_ABOVE}
use Rattle.redo_page.specs.declared.block.Pending.{Pending}
use Rattle.redo_page.specs.declared.block.Pending.TheVariants as pending
use Rattle.redo_page.specs.declared.level.Level.{Level}
use Rattle.redo_page.specs.Targets.{facts_parts, how_parts, linked_parts, parts_if}
use Rattle.redo_page.specs.Tree.{Build, articles, closing_parts, done_parts, empty_start, flat_end, flat_start, heading_parts, is_among, is_empty, is_expanded, is_moved_if, is_seen, is_short, no_node, level_of, max_depth, mention_parts, moved_parts, nested_start, node_at, note_parts, note_prefix, opening_parts, opening_position, position_of, position_of_name, request_parts, top_level, nested_end}
use Rattle.redo_page.specs.Private.Streaming.{after_log, after_shown, contents_parts, end_parts, fits, group_end, group_left, group_parts, group_size, group_start, item_parts, line_parts, line_size, line_start, log_end, log_start, shown_parts, streamed_tree}
use Rattle.redo_page.proofs.Ids.{Bare, IsBelow, Refer, Refers, article_link_refers, bare_if, bare_refers, bare_then, facts_bare, how_bare, linked_refers, references, same_refer, then_refer}

-- ---- numbers

abbrev pub numbers_from : ℕ → ℕ → List ℕ
numbers_from first zero = []
numbers_from first (suc count) = first ∷ numbers_from (suc first) count

pub numbers_are : (first count : ℕ) → numbers_from first count ≡ range_with_len first count
numbers_are first zero = refl
numbers_are first (suc count) =
    let next : suc first ≡ first + 1 = omega arith in
    ap (λ t. first ∷ t) (numbers_are (suc first) count ∙ ap (λ n. range_with_len n count) next)

numbers_from-append : (first count more : ℕ)
    → numbers_from first (count + more) ≡ numbers_from first count ++ numbers_from (first + count) more
numbers_from-append first zero more = ap (numbers_from first) (omega arith) ∙ ap (λ n. numbers_from n more) (omega arith)
numbers_from-append first (suc count) more =
    let sum : suc count + more ≡ suc (count + more) = omega arith in
    let next : suc first + count ≡ first + suc count = omega arith in
    ap (numbers_from first) sum ∙ ap (λ t. first ∷ t) (numbers_from-append (suc first) count more)
    ∙ ap (λ n. first ∷ (numbers_from (suc first) count ++ numbers_from n more)) next

pub nodes_counted : (logs : List Log) (status : ℕ → Option ℤ) (parent : Option ℕ) (position : ℕ) (contents : Contents)
    → length (nodes_of logs status parent position contents) ≡ log_count contents
nodes_counted logs status parent position Nothing = refl
nodes_counted logs status parent position (Shown event rest) = nodes_counted logs status parent position rest
nodes_counted logs status parent position (Opened event number inside rest) =
    ap suc (length-append (nodes_of logs status (Some position) (suc position) inside)
    (nodes_of logs status parent (suc position + log_count inside) rest)
    ∙ ap (λ n. n + length (nodes_of logs status parent (suc position + log_count inside) rest))
    (nodes_counted logs status (Some position) (suc position) inside)
    ∙ ap (λ n. log_count inside + n) (nodes_counted logs status parent (suc position + log_count inside) rest))

-- ---- parts without ids and links

pub end_bare : (before : Pending) → Bare (end_parts before)
end_bare pending.Nothing = refl
end_bare (pending.Group left) = refl
end_bare (pending.Text block) = refl

pub line_start_bare : (before : Pending) (size : ℕ) → Bare (line_start before size)
line_start_bare pending.Nothing size = refl
line_start_bare (pending.Group left) size = refl
line_start_bare (pending.Text block) size = by (fits block size)
  where
    by : (fit : Bool) → Bare (if fit then [] else MarkupPart markup.EndPre ∷ MarkupPart markup.Pre ∷ [])
    by true = refl
    by false = refl

group_bare : (size : ℕ) → Bare (group_parts size)
group_bare size = bare_if (not (size == 0)) _ refl

pub group_end_bare : (left : ℕ) → Bare (group_end left)
group_end_bare left = bare_if (left == 1) nested_end refl

pub note_bare : (kind text : List ℕ) → Bare (note_parts kind text)
note_bare kind text = by (bytes_eq kind (codes "check"))
  where
    by : (check : Bool) → Bare (if check then note_parts (codes "check") text
        else MarkupPart markup.NoteItem ∷ TextPart (note_prefix kind) ∷ TextPart text ∷ MarkupPart markup.EndItem ∷ [])
    by true = refl
    by false = refl

position_below : (nodes : List Node) (number : ℕ) → IsBelow (length nodes) (position_of nodes number)
position_below nodes number = by (position_of nodes number) refl
  where
    by : (position : Option ℕ) → position_of nodes number ≡ position → IsBelow (length nodes) position
    by None is = tt
    by (Some position) is = lt-ltb position (length nodes)
        (position-Some (λ (node : Node). node.number == number) nodes position no_node is).0

module _ (build : Build) where
  -- ---- events

  named_below : (name : List ℕ) → IsBelow (length build.nodes) (position_of_name build name)
  named_below name = by (log_number name build.logs)
    where
      by : (number : Option ℕ) → IsBelow (length build.nodes) (option_and_then (position_of build.nodes) number)
      by None = tt
      by (Some number) = position_below build.nodes number

  opening_below : (opening : Opening) → IsBelow (length build.nodes) (opening_position build opening)
  opening_below NotOpened = tt
  opening_below (OpenedBefore number) = position_below build.nodes number
  opening_below (OpensHere number) = position_below build.nodes number

  abbrev pub InTree : List Part → List ℕ → Type 0
  InTree parts targets = Refer (length build.nodes) build.articles parts targets []

  item_refers : (before : Pending) (seen : Bool) {parts : List Part} → InTree parts [] → InTree (item_parts before seen parts) []
  item_refers before true refer = then_refer (bare_refers (end_parts before) (end_bare before)) refer
  item_refers before false refer = bare_refers [] refl

  done_refers : (status : ℤ) (name : List ℕ) → InTree (done_parts build status name) []
  done_refers status name = same_refer {others = linked_parts (position_of_name build name) name} (simp (flat_map-append, append-nil))
      (linked_refers (position_of_name build name) name (named_below name))

  mention_refers : (how : How) (name : List ℕ) (opening : Opening) → InTree (mention_parts build how name opening) []
  mention_refers how name opening =
      same_refer {others = linked_parts (opening_position build opening) name}
      (simp (flat_map-append, append-nil, how_bare build.options.debug_locks how))
      (linked_refers (opening_position build opening) name (opening_below opening))

  line_refers : (before : Pending) (line : List ℕ) → InTree (line_parts before line) []
  line_refers before line = then_refer (bare_refers (line_start before (line_size line)) (line_start_bare before (line_size line)))
      (record { target_ids_are = refl; article_ids_are = refl; target_links_lead = refl; article_links_lead = refl; sections_are = refl })

  pub shown_refers : (level : Level) (before : Pending) (event : Event) → InTree (shown_parts build level before event) []
  shown_refers level before (Requested name opening) = item_refers before true (bare_refers (request_parts name) refl)
  shown_refers level before (Mentioned depth pid how name opening) = item_refers before true (mention_refers how name opening)
  shown_refers level before (EntryShown depth (Text line)) = by (is_moved_if build level.position)
    where
      by : (moved : Bool) → InTree (if moved then [] else line_parts before line) []
      by true = bare_refers [] refl
      by false = line_refers before line
  shown_refers level before (EntryShown depth (Mention pid how name)) = bare_refers [] refl
  shown_refers level before (EntryShown depth (Done pid status name)) =
      item_refers before (is_seen build level (EntryShown depth (Done pid status name))) (done_refers status name)
  shown_refers level before (EntryShown depth (Closing pid status)) = bare_refers [] refl
  shown_refers level before (EntryShown depth (Note pid kind text)) =
      item_refers before true (bare_refers (note_parts kind text) (note_bare kind text))
  shown_refers level before (LogEnds depth) = bare_refers [] refl

  -- ---- logs

  pub heading_bare : (event : Event) (position : ℕ) → Bare (heading_parts build event position)
  heading_bare (Requested name opening) position = facts_bare (node_at build.nodes position)
  heading_bare (Mentioned depth pid how name opening) position =
      bare_then (how_parts build.options.debug_locks how) (facts_parts (node_at build.nodes position))
      (how_bare build.options.debug_locks how) (facts_bare (node_at build.nodes position))
  heading_bare (EntryShown depth entry) position = refl
  heading_bare (LogEnds depth) position = refl

  pub moved_refers : (position : ℕ) → InTree (moved_parts build position) []
  moved_refers position = by (is_among build.articles position) (is_short (node_at build.nodes position)) refl
    where
      by : (has short : Bool) → is_among build.articles position ≡ has
          → InTree (parts_if (has && short)
          (MarkupPart markup.NoteItem ∷ MarkupPart (markup.OutputLink position) ∷ TextPart SHOWN_ABOVE.now ∷ MarkupPart markup.EndLink
          ∷ MarkupPart markup.EndItem ∷ [])) []
      by true true is = same_refer {others = MarkupPart (markup.OutputLink position) ∷ []} refl (article_link_refers position is)
      by true false is = bare_refers [] refl
      by false short is = bare_refers [] refl

  id_refers : (position : ℕ) → InTree (MarkupPart (markup.TargetItem position) ∷ []) (position ∷ [])
  id_refers position = record {
    target_ids_are = refl;
    article_ids_are = refl;
    target_links_lead = refl;
    article_links_lead = refl;
    sections_are = refl;
  }

  details_refer : (expanded : Bool) (position : ℕ)
      → InTree (MarkupPart (if expanded then markup.OpenDetails position else markup.Details position) ∷ []) (position ∷ [])
  details_refer true position = record {
    target_ids_are = refl;
    article_ids_are = refl;
    target_links_lead = refl;
    article_links_lead = refl;
    sections_are = refl;
  }
  details_refer false position = record {
    target_ids_are = refl;
    article_ids_are = refl;
    target_links_lead = refl;
    article_links_lead = refl;
    sections_are = refl;
  }

  pub nested_same : (expanded : Bool) (position : ℕ) (heading : List Part) → Bare heading
      → references (nested_start build expanded position heading)
      ≡ references (MarkupPart (if expanded then markup.OpenDetails position else markup.Details position) ∷ moved_parts build position)
  nested_same true position heading bare = simp (flat_map-append, bare)
  nested_same false position heading bare = simp (flat_map-append, bare)

  opening_refers : (level : Level) (position : ℕ) (heading : List Part) → Bare heading
      → InTree (opening_parts build level position heading) (position ∷ [])
  opening_refers level position heading bare = by (is_empty (node_at build.nodes position)) (nat_le max_depth level.depth)
    where
      by : (empty deep : Bool) → InTree (if empty then empty_start position heading
          else if deep then flat_start build position level.depth heading
          else nested_start build (is_expanded build level (node_at build.nodes position)) position heading) (position ∷ [])
      by true deep = then_refer (id_refers position) (bare_refers heading bare)
      by false true = same_refer {others = MarkupPart (markup.TargetItem position) ∷ moved_parts build position}
          (simp (flat_map-append, bare)) (then_refer (id_refers position) (moved_refers position))
      by false false =
          same_refer {others = MarkupPart (if is_expanded build level (node_at build.nodes position) then markup.OpenDetails position
          else markup.Details position) ∷ moved_parts build position}
          (nested_same (is_expanded build level (node_at build.nodes position)) position heading bare)
          (then_refer (details_refer (is_expanded build level (node_at build.nodes position)) position) (moved_refers position))

  pub closing_bare : (level : Level) (position : ℕ) → Bare (closing_parts build level position)
  closing_bare level position = by (is_empty (node_at build.nodes position)) (nat_le max_depth level.depth)
    where
      by : (empty deep : Bool) → Bare (if empty then MarkupPart markup.EndItem ∷ [] else if deep then flat_end build position
          else nested_end)
      by true deep = refl
      by false true = refl
      by false false = refl

  pub group_start_bare : (level : Level) (position : ℕ) (before : Pending) → Bare (group_start build level position before)
  group_start_bare level position pending.Nothing = group_bare (group_size build level position)
  group_start_bare level position (pending.Group left) = refl
  group_start_bare level position (pending.Text block) = group_bare (group_size build level position)

  log_start_refers : (level : Level) (position : ℕ) (before : Pending) (event : Event)
      → InTree (log_start build level position before event) (position ∷ [])
  log_start_refers level position before event =
      then_refer (bare_refers (group_start build level position before) (group_start_bare level position before))
      (opening_refers level position (heading_parts build event position) (heading_bare event position))

  pub log_end_bare : (level : Level) (position left : ℕ) → Bare (log_end build level position left)
  log_end_bare level position left = bare_then (closing_parts build level position) (group_end left) (closing_bare level position)
      (group_end_bare left)

  -- ---- contents

  contents_refer : (level : Level) (position : ℕ) (before : Pending) (contents : Contents)
      → InTree (contents_parts build level position before contents) (numbers_from position (log_count contents))
  contents_refer level position before Nothing = bare_refers (end_parts before) (end_bare before)
  contents_refer level position before (Shown event rest) =
      then_refer (shown_refers level before event) (contents_refer level position (after_shown build level before event) rest)
  contents_refer level position before (Opened event number inside rest) =
      let left = group_left build level position before in
      subst (InTree (contents_parts build level position before (Opened event number inside rest)))
      (ap (λ t. position ∷ t) (sym (numbers_from-append (suc position) (log_count inside) (log_count rest))))
      (then_refer (log_start_refers level position before event)
      (then_refer (contents_refer (level_of build level position) (suc position) pending.Nothing inside)
      (then_refer (bare_refers (log_end build level position left) (log_end_bare level position left))
      (contents_refer level (suc position + log_count inside) (after_log left) rest))))

pub tree_refers : (logs : List Log) (options : Options) (nodes : List Node) (contents : Contents)
    → Refers (length nodes) (articles nodes) (streamed_tree logs options nodes contents) (numbers_from 0 (log_count contents)) []
    (MarkupPart markup.TreeSection ∷ [])
tree_refers logs options nodes contents =
    let build : Build = record { logs = logs; options = options; nodes = nodes; articles = articles nodes } in
    same_refer {others = MarkupPart markup.TreeSection ∷ contents_parts build top_level 0 pending.Nothing contents}
    (simp (flat_map-append, append-nil))
    (then_refer {parts = MarkupPart markup.TreeSection ∷ []}
    (record { target_ids_are = refl; article_ids_are = refl; target_links_lead = refl; article_links_lead = refl; sections_are = refl })
    (contents_refer build top_level 0 pending.Nothing contents))
