-- The names of targets in the tree.
use Rattle.std.proofs.Common.{◌≡◌, ℕ, suc, ◌+◌, Bool, true, false, ℤ, List, [], ◌∷◌, ◌++◌, Option, None, Some, refl, ◌∙◌, ap, subst, inl, inr, ◌⊎◌}
use Rattle.std.specs.Prelude.{◌==◌, nat_le, option_and_then, if◌then◌else◌}
use Rattle.std.proofs.lemmas.Bool.{eqb-true}
use Rattle.std.proofs.lemmas.List.{append_assoc, append-nil}
use Rattle.std.proofs.lemmas.List.Quantifiers.{position-Some}
use Rattle.std.proofs.lemmas.Option.{none-some}
use Rattle.redo_line.specs.declared.entry.Entry.TheVariants.{Text, Mention, Done, Closing, Note}
use Rattle.redo_line.specs.declared.entry.How.{How}
use Rattle.redo_logs.specs.Logs.{Log, log_number}
use Rattle.redo_options.specs.declared.options.Options.{Options}
use Rattle.redo_view.specs.declared.event.Opening.{Opening}
use Rattle.redo_view.specs.declared.event.Opening.TheVariants.{NotOpened, OpenedBefore, OpensHere}
use Rattle.redo_view.specs.Event.{Event}
use Rattle.redo_view.specs.Event.Event.{Requested, Mentioned, EntryShown, LogEnds}
use Rattle.redo_html.specs.declared.markup.Markup.TheVariants as markup
use Rattle.redo_html.specs.Parts.{Part}
use Rattle.redo_html.specs.Parts.Part.{MarkupPart, TextPart}
use Rattle.redo_outline.specs.declared.node.Node.{Node}
use Rattle.redo_outline.specs.Contents.{Contents, number_of_opening, opened_number}
use Rattle.redo_outline.specs.Contents.Contents.{Nothing, Shown, Opened}
use Rattle.redo_outline.specs.Facts.{target_at}
use Rattle.redo_outline.specs.Outline.{log_count}
use Rattle.redo_page.specs.declared.labels.TheConstants.{NEEDS, SHOWN_ABOVE}
use Rattle.redo_page.specs.declared.block.Pending.{Pending}
use Rattle.redo_page.specs.declared.block.Pending.TheVariants as pending
use Rattle.redo_page.specs.declared.level.Level.{Level}
use Rattle.redo_page.specs.Laws.{BeginWith, IsLogHeading, target_name}
use Rattle.redo_page.specs.Targets.{exit_parts, facts_parts, how_parts, name_parts}
use Rattle.redo_page.specs.Tree.{Build, articles, depth_parts, done_parts, empty_start, flat_start, heading_parts, is_empty, is_expanded, is_moved, is_moved_if, is_seen, no_node, level_of, max_depth, mention_parts, moved_parts, nested_start, node_at, note_parts, opening_parts, opening_position, position_of, position_of_name, request_parts, section_end, section_start, top_level}
use Rattle.redo_page.specs.Private.Streaming.{after_log, after_shown, contents_parts, end_parts, group_left, group_start, item_parts, line_parts, line_size, line_start, log_end, log_start, shown_parts, streamed_tree}
use Rattle.redo_page.proofs.Ids.{Bare, how_bare}
use Rattle.redo_page.proofs.NameLemmas.{IsNameAt, KnownRecipes, Tells, above_link_tells, bare_tell, calm_tell, linked_tells, none_tell, tell_if, then_tell}
use Rattle.redo_page.proofs.OpeningLemmas.{AreNamed, ArePlaced, IsOpeningOf, NamesItsLog, target_named}
use Rattle.redo_page.proofs.TreeIds.{end_bare, group_start_bare, heading_bare, line_start_bare, log_end_bare, note_bare}

-- An event that opens a log names the target of this log.
opening_number : (logs : List Log) (opening : Opening) (name : List ℕ) (number : ℕ) → number_of_opening opening ≡ Some number
    → IsOpeningOf logs name opening → log_number name logs ≡ Some number
opening_number logs NotOpened name number is names = absurd (none-some number is)
opening_number logs (OpenedBefore other) name number is names = absurd (none-some number is)
opening_number logs (OpensHere other) name number is names = names ∙ is

pub event_name : (logs : List Log) (event : Event) (number : ℕ) → opened_number event ≡ Some number → NamesItsLog logs event
    → (name : List ℕ) × (log_number name logs ≡ Some number)
event_name logs (Requested name opening) number is names = (name, opening_number logs opening name number is names)
event_name logs (Mentioned depth pid how name opening) number is names = (name, opening_number logs opening name number is names)
event_name logs (EntryShown depth entry) number is names = absurd (none-some number is)
event_name logs (LogEnds depth) number is names = absurd (none-some number is)

module _ (recipes : KnownRecipes) (build : Build) where
  abbrev Telling : List Part → Type 0
  Telling parts = Tells recipes build.logs build.nodes parts

  abbrev name_here : ℕ → List ℕ
  name_here position = target_name build.logs build.nodes position

  -- ---- links

  number_named : (name : List ℕ) (number : ℕ) → log_number name build.logs ≡ Some number
      → IsNameAt recipes build.logs build.nodes (position_of build.nodes number) name
  number_named name number is = by (position_of build.nodes number) refl
    where
      by : (position : Option ℕ) → position_of build.nodes number ≡ position → IsNameAt recipes build.logs build.nodes position name
      by None found = tt
      by (Some position) found =
          let same : (node_at build.nodes position).number ≡ number =
          eqb-true (node_at build.nodes position).number number
          (position-Some (λ (node : Node). node.number == number) build.nodes position no_node found).1 in
          ap (target_at build.logs) same ∙ target_named build.logs name number is

  opening_named : (name : List ℕ) (opening : Opening) → IsOpeningOf build.logs name opening
      → IsNameAt recipes build.logs build.nodes (opening_position build opening) name
  opening_named name NotOpened names = tt
  opening_named name (OpenedBefore number) names = number_named name number names
  opening_named name (OpensHere number) names = number_named name number names

  done_named : (name : List ℕ) → IsNameAt recipes build.logs build.nodes (position_of_name build name) name
  done_named name = by (log_number name build.logs) refl
    where
      by : (number : Option ℕ) → log_number name build.logs ≡ number
          → IsNameAt recipes build.logs build.nodes (option_and_then (position_of build.nodes) number) name
      by None is = tt
      by (Some number) is = number_named name number is

  -- ---- events that open no log

  item_tells : (before : Pending) (seen : Bool) {parts : List Part} → Telling parts → Telling (item_parts before seen parts)
  item_tells before true tells =
      then_tell recipes build.logs build.nodes (bare_tell recipes build.logs build.nodes (end_parts before) (end_bare before)) tells
  item_tells before false tells = none_tell recipes build.logs build.nodes

  done_tells : (status : ℤ) (name : List ℕ) → Telling (done_parts build status name)
  done_tells status name =
      then_tell recipes build.logs build.nodes {parts = MarkupPart markup.NoteItem ∷ TextPart NEEDS.now ∷ []}
      (bare_tell recipes build.logs build.nodes _ refl)
      (then_tell recipes build.logs build.nodes
      (linked_tells recipes build.logs build.nodes (position_of_name build name) name (done_named name))
      (bare_tell recipes build.logs build.nodes (exit_parts status ++ MarkupPart markup.EndItem ∷ []) refl))

  mention_tells : (how : How) (name : List ℕ) (opening : Opening) → IsOpeningOf build.logs name opening
      → Telling (mention_parts build how name opening)
  mention_tells how name opening names =
      then_tell recipes build.logs build.nodes {parts = MarkupPart markup.Item ∷ []} (bare_tell recipes build.logs build.nodes _ refl)
      (then_tell recipes build.logs build.nodes
      (linked_tells recipes build.logs build.nodes (opening_position build opening) name (opening_named name opening names))
      (then_tell recipes build.logs build.nodes
      (bare_tell recipes build.logs build.nodes (how_parts build.options.debug_locks how) (how_bare build.options.debug_locks how))
      (bare_tell recipes build.logs build.nodes (MarkupPart markup.EndItem ∷ []) refl)))

  line_tells : (before : Pending) (line : List ℕ) → Telling (line_parts before line)
  line_tells before line =
      then_tell recipes build.logs build.nodes
      (bare_tell recipes build.logs build.nodes (line_start before (line_size line)) (line_start_bare before (line_size line)))
      (record { before = λ rest tell. (tt, tell) })

  shown_tells : (level : Level) (before : Pending) (event : Event) → NamesItsLog build.logs event
      → Telling (shown_parts build level before event)
  shown_tells level before (Requested name opening) names =
      item_tells before true (bare_tell recipes build.logs build.nodes (request_parts name) refl)
  shown_tells level before (Mentioned depth pid how name opening) names = item_tells before true (mention_tells how name opening names)
  shown_tells level before (EntryShown depth (Text line)) names = by (is_moved_if build level.position)
    where
      by : (moved : Bool) → Telling (if moved then [] else line_parts before line)
      by true = none_tell recipes build.logs build.nodes
      by false = line_tells before line
  shown_tells level before (EntryShown depth (Mention pid how name)) names = none_tell recipes build.logs build.nodes
  shown_tells level before (EntryShown depth (Done pid status name)) names =
      item_tells before (is_seen build level (EntryShown depth (Done pid status name))) (done_tells status name)
  shown_tells level before (EntryShown depth (Closing pid status)) names = none_tell recipes build.logs build.nodes
  shown_tells level before (EntryShown depth (Note pid kind text)) names =
      item_tells before true (bare_tell recipes build.logs build.nodes (note_parts kind text) (note_bare kind text))
  shown_tells level before (LogEnds depth) names = none_tell recipes build.logs build.nodes

  -- ---- logs

  -- The name and the facts of the target at a position, with the parts between them.
  abbrev named_facts : ℕ → List Part → List Part
  named_facts position between = name_parts (name_here position) ++ (between ++ facts_parts (node_at build.nodes position))

  record Heads (position : ℕ) (heading : List Part) : Type 0 where
    is : (named_facts position [] ≡ heading) ⊎ ((how : How) × (named_facts position (how_parts true how) ≡ heading))
    bare : Bare heading

  name_is : (name : List ℕ) (number position : ℕ) → (node_at build.nodes position).number ≡ number
      → log_number name build.logs ≡ Some number → name_here position ≡ name
  name_is name number position at names = ap (target_at build.logs) at ∙ target_named build.logs name number names

  event_heads : (event : Event) (number position : ℕ) → (node_at build.nodes position).number ≡ number
      → opened_number event ≡ Some number → NamesItsLog build.logs event → Heads position (heading_parts build event position)
  event_heads (Requested name opening) number position at is names = record {
    is = inl (ap (λ (n : List ℕ). name_parts n ++ facts_parts (node_at build.nodes position))
        (name_is name number position at (opening_number build.logs opening name number is names)));
    bare = heading_bare build (Requested name opening) position;
  }
  event_heads (Mentioned depth pid how name opening) number position at is names = record {
    is = by build.options.debug_locks;
    bare = heading_bare build (Mentioned depth pid how name opening) position;
  }
    where
      same : name_here position ≡ name
      same = name_is name number position at (opening_number build.logs opening name number is names)

      heading : Bool → List Part
      heading shown = name_parts name ++ (how_parts shown how ++ facts_parts (node_at build.nodes position))

      by : (shown : Bool) → (named_facts position [] ≡ heading shown)
          ⊎ ((other : How) × (named_facts position (how_parts true other) ≡ heading shown))
      by true = inr (how, ap (λ (n : List ℕ). name_parts n ++ (how_parts true how ++ facts_parts (node_at build.nodes position))) same)
      by false = inl (ap (λ (n : List ℕ). name_parts n ++ facts_parts (node_at build.nodes position)) same)
  event_heads (EntryShown depth entry) number position at is names = absurd (none-some number is)
  event_heads (LogEnds depth) number position at is names = absurd (none-some number is)

  -- A heading before any parts.
  log_heading : (position : ℕ) (heading start others rest : List Part) → Heads position heading
      → IsLogHeading build.logs build.nodes start position ((start ++ (heading ++ others)) ++ rest)
  log_heading position heading start others rest heads = by heads.is
    where
      begins : (beginning : List Part) → beginning ≡ heading → BeginWith (start ++ beginning) ((start ++ (heading ++ others)) ++ rest)
      begins beginning same = (others ++ rest, ap (λ (h : List Part). (start ++ h) ++ (others ++ rest)) same ∙ simp (append_assoc))

      by : (named_facts position [] ≡ heading) ⊎ ((how : How) × (named_facts position (how_parts true how) ≡ heading))
          → IsLogHeading build.logs build.nodes start position ((start ++ (heading ++ others)) ++ rest)
      by (inl same) = inl (begins (named_facts position []) same)
      by (inr found) = inr (found.0, begins (named_facts position (how_parts true found.0)) found.1)

  id_tells : (position : ℕ) (heading others : List Part) → Heads position heading → Telling others
      → Telling (MarkupPart (markup.TargetItem position) ∷ (heading ++ others))
  id_tells position heading others heads tells = record {
    before = λ rest tell. (
      log_heading position heading [] others rest heads,
      (then_tell recipes build.logs build.nodes (bare_tell recipes build.logs build.nodes heading heads.bare) tells).before rest tell,
    );
  }

  details_tell : (expanded : Bool) (position : ℕ) (heading others : List Part) → Heads position heading → Telling others
      → Telling (MarkupPart (if expanded then markup.OpenDetails position else markup.Details position)
      ∷ MarkupPart markup.Summary ∷ (heading ++ others))
  details_tell true position heading others heads tells = record {
    before = λ rest tell. (
      log_heading position heading (MarkupPart markup.Summary ∷ []) others rest heads,
      (tt, (then_tell recipes build.logs build.nodes (bare_tell recipes build.logs build.nodes heading heads.bare) tells).before rest tell),
    );
  }
  details_tell false position heading others heads tells = record {
    before = λ rest tell. (
      log_heading position heading (MarkupPart markup.Summary ∷ []) others rest heads,
      (tt, (then_tell recipes build.logs build.nodes (bare_tell recipes build.logs build.nodes heading heads.bare) tells).before rest tell),
    );
  }

  moved_tells : (position : ℕ) → Telling (moved_parts build position)
  moved_tells position =
      tell_if recipes build.logs build.nodes (is_moved build position)
      (then_tell recipes build.logs build.nodes {parts = MarkupPart markup.NoteItem ∷ []} (bare_tell recipes build.logs build.nodes _ refl)
      (then_tell recipes build.logs build.nodes
      {parts = MarkupPart (markup.OutputLink position) ∷ TextPart SHOWN_ABOVE.now ∷ MarkupPart markup.EndLink ∷ []}
      (above_link_tells recipes build.logs build.nodes position)
      (bare_tell recipes build.logs build.nodes (MarkupPart markup.EndItem ∷ []) refl)))

  opening_tells : (level : Level) (position : ℕ) (heading : List Part) → Heads position heading
      → Telling (opening_parts build level position heading)
  opening_tells level position heading heads = by (is_empty (node_at build.nodes position)) (nat_le max_depth level.depth)
    where
      only : (rest : List Part) → IsLogHeading build.logs build.nodes [] position (heading ++ rest)
      only rest = subst (λ (h : List Part). IsLogHeading build.logs build.nodes [] position (h ++ rest)) (append-nil heading)
          (log_heading position heading [] [] rest heads)

      empty : Telling (empty_start position heading)
      empty = record {
        before = λ rest tell. (only rest, (bare_tell recipes build.logs build.nodes heading heads.bare).before rest tell);
      }

      by : (none deep : Bool) → Telling (if none then empty_start position heading
          else if deep then flat_start build position level.depth heading
          else nested_start build (is_expanded build level (node_at build.nodes position)) position heading)
      by true deep = empty
      by false true =
          id_tells position heading (depth_parts level.depth ++ moved_parts build position) heads
          (then_tell recipes build.logs build.nodes (bare_tell recipes build.logs build.nodes (depth_parts level.depth) refl)
          (moved_tells position))
      by false false =
          then_tell recipes build.logs build.nodes {parts = MarkupPart markup.Item ∷ []} (bare_tell recipes build.logs build.nodes _ refl)
          (details_tell (is_expanded build level (node_at build.nodes position)) position heading
          ((MarkupPart markup.EndSummary ∷ MarkupPart markup.Unordered ∷ []) ++ moved_parts build position) heads
          (then_tell recipes build.logs build.nodes {parts = MarkupPart markup.EndSummary ∷ MarkupPart markup.Unordered ∷ []}
          (bare_tell recipes build.logs build.nodes _ refl) (moved_tells position)))

  start_tells : (level : Level) (position : ℕ) (before : Pending) (event : Event) → Heads position (heading_parts build event position)
      → Telling (log_start build level position before event)
  start_tells level position before event heads =
      then_tell recipes build.logs build.nodes
      (bare_tell recipes build.logs build.nodes (group_start build level position before) (group_start_bare build level position before))
      (opening_tells level position (heading_parts build event position) heads)

  -- ---- contents

  contents_tell : (level : Level) (position : ℕ) (before : Pending) (contents : Contents) → AreNamed build.logs contents
      → ArePlaced build.nodes position contents → Telling (contents_parts build level position before contents)
  contents_tell level position before Nothing named placed = bare_tell recipes build.logs build.nodes (end_parts before) (end_bare before)
  contents_tell level position before (Shown event rest) named placed =
      then_tell recipes build.logs build.nodes (shown_tells level before event named.0)
      (contents_tell level position (after_shown build level before event) rest named.1 placed)
  contents_tell level position before (Opened event number inside rest) named placed =
      let left = group_left build level position before in
      then_tell recipes build.logs build.nodes
      (start_tells level position before event (event_heads event number position placed.0.number_is named.0 named.1))
      (then_tell recipes build.logs build.nodes
      (contents_tell (level_of build level position) (suc position) pending.Nothing inside named.2 placed.1)
      (then_tell recipes build.logs build.nodes
      (bare_tell recipes build.logs build.nodes (log_end build level position left) (log_end_bare build level position left))
      (contents_tell level (suc position + log_count inside) (after_log left) rest named.3 placed.2)))

pub tree_tells : (recipes : KnownRecipes) (logs : List Log) (options : Options) (nodes : List Node) (contents : Contents)
    → AreNamed logs contents → ArePlaced nodes 0 contents → Tells recipes logs nodes (streamed_tree logs options nodes contents)
tree_tells recipes logs options nodes contents named placed =
    let build : Build = record { logs = logs; options = options; nodes = nodes; articles = articles nodes } in
    then_tell recipes logs nodes {parts = section_start} (calm_tell recipes logs nodes section_start refl)
    (then_tell recipes logs nodes (contents_tell recipes build top_level 0 pending.Nothing contents named placed)
    (bare_tell recipes logs nodes section_end refl))
