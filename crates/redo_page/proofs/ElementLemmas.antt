-- The contents of the elements of logs.
use Rattle.std.proofs.Common.{◌≡◌, ℕ, suc, ◌+◌, ◌<◌, ◌≤◌, ◌⊎◌, inl, inr, Bool, true, false, List, [], ◌∷◌, ◌++◌, Option, None, Some, refl, sym, ◌∙◌, ap, subst, arith}
use Rattle.std.specs.Prelude.{◌&&◌, nat_le, if◌then◌else◌}
use Rattle.std.specs.List.{AllByRecursion, filter}
use Rattle.std.proofs.lemmas.Bool.{and_from, le-leb, lt-leb}
use Rattle.std.proofs.lemmas.Grind.{flat_map-append}
use Rattle.std.proofs.lemmas.List.{append_assoc, append-nil}
use Rattle.std.proofs.lemmas.List.Elements.{filter-append}
use Rattle.redo_html.specs.declared.markup.Markup.{Markup}
use Rattle.redo_html.specs.declared.markup.Markup.TheVariants as markup
use Rattle.redo_html.specs.Parts.{Part}
use Rattle.redo_html.specs.Parts.Part.{MarkupPart}
use Rattle.redo_line.specs.declared.entry.Entry.TheVariants.{Text, Mention, Done, Closing, Note}
use Rattle.redo_logs.specs.Logs.{Log}
use Rattle.redo_options.specs.declared.options.Options.{Options}
use Rattle.redo_view.specs.Event.{Event}
use Rattle.redo_view.specs.Event.Event.{Requested, Mentioned, EntryShown, LogEnds}
use Rattle.redo_outline.specs.declared.node.Node.{Node}
use Rattle.redo_outline.specs.Contents.{Contents}
use Rattle.redo_outline.specs.Contents.Contents.{Nothing, Shown, Opened}
use Rattle.redo_outline.specs.Outline.{log_count}
use Rattle.redo_page.specs.declared.block.Pending.{Pending}
use Rattle.redo_page.specs.declared.block.Pending.TheVariants as pending
use Rattle.redo_page.specs.declared.level.Level.{Level}
use Rattle.redo_page.specs.Laws.{IsInside, PositionedLine, is_within, log_text, positioned_bytes, positioned_lines, target_id}
use Rattle.redo_page.proofs.PartNames.{log_bytes, target_ids, unmoved}
use Rattle.redo_page.specs.Tree.{Build, articles, closing_parts, depth_parts, empty_start, flat_end, flat_start, heading_parts, is_empty, is_expanded, level_of, max_depth, moved_parts, nested_start, node_at, opening_parts, section_end, section_start, top_level, nested_end}
use Rattle.redo_page.specs.Private.Streaming.{after_log, after_shown, contents_parts, end_parts, group_end, group_left, group_start, shown_parts, streamed_tree}
use Rattle.redo_page.proofs.Ids.{Bare, same_found, target_id_part}
use Rattle.redo_page.proofs.InsideLemmas.{Closed, after_start, nest_closed, one_end}
use Rattle.redo_page.proofs.NameLemmas.{FromEach, from_here}
use Rattle.redo_page.proofs.Nesting.{Nest, joined}
use Rattle.redo_page.proofs.OpeningLemmas.{ArePlaced}
use Rattle.redo_page.proofs.PageLines.{positioned_at}
use Rattle.redo_page.proofs.TreeIds.{end_bare, group_end_bare, group_start_bare, heading_bare, moved_refers, shown_refers}
use Rattle.redo_page.proofs.TreeLines.{bare_quiet, contents_text, moved_quiet}
use Rattle.redo_page.proofs.TreeNesting.{contents_lead, heading_nests, moved_nests}

-- ---- positions

abbrev line_within : ℕ → ℕ → PositionedLine → Bool
line_within position below positioned = is_within position below positioned.position

between : (lowest below position : ℕ) → lowest ≤ position → position ≤ lowest + below → is_within lowest below (Some position) ≡ true
between lowest below position low high =
    and_from (nat_le lowest position) (nat_le position (lowest + below)) (le-leb lowest position low)
    (le-leb position (lowest + below) high)

outside : (lowest below position : ℕ) → (position < lowest) ⊎ (lowest + below < position) → is_within lowest below (Some position) ≡ false
outside lowest below position (inl less) = ap (λ (b : Bool). b && nat_le position (lowest + below)) (lt-leb lowest position less)
outside lowest below position (inr more) = by (nat_le lowest position)
  where
    by : (b : Bool) → (b && nat_le position (lowest + below)) ≡ false
    by true = lt-leb position (lowest + below) more
    by false = refl

-- The log around some contents has a position before the positions of the logs that are opened in them.
abbrev IsBefore : Option ℕ → ℕ → Type 0
IsBefore None position = Unit {0}
IsBefore (Some around) position = around < position

around_outside : (around : Option ℕ) (position lowest below : ℕ) → IsBefore around position → position ≤ lowest
    → is_within lowest below around ≡ false
around_outside None position lowest below before low = refl
around_outside (Some around) position lowest below before low = outside lowest below around (inl (omega (arith, before, low)))

before_later : (around : Option ℕ) (position later : ℕ) → IsBefore around position → position ≤ later → IsBefore around later
before_later None position later before after = tt
before_later (Some around) position later before after = omega (arith, before, after)

-- A line is in the log around some contents, or in a log that is opened in them.
abbrev IsPlaced : Option ℕ → ℕ → ℕ → PositionedLine → Type 0
IsPlaced around position count line =
    (line.position ≡ around) ⊎ ((at : ℕ) × (line.position ≡ Some at) × (position ≤ at) × (at < position + count))

abbrev AllPlaced : Option ℕ → ℕ → ℕ → List PositionedLine → Type 0
AllPlaced around position count lines = AllByRecursion (IsPlaced around position count) lines

both_placed : (around : Option ℕ) (position count : ℕ) (lines others : List PositionedLine) → AllPlaced around position count lines
    → AllPlaced around position count others → AllPlaced around position count (lines ++ others)
both_placed around position count [] others first last = last
both_placed around position count (line ∷ lines) others first last = (first.0, both_placed around position count lines others first.1 last)

weaker : {Is Other : PositionedLine → Type 0} → ((line : PositionedLine) → Is line → Other line) → (lines : List PositionedLine)
    → AllByRecursion Is lines → AllByRecursion Other lines
weaker change [] all = tt
weaker change (line ∷ lines) all = (change line all.0, weaker change lines all.1)

event_placed : (around : Option ℕ) (position count : ℕ) (event : Event) → AllPlaced around position count (positioned_at around event)
event_placed around position count (Requested name opening) = tt
event_placed around position count (Mentioned depth pid how name opening) = tt
event_placed around position count (EntryShown depth (Text line)) = (inl refl, tt)
event_placed around position count (EntryShown depth (Mention pid how name)) = tt
event_placed around position count (EntryShown depth (Done pid status name)) = tt
event_placed around position count (EntryShown depth (Closing pid status)) = tt
event_placed around position count (EntryShown depth (Note pid kind text)) = tt
event_placed around position count (LogEnds depth) = tt

lines_placed : (around : Option ℕ) (position : ℕ) (contents : Contents)
    → AllPlaced around position (log_count contents) (positioned_lines around position contents)
lines_placed around position Nothing = tt
lines_placed around position (Shown event rest) =
    both_placed around position (log_count rest) (positioned_at around event) (positioned_lines around position rest)
    (event_placed around position (log_count rest) event) (lines_placed around position rest)
lines_placed around position (Opened event number inside rest) =
    both_placed around position (suc (log_count inside + log_count rest)) (positioned_lines (Some position) (suc position) inside)
    (positioned_lines around (suc position + log_count inside) rest)
    (weaker inner (positioned_lines (Some position) (suc position) inside) (lines_placed (Some position) (suc position) inside))
    (weaker later (positioned_lines around (suc position + log_count inside) rest)
    (lines_placed around (suc position + log_count inside) rest))
  where
    inner : (line : PositionedLine) → IsPlaced (Some position) (suc position) (log_count inside) line
        → IsPlaced around position (suc (log_count inside + log_count rest)) line
    inner line (inl own) = inr (position, own, omega arith, omega arith)
    inner line (inr found) =
        let low = found.2 in
        let high = found.3 in
        inr (found.0, found.1, omega (arith, low), omega (arith, high))

    later : (line : PositionedLine) → IsPlaced around (suc position + log_count inside) (log_count rest) line
        → IsPlaced around position (suc (log_count inside + log_count rest)) line
    later line (inl own) = inl own
    later line (inr found) =
        let low = found.2 in
        let high = found.3 in
        inr (found.0, found.1, omega (arith, low), omega (arith, high))

-- ---- lines between positions

module _ (lowest below : ℕ) where
  abbrev left : List PositionedLine → List PositionedLine
  left lines = filter (line_within lowest below) lines

  all_left : (lines : List PositionedLine) → AllByRecursion (λ line. line_within lowest below line ≡ true) lines → left lines ≡ lines
  all_left [] all = refl
  all_left (line ∷ lines) all =
      ap (λ (b : Bool). if b then line ∷ left lines else left lines) all.0
      ∙ ap (λ (t : List PositionedLine). line ∷ t) (all_left lines all.1)

  none_left : (lines : List PositionedLine) → AllByRecursion (λ line. line_within lowest below line ≡ false) lines → left lines ≡ []
  none_left [] all = refl
  none_left (line ∷ lines) all =
      ap (λ (b : Bool). if b then line ∷ left lines else left lines) all.0 ∙ none_left lines all.1

  event_left : (around : Option ℕ) (event : Event) → is_within lowest below around ≡ false
      → left (positioned_at around event) ≡ []
  event_left around event own =
      none_left (positioned_at around event) (weaker by (positioned_at around event) (event_placed around 0 0 event))
    where
      by : (line : PositionedLine) → IsPlaced around 0 0 line → line_within lowest below line ≡ false
      by line (inl same) = ap (is_within lowest below) same ∙ own
      by line (inr found) = let high = found.3 in absurd (omega (arith, high))

  -- Lines of contents whose logs are all before these positions, or all after them.
  others_left : (around : Option ℕ) (position : ℕ) (contents : Contents) → is_within lowest below around ≡ false
      → (position + log_count contents ≤ lowest) ⊎ (lowest + below < position) → left (positioned_lines around position contents) ≡ []
  others_left around position contents own apart =
      none_left (positioned_lines around position contents)
      (weaker by (positioned_lines around position contents) (lines_placed around position contents))
    where
      far : (at : ℕ) → position ≤ at → at < position + log_count contents
          → (position + log_count contents ≤ lowest) ⊎ (lowest + below < position) → (at < lowest) ⊎ (lowest + below < at)
      far at low high (inl before) = inl (omega (arith, low, high, before))
      far at low high (inr after) = inr (omega (arith, low, high, after))

      by : (line : PositionedLine) → IsPlaced around position (log_count contents) line → line_within lowest below line ≡ false
      by line (inl same) = ap (is_within lowest below) same ∙ own
      by line (inr found) = ap (is_within lowest below) found.1
          ∙ outside lowest below found.0 (far found.0 found.2 found.3 apart)

-- All lines of a log, and of the logs below it.
own_left : (position : ℕ) (inside : Contents)
    → left position (log_count inside) (positioned_lines (Some position) (suc position) inside)
    ≡ positioned_lines (Some position) (suc position) inside
own_left position inside =
    all_left position (log_count inside) (positioned_lines (Some position) (suc position) inside)
    (weaker by (positioned_lines (Some position) (suc position) inside) (lines_placed (Some position) (suc position) inside))
  where
    by : (line : PositionedLine) → IsPlaced (Some position) (suc position) (log_count inside) line
        → line_within position (log_count inside) line ≡ true
    by line (inl same) = ap (is_within position (log_count inside)) same
        ∙ between position (log_count inside) position (omega arith) (omega arith)
    by line (inr found) =
        let low = found.2 in
        let high = found.3 in
        ap (is_within position (log_count inside)) found.1
        ∙ between position (log_count inside) found.0 (omega (arith, low)) (omega (arith, high))

-- ---- the lines of each log

-- The lines at the position of a log and at the next positions are the lines of this log and of the logs below it.
abbrev Located : List PositionedLine → ℕ → Contents → Type 0
Located all position Nothing = Unit {0}
Located all position (Shown event rest) = Located all position rest
Located all position (Opened event number inside rest) =
    (left position (log_count inside) all ≡ positioned_lines (Some position) (suc position) inside) × Located all (suc position) inside
    × Located all (suc position + log_count inside) rest

-- No line is at these positions.
abbrev Lacks : ℕ → ℕ → List PositionedLine → Type 0
Lacks position count lines =
    (lowest below : ℕ) → position ≤ lowest → lowest + below < position + count → left lowest below lines ≡ []

both_lack : (position count : ℕ) (lines others : List PositionedLine) → Lacks position count lines → Lacks position count others
    → Lacks position count (lines ++ others)
both_lack position count lines others first last lowest below low high =
    filter-append (line_within lowest below) lines others
    ∙ ap (λ (t : List PositionedLine). t ++ left lowest below others) (first lowest below low high) ∙ last lowest below low high

fewer_lack : (position count later fewer : ℕ) (lines : List PositionedLine) → position ≤ later → later + fewer ≤ position + count
    → Lacks position count lines → Lacks later fewer lines
fewer_lack position count later fewer lines low high lack lowest below from to =
    lack lowest below (omega (arith, low, from)) (omega (arith, high, to))

located : (around : Option ℕ) (position : ℕ) (contents : Contents) (front back : List PositionedLine) → IsBefore around position
    → Lacks position (log_count contents) front → Lacks position (log_count contents) back
    → Located (front ++ (positioned_lines around position contents ++ back)) position contents
located around position Nothing front back before first last = tt
located around position (Shown event rest) front back before first last =
    let own = positioned_at around event in
    subst (λ (all : List PositionedLine). Located all position rest) (moved front own (positioned_lines around position rest) back)
    (located around position rest (front ++ own) back before
    (both_lack position (log_count rest) front own first
    (λ lowest below low high. event_left lowest below around event
    (around_outside around position lowest below before low))) last)
  where
    moved : (a b c d : List PositionedLine) → (a ++ b) ++ (c ++ d) ≡ a ++ ((b ++ c) ++ d)
    moved a b c d = simp (append_assoc)
located around position (Opened event number inside rest) front back before first last =
    let inner = positioned_lines (Some position) (suc position) inside in
    let others = positioned_lines around (suc position + log_count inside) rest in (
      here inner others (own_left position inside)
          (others_left position (log_count inside) around (suc position + log_count inside) rest
          (around_outside around position position (log_count inside) before (omega arith)) (inr (omega arith))),
      subst (λ (all : List PositionedLine). Located all (suc position) inside) (right front inner others back)
          (located (Some position) (suc position) inside front (others ++ back) (omega arith)
          (fewer_lack position (suc (log_count inside + log_count rest)) (suc position) (log_count inside) front (omega arith) (omega arith)
          first)
          (both_lack (suc position) (log_count inside) others back
          (λ lowest below low high. others_left lowest below around (suc position + log_count inside) rest
          (around_outside around position lowest below before (omega (arith, low))) (inr (omega (arith, high))))
          (fewer_lack position (suc (log_count inside + log_count rest)) (suc position) (log_count inside) back (omega arith) (omega arith)
          last))),
      subst (λ (all : List PositionedLine). Located all (suc position + log_count inside) rest) (after front inner others back)
          (located around (suc position + log_count inside) rest (front ++ inner) back
          (before_later around position (suc position + log_count inside) before (omega arith))
          (both_lack (suc position + log_count inside) (log_count rest) front inner
          (fewer_lack position (suc (log_count inside + log_count rest)) (suc position + log_count inside) (log_count rest) front
          (omega arith) (omega arith) first)
          (λ lowest below low high. others_left lowest below (Some position) (suc position) inside
          (outside lowest below position (inl (omega (arith, low)))) (inl (omega (arith, low)))))
          (fewer_lack position (suc (log_count inside + log_count rest)) (suc position + log_count inside) (log_count rest) back
          (omega arith) (omega arith) last)),
    )
  where
    right : (a b c d : List PositionedLine) → a ++ (b ++ (c ++ d)) ≡ a ++ ((b ++ c) ++ d)
    right a b c d = simp (append_assoc)

    after : (a b c d : List PositionedLine) → (a ++ b) ++ (c ++ d) ≡ a ++ ((b ++ c) ++ d)
    after a b c d = simp (append_assoc)

    here : (inner others : List PositionedLine) → left position (log_count inside) inner ≡ inner
        → left position (log_count inside) others ≡ []
        → left position (log_count inside) (front ++ ((inner ++ others) ++ back)) ≡ inner
    here inner others own none =
        let test = line_within position (log_count inside) in
        filter-append test front ((inner ++ others) ++ back)
        ∙ ap (λ (t : List PositionedLine). t ++ left position (log_count inside) ((inner ++ others) ++ back))
        (first position (log_count inside) (omega arith) (omega arith))
        ∙ filter-append test (inner ++ others) back
        ∙ ap (λ (t : List PositionedLine). left position (log_count inside) (inner ++ others) ++ t)
        (last position (log_count inside) (omega arith) (omega arith))
        ∙ append-nil (left position (log_count inside) (inner ++ others)) ∙ filter-append test inner others
        ∙ ap (λ (t : List PositionedLine). t ++ left position (log_count inside) others) own
        ∙ ap (λ (t : List PositionedLine). inner ++ t) none ∙ append-nil inner

-- ---- the tree

abbrev end : Part
end = MarkupPart markup.EndDetails

module _ (build : Build) (lines : List PositionedLine) where
  -- Parts show exactly the lines of the log at a position and of the logs below it.
  abbrev ShowsLinesFrom : ℕ → List Part → Type 0
  ShowsLinesFrom position parts =
      log_bytes parts ≡ positioned_bytes (unmoved build (left position (node_at build.nodes position).below lines))

  -- If the element of a log begins with this tag, it contains the lines of this log.
  abbrev pub ShowsItsLines : Markup → List Part → Type 0
  ShowsItsLines (markup.Details position) inside = ShowsLinesFrom position inside
  ShowsItsLines (markup.OpenDetails position) inside = ShowsLinesFrom position inside
  ShowsItsLines tag inside = Unit {0}

module _ (build : Build) (all : List PositionedLine) where
  -- If a log's element begins here, it shows the log's lines.
  abbrev ShowsHere : List Part → Type 0
  ShowsHere (MarkupPart tag ∷ rest) = (inside after : List Part) → inside ++ (end ∷ after) ≡ rest → Closed inside
      → ShowsItsLines build all tag inside
  ShowsHere parts = Unit {0}

  record Shows (parts : List Part) : Type 0 where
    before : (rest : List Part) → FromEach ShowsHere rest → FromEach ShowsHere (parts ++ rest)

  then_show : {parts others : List Part} → Shows parts → Shows others → Shows (parts ++ others)
  then_show {parts} {others} first last = record {
    before = λ rest shows.
        subst (FromEach ShowsHere) (sym (append_assoc parts others rest)) (first.before (others ++ rest) (last.before rest shows));
  }

  plain_part : (part : Part) (rest : List Part) → target_id part ≡ [] → ShowsHere (part ∷ rest)
  plain_part (MarkupPart tag) rest none = by tag none
    where
      by : (tag : Markup) → target_id (MarkupPart tag) ≡ [] → ShowsHere (MarkupPart tag ∷ rest)
      by (markup.Details number) none = absurd (cc)
      by (markup.OpenDetails number) none = absurd (cc)
      by tag none = λ inside after is closed. tt
  plain_part part rest none = tt

  left_none : (items others : List ℕ) → items ++ others ≡ [] → items ≡ []
  left_none [] others none = refl
  left_none (item ∷ items) others none = absurd (cc)

  right_none : (items others : List ℕ) → items ++ others ≡ [] → others ≡ []
  right_none [] others none = none
  right_none (item ∷ items) others none = absurd (cc)

  -- Parts without ids have no logs.
  plain_show : (parts : List Part) → target_ids parts ≡ [] → Shows parts
  plain_show [] none = record { before = λ rest shows. shows }
  plain_show (part ∷ parts) none =
      record {
        before = λ rest shows. (
          plain_part part (parts ++ rest) (left_none (target_id part) (target_ids parts) none),
          (plain_show parts (right_none (target_id part) (target_ids parts) none)).before rest shows,
        );
      }

  bare_ids : (parts : List Part) → Bare parts → target_ids parts ≡ []
  bare_ids parts bare = same_found target_id target_id_part parts [] bare

  bare_shows : (parts : List Part) → Bare parts → Shows parts
  bare_shows parts bare = plain_show parts (bare_ids parts bare)

  id_shows : (position : ℕ) → Shows (MarkupPart (markup.TargetItem position) ∷ [])
  id_shows position = record { before = λ rest shows. ((λ inside after is closed. tt), shows) }

  moved_shows : (position : ℕ) → Shows (moved_parts build position)
  moved_shows position = plain_show (moved_parts build position) (moved_refers build position).target_ids_are

  -- ---- an element

  module _ (level : Level) (position : ℕ) (event : Event) (inside : Contents)
      (own : left position (node_at build.nodes position).below all ≡ positioned_lines (Some position) (suc position) inside)
      (in_log_shows : Shows (contents_parts build (level_of build level position) (suc position) pending.Nothing inside)) where
    abbrev heading : List Part
    heading = heading_parts build event position

    abbrev in_log : List Part
    in_log = contents_parts build (level_of build level position) (suc position) pending.Nothing inside

    -- The parts between the tags of the element.
    abbrev start_inside : List Part
    start_inside = heading ++ ((MarkupPart markup.EndSummary ∷ MarkupPart markup.Unordered ∷ []) ++ moved_parts build position)

    abbrev between_tags : List Part
    between_tags = MarkupPart markup.Summary ∷ (start_inside ++ (in_log ++ MarkupPart markup.EndUnordered ∷ []))

    between_closed : Closed between_tags
    between_closed = nest_closed nest
      where
        nest : Nest between_tags
        nest = record {
          leads = λ around tags. simp (
            joined,
            (heading_nests build event position).leads,
            (moved_nests build position).leads,
            (contents_lead build (level_of build level position) (suc position) pending.Nothing inside tt).leads,
          );
        }

    between_text : log_bytes between_tags ≡ positioned_bytes (unmoved build (left position (node_at build.nodes position).below all))
    between_text =
        flat_map-append log_text start_inside (in_log ++ MarkupPart markup.EndUnordered ∷ [])
        ∙ ap (λ (t : List ℕ). t ++ log_bytes (in_log ++ MarkupPart markup.EndUnordered ∷ [])) start_quiet
        ∙ flat_map-append log_text in_log (MarkupPart markup.EndUnordered ∷ []) ∙ append-nil (log_bytes in_log)
        ∙ contents_text build (level_of build level position) (suc position) pending.Nothing inside
        ∙ ap (λ (lines : List PositionedLine). positioned_bytes (unmoved build lines)) (sym own)
      where
        start_quiet : log_bytes start_inside ≡ []
        start_quiet =
            flat_map-append log_text heading
            ((MarkupPart markup.EndSummary ∷ MarkupPart markup.Unordered ∷ []) ++ moved_parts build position)
            ∙ ap (λ (t : List ℕ). t ++ log_bytes (moved_parts build position)) (bare_quiet heading (heading_bare build event position))
            ∙ moved_quiet build position

    start_shows : Shows start_inside
    start_shows = then_show (bare_shows heading (heading_bare build event position))
        (then_show {parts = MarkupPart markup.EndSummary ∷ MarkupPart markup.Unordered ∷ []} (bare_shows _ refl) (moved_shows position))

    between_shows : Shows between_tags
    between_shows =
        then_show {parts = MarkupPart markup.Summary ∷ []} (bare_shows _ refl)
        (then_show start_shows (then_show in_log_shows (bare_shows (MarkupPart markup.EndUnordered ∷ []) refl)))

    here : (rest found after : List Part) → found ++ (end ∷ after) ≡ between_tags ++ (end ∷ rest) → Closed found
        → log_bytes found ≡ positioned_bytes (unmoved build (left position (node_at build.nodes position).below all))
    here rest found after is closed =
        ap log_bytes (one_end end (λ others. refl) found between_tags after rest closed between_closed is) ∙ between_text

    details_show : (expanded : Bool)
        → Shows (MarkupPart (if expanded then markup.OpenDetails position else markup.Details position) ∷ (between_tags ++ (end ∷ [])))
    details_show true = record {
      before = λ rest shows. (
        (λ found after is closed. here rest found after (is ∙ append_assoc between_tags (end ∷ []) rest) closed),
        (then_show between_shows (bare_shows (end ∷ []) refl)).before rest shows,
      );
    }
    details_show false = record {
      before = λ rest shows. (
        (λ found after is closed. here rest found after (is ∙ append_assoc between_tags (end ∷ []) rest) closed),
        (then_show between_shows (bare_shows (end ∷ []) refl)).before rest shows,
      );
    }

    nested_shows : (expanded : Bool) → Shows (nested_start build expanded position heading ++ (in_log ++ nested_end))
    nested_shows expanded =
        subst Shows
        (joined_parts (MarkupPart (if expanded then markup.OpenDetails position else markup.Details position)) start_inside in_log)
        (then_show {parts = MarkupPart markup.Item ∷ []} (bare_shows _ refl)
        (then_show (details_show expanded) (bare_shows (MarkupPart markup.EndItem ∷ []) refl)))
      where
        joined_parts : (tag : Part) (start inner : List Part)
            → MarkupPart markup.Item ∷ ((tag ∷ ((MarkupPart markup.Summary ∷ (start ++ (inner ++ MarkupPart markup.EndUnordered ∷ [])))
            ++ (end ∷ []))) ++ MarkupPart markup.EndItem ∷ [])
            ≡ (MarkupPart markup.Item ∷ tag ∷ MarkupPart markup.Summary ∷ start) ++ (inner ++ nested_end)
        joined_parts tag start inner = simp (append_assoc)

    log_shows : Shows (opening_parts build level position heading ++ (in_log ++ closing_parts build level position))
    log_shows = by (is_empty (node_at build.nodes position)) (nat_le max_depth level.depth)
      where
        by : (none deep : Bool) → Shows
            ((if none then empty_start position heading else if deep then flat_start build position level.depth heading
            else nested_start build (is_expanded build level (node_at build.nodes position)) position heading)
            ++ (in_log ++ (if none then MarkupPart markup.EndItem ∷ [] else if deep then flat_end build position else nested_end)))
        by true deep =
            then_show (then_show (id_shows position) (bare_shows heading (heading_bare build event position)))
            (then_show in_log_shows (bare_shows (MarkupPart markup.EndItem ∷ []) refl))
        by false true =
            then_show
            (then_show (id_shows position)
            (then_show (bare_shows heading (heading_bare build event position))
            (then_show (bare_shows (depth_parts level.depth) refl) (moved_shows position))))
            (then_show in_log_shows (bare_shows (flat_end build position) refl))
        by false false = nested_shows (is_expanded build level (node_at build.nodes position))

  -- ---- contents

  contents_show : (level : Level) (position : ℕ) (before : Pending) (contents : Contents) → ArePlaced build.nodes position contents
      → Located all position contents → Shows (contents_parts build level position before contents)
  contents_show level position before Nothing placed are = bare_shows (end_parts before) (end_bare before)
  contents_show level position before (Shown event rest) placed are =
      then_show (plain_show (shown_parts build level before event) (shown_refers build level before event).target_ids_are)
      (contents_show level position (after_shown build level before event) rest placed are)
  contents_show level position before (Opened event number inside rest) placed are =
      let in_log = contents_parts build (level_of build level position) (suc position) pending.Nothing inside in
      let opening = opening_parts build level position (heading_parts build event position) in
      let closing = closing_parts build level position in
      let group = group_left build level position before in
      let others = contents_parts build level (suc position + log_count inside) (after_log group) rest in
      let own = ap (λ (n : ℕ). left position n all) placed.0.below_is ∙ are.0 in
      subst Shows (split (group_start build level position before) opening in_log closing (group_end group) others)
      (then_show (bare_shows (group_start build level position before) (group_start_bare build level position before))
      (then_show
      (log_shows level position event inside own
      (contents_show (level_of build level position) (suc position) pending.Nothing inside placed.1 are.1))
      (then_show (bare_shows (group_end group) (group_end_bare group))
      (contents_show level (suc position + log_count inside) (after_log group) rest placed.2 are.2))))
    where
      split : (a o i c g r : List Part) → a ++ ((o ++ (i ++ c)) ++ (g ++ r)) ≡ (a ++ o) ++ (i ++ ((c ++ g) ++ r))
      split a o i c g r = simp (append_assoc)

-- Between parts without ids of logs, the tree shows the lines of each log.
pub tree_shows : (logs : List Log) (options : Options) (nodes : List Node) (contents : Contents) → ArePlaced nodes 0 contents
    → (front back : List Part) → target_ids front ≡ [] → target_ids back ≡ [] → (tag : Markup) (inside : List Part)
    → IsInside tag markup.EndDetails inside (front ++ (streamed_tree logs options nodes contents ++ back))
    → ShowsItsLines (record { logs = logs; options = options; nodes = nodes; articles = articles nodes }) (positioned_lines None 0 contents)
    tag inside
tree_shows logs options nodes contents placed front back first last tag inside is =
    let build : Build = record { logs = logs; options = options; nodes = nodes; articles = articles nodes } in
    let lines = positioned_lines None 0 contents in
    let are = subst (λ (all : List PositionedLine). Located all 0 contents) (append-nil lines)
    (located None 0 contents [] [] tt (λ lowest below low high. refl) (λ lowest below low high. refl)) in
    let tree = then_show build lines (plain_show build lines section_start refl)
    (then_show build lines (contents_show build lines top_level 0 pending.Nothing contents placed are)
    (plain_show build lines section_end refl)) in
    let shows = then_show build lines (plain_show build lines front first)
    (then_show build lines tree (plain_show build lines back last)) in
    from_here (ShowsHere build lines) is.0.before (MarkupPart tag) (inside ++ (end ∷ is.0.after))
    (subst (FromEach (ShowsHere build lines)) (append-nil (front ++ (streamed_tree logs options nodes contents ++ back))
    ∙ sym (sym (after_start is.0.before inside is.0.after (MarkupPart tag) end) ∙ is.0.splits)) (shows.before [] tt))
    inside is.0.after refl is.1
