-- The text lines of a page, and of the logs that are opened.
use Rattle.std.proofs.Common.{◌≡◌, ℕ, zero, suc, ◌+◌, ◌-◌, ◌<◌, ◌≤◌, ◌⊎◌, inl, inr, Bool, true, false, ℤ, List, [], ◌∷◌, ◌++◌, Option, None, Some, cond, get_or, length, map, refl, sym, ◌∙◌, ap, subst, arith}
use Rattle.std.specs.Prelude.{◌==◌, nat_eq, nat_lt, option_and_then, if◌then◌else◌}
use Rattle.std.specs.Option.{option_eq}
use Rattle.std.specs.Cmp.Lexicographic.{pointwise, same_text}
use Rattle.std.specs.List.{flat_map, list_all}
use Rattle.std.proofs.lemmas.Bool.{and_parts, eq-eqb, eqb-true, ltb-false, ltb-true, ne_eqb, or_cases}
use Rattle.std.proofs.lemmas.Grind.{flat_map-append}
use Rattle.std.proofs.lemmas.List.{append-nil, get_or_append_left, get_or-append_right, map-append}
use Rattle.std.proofs.lemmas.List.Elements.{filter-append}
use Rattle.std.proofs.lemmas.Option.{none-some, same_Some}
use Rattle.redo_line.specs.declared.entry.Entry.{Entry}
use Rattle.redo_line.specs.declared.entry.Entry.TheVariants.{Text, Mention, Done, Closing, Note}
use Rattle.redo_logs.specs.Logs.{Log}
use Rattle.redo_view.specs.declared.event.Opening.{Opening}
use Rattle.redo_view.specs.declared.event.Opening.TheVariants.{NotOpened, OpenedBefore, OpensHere}
use Rattle.redo_view.specs.Event.{Event}
use Rattle.redo_view.specs.Event.Event.{Requested, Mentioned, EntryShown, LogEnds}
use Rattle.redo_view.specs.LogLines.{LinesLeft, after_end, after_line, after_opening, lines_left_after, lines_of_log, text_lines}
use Rattle.redo_outline.specs.declared.node.Node.{Node}
use Rattle.redo_outline.specs.Contents.{Contents, contents_from, innermost, number_of_opening, with_first, with_opened, with_shown}
use Rattle.redo_outline.specs.Contents.Contents.{Nothing, Shown, Opened}
use Rattle.redo_outline.specs.Facts.{entries_at}
use Rattle.redo_outline.specs.Facts as facts
use Rattle.redo_outline.specs.Laws.{events_of}
use Rattle.redo_outline.specs.Outline.{log_count, nodes_of}
use Rattle.redo_page.specs.Laws.{PositionedLine, event_lines, lines_at, positioned_lines, texts_of}
use Rattle.redo_page.specs.Tree.{no_node, is_among}
use Rattle.redo_page.proofs.TreeIds.{nodes_counted}

-- ---- all lines

texts-append : (lines others : List PositionedLine) → texts_of (lines ++ others) ≡ texts_of lines ++ texts_of others
texts-append lines others = map-append (λ (positioned : PositionedLine). positioned.line) lines others

-- The text lines of an event, with the position of the log around it.
abbrev pub positioned_at : Option ℕ → Event → List PositionedLine
positioned_at position event = map (λ (line : List ℕ). record { position = position; line = line }) (event_lines event)

positioned_texts : (around : Option ℕ) (event : Event) → texts_of (positioned_at around event) ≡ event_lines event
positioned_texts around (Requested name opening) = refl
positioned_texts around (Mentioned depth pid how name opening) = refl
positioned_texts around (EntryShown depth (Text line)) = refl
positioned_texts around (EntryShown depth (Mention pid how name)) = refl
positioned_texts around (EntryShown depth (Done pid status name)) = refl
positioned_texts around (EntryShown depth (Closing pid status)) = refl
positioned_texts around (EntryShown depth (Note pid kind text)) = refl
positioned_texts around (LogEnds depth) = refl

-- ---- the lines of each log

abbrev pub direct_lines : Contents → List (List ℕ)
direct_lines Nothing = []
direct_lines (Shown event rest) = event_lines event ++ direct_lines rest
direct_lines (Opened event number inside rest) = direct_lines rest

-- Whether each log that is opened contains these lines, by its number. The event that opens it shows none.
abbrev pub Have : (ℕ → List (List ℕ)) → Contents → Type 0
Have lines Nothing = Unit {0}
Have lines (Shown event rest) = Have lines rest
Have lines (Opened event number inside rest) = (event_lines event ≡ []) × (direct_lines inside ≡ lines number) × Have lines inside
    × Have lines rest

-- Whether each log that is opened contains its lines.
abbrev pub HaveLines : List Log → Contents → Type 0
HaveLines logs contents = Have (λ number. lines_of_log number logs) contents

pub all_lines : (logs : List Log) (depth : ℕ) (around : Option ℕ) (position : ℕ) (contents : Contents) → HaveLines logs contents
    → texts_of (positioned_lines around position contents) ≡ flat_map event_lines (events_of depth contents)
all_lines logs depth around position Nothing opens = refl
all_lines logs depth around position (Shown event rest) opens =
    texts-append (positioned_at around event) (positioned_lines around position rest)
    ∙ ap (λ t. t ++ texts_of (positioned_lines around position rest)) (positioned_texts around event)
    ∙ ap (λ t. event_lines event ++ t) (all_lines logs depth around position rest opens)
all_lines logs depth around position (Opened event number inside rest) opens =
    texts-append (positioned_lines (Some position) (suc position) inside) (positioned_lines around (suc position + log_count inside) rest)
    ∙ ap (λ t. t ++ texts_of (positioned_lines around (suc position + log_count inside) rest))
    (all_lines logs (depth + 1) (Some position) (suc position) inside opens.2)
    ∙ ap (λ t. flat_map event_lines (events_of (depth + 1) inside) ++ t)
    (all_lines logs depth around (suc position + log_count inside) rest opens.3)
    ∙ sym (flat_map-append event_lines (events_of (depth + 1) inside) (LogEnds (depth + 1) ∷ events_of depth rest))
    ∙ ap (λ t. t ++ flat_map event_lines (events_of (depth + 1) inside ++ LogEnds (depth + 1) ∷ events_of depth rest)) (sym opens.0)

-- The contents of open logs, the innermost first, and of the whole show the lines that are left.
abbrev AreLeft : List Log → LinesLeft → List Contents → Type 0
AreLeft logs left [] = ⊥
AreLeft logs [] (whole ∷ []) = (direct_lines whole ≡ []) × HaveLines logs whole
AreLeft logs [] (whole ∷ next ∷ outer) = ⊥
AreLeft logs (lines ∷ left) (inner ∷ outer) = (direct_lines inner ≡ lines) × HaveLines logs inner × AreLeft logs left outer

shown_left : (logs : List Log) (left : LinesLeft) (event : Event) (contents : List Contents) → event_lines event ≡ []
    → AreLeft logs left contents → AreLeft logs left (with_shown event contents)
shown_left logs left event [] none are = absurd are
shown_left logs [] event (whole ∷ []) none are = (ap (λ t. t ++ direct_lines whole) none ∙ are.0, are.1)
shown_left logs [] event (whole ∷ next ∷ outer) none are = absurd are
shown_left logs (lines ∷ left) event (inner ∷ outer) none are = (ap (λ t. t ++ direct_lines inner) none ∙ are.0, are.1, are.2)

opened_left : (logs : List Log) (left : LinesLeft) (event : Event) (number : ℕ) (contents : List Contents) → event_lines event ≡ []
    → AreLeft logs (lines_of_log number logs ∷ left) contents → AreLeft logs left (with_opened event number contents)
opened_left logs left event number [] none are = absurd are
opened_left logs left event number (inner ∷ []) none are = absurd are.2
opened_left logs [] event number (inner ∷ whole ∷ []) none are = (are.2.0, (none, are.0, are.1, are.2.1))
opened_left logs [] event number (inner ∷ whole ∷ next ∷ outer) none are = absurd are.2
opened_left logs (lines ∷ left) event number (inner ∷ next ∷ outer) none are = (are.2.0, (none, are.0, are.1, are.2.1), are.2.2)

line_left : (logs : List Log) (left : LinesLeft) (depth : ℕ) (line : List ℕ) (lines : List (List ℕ)) (contents : List Contents)
    → AreLeft logs (lines ∷ left) contents → AreLeft logs ((line ∷ lines) ∷ left) (with_shown (EntryShown depth (Text line)) contents)
line_left logs left depth line lines [] are = absurd are
line_left logs left depth line lines (inner ∷ outer) are = (ap (λ t. line ∷ t) are.0, are.1, are.2)

-- The property of the events after one event.
abbrev Later : List Log → List Event → Type 0
Later logs events = (left : LinesLeft) → lines_left_after logs left events ≡ Some [] → AreLeft logs left (contents_from events)

opening_left : (logs : List Log) (opening : Opening) (event : Event) (events : List Event) → event_lines event ≡ [] → Later logs events
    → (left : LinesLeft) → lines_left_after logs (after_opening logs opening left) events ≡ Some []
    → AreLeft logs left (with_first event (number_of_opening opening) (contents_from events))
opening_left logs NotOpened event events none later left is = shown_left logs left event (contents_from events) none (later left is)
opening_left logs (OpenedBefore number) event events none later left is =
    shown_left logs left event (contents_from events) none (later left is)
opening_left logs (OpensHere number) event events none later left is =
    opened_left logs left event number (contents_from events) none (later (lines_of_log number logs ∷ left) is)

text_left : (logs : List Log) (depth : ℕ) (line : List ℕ) (events : List Event) → Later logs events → (left : LinesLeft)
    → option_and_then (λ (next : LinesLeft). lines_left_after logs next events) (after_line line left) ≡ Some []
    → AreLeft logs left (with_shown (EntryShown depth (Text line)) (contents_from events))
text_left logs depth line events later [] is = absurd (none-some [] is)
text_left logs depth line events later ([] ∷ outer) is = absurd (none-some [] is)
text_left logs depth line events later ((next ∷ lines) ∷ outer) is = by (pointwise nat_eq line next) refl is
  where
    by : (same : Bool) → pointwise nat_eq line next ≡ same
        → option_and_then (λ (n : LinesLeft). lines_left_after logs n events) (if same then Some (lines ∷ outer) else None) ≡ Some []
        → AreLeft logs ((next ∷ lines) ∷ outer) (with_shown (EntryShown depth (Text line)) (contents_from events))
    by true same found =
        subst (λ (other : List ℕ). AreLeft logs ((other ∷ lines) ∷ outer)
        (with_shown (EntryShown depth (Text line)) (contents_from events))) (same_text line next (sym same))
        (line_left logs outer depth line lines (contents_from events) (later (lines ∷ outer) found))
    by false same found = absurd (none-some [] found)

end_left : (logs : List Log) (events : List Event) → Later logs events → (left : LinesLeft)
    → option_and_then (λ (next : LinesLeft). lines_left_after logs next events) (after_end left) ≡ Some []
    → AreLeft logs left (Nothing ∷ contents_from events)
end_left logs events later [] is = absurd (none-some [] is)
end_left logs events later ([] ∷ outer) is = (refl, tt, later outer is)
end_left logs events later ((next ∷ lines) ∷ outer) is = absurd (none-some [] is)

event_left : (logs : List Log) (event : Event) (events : List Event) → Later logs events → Later logs (event ∷ events)
event_left logs (Requested name opening) events later left is = opening_left logs opening (Requested name opening) events refl later left is
event_left logs (Mentioned depth pid how name opening) events later left is =
    opening_left logs opening (Mentioned depth pid how name opening) events refl later left is
event_left logs (EntryShown depth (Text line)) events later left is = text_left logs depth line events later left is
event_left logs (EntryShown depth (Mention pid how name)) events later left is =
    shown_left logs left (EntryShown depth (Mention pid how name)) (contents_from events) refl (later left is)
event_left logs (EntryShown depth (Done pid status name)) events later left is =
    shown_left logs left (EntryShown depth (Done pid status name)) (contents_from events) refl (later left is)
event_left logs (EntryShown depth (Closing pid status)) events later left is =
    shown_left logs left (EntryShown depth (Closing pid status)) (contents_from events) refl (later left is)
event_left logs (EntryShown depth (Note pid kind text)) events later left is =
    shown_left logs left (EntryShown depth (Note pid kind text)) (contents_from events) refl (later left is)
event_left logs (LogEnds depth) events later left is = end_left logs events later left is

events_left : (logs : List Log) (events : List Event) → Later logs events
events_left logs [] left is = subst (λ (l : LinesLeft). AreLeft logs l (Nothing ∷ [])) (sym (same_Some left [] is)) (refl, tt)
events_left logs (event ∷ events) left is = event_left logs event events (events_left logs events) left is

-- The whole shows no lines directly.
pub whole_has_none : (logs : List Log) (events : List Event) → lines_left_after logs [] events ≡ Some []
    → direct_lines (innermost (contents_from events)) ≡ []
whole_has_none logs events is = by (contents_from events) (events_left logs events [] is)
  where
    by : (contents : List Contents) → AreLeft logs [] contents → direct_lines (innermost contents) ≡ []
    by [] are = absurd are
    by (whole ∷ []) are = are.0
    by (whole ∷ next ∷ outer) are = absurd are

pub contents_have_lines : (logs : List Log) (events : List Event) → lines_left_after logs [] events ≡ Some []
    → HaveLines logs (innermost (contents_from events))
contents_have_lines logs events is = by (contents_from events) (events_left logs events [] is)
  where
    by : (contents : List Contents) → AreLeft logs [] contents → HaveLines logs (innermost contents)
    by [] are = absurd are
    by (whole ∷ []) are = are.1
    by (whole ∷ next ∷ outer) are = absurd are

-- ---- the lines at a position

abbrev pub texts_at : ℕ → Option ℕ → ℕ → Contents → List (List ℕ)
texts_at at around position contents = texts_of (lines_at at (positioned_lines around position contents))

at-append : (at : ℕ) (lines others : List PositionedLine)
    → texts_of (lines_at at (lines ++ others)) ≡ texts_of (lines_at at lines) ++ texts_of (lines_at at others)
at-append at lines others =
    ap texts_of (filter-append (λ (positioned : PositionedLine). option_eq nat_eq positioned.position (Some at)) lines others)
    ∙ texts-append (lines_at at lines) (lines_at at others)

-- All lines of one log are at its position, or none.
event_at : (at : ℕ) (around : Option ℕ) (event : Event) (same : Bool) → option_eq nat_eq around (Some at) ≡ same
    → texts_of (lines_at at (positioned_at around event)) ≡ (if same then event_lines event else [])
event_at at around event same is = by event same is
  where
    none : (same : Bool) → ◌≡◌ {A = List (List ℕ)} [] (if same then [] else [])
    none true = refl
    none false = refl

    by : (event : Event) (same : Bool) → option_eq nat_eq around (Some at) ≡ same
        → texts_of (lines_at at (positioned_at around event)) ≡ (if same then event_lines event else [])
    by (Requested name opening) same is = none same
    by (Mentioned depth pid how name opening) same is = none same
    by (EntryShown depth (Text line)) true is = ap (λ (b : Bool). texts_of (cond b (record { position = around; line = line } ∷ []) [])) is
    by (EntryShown depth (Text line)) false is = ap (λ (b : Bool). texts_of (cond b (record { position = around; line = line } ∷ []) [])) is
    by (EntryShown depth (Mention pid how name)) same is = none same
    by (EntryShown depth (Done pid status name)) same is = none same
    by (EntryShown depth (Closing pid status)) same is = none same
    by (EntryShown depth (Note pid kind text)) same is = none same
    by (LogEnds depth) same is = none same

abbrev IsOutside : ℕ → ℕ → ℕ → Type 0
IsOutside at position count = (at < position) ⊎ (position + count ≤ at)

same_differs : (position at : ℕ) → (position ≡ at → ⊥) → option_eq nat_eq (Some position) (Some at) ≡ false
same_differs position at differ = ne_eqb position at differ

-- If no log with this position is opened in some contents, only their own lines can be at it.
outside_lines : (at : ℕ) (around : Option ℕ) (position : ℕ) (contents : Contents) (same : Bool) → option_eq nat_eq around (Some at) ≡ same
    → IsOutside at position (log_count contents) → texts_at at around position contents ≡ (if same then direct_lines contents else [])
outside_lines at around position Nothing true is outside = refl
outside_lines at around position Nothing false is outside = refl
outside_lines at around position (Shown event rest) same is outside =
    at-append at (positioned_at around event) (positioned_lines around position rest)
    ∙ ap (λ t. t ++ texts_at at around position rest) (event_at at around event same is)
    ∙ ap (λ t. (if same then event_lines event else []) ++ t) (outside_lines at around position rest same is outside) ∙ joined same
  where
    joined : (same : Bool) → (if same then event_lines event else []) ++ (if same then direct_lines rest else [])
        ≡ (if same then event_lines event ++ direct_lines rest else [])
    joined true = refl
    joined false = refl
outside_lines at around position (Opened event number inside rest) same is outside =
    at-append at (positioned_lines (Some position) (suc position) inside) (positioned_lines around (suc position + log_count inside) rest)
    ∙ ap (λ t. t ++ texts_at at around (suc position + log_count inside) rest)
    (outside_lines at (Some position) (suc position) inside false (same_differs position at (apart outside)) (inside_is outside))
    ∙ outside_lines at around (suc position + log_count inside) rest same is (rest_is outside)
  where
    apart : IsOutside at position (suc (log_count inside + log_count rest)) → position ≡ at → ⊥
    apart (inl before) equal = omega arith
    apart (inr after) equal = omega arith

    inside_is : IsOutside at position (suc (log_count inside + log_count rest)) → IsOutside at (suc position) (log_count inside)
    inside_is (inl before) = inl (omega arith)
    inside_is (inr after) = inr (omega arith)

    rest_is : IsOutside at position (suc (log_count inside + log_count rest))
        → IsOutside at (suc position + log_count inside) (log_count rest)
    rest_is (inl before) = inl (omega arith)
    rest_is (inr after) = inr (omega arith)

-- The log around some contents has a position before the positions of the logs that are opened in them.
abbrev IsBefore : Option ℕ → ℕ → Type 0
IsBefore None position = Unit {0}
IsBefore (Some around) position = around < position

before_differs : (around : Option ℕ) (position at : ℕ) → IsBefore around position → position ≤ at
    → option_eq nat_eq around (Some at) ≡ false
before_differs None position at before after = refl
before_differs (Some around) position at before after = ne_eqb around at (omega arith)

before_later : (around : Option ℕ) (position later : ℕ) → IsBefore around position → position ≤ later → IsBefore around later
before_later None position later before after = tt
before_later (Some around) position later before after = omega arith

-- The lines at the position of a log are the lines of this log.
module _ (lines : ℕ → List (List ℕ)) (logs : List Log) (status : ℕ → Option ℤ) where
  abbrev number_at : Option ℕ → ℕ → Contents → ℕ → ℕ
  number_at parent position contents k = (get_or (nodes_of logs status parent position contents) k no_node).number

  pub opened_lines : (parent around : Option ℕ) (position : ℕ) (contents : Contents) → Have lines contents → IsBefore around position
      → (k : ℕ) → k < log_count contents
      → texts_at (position + k) around position contents ≡ lines (number_at parent position contents k)
  opened_lines parent around position Nothing have before k below = absurd (omega arith)
  opened_lines parent around position (Shown event rest) have before k below =
      at-append (position + k) (positioned_at around event) (positioned_lines around position rest)
      ∙ ap (λ t. t ++ texts_at (position + k) around position rest)
      (event_at (position + k) around event false (before_differs around position (position + k) before (omega arith)))
      ∙ opened_lines parent around position rest have before k below
  opened_lines parent around position (Opened event number inside rest) have before k below =
      by k below (λ j less. opened_lines (Some position) (Some position) (suc position) inside have.2 (omega arith) j less)
      (λ j less. opened_lines parent around (suc position + log_count inside) rest have.3
      (before_later around position (suc position + log_count inside) before (omega arith)) j less)
    where
      split : (at : ℕ) → texts_at at around position (Opened event number inside rest)
          ≡ texts_at at (Some position) (suc position) inside ++ texts_at at around (suc position + log_count inside) rest
      split at = at-append at (positioned_lines (Some position) (suc position) inside)
          (positioned_lines around (suc position + log_count inside) rest)

      later : (j : ℕ) (is_in : Bool) → nat_lt j (log_count inside) ≡ is_in → suc j < suc (log_count inside + log_count rest)
          → ((i : ℕ) → i < log_count inside
          → texts_at (suc position + i) (Some position) (suc position) inside ≡ lines (number_at (Some position) (suc position) inside i))
          → ((i : ℕ) → i < log_count rest → texts_at (suc position + log_count inside + i) around (suc position + log_count inside) rest
          ≡ lines (number_at parent (suc position + log_count inside) rest i))
          → texts_at (position + suc j) (Some position) (suc position) inside
          ++ texts_at (position + suc j) around (suc position + log_count inside) rest
          ≡ lines (number_at parent position (Opened event number inside rest) (suc j))
      later j true is below inner others =
          let less : j < log_count inside = ltb-true j (log_count inside) is in
          let counted = nodes_counted logs status (Some position) (suc position) inside in
          let at : position + suc j ≡ suc position + j = omega arith in
          ap (λ t. texts_at (position + suc j) (Some position) (suc position) inside ++ t)
          (outside_lines (position + suc j) around (suc position + log_count inside) rest false
          (before_differs around position (position + suc j) before (omega arith)) (inl (omega arith)))
          ∙ append-nil (texts_at (position + suc j) (Some position) (suc position) inside)
          ∙ ap (λ (n : ℕ). texts_at n (Some position) (suc position) inside) at ∙ inner j less
          ∙ ap (λ (node : Node). lines node.number)
          (sym (get_or_append_left (nodes_of logs status (Some position) (suc position) inside)
          (nodes_of logs status parent (suc position + log_count inside) rest) no_node j (omega (arith, less, counted))))
      later j false is below inner others =
          let more : log_count inside ≤ j = ltb-false j (log_count inside) is in
          let at : position + suc j ≡ suc position + log_count inside + (j - log_count inside) = omega arith in
          ap (λ t. t ++ texts_at (position + suc j) around (suc position + log_count inside) rest)
          (outside_lines (position + suc j) (Some position) (suc position) inside false
          (same_differs position (position + suc j) (λ equal. omega arith)) (inr (omega arith)))
          ∙ ap (λ (n : ℕ). texts_at n around (suc position + log_count inside) rest) at ∙ others (j - log_count inside) (omega arith)
          ∙ ap (λ (node : Node). lines node.number)
          (sym (get_or-append_right (nodes_of logs status (Some position) (suc position) inside)
          (nodes_of logs status parent (suc position + log_count inside) rest) (log_count inside) j no_node
          (nodes_counted logs status (Some position) (suc position) inside) more))

      by : (k : ℕ) → k < suc (log_count inside + log_count rest)
          → ((i : ℕ) → i < log_count inside
          → texts_at (suc position + i) (Some position) (suc position) inside ≡ lines (number_at (Some position) (suc position) inside i))
          → ((i : ℕ) → i < log_count rest → texts_at (suc position + log_count inside + i) around (suc position + log_count inside) rest
          ≡ lines (number_at parent (suc position + log_count inside) rest i))
          → texts_at (position + k) around position (Opened event number inside rest)
          ≡ lines (number_at parent position (Opened event number inside rest) k)
      by zero below inner others =
          split (position + 0)
          ∙ ap (λ t. t ++ texts_at (position + 0) around (suc position + log_count inside) rest)
          (outside_lines (position + 0) (Some position) (suc position) inside true (eq-eqb position (position + 0) (omega arith))
          (inl (omega arith)))
          ∙ ap (λ t. direct_lines inside ++ t)
          (outside_lines (position + 0) around (suc position + log_count inside) rest false
          (before_differs around position (position + 0) before (omega arith)) (inl (omega arith)))
          ∙ append-nil (direct_lines inside) ∙ have.1
      by (suc j) below inner others = split (position + suc j) ∙ later j (nat_lt j (log_count inside)) refl below inner others

-- ---- the output of a target

pub entry_texts : (entries : List Entry) → facts.texts_of entries ≡ text_lines entries
entry_texts [] = refl
entry_texts (Text line ∷ entries) = ap (λ t. line ∷ t) (entry_texts entries)
entry_texts (Mention pid how name ∷ entries) = entry_texts entries
entry_texts (Done pid status name ∷ entries) = entry_texts entries
entry_texts (Closing pid status ∷ entries) = entry_texts entries
entry_texts (Note pid kind text ∷ entries) = entry_texts entries

pub printed_lines : (number : ℕ) (logs : List Log) → facts.texts_of (entries_at number logs) ≡ lines_of_log number logs
printed_lines number [] = refl
printed_lines zero (log ∷ logs) = entry_texts log.entries
printed_lines (suc number) (log ∷ logs) = printed_lines number logs

-- The lines at a position of the tree are the output of the target at this position.
pub lines_of_position : (logs : List Log) (status : ℕ → Option ℤ) (contents : Contents) (position : ℕ) → HaveLines logs contents
    → position < length (nodes_of logs status None 0 contents)
    → facts.texts_of (entries_at (get_or (nodes_of logs status None 0 contents) position no_node).number logs)
    ≡ texts_of (lines_at position (positioned_lines None 0 contents))
lines_of_position logs status contents position have below =
    let counted = nodes_counted logs status None 0 contents in
    let at : 0 + position ≡ position = omega arith in
    printed_lines (number_at (λ (number : ℕ). lines_of_log number logs) logs status None 0 contents position) logs
    ∙ sym (opened_lines (λ (number : ℕ). lines_of_log number logs) logs status None None 0 contents have tt position
    (omega (arith, below, counted))) ∙ ap (λ (n : ℕ). texts_at n None 0 contents) at

pub among_below : (count : ℕ) (numbers : List ℕ) (number : ℕ) → list_all (λ other. nat_lt other count) numbers ≡ true
    → is_among numbers number ≡ true → number < count
among_below count [] number all among = absurd (cc)
among_below count (other ∷ numbers) number all among =
    let parts = and_parts (nat_lt other count) (list_all (λ next. nat_lt next count) numbers) all in
    by (among_below count numbers number parts.1) (ltb-true other count parts.0)
    (or_cases (number == other) (is_among numbers number) among)
  where
    by : (is_among numbers number ≡ true → number < count) → other < count → ((number == other) ≡ true) ⊎ (is_among numbers number ≡ true)
        → number < count
    by later below (inl same) = let equal : number ≡ other = eqb-true number other same in omega (arith, below)
    by later below (inr found) = later found
