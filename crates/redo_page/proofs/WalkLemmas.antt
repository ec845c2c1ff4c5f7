-- Walking over the events of some contents writes their parts.
use Rattle.std.proofs.Common.{◌≡◌, ℕ, suc, ◌+◌, ◌≤◌, List, [], ◌∷◌, ◌++◌, Option, Some, length, refl, sym, ◌∙◌, ap, arith}
use Rattle.std.specs.Prelude.{⊤, ℤ, nat_lt}
use Rattle.std.specs.List.{flat_map}
use Rattle.std.proofs.lemmas.Bool.{cond-true, lt-ltb}
use Rattle.std.proofs.lemmas.List.{append_assoc, length-append}
use Rattle.std.proofs.lemmas.List.Concat.{flat_map-append}
use Rattle.redo_view.specs.declared.event.Opening.TheVariants.{NotOpened, OpenedBefore, OpensHere}
use Rattle.redo_view.specs.Event.{Event}
use Rattle.redo_view.specs.Event.Event.{Requested, Mentioned, EntryShown, LogEnds}
use Rattle.redo_view.specs.Form.{bytes_of, state_after}
use Rattle.redo_html.specs.Parts.{Part, part_html}
use Rattle.redo_logs.specs.Logs.{Log}
use Rattle.redo_outline.specs.Contents.{Contents, contents_from, contents_of, innermost, with_event, with_opened, with_shown}
use Rattle.redo_outline.specs.Contents.Contents.{Nothing, Shown, Opened}
use Rattle.redo_outline.specs.Laws.{events_of}
use Rattle.redo_outline.specs.Outline.{log_count, nodes_of}
use Rattle.redo_page.specs.declared.block.Pending.{Pending}
use Rattle.redo_page.specs.declared.block.Pending.TheVariants as pending
use Rattle.redo_page.specs.declared.level.Level.{Level}
use Rattle.redo_page.specs.declared.level.OpenLog.{OpenLog}
use Rattle.redo_page.specs.declared.step.Step.{Step}
use Rattle.redo_page.specs.declared.step.Step.TheVariants.{Opens, Shows}
use Rattle.redo_page.specs.Tree.{Build, level_of}
use Rattle.redo_page.specs.Private.Streaming.{after_log, after_shown, contents_parts, end_parts, group_left, log_end, log_start, shown_parts}
use Rattle.redo_page.specs.Private.Walking.{Walk, after_event, after_step, level_in, next_position, opened_log, step_of, step_parts, tree_bytes, walk_parts}

-- ---- events, one after the other

abbrev pub walked_parts : Walk → List Event → List Part
walked_parts walk [] = []
walked_parts walk (event ∷ events) = walk_parts walk event ++ walked_parts (after_event walk event) events

abbrev pub walked : Walk → List Event → Walk
walked walk events = state_after after_event walk events

pub walked_html : (walk : Walk) (events : List Event)
    → bytes_of tree_bytes after_event walk events ≡ flat_map part_html (walked_parts walk events)
walked_html walk [] = refl
walked_html walk (event ∷ events) =
    ap (λ (t : List ℕ). tree_bytes walk event ++ t) (walked_html (after_event walk event) events)
    ∙ sym (flat_map-append part_html (walk_parts walk event) (walked_parts (after_event walk event) events))

walked_parts-append : (walk : Walk) (events more : List Event)
    → walked_parts walk (events ++ more) ≡ walked_parts walk events ++ walked_parts (walked walk events) more
walked_parts-append walk [] more = refl
walked_parts-append walk (event ∷ events) more =
    ap (λ (ps : List Part). walk_parts walk event ++ ps) (walked_parts-append (after_event walk event) events more)
    ∙ sym (append_assoc (walk_parts walk event) (walked_parts (after_event walk event) events)
    (walked_parts (walked (after_event walk event) events) more))

walked-append : (walk : Walk) (events more : List Event) → walked walk (events ++ more) ≡ walked (walked walk events) more
walked-append walk [] more = refl
walked-append walk (event ∷ events) more = walked-append (after_event walk event) events more

-- ---- contents of events

-- Whether each event is where it belongs in some contents.
abbrev pub IsProper : Contents → Type 0
IsProper Nothing = ⊤
IsProper (Shown event rest) = (step_of event ≡ Shows) × IsProper rest
IsProper (Opened event number inside rest) = (step_of event ≡ Opens) × (IsProper inside × IsProper rest)

abbrev AreProper : List Contents → Type 0
AreProper [] = ⊤
AreProper (inner ∷ outer) = IsProper inner × AreProper outer

proper_shown : (event : Event) (contents : List Contents) → step_of event ≡ Shows → AreProper contents
    → AreProper (with_shown event contents)
proper_shown event [] is are = tt
proper_shown event (inner ∷ outer) is are = ((is, are.0), are.1)

proper_opened : (event : Event) (number : ℕ) (contents : List Contents) → step_of event ≡ Opens → AreProper contents
    → AreProper (with_opened event number contents)
proper_opened event number [] is are = tt
proper_opened event number (inner ∷ []) is are = ((is, (are.0, tt)), tt)
proper_opened event number (inner ∷ next ∷ outer) is are = ((is, (are.0, are.1.0)), are.1.1)

proper_with : (event : Event) (contents : List Contents) → AreProper contents → AreProper (with_event event contents)
proper_with (LogEnds depth) contents are = (tt, are)
proper_with (EntryShown depth entry) contents are = proper_shown (EntryShown depth entry) contents refl are
proper_with (Requested name NotOpened) contents are = proper_shown (Requested name NotOpened) contents refl are
proper_with (Requested name (OpenedBefore number)) contents are = proper_shown (Requested name (OpenedBefore number)) contents refl are
proper_with (Requested name (OpensHere number)) contents are = proper_opened (Requested name (OpensHere number)) number contents refl are
proper_with (Mentioned depth pid how name NotOpened) contents are = proper_shown (Mentioned depth pid how name NotOpened) contents refl are
proper_with (Mentioned depth pid how name (OpenedBefore number)) contents are =
    proper_shown (Mentioned depth pid how name (OpenedBefore number)) contents refl are
proper_with (Mentioned depth pid how name (OpensHere number)) contents are =
    proper_opened (Mentioned depth pid how name (OpensHere number)) number contents refl are

proper_from : (events : List Event) → AreProper (contents_from events)
proper_from [] = (tt, tt)
proper_from (event ∷ events) = proper_with event (contents_from events) (proper_from events)

first_proper : (contents : List Contents) → AreProper contents → IsProper (innermost contents)
first_proper [] are = tt
first_proper (inner ∷ outer) are = are.0

pub proper : (events : List Event) → IsProper (contents_of events)
proper events = first_proper (contents_from events) (proper_from events)

-- An outline has a node for each log.
pub node_count : (logs : List Log) (status : ℕ → Option ℤ) (parent : Option ℕ) (position : ℕ) (contents : Contents)
    → length (nodes_of logs status parent position contents) ≡ log_count contents
node_count logs status parent position Nothing = refl
node_count logs status parent position (Shown event rest) = node_count logs status parent position rest
node_count logs status parent position (Opened event number inside rest) =
    ap suc (length-append (nodes_of logs status (Some position) (suc position) inside)
    (nodes_of logs status parent (suc position + log_count inside) rest)
    ∙ ap (λ (n : ℕ). n + length (nodes_of logs status parent (suc position + log_count inside) rest))
    (node_count logs status (Some position) (suc position) inside)
    ∙ ap (λ (n : ℕ). log_count inside + n) (node_count logs status parent (suc position + log_count inside) rest))

-- ---- walking over some contents

level_depth : (logs : List OpenLog) → (level_in logs).depth ≡ length logs
level_depth [] = refl
level_depth (log ∷ logs) = refl

module _ (build : Build) where
  abbrev pub walk_at : List OpenLog → ℕ → Pending → Walk
  walk_at logs next before = record { build = build; logs = logs; next = next; before = before }

  -- The open group or block at the end of some contents.
  abbrev pub pending_after : Level → ℕ → Pending → Contents → Pending
  pending_after level position before Nothing = before
  pending_after level position before (Shown event rest) = pending_after level position (after_shown build level before event) rest
  pending_after level position before (Opened event number inside rest) =
      pending_after level (suc position + log_count inside) (after_log (group_left build level position before)) rest

  next_is : (next count : ℕ) → next + suc count ≤ length build.nodes → next_position build.nodes next ≡ suc next
  next_is next count within = cond-true (nat_lt next (length build.nodes)) (suc next) next
      (lt-ltb next (length build.nodes) (omega (arith, within)))

  level_is : (logs : List OpenLog) (next : ℕ) (before : Pending)
      → level_in (opened_log build (level_in logs) next before ∷ logs) ≡ level_of build (level_in logs) next
  level_is logs next before = ap (λ (n : ℕ).
      record { position = Some next; expanded = (opened_log build (level_in logs) next before).expanded; depth = suc n })
      (sym (level_depth logs))

  opened_walk : (event : Event) (logs : List OpenLog) (next : ℕ) (before : Pending) (count : ℕ) → step_of event ≡ Opens
      → next + suc count ≤ length build.nodes
      → after_event (walk_at logs next before) event
      ≡ walk_at (opened_log build (level_in logs) next before ∷ logs) (suc next) pending.Nothing
  opened_walk event logs next before count is within =
      ap (λ (step : Step). after_step step (walk_at logs next before) event) is
      ∙ ap (λ (n : ℕ). walk_at (opened_log build (level_in logs) next before ∷ logs) n pending.Nothing) (next_is next count within)

  pub state_contents : (contents : Contents) → IsProper contents → (depth : ℕ) (logs : List OpenLog) (next : ℕ) (before : Pending)
      → next + log_count contents ≤ length build.nodes
      → walked (walk_at logs next before) (events_of depth contents)
      ≡ walk_at logs (next + log_count contents) (pending_after (level_in logs) next before contents)
  state_contents Nothing are depth logs next before within = ap (λ (n : ℕ). walk_at logs n before) (omega arith)
  state_contents (Shown event rest) are depth logs next before within =
      ap (λ (step : Step). walked (after_step step (walk_at logs next before) event) (events_of depth rest)) are.0
      ∙ state_contents rest are.1 depth logs next (after_shown build (level_in logs) before event) within
  state_contents (Opened event number inside rest) are depth logs next before within =
      let log = opened_log build (level_in logs) next before in
      let after = suc next + log_count inside in
      ap (λ (w : Walk). walked w (events_of (depth + 1) inside ++ LogEnds (depth + 1) ∷ events_of depth rest))
      (opened_walk event logs next before (log_count inside + log_count rest) are.0 within)
      ∙ walked-append (walk_at (log ∷ logs) (suc next) pending.Nothing) (events_of (depth + 1) inside)
      (LogEnds (depth + 1) ∷ events_of depth rest)
      ∙ ap (λ (w : Walk). walked w (LogEnds (depth + 1) ∷ events_of depth rest))
      (state_contents inside are.1.0 (depth + 1) (log ∷ logs) (suc next) pending.Nothing (omega (arith, within)))
      ∙ state_contents rest are.1.1 depth logs after (after_log log.left) (omega (arith, within))
      ∙ ap (λ (n : ℕ). walk_at logs n (pending_after (level_in logs) after (after_log log.left) rest)) (omega arith)

  regroup : (start first end log others last : List Part)
      → (start ++ (first ++ ((end ++ log) ++ others))) ++ last ≡ start ++ ((first ++ end) ++ (log ++ (others ++ last)))
  regroup start first end log others last = simp append_assoc

  pub parts_contents : (contents : Contents) → IsProper contents → (depth : ℕ) (logs : List OpenLog) (next : ℕ) (before : Pending)
      → next + log_count contents ≤ length build.nodes
      → walked_parts (walk_at logs next before) (events_of depth contents) ++ end_parts (pending_after (level_in logs) next before contents)
      ≡ contents_parts build (level_in logs) next before contents
  parts_contents Nothing are depth logs next before within = refl
  parts_contents (Shown event rest) are depth logs next before within =
      let w = walk_at logs next before in
      let shown = shown_parts build (level_in logs) before event in
      let last = end_parts (pending_after (level_in logs) next (after_shown build (level_in logs) before event) rest) in
      ap (λ (step : Step). (step_parts step w event ++ walked_parts (after_step step w event) (events_of depth rest)) ++ last) are.0
      ∙ append_assoc shown (walked_parts (walk_at logs next (after_shown build (level_in logs) before event)) (events_of depth rest)) last
      ∙ ap (λ (ps : List Part). shown ++ ps)
      (parts_contents rest are.1 depth logs next (after_shown build (level_in logs) before event) within)
  parts_contents (Opened event number inside rest) are depth logs next before within =
      let level = level_in logs in
      let log = opened_log build level next before in
      let after = suc next + log_count inside in
      let w = walk_at logs next before in
      let w1 = walk_at (log ∷ logs) (suc next) pending.Nothing in
      let w2 = walk_at (log ∷ logs) after (pending_after (level_in (log ∷ logs)) (suc next) pending.Nothing inside) in
      let w3 = walk_at logs after (after_log log.left) in
      let behind = LogEnds (depth + 1) ∷ events_of depth rest in
      let start = log_start build level next before event in
      let first = walked_parts w1 (events_of (depth + 1) inside) in
      let end = end_parts (pending_after (level_in (log ∷ logs)) (suc next) pending.Nothing inside) in
      let closing = log_end build level next log.left in
      let others = walked_parts w3 (events_of depth rest) in
      let last = end_parts (pending_after level after (after_log log.left) rest) in
      let inner : next + suc (log_count inside + log_count rest) ≤ length build.nodes = within in
      ap (λ (step : Step). (step_parts step w event ++ walked_parts (after_event w event) (events_of (depth + 1) inside ++ behind))
      ++ last) are.0
      ∙ ap (λ (v : Walk). (start ++ walked_parts v (events_of (depth + 1) inside ++ behind)) ++ last)
      (opened_walk event logs next before (log_count inside + log_count rest) are.0 within)
      ∙ ap (λ (ps : List Part). (start ++ ps) ++ last) (walked_parts-append w1 (events_of (depth + 1) inside) behind)
      ∙ ap (λ (v : Walk). (start ++ (first ++ walked_parts v behind)) ++ last)
      (state_contents inside are.1.0 (depth + 1) (log ∷ logs) (suc next) pending.Nothing (omega (arith, within)))
      ∙ regroup start first end closing others last
      ∙ ap (λ (ps : List Part). start ++ (ps ++ (closing ++ (others ++ last))))
      (parts_contents inside are.1.0 (depth + 1) (log ∷ logs) (suc next) pending.Nothing (omega (arith, within)))
      ∙ ap (λ (l : Level). start ++ (contents_parts build l (suc next) pending.Nothing inside ++ (closing ++ (others ++ last))))
      (level_is logs next before)
      ∙ ap (λ (ps : List Part). start ++
      (contents_parts build (level_of build level next) (suc next) pending.Nothing inside ++ (closing ++ ps)))
      (parts_contents rest are.1.1 depth logs after (after_log log.left) (omega (arith, within)))
