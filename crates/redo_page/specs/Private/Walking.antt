-- The tree, event by event: the parts of an event, and the state after it.
use Rattle.std.specs.Prelude.{ℕ, suc, nat_lt, List, [], ◌∷◌, ◌++◌, Some, length, if◌then◌else◌}
use Rattle.redo_view.specs.declared.event.Opening.{Opening}
use Rattle.redo_view.specs.Event.{Event, opens_here}
use Rattle.redo_view.specs.Form.{bytes_of, state_after}
use Rattle.redo_view.specs.Event.Event.{Requested, Mentioned, EntryShown, LogEnds}
use Rattle.std.specs.List.{flat_map}
use Rattle.redo_html.specs.Parts.{Part, part_html}
use Rattle.redo_outline.specs.declared.node.Node.{Node}
use Rattle.redo_page.specs.declared.block.Pending.{Pending}
use Rattle.redo_page.specs.declared.block.Pending.TheVariants as pending
use Rattle.redo_page.specs.declared.level.Level.{Level}
use Rattle.redo_page.specs.declared.level.OpenLog.{OpenLog}
use Rattle.redo_page.specs.declared.step.Step.{Step}
use Rattle.redo_page.specs.declared.step.Step.TheVariants.{Opens, Ends, Shows}
use Rattle.redo_page.specs.Private.Texts.{after_lines, lines_parts}
use Rattle.redo_page.specs.Tree.{Build, is_expanded, is_moved_if, node_at, section_end, top_level}
use Rattle.redo_page.specs.Private.Streaming.{after_log, after_shown, end_parts, group_left, log_end, log_start, shown_parts}

-- The state before an event: the logs that are open, the innermost first; the position of the next log; and the open group or
-- block.
pub record Walk : Type 0 where
  pub build : Build
  pub logs : List OpenLog
  pub next : ℕ
  pub before : Pending

-- The step of an event.
abbrev pub step_of_opening : Opening → Step
step_of_opening opening = if opens_here opening then Opens else Shows

abbrev pub step_of : Event → Step
step_of (Requested name opening) = step_of_opening opening
step_of (Mentioned depth pid how name opening) = step_of_opening opening
step_of (EntryShown depth entry) = Shows
step_of (LogEnds depth) = Ends

-- The level in the innermost of these logs.
abbrev pub level_in : List OpenLog → Level
level_in [] = top_level
level_in (log ∷ logs) = record { position = Some log.position; expanded = log.expanded; depth = suc (length logs) }

abbrev pub opened_log : Build → Level → ℕ → Pending → OpenLog
opened_log build level position before = record { position = position; expanded = is_expanded build level (node_at build.nodes position); left = group_left build level position before }

-- The position after a position. There is none after the last node.
abbrev pub next_position : List Node → ℕ → ℕ
next_position nodes position = if nat_lt position (length nodes) then suc position else position

abbrev pub ending_parts : Build → Pending → List OpenLog → List Part
ending_parts build before [] = []
ending_parts build before (log ∷ logs) = end_parts before ++ log_end build (level_in logs) log.position log.left

abbrev pub after_ending : Walk → List OpenLog → Walk
after_ending walk [] = walk
after_ending walk (log ∷ logs) = record walk { logs = logs; before = after_log log.left }

abbrev pub after_opening : Walk → Walk
after_opening walk = record walk {
  logs = opened_log walk.build (level_in walk.logs) walk.next walk.before ∷ walk.logs;
  next = next_position walk.build.nodes walk.next;
  before = pending.Nothing;
}

abbrev pub step_parts : Step → Walk → Event → List Part
step_parts Opens walk event = log_start walk.build (level_in walk.logs) walk.next walk.before event
step_parts Ends walk event = ending_parts walk.build walk.before walk.logs
step_parts Shows walk event = shown_parts walk.build (level_in walk.logs) walk.before event

abbrev pub after_step : Step → Walk → Event → Walk
after_step Opens walk event = after_opening walk
after_step Ends walk event = after_ending walk walk.logs
after_step Shows walk event = record walk { before = after_shown walk.build (level_in walk.logs) walk.before event }

abbrev pub walk_parts : Walk → Event → List Part
walk_parts walk event = step_parts (step_of event) walk event

abbrev pub after_event : Walk → Event → Walk
after_event walk event = after_step (step_of event) walk event

abbrev pub tree_bytes : Walk → Event → List ℕ
tree_bytes walk event = flat_map part_html (walk_parts walk event)

-- Before all events.
abbrev pub start_of : Build → Walk
start_of build = record { build = build; logs = []; next = 0; before = pending.Nothing }

-- The text of a tree after its heading.
abbrev pub tree_text : Build → List Event → List ℕ
tree_text build events = bytes_of tree_bytes after_event (start_of build) events ++ flat_map part_html (end_parts (state_after after_event (start_of build) events).before ++ section_end)

-- Text lines, and the state after them.
abbrev pub texts_parts : Walk → List (List ℕ) → List Part
texts_parts walk lines = if is_moved_if walk.build (level_in walk.logs).position then [] else lines_parts walk.before lines

abbrev pub after_texts : Walk → List (List ℕ) → Walk
after_texts walk lines = record walk { before = if is_moved_if walk.build (level_in walk.logs).position then walk.before else after_lines walk.before lines }
