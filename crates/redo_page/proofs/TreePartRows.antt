-- Rows of the tree, piece by piece, as the parts that are written.
use Rattle.std.proofs.Common.{◌≡◌, ℕ, Bool, true, false, List, [], ◌∷◌, ◌++◌, Option, None, Some, ℤ, pos, negsuc, refl}
use Rattle.std.specs.Prelude.{codes, drop}
use Rattle.std.specs.declared.cmp.Ordering.TheVariants.{Less, Equal, Greater}
use Rattle.redo_line.specs.declared.entry.Entry.TheVariants.{Text, Done, Closing, Note}
use Rattle.redo_line.specs.declared.entry.How.TheVariants.{Made, Locked}
use Rattle.redo_logs.specs.declared.log_state.LogState.TheVariants.{Ended}
use Rattle.redo_logs.specs.Logs.{Log}
use Rattle.redo_options.specs.declared.options.Options.{Options}
use Rattle.redo_view.specs.Event.{Event}
use Rattle.redo_view.specs.Event.Event.{Requested, Mentioned, EntryShown, LogEnds}
use Rattle.redo_view.specs.declared.event.Opening.TheVariants.{NotOpened, OpenedBefore, OpensHere}
use Rattle.redo_html.specs.declared.markup.Markup.{Markup}
use Rattle.redo_html.specs.declared.markup.Markup.TheVariants as markup
use Rattle.redo_html.specs.Style.{plain_style}
use Rattle.redo_html.specs.Parts.{Part}
use Rattle.redo_html.specs.Parts.Part.{MarkupPart, LogPart, TextPart, NumberPart}
use Rattle.redo_outline.specs.declared.node.Node.{Node}
use Rattle.redo_outline.specs.Contents.{Contents}
use Rattle.redo_outline.specs.Contents.Contents.{Nothing, Shown, Opened}
use Rattle.redo_page.specs.declared.level.Level.{Level}
use Rattle.redo_page.specs.Tree.{Build, Items, are_group, closing_parts, depth_parts, details_markup, done_parts, empty_start, end_cmp, entry_parts, event_before, failure_cmp, flat_end, flat_start, group_start_of, is_among, has_failed, has_one_child, heading_parts, is_empty, is_expanded, is_in_level, is_moved, is_moved_if, is_root_failure, is_same_position, is_seen, is_silent, items_of, items_parts, leading_logs, level_of, line_before, log_before, log_parts, mention_parts, moved_parts, nested_end, nested_start, no_node, node_at, node_if, note_parts, opening_parts, opening_position, position_of, position_of_name, request_parts, root_failures, section_end, section_start, seen_parts, silent_parts, top_level, tree_parts}
use Rattle.redo_page.specs.Tree.Items.{NoItems, Lines, Seen, LogItem, SilentLogs}

-- A middle dot (U+00B7) in UTF-8, and a space.
abbrev fact_dot : List ℕ
fact_dot = 0xC2 ∷ 0xB7 ∷ codes " "

abbrev tag : Markup → Part
tag markup = MarkupPart markup

abbrev words : List ℕ → Part
words text = TextPart text

abbrev number : ℕ → Part
number value = NumberPart value

abbrev name : List ℕ → List Part → List Part
name text rest = tag markup.Bdi ∷ words text ∷ tag markup.EndBdi ∷ rest

-- ---- a build

abbrev log : List ℕ → Log
log target = record { target = target; entries = []; state = Ended }

abbrev logs : List Log
logs = log (codes "a") ∷ log (codes "b") ∷ log (codes "c") ∷ []

abbrev node : ℕ → Option ℕ → Option ℤ → ℕ → ℕ → Bool → Node
node number parent status lines children others =
    record no_node { number = number; parent = parent; status = status; lines = lines; bytes = lines; children = children; others = others }

-- `c` is requested, and has two logs in it and something else. `a` failed and printed one line, and `b` has nothing in it.
abbrev c : Node
c = node 2 None (Some (pos 0)) 0 2 true

abbrev a : Node
a = node 0 (Some 0) (Some (pos 2)) 1 0 true

abbrev b : Node
b = node 1 (Some 0) (Some (pos 0)) 0 0 false

abbrev nodes : List Node
nodes = c ∷ a ∷ b ∷ []

abbrev options : Bool → Options
options locks = record { recursive = true; unchanged = false; details = true; debug_locks = locks; debug_pids = false }

abbrev build_of : Bool → List Node → List ℕ → Build
build_of locks nodes articles = record { logs = logs; options = options locks; nodes = nodes; articles = articles }

abbrev build : Build
build = build_of false nodes (1 ∷ [])

abbrev level : Option ℕ → Bool → ℕ → Level
level position expanded depth = record { position = position; expanded = expanded; depth = depth }

abbrev mention : Event
mention = Mentioned 1 9 Made (codes "a") (OpensHere 0)

-- ---- facts about a target

failed_are :
    (has_failed a ≡ true) × (has_failed b ≡ false) × (has_failed (node 0 None None 0 0 false) ≡ false) × (is_root_failure a ≡ true)
    × (is_root_failure b ≡ false)
    × (has_failed (record b { fails_below = true }) ≡ false) × (is_root_failure (record a { fails_below = true }) ≡ false)
    × (root_failures (a ∷ b ∷ a ∷ []) ≡ 0 ∷ 2 ∷ [])
failed_are = (refl, refl, refl, refl, refl, refl, refl, refl)

-- A target that failed, and one that didn't.
abbrev failed_at : Option ℕ → Node
failed_at time = record a { ended = time }

abbrev made_at : Option ℕ → Node
made_at time = record b { ended = time }

-- Targets that ended first are first, and targets with an unknown end are last. Others are in the order of the tree.
order_is :
    (root_failures (failed_at (Some 30) ∷ failed_at (Some 10) ∷ failed_at None ∷ made_at (Some 5) ∷ failed_at (Some 20) ∷ failed_at None
    ∷ failed_at (Some 10) ∷ []) ≡ 1 ∷ 6 ∷ 4 ∷ 0 ∷ 2 ∷ 5 ∷ [])
    × (root_failures (failed_at None ∷ made_at None ∷ failed_at (Some 0) ∷ []) ≡ 2 ∷ 0 ∷ [])
order_is = (refl, refl)

ends_compared :
    (end_cmp (Some 1) (Some 2) ≡ Less) × (end_cmp (Some 2) (Some 2) ≡ Equal) × (end_cmp (Some 2) (Some 1) ≡ Greater)
    × (end_cmp (Some 2) None ≡ Less)
    × (end_cmp None (Some 2) ≡ Greater) × (end_cmp None None ≡ Equal)
ends_compared = (refl, refl, refl, refl, refl, refl)

-- Equal ends, and unknown ones, are compared by their positions.
failures_compared :
    (failure_cmp (failed_at (Some 8) ∷ failed_at (Some 8) ∷ []) 0 1 ≡ Less)
    × (failure_cmp (failed_at None ∷ failed_at None ∷ []) 1 0 ≡ Greater)
    × (failure_cmp (failed_at None ∷ failed_at (Some 8) ∷ []) 1 0 ≡ Less)
failures_compared = (refl, refl, refl)

empty_are : (is_empty b ≡ true) × (is_empty a ≡ false) × (is_empty (node 0 None None 0 1 false) ≡ false)
empty_are = (refl, refl, refl)

one_child_are :
    (has_one_child None ≡ true) × (has_one_child (Some (node 0 None None 0 1 false)) ≡ true)
    × (has_one_child (Some (node 0 None None 0 1 true)) ≡ false)
    × (has_one_child (Some (node 0 None None 0 2 false)) ≡ false) × (has_one_child (Some b) ≡ false)
one_child_are = (refl, refl, refl, refl, refl)

silent_are : (is_silent None ≡ false) × (is_silent (Some b) ≡ false) × (is_silent (Some (record b { silent = 3 })) ≡ true)
silent_are = (refl, refl, refl)

-- ---- positions

positions_are : (position_of nodes 1 ≡ Some 2) × (position_of nodes 7 ≡ None) × (node_at nodes 1 ≡ a) × (node_if nodes None ≡ None)
    × (node_if nodes (Some 1) ≡ Some a)
positions_are = (refl, refl, refl, refl, refl)

same_are :
    (is_same_position None None ≡ true) × (is_same_position None (Some 0) ≡ false) × (is_same_position (Some 0) None ≡ false)
    × (is_same_position (Some 1) (Some 1) ≡ true)
    × (is_same_position (Some 1) (Some 2) ≡ false)
same_are = (refl, refl, refl, refl, refl)

openings_are :
    (opening_position build NotOpened ≡ None) × (opening_position build (OpenedBefore 1) ≡ Some 2)
    × (opening_position build (OpensHere 2) ≡ Some 0)
    × (position_of_name build (codes "b") ≡ Some 2) × (position_of_name build (codes "x") ≡ None)
    × (position_of_name (build_of false (c ∷ []) []) (codes "b") ≡ None)
openings_are = (refl, refl, refl, refl, refl, refl)

positions_in_level_are :
    (is_in_level build top_level None ≡ false) × (is_in_level build top_level (Some 0) ≡ true)
    × (is_in_level build (level (Some 0) true 1) (Some 2) ≡ true)
    × (is_in_level build (level (Some 2) true 1) (Some 2) ≡ false)
positions_in_level_are = (refl, refl, refl, refl)

-- ---- articles and levels

moved_are :
    (is_among build.articles 1 ≡ true) × (is_among build.articles 2 ≡ false) × (is_moved build 1 ≡ true)
    × (is_moved (build_of false nodes []) 1 ≡ false)
    × (is_moved (build_of false nodes (2 ∷ [])) 2 ≡ false) × (is_moved_if build None ≡ false) × (is_moved_if build (Some 1) ≡ true)
    × (is_moved_if build (Some 0) ≡ false)
moved_are = (refl, refl, refl, refl, refl, refl, refl, refl)

-- Requested targets are expanded, and so are targets that failed, those around them, and the only log in an expanded one.
expanded_are :
    (is_expanded build top_level b ≡ true) × (is_expanded build (level (Some 0) true 1) b ≡ false)
    × (is_expanded build (level (Some 0) false 1) a ≡ true)
    × (is_expanded build (level (Some 0) false 1) (record b { fails_below = true }) ≡ true)
    × (is_expanded (build_of false (node 2 None (Some (pos 0)) 0 1 false ∷ []) []) (level (Some 0) true 1) b ≡ true)
    × (is_expanded (build_of false (node 2 None (Some (pos 0)) 0 1 false ∷ []) []) (level (Some 0) false 1) b ≡ false)
expanded_are = (refl, refl, refl, refl, refl, refl)

levels_are :
    (top_level ≡ level None true 0) × (level_of build top_level 0 ≡ level (Some 0) true 1)
    × (level_of build (level (Some 0) true 4) 2 ≡ level (Some 2) false 5)
levels_are = (refl, refl, refl)

-- ---- groups

abbrev end : List Part
end = tag markup.EndUnordered ∷ tag markup.EndDetails ∷ tag markup.EndItem ∷ []

groups_are :
    (group_start_of 5 ≡ tag markup.Item ∷ tag markup.QuietDetails ∷ tag markup.Summary ∷ number 5
    ∷ words (codes " targets that printed nothing") ∷ tag markup.EndSummary ∷ tag markup.Unordered ∷ [])
    × (nested_end ≡ end)
groups_are = (refl, refl)

abbrev silent : ℕ → Node
silent count = record b { silent = count }

-- The logs are in a log with something else, in a silent one, and in none.
sizes_are :
    (are_group (build_of false (c ∷ []) []) (level (Some 0) true 1) 5 ≡ true)
    × (are_group (build_of false (c ∷ []) []) (level (Some 0) true 1) 4 ≡ false)
    × (are_group (build_of false (silent 9 ∷ []) []) (level (Some 0) true 1) 6 ≡ false)
    × (are_group (build_of false (silent 9 ∷ []) []) top_level 9 ≡ true)
sizes_are = (refl, refl, refl, refl)

-- ---- logs

-- The badge of `a`, and its line.
abbrev facts : List Part → List Part
facts rest =
    words (codes " ") ∷ tag markup.ExitBadge ∷ words (codes "exit ") ∷ words [] ∷ number 2 ∷ tag markup.EndBadge
    ∷ words (codes " ") ∷ tag markup.Small ∷ words fact_dot ∷ number 1 ∷ words (codes " line") ∷ tag markup.EndSmall ∷ rest

abbrev made : List Part → List Part
made rest = words (codes " ") ∷ tag markup.Small ∷ words fact_dot ∷ words (codes "made") ∷ tag markup.EndSmall ∷ rest

headings_are :
    (heading_parts build (Requested (codes "a") (OpensHere 0)) 1 ≡ name (codes "a") (facts []))
    × (heading_parts build mention 1 ≡ name (codes "a") (facts []))
    × (heading_parts (build_of true nodes []) (Requested (codes "a") (OpensHere 0)) 1 ≡ name (codes "a") (facts []))
    × (heading_parts (build_of true nodes []) mention 1 ≡ name (codes "a") (made (facts [])))
    × (heading_parts build (EntryShown 1 (Text (codes "x"))) 1 ≡ []) × (heading_parts build (LogEnds 1) 1 ≡ [])
headings_are = (refl, refl, refl, refl, refl, refl)

abbrev moved : List Part → List Part
moved rest = tag markup.NoteItem ∷ tag (markup.OutputLink 1) ∷ words (codes "What it printed is shown above") ∷ tag markup.EndLink
    ∷ tag markup.EndItem ∷ rest

links_are : (moved_parts build 1 ≡ moved []) × (moved_parts build 0 ≡ []) × (moved_parts (build_of false nodes (2 ∷ [])) 2 ≡ [])
links_are = (refl, refl, refl)

abbrev x : List Part
x = words (codes "x") ∷ []

empty_is : empty_start 3 x ≡ tag (markup.TargetItem 3) ∷ words (codes "x") ∷ []
empty_is = refl

details_are : (details_markup true 3 ≡ markup.OpenDetails 3) × (details_markup false 3 ≡ markup.Details 3)
details_are = (refl, refl)

-- How deep a log is, and the end of its item.
abbrev depth : ℕ → List Part → List Part
depth value rest = words (codes " ") ∷ tag markup.Small ∷ words fact_dot ∷ words (codes "level ") ∷ number value ∷ tag markup.EndSmall
    ∷ tag markup.EndItem ∷ rest

flat_are :
    (depth_parts 61 ≡ depth 61 [])
    × (flat_start build 1 61 x ≡ tag (markup.TargetItem 1) ∷ words (codes "x") ∷ depth 61 (moved []))
    × (flat_start build 0 61 x ≡ tag (markup.TargetItem 0) ∷ words (codes "x") ∷ depth 61 [])
    × (flat_end build 0 ≡ tag markup.NoteItem ∷ words (codes "end of ") ∷ name (codes "c") (tag markup.EndItem ∷ []))
flat_are = (refl, refl, refl, refl)

nested_are :
    (nested_start build true 1 x ≡ tag markup.Item ∷ tag (markup.OpenDetails 1) ∷ tag markup.Summary ∷ words (codes "x")
    ∷ tag markup.EndSummary ∷ tag markup.Unordered ∷ moved [])
    × (nested_start build false 0 x ≡ tag markup.Item ∷ tag (markup.Details 0) ∷ tag markup.Summary ∷ words (codes "x")
    ∷ tag markup.EndSummary ∷ tag markup.Unordered ∷ [])
nested_are = (refl, refl)

-- A log that contains nothing, one that is too deep to be nested, and nested ones.
opened_are :
    (opening_parts build (level (Some 0) true 1) 2 x ≡ empty_start 2 x)
    × (opening_parts build (level (Some 0) true 60) 2 x ≡ empty_start 2 x)
    × (opening_parts build (level (Some 0) true 60) 1 x ≡ flat_start build 1 60 x)
    × (opening_parts build (level (Some 0) true 61) 1 x ≡ flat_start build 1 61 x)
    × (opening_parts build (level (Some 0) false 59) 1 x ≡ nested_start build true 1 x)
    × (opening_parts build (level (Some 1) false 0) 0 x ≡ nested_start build false 0 x)
opened_are = (refl, refl, refl, refl, refl, refl)

closed_are :
    (closing_parts build (level (Some 0) true 1) 2 ≡ tag markup.EndItem ∷ [])
    × (closing_parts build (level (Some 0) true 60) 2 ≡ tag markup.EndItem ∷ [])
    × (closing_parts build (level (Some 0) true 60) 0
    ≡ tag markup.NoteItem ∷ words (codes "end of ") ∷ name (codes "c") (tag markup.EndItem ∷ []))
    × (closing_parts build (level (Some 0) true 59) 0 ≡ end)
closed_are = (refl, refl, refl, refl)

-- A log that contains nothing, and one that contains something.
logs_are :
    (log_parts build (level (Some 0) true 1) (Mentioned 1 9 Made (codes "b") (OpensHere 1)) 2 x
    ≡ tag (markup.TargetItem 2) ∷ name (codes "b") (words (codes "x") ∷ tag markup.EndItem ∷ []))
    × (log_parts build (level (Some 0) true 1) mention 1 x
    ≡ tag markup.Item ∷ tag (markup.OpenDetails 1) ∷ tag markup.Summary
    ∷ name (codes "a") (facts (tag markup.EndSummary ∷ tag markup.Unordered ∷ moved (words (codes "x") ∷ end))))
logs_are = (refl, refl)

grouped_are :
    (silent_parts build (level (Some 0) true 1) 5 x ≡ group_start_of 5 ++ words (codes "x") ∷ end)
    × (silent_parts build (level (Some 0) true 1) 6 x ≡ group_start_of 6 ++ words (codes "x") ∷ end)
    × (silent_parts build (level (Some 0) true 1) 4 x ≡ x)
    × (silent_parts (build_of false (silent 9 ∷ []) []) (level (Some 0) true 1) 5 x ≡ x)
grouped_are = (refl, refl, refl, refl)

-- ---- events that open no log

request_is : request_parts (codes "q") ≡ tag markup.Item ∷ name (codes "q") (tag markup.EndItem ∷ [])
request_is = refl

notes_are :
    (note_parts (codes "check") (codes "x")
    ≡ tag markup.NoteItem ∷ words (codes "(") ∷ words (codes "x") ∷ words (codes ")") ∷ tag markup.EndItem ∷ [])
    × (note_parts (codes "checks") (codes "x") ≡ tag markup.NoteItem ∷ words (codes "redo: ") ∷ words (codes "x") ∷ tag markup.EndItem ∷ [])
    × (note_parts [] (codes "x") ≡ tag markup.NoteItem ∷ words [] ∷ words (codes "x") ∷ tag markup.EndItem ∷ [])
notes_are = (refl, refl, refl)

abbrev link : ℕ → List ℕ → List Part → List Part
link position target rest = tag (markup.TargetLink position) ∷ name target (tag markup.EndLink ∷ rest)

done_are :
    (done_parts build (negsuc 0) (codes "b")
    ≡ tag markup.NoteItem ∷ words (codes "needs ")
    ∷ link 2 (codes "b") (words (codes " ") ∷ tag markup.ExitBadge ∷ words (codes "exit ") ∷ words (codes "-") ∷ number 1
    ∷ tag markup.EndBadge ∷ tag markup.EndItem ∷ []))
    × (done_parts build (pos 3) (codes "x")
    ≡ tag markup.NoteItem ∷ words (codes "needs ")
    ∷ name (codes "x") (words (codes " ") ∷ tag markup.ExitBadge ∷ words (codes "exit ") ∷ words [] ∷ number 3 ∷ tag markup.EndBadge
    ∷ tag markup.EndItem ∷ []))
done_are = (refl, refl)

mentions_are :
    (mention_parts build Locked (codes "b") (OpenedBefore 1) ≡ tag markup.Item ∷ link 2 (codes "b") (tag markup.EndItem ∷ []))
    × (mention_parts build Locked (codes "x") NotOpened ≡ tag markup.Item ∷ name (codes "x") (tag markup.EndItem ∷ []))
    × (mention_parts (build_of true nodes []) Locked (codes "b") (OpenedBefore 1)
    ≡ tag markup.Item ∷ link 2 (codes "b")
    (words (codes " ") ∷ tag markup.Small ∷ words fact_dot ∷ words (codes "locked") ∷ tag markup.EndSmall ∷ tag markup.EndItem ∷ []))
mentions_are = (refl, refl, refl)

abbrev in_c : Level
in_c = level (Some 0) true 1

abbrev in_a : Level
in_a = level (Some 1) true 2

-- Whether another target that is done is seen: the log of `a` is directly in the log of `c`.
seen_are :
    (is_seen build top_level (Requested (codes "q") NotOpened) ≡ true)
    × (is_seen build in_c (Mentioned 1 9 Made (codes "q") NotOpened) ≡ true)
    × (is_seen build in_c (EntryShown 1 (Done 9 (pos 2) (codes "a"))) ≡ false)
    × (is_seen build in_a (EntryShown 1 (Done 9 (pos 2) (codes "a"))) ≡ true)
    × (is_seen build in_a (EntryShown 1 (Done 9 (pos 0) (codes "a"))) ≡ false)
    × (is_seen build in_c (EntryShown 1 (Done 9 (pos 2) (codes "x"))) ≡ true)
    × (is_seen build in_c (EntryShown 1 (Note 9 (codes "n") (codes "t"))) ≡ true)
    × (is_seen build in_c (EntryShown 1 (Closing 9 (pos 2))) ≡ false) × (is_seen build in_c (LogEnds 1) ≡ false)
seen_are = (refl, refl, refl, refl, refl, refl, refl, refl, refl)

what_is_seen_are :
    (seen_parts build (Requested (codes "q") NotOpened) ≡ request_parts (codes "q"))
    × (seen_parts build (Mentioned 1 9 Locked (codes "b") (OpenedBefore 1)) ≡ mention_parts build Locked (codes "b") (OpenedBefore 1))
    × (seen_parts build (EntryShown 1 (Note 9 (codes "n") (codes "t"))) ≡ note_parts (codes "n") (codes "t"))
    × (seen_parts build (LogEnds 1) ≡ [])
    × (entry_parts build (Done 9 (pos 3) (codes "x")) ≡ done_parts build (pos 3) (codes "x"))
    × (entry_parts build (Note 9 (codes "n") (codes "t")) ≡ note_parts (codes "n") (codes "t"))
    × (entry_parts build (Closing 9 (pos 2)) ≡ [])
what_is_seen_are = (refl, refl, refl, refl, refl, refl, refl)

-- ---- items

abbrev note : Event
note = EntryShown 1 (Note 9 (codes "n") (codes "t"))

abbrev text : List ℕ → Event
text line = EntryShown 1 (Text line)

abbrev opens_b : Event
opens_b = Mentioned 1 9 Made (codes "b") (OpensHere 1)

-- A log at position 1 or 2, and the items after it.
abbrev one : Items → Items
one items = LogItem mention 1 NoItems items

abbrev two : Items → Items
two items = LogItem opens_b 2 NoItems items

-- Lines join if nothing is between them.
lines_joined :
    (line_before (codes "x") NoItems ≡ Lines (codes "x" ∷ []) NoItems)
    × (line_before (codes "x") (Lines (codes "y" ∷ []) (two NoItems)) ≡ Lines (codes "x" ∷ codes "y" ∷ []) (two NoItems))
    × (line_before (codes "x") (Seen note (Lines (codes "y" ∷ []) NoItems))
    ≡ Lines (codes "x" ∷ []) (Seen note (Lines (codes "y" ∷ []) NoItems)))
lines_joined = (refl, refl, refl)

-- A log that isn't silent joins nothing, and neither does the last one of a row.
logs_joined :
    (log_before 0 one (SilentLogs (two NoItems) NoItems) ≡ one (SilentLogs (two NoItems) NoItems))
    × (log_before 1 one NoItems ≡ SilentLogs (one NoItems) NoItems)
    × (log_before 1 one (SilentLogs (two NoItems) NoItems) ≡ SilentLogs (one NoItems) (SilentLogs (two NoItems) NoItems))
    × (log_before 2 one (SilentLogs (two NoItems) (Seen note NoItems)) ≡ SilentLogs (one (two NoItems)) (Seen note NoItems))
    × (log_before 5 one (SilentLogs (two NoItems) NoItems) ≡ SilentLogs (one (two NoItems)) NoItems)
    × (log_before 2 one (Seen note NoItems) ≡ SilentLogs (one NoItems) (Seen note NoItems))
    × (log_before 2 one (Seen note (SilentLogs (two NoItems) NoItems))
    ≡ SilentLogs (one NoItems) (Seen note (SilentLogs (two NoItems) NoItems)))
logs_joined = (refl, refl, refl, refl, refl, refl, refl)

logs_counted : (leading_logs NoItems ≡ 0) × (leading_logs (one (two NoItems)) ≡ 2) × (leading_logs (one (Seen note NoItems)) ≡ 1)
    × (leading_logs (LogItem mention 1 (two NoItems) NoItems) ≡ 1)
logs_counted = (refl, refl, refl, refl)

-- The text of `a` is in its article, and the text of `c` isn't.
events_are :
    (event_before build in_a (text (codes "x")) (one NoItems) ≡ one NoItems)
    × (event_before build in_c (text (codes "x")) (Lines (codes "y" ∷ []) NoItems) ≡ Lines (codes "x" ∷ codes "y" ∷ []) NoItems)
    × (event_before build in_c note (one NoItems) ≡ Seen note (one NoItems))
    × (event_before build in_c (EntryShown 1 (Closing 9 (pos 2))) (one NoItems) ≡ one NoItems)
events_are = (refl, refl, refl, refl)

-- An event that isn't seen is between two lines, and one that is seen between two others.
items_are :
    (items_of build in_c 1 (Shown (text (codes "x")) (Shown (EntryShown 1 (Closing 9 (pos 2))) (Shown (text (codes "y")) (Shown note
    (Shown (text (codes "z")) (Opened mention 0 (Opened opens_b 1 Nothing Nothing) (Opened opens_b 1 Nothing Nothing)))))))
    ≡ Lines (codes "x" ∷ codes "y" ∷ []) (Seen note (Lines (codes "z" ∷ [])
    (LogItem mention 1 (LogItem opens_b 2 NoItems NoItems) (LogItem opens_b 3 NoItems NoItems)))))
    × (items_of build in_c 1 (Opened mention 0 (Shown (text (codes "x")) Nothing) Nothing) ≡ LogItem mention 1 NoItems NoItems)
items_are = (refl, refl)

-- A silent log with a silent one in it, and two others. They are a row, and two more are another one, because something was between them that
-- isn't shown.
rows_are :
    items_of (build_of false (silent 3 ∷ silent 1 ∷ silent 2 ∷ silent 1 ∷ silent 2 ∷ silent 1 ∷ []) []) top_level 0
    (Opened opens_b 1 (Opened opens_b 1 Nothing Nothing)
    (Opened opens_b 1 Nothing (Opened opens_b 1 Nothing (Opened opens_b 1 Nothing (Shown (EntryShown 1 (Closing 9 (pos 0)))
    (Opened opens_b 1 Nothing Nothing))))))
    ≡ SilentLogs (LogItem opens_b 0 (SilentLogs (LogItem opens_b 1 NoItems NoItems) NoItems)
    (LogItem opens_b 2 NoItems (LogItem opens_b 3 NoItems NoItems)))
    (SilentLogs (LogItem opens_b 4 NoItems (LogItem opens_b 5 NoItems NoItems)) NoItems)
rows_are = refl

-- ---- contents

abbrev line : List ℕ → Part
line text = LogPart plain_style text

abbrev parts_of : Build → Level → ℕ → Contents → List Part
parts_of build level position contents = items_parts build level (items_of build level position contents)

-- A line, the log `a` with a note, a line, and the log `b`.
contents_are :
    parts_of build in_c 1
    (Shown (EntryShown 1 (Text (codes "x"))) (Opened mention 0 (Shown (EntryShown 2 (Note 9 (codes "n") (codes "t"))) Nothing)
    (Shown (EntryShown 1 (Text (codes "y")))
    (Opened (Mentioned 1 9 Made (codes "b") (OpensHere 1)) 1 Nothing (Shown (EntryShown 1 (Text (codes "z"))) Nothing)))))
    ≡ tag markup.Item ∷ tag markup.Pre ∷ line (codes "x\n") ∷ tag markup.EndPre ∷ tag markup.EndItem
    ∷ tag markup.Item ∷ tag (markup.OpenDetails 1) ∷ tag markup.Summary
    ∷ name (codes "a") (facts (tag markup.EndSummary ∷ tag markup.Unordered ∷ moved
    (tag markup.NoteItem ∷ words (codes "redo: ") ∷ words (codes "t") ∷ tag markup.EndItem ∷ tag markup.EndUnordered ∷ tag markup.EndDetails
    ∷ tag markup.EndItem
    ∷ tag markup.Item ∷ tag markup.Pre ∷ line (codes "y\n") ∷ tag markup.EndPre ∷ tag markup.EndItem
    ∷ tag (markup.TargetItem 2) ∷ name (codes "b")
    (tag markup.EndItem ∷ tag markup.Item ∷ tag markup.Pre ∷ line (codes "z\n") ∷ tag markup.EndPre ∷ tag markup.EndItem ∷ []))))
contents_are = refl

-- A note in a log, and a text line in a log whose output is moved.
inside_are :
    (parts_of (build_of false (node 1 None (Some (pos 0)) 0 0 true ∷ []) []) in_c 0
    (Opened (Mentioned 1 9 Made (codes "b") (OpensHere 1)) 1 (Shown (EntryShown 2 (Note 9 (codes "n") (codes "t"))) Nothing) Nothing)
    ≡ tag markup.Item ∷ tag (markup.Details 0) ∷ tag markup.Summary ∷ name (codes "b") (tag markup.EndSummary ∷ tag markup.Unordered
    ∷ tag markup.NoteItem ∷ words (codes "redo: ") ∷ words (codes "t") ∷ tag markup.EndItem ∷ end))
    × (parts_of build in_c 1 (Opened mention 0 (Shown (EntryShown 2 (Text (codes "x"))) Nothing) Nothing)
    ≡ tag markup.Item ∷ tag (markup.OpenDetails 1) ∷ tag markup.Summary
    ∷ name (codes "a") (facts (tag markup.EndSummary ∷ tag markup.Unordered ∷ moved end)))
inside_are = (refl, refl)

-- The logs after a log with another one in it.
next_are :
    parts_of (build_of false (node 2 None (Some (pos 0)) 0 1 false ∷ b ∷ b ∷ []) []) (level None false 0) 0
    (Opened (Requested (codes "c") (OpensHere 2)) 2 (Opened (Mentioned 1 9 Made (codes "b") (OpensHere 1)) 1 Nothing Nothing)
    (Opened (Requested (codes "a") (OpensHere 0)) 0 Nothing Nothing))
    ≡ tag markup.Item ∷ tag (markup.Details 0) ∷ tag markup.Summary ∷ name (codes "c") (tag markup.EndSummary ∷ tag markup.Unordered
    ∷ tag (markup.TargetItem 1) ∷ name (codes "b")
    (tag markup.EndItem ∷ tag markup.EndUnordered ∷ tag markup.EndDetails ∷ tag markup.EndItem
    ∷ tag (markup.TargetItem 2) ∷ name (codes "a") (tag markup.EndItem ∷ [])))
next_are = refl

-- Five silent logs are a group. The first one has another silent log in it.
abbrev in_first : Node
in_first = record (silent 5) { children = 1 }

abbrev opened_b : Contents → Contents → Contents
opened_b inside rest = Opened opens_b 1 inside rest

abbrev empty : ℕ → List Part → List Part
empty position rest = tag (markup.TargetItem position) ∷ name (codes "b") (tag markup.EndItem ∷ rest)

group_is :
    parts_of (build_of false (c ∷ in_first ∷ silent 1 ∷ silent 4 ∷ silent 3 ∷ silent 2 ∷ silent 1 ∷ []) []) in_c 1
    (opened_b (opened_b Nothing Nothing) (opened_b Nothing (opened_b Nothing (opened_b Nothing (opened_b Nothing (Shown note Nothing))))))
    ≡ group_start_of 5
    ++ (tag markup.Item ∷ tag (markup.Details 1) ∷ tag markup.Summary ∷ name (codes "b") (tag markup.EndSummary ∷ tag markup.Unordered ∷ empty 2 end))
    ++ empty 3 (empty 4 (empty 5 (empty 6 (end ++ note_parts (codes "n") (codes "t")))))
group_is = refl

-- Items in their order. The log in `c` isn't expanded, because `c` contains more.
written_are :
    (items_parts build in_c (Seen note (two NoItems)) ≡ note_parts (codes "n") (codes "t") ++ empty 2 [])
    × (items_parts (build_of false (c ∷ node 1 (Some 0) (Some (pos 0)) 0 0 true ∷ []) []) top_level
    (LogItem (Requested (codes "c") (OpensHere 2)) 0 (LogItem opens_b 1 NoItems NoItems) NoItems)
    ≡ tag markup.Item ∷ tag (markup.OpenDetails 0) ∷ tag markup.Summary ∷ name (codes "c") (tag markup.EndSummary ∷ tag markup.Unordered
    ∷ tag markup.Item ∷ tag (markup.Details 1) ∷ tag markup.Summary
    ∷ name (codes "b") (tag markup.EndSummary ∷ tag markup.Unordered ∷ end ++ end)))
written_are = (refl, refl)

-- Four silent logs are no group, and neither are five in a silent log.
no_group_is :
    (items_parts build top_level (SilentLogs (two (two (two (two NoItems)))) NoItems)
    ≡ items_parts build top_level (two (two (two (two NoItems)))))
    × (items_parts (build_of false (silent 9 ∷ c ∷ b ∷ []) []) (level (Some 0) true 1)
    (SilentLogs (two (two (two (two (two NoItems))))) NoItems)
    ≡ items_parts (build_of false (silent 9 ∷ c ∷ b ∷ []) []) (level (Some 0) true 1) (two (two (two (two (two NoItems))))))
no_group_is = (refl, refl)

-- ---- the section

abbrev start : List Part → List Part
start rest =
    tag markup.TreeSection ∷ tag markup.TreeHeading ∷ words (codes "All logs") ∷ tag markup.EndHeading ∷ tag markup.QuietParagraph
    ∷ words (codes "Each log is shown where its target is first mentioned. Logs of targets that failed are open.") ∷ tag markup.EndParagraph
    ∷ tag markup.Tree ∷ rest

section_is : (section_start ≡ start []) × (section_end ≡ tag markup.EndUnordered ∷ tag markup.EndSection ∷ [])
section_is = (refl, refl)

-- The output of the only target that failed is moved.
moved_in_tree :
    drop 33 (tree_parts logs (options true) (a ∷ [])
    (Opened (Mentioned 1 9 Made (codes "a") (OpensHere 0)) 0 (Shown (EntryShown 1 (Text (codes "x"))) Nothing) Nothing))
    ≡ tag markup.NoteItem ∷ tag (markup.OutputLink 0) ∷ words (codes "What it printed is shown above") ∷ tag markup.EndLink
    ∷ tag markup.EndItem
    ∷ tag markup.EndUnordered ∷ tag markup.EndDetails ∷ tag markup.EndItem ∷ tag markup.EndUnordered ∷ tag markup.EndSection ∷ []
moved_in_tree = refl

tree_is :
    tree_parts logs (options true) (a ∷ [])
    (Opened (Mentioned 1 9 Made (codes "a") (OpensHere 0)) 0 (Shown (EntryShown 1 (Text (codes "x"))) Nothing) Nothing)
    ≡ start (tag markup.Item ∷ tag (markup.OpenDetails 0) ∷ tag markup.Summary
    ∷ name (codes "a") (made (facts (tag markup.EndSummary ∷ tag markup.Unordered
    ∷ tag markup.NoteItem ∷ tag (markup.OutputLink 0) ∷ words (codes "What it printed is shown above") ∷ tag markup.EndLink
    ∷ tag markup.EndItem
    ∷ tag markup.EndUnordered ∷ tag markup.EndDetails ∷ tag markup.EndItem ∷ tag markup.EndUnordered ∷ tag markup.EndSection ∷ []))))
tree_is = refl
