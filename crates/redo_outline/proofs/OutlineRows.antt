-- Rows of outlines, of the tree that they are made from, and of the facts in them.
use Rattle.std.proofs.Common.{◌≡◌, ℕ, ◌==◌, Bool, true, false, List, [], ◌∷◌, ◌++◌, Option, None, Some, ℤ, pos, negsuc, map, refl}
use Rattle.std.specs.Prelude.{codes, position}
use Rattle.redo_line.specs.declared.entry.Entry.{Entry}
use Rattle.redo_line.specs.declared.entry.Entry.TheVariants.{Text, Mention, Done, Closing, Note}
use Rattle.redo_line.specs.declared.entry.How.TheVariants.{Made, Waiting, Unchanged}
use Rattle.redo_logs.specs.declared.log_state.LogState.TheVariants.{Ended}
use Rattle.redo_logs.specs.Logs.{Log}
use Rattle.redo_options.specs.declared.options.Options.{Options}
use Rattle.redo_view.specs.declared.event.Opening.{Opening}
use Rattle.redo_view.specs.declared.event.Opening.TheVariants.{NotOpened, OpenedBefore, OpensHere}
use Rattle.redo_view.specs.Event.{Event}
use Rattle.redo_view.specs.Event.Event.{Requested, Mentioned, EntryShown, LogEnds}
use Rattle.redo_view.specs.Expansion.{shown_events, show_log, show_log_within}
use Rattle.redo_outline.specs.declared.node.Node.{Node}
use Rattle.redo_outline.specs.declared.node.RunTimes.{RunTimes}
use Rattle.redo_outline.specs.Contents.{contents_from, contents_of}
use Rattle.redo_outline.specs.Contents.Contents.{Nothing, Shown, Opened}
use Rattle.redo_outline.specs.Facts.{entries_at, is_failure, is_warning, name_or_empty, saturated, target_at, target_status, text_size, texts_of}
use Rattle.redo_outline.specs.Laws.{events_of}
use Rattle.redo_outline.specs.Outline.{is_visible, outline_of, with_times, without_warnings}

abbrev log : List ℕ → List Entry → Log
log target entries = record { target = target; entries = entries; state = Ended }

abbrev made : List ℕ → Entry
made name = Mention 9 Made name

abbrev closed : ℤ → Entry
closed status = Closing 9 status

abbrev options : Options
options = record { recursive = true; unchanged = false; details = true; debug_locks = false; debug_pids = false }

-- Seven targets. `c` and `b` failed; `s`, `t` and `u` printed nothing. `s` and `b` have no closing record.
abbrev logs : List Log
logs =
    log (codes "all")
    (made (codes "a") ∷ made (codes "s") ∷ made (codes "t") ∷ made (codes "u") ∷ Done 9 (pos 0) (codes "s") ∷ made (codes "b")
    ∷ Done 9 (pos 2) (codes "b")
    ∷ closed (pos 1) ∷ [])
    ∷ log (codes "a") (Text (codes "cc a.c") ∷ Text (codes "a.c: warning: x") ∷ made (codes "c") ∷ closed (pos 0) ∷ [])
    ∷ log (codes "s") []
    ∷ log (codes "t") (closed (pos 0) ∷ [])
    ∷ log (codes "u") (closed (pos 0) ∷ [])
    ∷ log (codes "b") (Text (codes "error") ∷ [])
    ∷ log (codes "c") (Text (codes "warning") ∷ Text (codes "warning:warning:") ∷ Note 9 (codes "note") (codes "warning:")
    ∷ closed (negsuc 0) ∷ [])
    ∷ []

-- The facts about each log, in the order in which the logs are opened.
abbrev nodes : List Node
nodes =
    record {
      number = 0;
      parent = None;
      status = Some (pos 1);
      lines = 0;
      bytes = 0;
      warnings = 0;
      below = 6;
      children = 5;
      others = true;
      warnings_below = 2;
      fails_below = true;
      silent = 0;
      took = None;
      ended = None;
    }
    ∷ record {
      number = 1;
      parent = Some 0;
      status = Some (pos 0);
      lines = 2;
      bytes = 23;
      warnings = 1;
      below = 1;
      children = 1;
      others = true;
      warnings_below = 1;
      fails_below = true;
      silent = 0;
      took = None;
      ended = None;
    }
    ∷ record {
      number = 6;
      parent = Some 1;
      status = Some (negsuc 0);
      lines = 2;
      bytes = 25;
      warnings = 1;
      below = 0;
      children = 0;
      others = true;
      warnings_below = 0;
      fails_below = false;
      silent = 0;
      took = None;
      ended = None;
    }
    ∷ record {
      number = 2;
      parent = Some 0;
      status = Some (pos 0);
      lines = 0;
      bytes = 0;
      warnings = 0;
      below = 0;
      children = 0;
      others = false;
      warnings_below = 0;
      fails_below = false;
      silent = 3;
      took = None;
      ended = None;
    }
    ∷ record {
      number = 3;
      parent = Some 0;
      status = Some (pos 0);
      lines = 0;
      bytes = 0;
      warnings = 0;
      below = 0;
      children = 0;
      others = false;
      warnings_below = 0;
      fails_below = false;
      silent = 2;
      took = None;
      ended = None;
    }
    ∷ record {
      number = 4;
      parent = Some 0;
      status = Some (pos 0);
      lines = 0;
      bytes = 0;
      warnings = 0;
      below = 0;
      children = 0;
      others = false;
      warnings_below = 0;
      fails_below = false;
      silent = 1;
      took = None;
      ended = None;
    }
    ∷ record {
      number = 5;
      parent = Some 0;
      status = Some (pos 2);
      lines = 1;
      bytes = 6;
      warnings = 0;
      below = 0;
      children = 0;
      others = true;
      warnings_below = 0;
      fails_below = false;
      silent = 0;
      took = None;
      ended = None;
    }
    ∷ []

outline : outline_of logs (shown_events logs options (codes "all" ∷ [])) ≡ nodes
unfolding show_log_within show_log
outline = refl

-- Eight targets. A text line is between `q` and `r`; `v` and `n` failed; `w` has a silent log in it, and `y` one that failed.
abbrev quiet : List Log
quiet =
    log (codes "p") (made (codes "q") ∷ Text (codes "x") ∷ made (codes "r") ∷ made (codes "v") ∷ made (codes "w") ∷ made (codes "y") ∷ [])
    ∷ log (codes "q") (closed (pos 0) ∷ [])
    ∷ log (codes "r") (closed (pos 0) ∷ [])
    ∷ log (codes "v") (closed (pos 1) ∷ [])
    ∷ log (codes "w") (made (codes "z") ∷ closed (pos 0) ∷ [])
    ∷ log (codes "z") (closed (pos 0) ∷ [])
    ∷ log (codes "y") (made (codes "n") ∷ [])
    ∷ log (codes "n") (closed (pos 1) ∷ [])
    ∷ []

-- The number, the parent, the number of logs below and directly in it, whether anything else is in it, whether one below failed, and
-- the number of silent logs in a row.
abbrev Part : Type 0
Part = ℕ × Option ℕ × ℕ × ℕ × Bool × Bool × ℕ

abbrev part_of : Node → Part
part_of node = (node.number, node.parent, node.below, node.children, node.others, node.fails_below, node.silent)

quiet_outline :
    map part_of (outline_of quiet (shown_events quiet options (codes "p" ∷ [])))
    ≡ (0, None, 7, 5, true, true, 0) ∷ (1, Some 0, 0, 0, false, false, 1) ∷ (2, Some 0, 0, 0, false, false, 1)
    ∷ (3, Some 0, 0, 0, false, false, 0)
    ∷ (4, Some 0, 1, 1, false, false, 1) ∷ (5, Some 4, 0, 0, false, false, 1) ∷ (6, Some 0, 1, 1, false, true, 0)
    ∷ (7, Some 6, 0, 0, false, false, 0) ∷ []
unfolding show_log_within show_log
quiet_outline = refl

-- The outline of two requested targets: the second one has no parent.
two_outlines : map part_of (outline_of quiet (shown_events quiet options (codes "w" ∷ codes "y" ∷ [])))
    ≡ (4, None, 1, 1, false, false, 1) ∷ (5, Some 0, 0, 0, false, false, 1) ∷ (6, None, 1, 1, false, true, 0)
    ∷ (7, Some 2, 0, 0, false, false, 0) ∷ []
unfolding show_log_within show_log
two_outlines = refl

-- The logs in a nested log are not directly in the log around it, but they count as below.
abbrev nested : List Log
nested = log (codes "p") (made (codes "q") ∷ []) ∷ log (codes "q") (made (codes "r") ∷ [])
    ∷ log (codes "r") (Text (codes "x") ∷ closed (pos 1) ∷ []) ∷ []

nested_others : map part_of (outline_of nested (shown_events nested options (codes "p" ∷ [])))
    ≡ (0, None, 2, 1, false, true, 0) ∷ (1, Some 0, 1, 1, false, true, 0) ∷ (2, Some 1, 0, 0, true, false, 0) ∷ []
unfolding show_log_within show_log
nested_others = refl

-- A target that is done with status 0 is invisible between silent logs. `t` printed something.
abbrev between : List Log
between =
    log (codes "p") (made (codes "q") ∷ Done 9 (pos 0) (codes "q") ∷ made (codes "r") ∷ made (codes "t") ∷ []) ∷ log (codes "q") []
    ∷ log (codes "r") [] ∷ log (codes "t") (Text (codes "x") ∷ []) ∷ []

done_between :
    map part_of (outline_of between (shown_events between options (codes "p" ∷ [])))
    ≡ (0, None, 3, 3, false, false, 0) ∷ (1, Some 0, 0, 0, false, false, 2) ∷ (2, Some 0, 0, 0, false, false, 1)
    ∷ (3, Some 0, 0, 0, true, false, 0) ∷ []
unfolding show_log_within show_log
done_between = refl

-- ---- outlines without recursion

-- The node of a requested target, with its number, its status, and its lines, bytes and warnings. It has no logs in it.
abbrev lone : ℕ → Option ℤ → ℕ → ℕ → ℕ → Node
lone number status lines bytes warnings = record {
  number = number;
  parent = None;
  status = status;
  lines = lines;
  bytes = bytes;
  warnings = warnings;
  below = 0;
  children = 0;
  others = true;
  warnings_below = 0;
  fails_below = false;
  silent = 0;
  took = None;
  ended = None;
}

-- `a` is also done in another log, with another status.
abbrev two_requested : List Log
two_requested =
    log (codes "a")
    (made (codes "b") ∷ made (codes "c") ∷ Text (codes "x.c:1: warning: unused") ∷ Done 9 (negsuc 1) (codes "x") ∷ made (codes "x")
    ∷ closed (pos 3) ∷ [])
    ∷ log (codes "b") (Done 9 (pos 1) (codes "a") ∷ Note 9 (codes "check") (codes "a note") ∷ [])
    ∷ log (codes "c") []
    ∷ []

shallow_outline :
    outline_of two_requested (shown_events two_requested (record options { recursive = false; details = false }) (codes "a" ∷ codes "b" ∷ []))
    ≡ lone 0 (Some (pos 3)) 1 23 1 ∷ lone 1 None 0 0 0 ∷ []
unfolding show_log_within show_log
shallow_outline = refl

-- All mentions are shown. `a` is requested twice, and no log around it says how `h` was done.
abbrev with_locks : List Log
with_locks =
    log (codes "a")
    (made (codes "b") ∷ made (codes "c") ∷ made (codes "d") ∷ made (codes "e") ∷ made (codes "f") ∷ made (codes "g") ∷ made (codes "h")
    ∷ closed (pos 0) ∷ [])
    ∷ log (codes "b") []
    ∷ log (codes "c")
    (Text (codes "arning:") ∷ Note 9 (codes "check") (codes "a note") ∷ Text (codes "wwarning: warning:") ∷ Done 9 (pos 1) (codes "x")
    ∷ made (codes "a") ∷ closed (pos 0) ∷ [])
    ∷ log (codes "d") (Done 9 (pos 0) (codes "g") ∷ made (codes "x") ∷ closed (pos 0) ∷ [])
    ∷ log (codes "e") (Mention 9 Unchanged (codes "c") ∷ closed (pos 0) ∷ [])
    ∷ log (codes "f") (Done 9 (pos 1) (codes "g") ∷ Text (codes "note: " ++ 195 ∷ 188 ∷ []) ∷ closed (pos 3) ∷ [])
    ∷ log (codes "g")
    (Done 9 (pos 0) (codes "h") ∷ Text (codes "note: " ++ 195 ∷ 188 ∷ []) ∷ Done 9 (pos 1) (codes "x") ∷ Done 9 (pos 1) (codes "h")
    ∷ Done 9 (negsuc 1) (codes "x") ∷ [])
    ∷ log (codes "h")
    (Note 9 (codes "note") (codes "a note") ∷ Text (codes "warning:warning:") ∷ Done 9 (negsuc 1) (codes "x")
    ∷ Mention 9 Waiting (codes "e")
    ∷ Text (codes "x.c:1: warning: unused") ∷ [])
    ∷ []

shallow_locks :
    outline_of with_locks
    (shown_events with_locks (record { recursive = false; unchanged = true; details = false; debug_locks = true; debug_pids = false })
    (codes "a" ∷ codes "h" ∷ codes "a" ∷ []))
    ≡ lone 0 (Some (pos 0)) 0 0 0 ∷ lone 7 None 2 40 2 ∷ []
unfolding show_log_within show_log
shallow_locks = refl

-- `a` mentions itself, `e` has an empty line, and another target is done in `c`.
abbrev three_requested : List Log
three_requested =
    log (codes "a") (Done 9 (pos 1) (codes "b") ∷ made (codes "a") ∷ Text (codes "wwarning: warning:") ∷ [])
    ∷ log (codes "b") []
    ∷ log (codes "c") (Done 9 (pos 0) (codes "x") ∷ Note 9 (codes "note") (codes "a note") ∷ [])
    ∷ log (codes "d") []
    ∷ log (codes "e") (Text [] ∷ [])
    ∷ log (codes "f") []
    ∷ log (codes "g")
    (made (codes "e") ∷ Text (codes "note: " ++ 195 ∷ 188 ∷ []) ∷ Done 9 (pos 0) (codes "d") ∷ Mention 9 Unchanged (codes "f")
    ∷ Text (codes "wwarning: warning:")
    ∷ closed (pos 0) ∷ [])
    ∷ log (codes "h") (made (codes "x") ∷ Text (codes "arning:") ∷ Done 9 (pos 0) (codes "g") ∷ closed (pos 0) ∷ [])
    ∷ []

shallow_unchanged :
    outline_of three_requested
    (shown_events three_requested (record options { recursive = false; unchanged = true }) (codes "a" ∷ codes "e" ∷ codes "c" ∷ []))
    ≡ lone 0 None 1 19 1 ∷ lone 4 None 1 1 0 ∷ lone 2 None 0 0 0 ∷ []
unfolding show_log_within show_log
shallow_unchanged = refl

-- One target is requested twice.
abbrev only_mentions : List Log
only_mentions =
    log (codes "a") (made (codes "b") ∷ made (codes "c") ∷ made (codes "x") ∷ [])
    ∷ log (codes "b") []
    ∷ log (codes "c") (Text (codes "cc -c x.c") ∷ Done 9 (negsuc 1) (codes "x") ∷ Done 9 (pos 0) (codes "x") ∷ [])
    ∷ []

shallow_mentions :
    outline_of only_mentions (shown_events only_mentions (record options { recursive = false }) (codes "a" ∷ codes "a" ∷ codes "c" ∷ []))
    ≡ lone 0 None 0 0 0 ∷ lone 2 None 1 10 0 ∷ []
unfolding show_log_within show_log
shallow_mentions = refl

-- The positions of the logs with numbers 0 to 3 in outlines of logs with some of these numbers.
abbrev positions_of : List ℕ → List (Option ℕ)
positions_of opened =
    map (λ (number : ℕ). position (λ (node : Node). node.number == number) (map (λ (own : ℕ). lone own None 0 0 0) opened))
    (0 ∷ 1 ∷ 2 ∷ 3 ∷ [])

positions :
    (positions_of (0 ∷ 1 ∷ []) ≡ Some 0 ∷ Some 1 ∷ None ∷ None ∷ []) × (positions_of (0 ∷ 2 ∷ []) ≡ Some 0 ∷ None ∷ Some 1 ∷ None ∷ [])
    × (positions_of (0 ∷ 4 ∷ 2 ∷ []) ≡ Some 0 ∷ None ∷ Some 2 ∷ None ∷ [])
    × (positions_of (0 ∷ 7 ∷ []) ≡ Some 0 ∷ None ∷ None ∷ None ∷ [])
positions = (refl, refl, refl, refl)

-- ---- the tree

abbrev a : List ℕ
a = codes "a"

abbrev text : ℕ → Event
text depth = EntryShown depth (Text a)

abbrev line : Opening → Event
line opening = Mentioned 1 9 Made a opening

trees :
    (contents_of (Requested a (OpensHere 0) ∷ line (OpensHere 5) ∷ text 2 ∷ LogEnds 2 ∷ text 1 ∷ LogEnds 1 ∷ Requested a (OpensHere 3)
    ∷ LogEnds 1 ∷ [])
    ≡ Opened (Requested a (OpensHere 0)) 0 (Opened (line (OpensHere 5)) 5 (Shown (text 2) Nothing) (Shown (text 1) Nothing))
    (Opened (Requested a (OpensHere 3)) 3 Nothing Nothing))
    × (contents_of (line NotOpened ∷ line (OpenedBefore 2) ∷ []) ≡ Shown (line NotOpened) (Shown (line (OpenedBefore 2)) Nothing))
    × (contents_from (text 1 ∷ LogEnds 1 ∷ text 0 ∷ []) ≡ Shown (text 1) Nothing ∷ Shown (text 0) Nothing ∷ [])
    × (contents_of [] ≡ Nothing)
trees = (refl, refl, refl, refl)

events : events_of 2 (Opened (line (OpensHere 5)) 5 (Shown (text 3) Nothing) (Shown (text 2) Nothing))
    ≡ line (OpensHere 5) ∷ text 3 ∷ LogEnds 3 ∷ text 2 ∷ []
events = refl

-- ---- facts

targets :
    (target_at (log a [] ∷ log (codes "b") [] ∷ []) 0 ≡ a) × (target_at (log a [] ∷ log (codes "b") [] ∷ []) 1 ≡ codes "b")
    × (target_at (log a [] ∷ log (codes "b") [] ∷ []) 2 ≡ [])
    × (name_or_empty None ≡ []) × (name_or_empty (Some (codes "c")) ≡ codes "c")
targets = (refl, refl, refl, refl, refl)

counts : (saturated 5 ≡ 5) × (saturated 0xFFFFFFFFFFFFFFFF ≡ 0xFFFFFFFFFFFFFFFF) × (saturated 0x10000000000000000 ≡ 0xFFFFFFFFFFFFFFFF)
counts = (refl, refl, refl)

warnings :
    (is_warning (codes "warning:") ≡ true) × (is_warning (codes "x.c: warning: y") ≡ true) × (is_warning (codes "wwarning:") ≡ true)
    × (is_warning (codes "warning :") ≡ false)
    × (is_warning (codes "Warning:") ≡ false) × (is_warning [] ≡ false)
warnings = (refl, refl, refl, refl, refl, refl)

printed_texts :
    (texts_of (Text a ∷ made a ∷ Text [] ∷ Note 9 a a ∷ closed (pos 0) ∷ []) ≡ a ∷ [] ∷ []) × (text_size (a ∷ [] ∷ codes "abc" ∷ []) ≡ 7)
    × (entries_at 1 (log a [] ∷ log a (Text a ∷ []) ∷ []) ≡ Text a ∷ []) × (entries_at 2 (log a [] ∷ log a (Text a ∷ []) ∷ []) ≡ [])
printed_texts = (refl, refl, refl, refl)

-- Targets `a` and `b`. Other logs say that `b` is done, with 3 and then with 4, and that `a` is done with 5, though its log says 1.
abbrev both : List Log
both = log a (closed (pos 1) ∷ []) ∷ log (codes "b") [] ∷ []

abbrev done : ℤ → List ℕ → Event
done status name = EntryShown 1 (Done 9 status name)

statuses :
    (target_status both (done (pos 5) a ∷ done (pos 3) (codes "b") ∷ done (pos 4) (codes "b") ∷ []) 0 ≡ Some (pos 1))
    × (target_status both (done (pos 5) a ∷ done (pos 3) (codes "b") ∷ done (pos 4) (codes "b") ∷ []) 1 ≡ Some (pos 3))
    × (target_status both (done (pos 3) (codes "x") ∷ text 1 ∷ []) 1 ≡ None)
    × (is_failure (Some (pos 0)) ≡ false) × (is_failure (Some (pos 1)) ≡ true) × (is_failure (Some (negsuc 0)) ≡ true)
    × (is_failure None ≡ false)
statuses = (refl, refl, refl, refl, refl, refl, refl)

visible :
    (is_visible (done (pos 0) a) ≡ false) × (is_visible (done (pos 1) a) ≡ true) × (is_visible (EntryShown 1 (closed (pos 1))) ≡ false)
    × (is_visible (text 1) ≡ true)
    × (is_visible (EntryShown 1 (Note 9 a a)) ≡ true) × (is_visible (line (OpenedBefore 0)) ≡ true)
    × (is_visible (Requested a NotOpened) ≡ true)
visible = (refl, refl, refl, refl, refl, refl, refl)

-- ---- times

-- The number of a log says how long its target took, and when it ended. Nothing is known of a target past the end.
abbrev numbered : ℕ → Option ℕ → Option ℕ → Node
numbered number took ended = record {
  number = number;
  parent = Some 9;
  status = Some (pos 3);
  lines = 1;
  bytes = 2;
  warnings = 3;
  below = 4;
  children = 5;
  others = true;
  warnings_below = 6;
  fails_below = true;
  silent = 7;
  took = took;
  ended = ended;
}

abbrev run : Option ℕ → Option ℕ → RunTimes
run took ended = record { took = took; ended = ended }

times :
    map (with_times (run (Some 70) (Some 170) ∷ run None (Some 180) ∷ run (Some 90) None ∷ run None None ∷ []))
    (numbered 2 None None ∷ numbered 0 None None ∷ numbered 1 (Some 5) (Some 6) ∷ numbered 3 (Some 5) (Some 6)
    ∷ numbered 4 (Some 5) (Some 6) ∷ [])
    ≡ numbered 2 (Some 90) None ∷ numbered 0 (Some 70) (Some 170) ∷ numbered 1 None (Some 180) ∷ numbered 3 None None
    ∷ numbered 4 None None ∷ []
times = refl

-- ---- without warnings

no_warnings : without_warnings (numbered 2 (Some 5) (Some 6)) ≡ record {
  number = 2;
  parent = Some 9;
  status = Some (pos 3);
  lines = 1;
  bytes = 2;
  warnings = 0;
  below = 4;
  children = 5;
  others = true;
  warnings_below = 0;
  fails_below = true;
  silent = 7;
  took = Some 5;
  ended = Some 6;
}
no_warnings = refl
