-- The statements of the laws.
use Rattle.std.specs.Prelude.{◌≡◌, ℕ, suc, ◌+◌, ◌≤◌, ◌&&◌, not, Bool, List, [], ◌∷◌, ◌++◌, None, Some, length, slice_get, take, if◌then◌else◌}
use Rattle.std.specs.List.{count_by, list_any, sum_by}
use Rattle.redo_line.specs.declared.entry.Entry.{Entry}
use Rattle.redo_line.specs.declared.entry.Entry.TheVariants.{Text}
use Rattle.redo_logs.specs.Logs.{Log}
use Rattle.redo_options.specs.declared.options.Options.{Options}
use Rattle.redo_view.specs.Event.{Event}
use Rattle.redo_view.specs.Event.Event.{LogEnds}
use Rattle.redo_view.specs.Expansion.{shown_events}
use Rattle.redo_view.specs.View.{find_unknown}
use Rattle.redo_outline.specs.declared.node.Node.{Node}
use Rattle.redo_outline.specs.Contents.{Contents, contents_of, opened_number}
use Rattle.redo_outline.specs.Contents.Contents.{Nothing, Shown, Opened}
use Rattle.redo_outline.specs.Facts.{is_failure, is_number, is_warning, saturated}

-- The events of some contents, in order. `depth` logs are open around them.
abbrev pub events_of : ℕ → Contents → List Event
events_of depth Nothing = []
events_of depth (Shown event rest) = event ∷ events_of depth rest
events_of depth (Opened event number inside rest) = event ∷ (events_of (depth + 1) inside ++ LogEnds (depth + 1) ∷ events_of depth rest)

-- No event is lost in the tree, and none is added.
abbrev pub AreInContents : List Log → Options → List (List ℕ) → Type 0
AreInContents logs options requested = find_unknown logs requested ≡ None
    → events_of 0 (contents_of (shown_events logs options requested)) ≡ shown_events logs options requested

-- Whether an event neither opens a log nor ends one.
abbrev pub IsPlain : Event → Type 0
IsPlain (LogEnds depth) = ⊥
IsPlain event = opened_number event ≡ None

-- Each event that opens a log has the contents of this log. No other event has contents, and none ends a log.
abbrev pub OpensItsLogs : Contents → Type 0
OpensItsLogs Nothing = Unit {0}
OpensItsLogs (Shown event rest) = IsPlain event × OpensItsLogs rest
OpensItsLogs (Opened event number inside rest) = (opened_number event ≡ Some number) × (OpensItsLogs inside × OpensItsLogs rest)

-- These contents are the tree of these events: they have exactly these, in order. A log contains what is between its opening and its end.
pub record IsTreeOf (events : List Event) (contents : Contents) : Type 0 where
  pub has_events : events_of 0 contents ≡ events
  pub opens_logs : OpensItsLogs contents

-- What `contents_of` makes of the shown events is their tree, if each requested target has a log.
abbrev pub HaveTree : List Log → Options → List (List ℕ) → Type 0
HaveTree logs options requested = find_unknown logs requested ≡ None
    → IsTreeOf (shown_events logs options requested) (contents_of (shown_events logs options requested))

-- Whether the target of a node failed.
abbrev pub is_failed : Node → Bool
is_failed node = is_failure node.status

-- Whether a target failed, and none below it.
abbrev pub fails_first : Node → Bool
fails_first node = is_failed node && not node.fails_below

-- The count for a text line. Other entries count nothing.
abbrev pub counted : (List ℕ → ℕ) → Entry → ℕ
counted count (Text line) = count line
counted count entry = 0

-- The numbers of a node are sums over all entries of a log. Each text line has a line feed.
pub record CountsEntries (node : Node) (entries : List Entry) : Type 0 where
  pub lines : node.lines ≡ saturated (sum_by (counted (λ line. 1)) entries)
  pub bytes : node.bytes ≡ saturated (sum_by (counted (λ line. length line + 1)) entries)
  pub warnings : node.warnings ≡ saturated (sum_by (counted (λ line. if is_warning line then 1 else 0)) entries)

-- A node has the numbers of lines, bytes and warnings of the log with its number.
abbrev pub CountsLog : List Log → Node → Type 0
CountsLog logs node = (log : Log) → slice_get logs node.number ≡ Some log → CountsEntries node log.entries

-- Whether the log of a node is opened directly in the log of the node at this position.
abbrev pub is_child_of : ℕ → Node → Bool
is_child_of position node = is_number position node.parent

-- The first of these nodes has this position. Each one has as many children as later nodes have it as their parent.
abbrev pub AllCountChildren : ℕ → List Node → Type 0
AllCountChildren position [] = Unit {0}
AllCountChildren position (node ∷ nodes) = (node.children ≡ count_by (is_child_of position) nodes) × AllCountChildren (suc position) nodes

-- The logs below a node have the first of the nodes that follow it, as many as the node says. It says whether one of them failed, and how
-- many warnings all of them have. If one failed, then one failed that has no failure below it.
pub record SumsUp (node : Node) (nodes : List Node) : Type 0 where
  pub within : node.below ≤ length nodes
  pub failures : node.fails_below ≡ list_any is_failed (take node.below nodes)
  pub first_failures : node.fails_below ≡ list_any fails_first (take node.below nodes)
  pub warnings : node.warnings_below ≡ saturated (sum_by (λ (other : Node). other.warnings) (take node.below nodes))

-- Each node sums up the nodes that follow it.
abbrev pub AllSumUp : List Node → Type 0
AllSumUp [] = Unit {0}
AllSumUp (node ∷ nodes) = SumsUp node nodes × AllSumUp nodes
