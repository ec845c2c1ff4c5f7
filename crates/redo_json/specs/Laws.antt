-- Definitions that state the laws about objects and builds.
use Rattle.std.specs.Prelude.{◌≡◌, ⊤, ℕ, ℤ, ◌<◌, ◌≤◌, ◌^◌, ◌==◌, Bool, true, ◌&&◌, List, [], ◌∷◌, ◌++◌, Option, None, Some, IfNone, IfSome, length, map, nat_eq, option_and_then, option_map, slice_get, slice_index_or, if◌then◌else◌}
use Rattle.std.specs.Cmp.Lexicographic.{pointwise}
use Rattle.std.specs.List.{AllByRecursion, list_any}
use Rattle.std.specs.Option.{option_or}
use lib.Signed.{mag}
use Rattle.json.specs.Json.{Json, document}
use Rattle.json.specs.Print.{print}
use Rattle.json.specs.Tree.{json_tokens}
use Rattle.redo_line.specs.Lines.{ended, rest}
use Rattle.redo_diagnostics.specs.Diagnostic.{DiagnosticValue, diagnostic_of}
use Rattle.redo_facts.specs.Facts.{RecipeFacts, nothing}
use Rattle.redo_facts.specs.declared.statement.Usage.{Usage}
use Rattle.redo_line.specs.declared.entry.Entry.{Entry}
use Rattle.redo_line.specs.declared.entry.Entry.TheVariants.{Closing, Done}
use Rattle.redo_times.specs.Times.{AreInRange}
use Rattle.redo_logs.specs.Logs.{Log}
use Rattle.redo_view.specs.Event.{Event}
use Rattle.redo_view.specs.Expansion.{entries_of_target, is_among}
use Rattle.redo_view.specs.Reachable.{mentioned_in}
use Rattle.redo_outline.specs.Facts.{target_status, texts_of}
use Rattle.redo_outline.specs.Outline.{outline_of}
use Rattle.redo_outline.specs.declared.node.Node.{Node}
use Rattle.redo_compare.specs.Baseline.{BaselineValue, ChangesValue}
use Rattle.redo_compare.specs.Occurrences.{OccurrenceValue}
use Rattle.redo_json.specs.Build.{Request, changes_in, cpu_time, needs_of, options_of, unknown_times, whole_commands}
use Rattle.redo_json.specs.Diagnostics.{FlaggedDiagnostic, LogDiagnostic}
use Rattle.redo_json.specs.Object.{LogValues, object_of}

-- Whether programs that read numbers as doubles read this one exactly.
abbrev pub IsExact : Option ℕ → Type 0
IsExact None = ⊤
IsExact (Some number) = number < 2 ^ 53

abbrev pub IsExactSigned : Option ℤ → Type 0
IsExactSigned None = ⊤
IsExactSigned (Some number) = mag number < 2 ^ 53

abbrev pub gone_count : Option ChangesValue → Option ℕ
gone_count changes = option_map (λ (some : ChangesValue). some.gone) changes

-- The same of all numbers of a log. The numbers of its diagnostics are exact if it has no more lines than this.
abbrev pub HasExactNumbers : LogValues → Type 0
HasExactNumbers values =
    IsExactSigned values.status × IsExact values.start_ms × IsExact values.end_ms × IsExact values.cpu_ms × IsExact values.peak_kb
    × (length values.lines ≤ 2 ^ 53) × IsExact (gone_count values.changes)

-- Whether an entry has a status that is exact, or none. The statuses of records have at most nine digits.
abbrev pub IsExactEntry : Entry → Type 0
IsExactEntry (Done pid status name) = mag status < 2 ^ 53
IsExactEntry (Closing pid status) = mag status < 2 ^ 53
IsExactEntry entry = ⊤

pub record HasExactEntries (log : Log) : Type 0 where
  pub statuses : AllByRecursion IsExactEntry log.entries
  pub few : length log.entries ≤ 2 ^ 53

-- Whether the numbers have at most 15 digits, as in a file of facts.
pub record HasExactUsage (usage : Usage) : Type 0 where
  pub user : usage.user_ms < 10 ^ 15
  pub system : usage.system_ms < 10 ^ 15
  pub peak : usage.peak_kb < 10 ^ 15

-- Whether a log of the baseline has few enough entries.
abbrev pub HasFewEntries : Log → Type 0
HasFewEntries log = length log.entries < 2 ^ 53

-- The numbers from which a build is written are as logs and files of facts have them.
pub record HasExactInputs (request : Request) (logs : List Log) : Type 0 where
  pub times : AllByRecursion AreInRange request.times
  pub usage : AllByRecursion (λ (facts : RecipeFacts). IfSome facts.usage HasExactUsage) request.facts
  pub entries : AllByRecursion HasExactEntries logs
  pub baseline : IfSome request.baseline (λ (baseline : BaselineValue). AllByRecursion HasFewEntries baseline.logs)

-- Whether a reader of JSON reads the printed value as this value.
abbrev pub IsReadBack : Json → Type 0
IsReadBack json = document (print (json_tokens json)) ≡ Some json

-- Some JSON, split at line feeds, is the objects of these values, one in each line. A reader of JSON reads each line as its object.
pub record AreReadBack (json : List ℕ) (all : List LogValues) : Type 0 where
  pub lines : ended json ≡ map (λ (values : LogValues). print (json_tokens (object_of values))) all
  pub whole : rest json ≡ []
  pub each : AllByRecursion (λ values. IsReadBack (object_of values)) all

-- The targets of some objects, in order.
abbrev pub targets_in : List LogValues → List (List ℕ)
targets_in all = map (λ (values : LogValues). values.target) all

-- These are the values of one of the logs: what this log itself says of its target, and what is known of this target. `events` are what
-- is shown. `node` has what the outline says of this log, and the changes are what changed in this node's target.
pub record IsOfLog (request : Request) (logs : List Log) (events : List Event) (values : LogValues) : Type 0 where
  pub number : ℕ
  pub log : Log
  pub is_log : slice_get logs number ≡ Some log
  pub target : values.target ≡ log.target
  pub status : values.status ≡ target_status logs events number
  pub start_ms : values.start_ms ≡ (slice_index_or request.times number unknown_times).began
  pub end_ms : values.end_ms ≡ (slice_index_or request.times number unknown_times).ended
  pub cpu_ms : values.cpu_ms ≡ option_map cpu_time (slice_index_or request.facts number nothing).usage
  pub peak_kb : values.peak_kb ≡ option_map (λ (usage : Usage). usage.peak_kb) (slice_index_or request.facts number nothing).usage
  pub directory : values.directory ≡ (slice_index_or request.facts number nothing).directory
  pub commands : values.commands ≡ whole_commands (slice_index_or request.facts number nothing).commands
  pub needs : values.needs ≡ needs_of log.target log.entries
  pub lines : values.lines ≡ texts_of log.entries
  pub position : ℕ
  pub node : Node
  pub is_node : slice_get (outline_of logs events) position ≡ Some node
  pub of_log : node.number ≡ number
  pub changes : values.changes ≡ changes_in request.baseline logs node

-- ---- parents

-- Whether a record in the log of `target` mentions `name`. Records of targets that needed no rebuild count if these have objects too.
abbrev pub log_mentions : Request → List Log → List ℕ → List ℕ → Bool
log_mentions request logs target name = mentioned_in (options_of request) name (entries_of_target target logs)

abbrev pub target_if_mentions : Request → List Log → List ℕ → LogValues → Option (List ℕ)
target_if_mentions request logs name values = if log_mentions request logs values.target name then Some values.target else None

-- The target of the last one of some objects whose log mentions `name`, if there is one.
abbrev pub last_mentioning : Request → List Log → List ℕ → List LogValues → Option (List ℕ)
last_mentioning request logs name [] = None
last_mentioning request logs name (values ∷ others) =
    option_or (last_mentioning request logs name others) (target_if_mentions request logs name values)

-- Whether each of these objects has a property that depends on the objects before it. `before` are the objects before these.
abbrev pub AllFollowing : (List LogValues → LogValues → Type 0) → List LogValues → List LogValues → Type 0
AllFollowing property before [] = Unit {0}
AllFollowing property before (values ∷ others) = property before values × AllFollowing property (before ++ values ∷ []) others

-- The parent of an object is the last one of the objects before it whose log mentions its target.
abbrev pub HasLastParent : Request → List Log → List LogValues → LogValues → Type 0
HasLastParent request logs before values = values.parent ≡ last_mentioning request logs values.target before

-- Whether this is the object of `parent`, and needs `name`.
abbrev pub is_needing : List ℕ → List ℕ → LogValues → Bool
is_needing parent name values = pointwise nat_eq parent values.target && is_among name values.needs

-- If an object has a parent, the object of its parent is one of those before it, and needs its target.
abbrev pub IsNeededByParent : List LogValues → LogValues → Type 0
IsNeededByParent before values = IfSome values.parent (λ (parent : List ℕ). list_any (is_needing parent values.target) before ≡ true)

-- If an object has no parent, its target is requested.
abbrev pub IsRequestedIfAlone : List (List ℕ) → LogValues → Type 0
IsRequestedIfAlone requested values = IfNone values.parent (is_among values.target requested ≡ true)

-- ---- what is new

-- Whether one of these new diagnostics is in this line.
abbrev pub is_new_line : List OccurrenceValue → ℕ → Bool
is_new_line new line = list_any (λ (one : OccurrenceValue). one.line == line) new

-- A diagnostic, and whether it is new: whether one of these new diagnostics is in its line.
abbrev pub flagged_by_line : List OccurrenceValue → LogDiagnostic → FlaggedDiagnostic
flagged_by_line new one = (one, Some (is_new_line new one.line))

-- A diagnostic of which isn't known whether it is new.
abbrev pub unflagged : LogDiagnostic → FlaggedDiagnostic
unflagged one = (one, None)

-- ---- diagnostics

-- The line at the position of a diagnostic says what the diagnostic says.
abbrev pub IsOfLine : List (List ℕ) → LogDiagnostic → Type 0
IsOfLine lines one = option_and_then (λ (line : List ℕ). diagnostic_of line) (slice_get lines one.line) ≡ Some one.value

abbrev pub found_values : List LogDiagnostic → List DiagnosticValue
found_values all = map (λ (one : LogDiagnostic). one.value) all

abbrev pub keys_in : List LogDiagnostic → List (List ℕ)
keys_in all = map (λ (one : LogDiagnostic). one.value.key) all

-- The key and the number of each diagnostic.
abbrev pub ids_in : List LogDiagnostic → List (List ℕ × ℕ)
ids_in all = map (λ (one : LogDiagnostic). (one.value.key, one.nth)) all
