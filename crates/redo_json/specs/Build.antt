-- The JSON of a build: an object for each log that is opened.
use Rattle.std.specs.Prelude.{ℕ, ◌+◌, ◌==◌, Bool, true, false, ℤ, List, [], ◌∷◌, ◌++◌, Option, None, Some, filter, filter_map, map, option_copied, option_map, slice_index_or, if◌then◌else◌}
use Rattle.std.specs.List.{flat_map}
use Rattle.json.specs.Print.{print}
use Rattle.json.specs.Tree.{json_tokens}
use Rattle.redo_diagnostics.specs.Counts.{times_of}
use Rattle.redo_facts.specs.Facts.{RecipeCommand, RecipeFacts, nothing}
use Rattle.redo_facts.specs.declared.statement.Usage.{Usage}
use Rattle.redo_line.specs.Lines.{with_line_feed}
use Rattle.redo_line.specs.declared.entry.Entry.{Entry}
use Rattle.redo_line.specs.declared.entry.Entry.TheVariants.{Mention}
use Rattle.redo_logs.specs.Logs.{Log}
use Rattle.redo_options.specs.declared.options.Options.{Options}
use Rattle.redo_times.specs.declared.times.Times.{Times}
use Rattle.redo_view.specs.Event.{Event}
use Rattle.redo_view.specs.Expansion.{shown_events}
use Rattle.redo_outline.specs.Contents.{Contents, contents_of}
use Rattle.redo_outline.specs.Contents.Contents.{Nothing, Shown, Opened}
use Rattle.redo_outline.specs.Facts.{entries_at, saturated, target_at, target_status, texts_of}
use Rattle.redo_outline.specs.Outline.{node_of}
use Rattle.redo_outline.specs.declared.node.Node.{Node}
use Rattle.redo_compare.specs.Baseline.{BaselineValue, ChangesValue, target_changes}
use Rattle.redo_json.specs.Object.{LogValues, object_of}
use Rattle.redo_json.specs.declared.build.BuildRequest.{BuildRequest}

-- What the JSON of a build is asked: whether targets that needed no rebuild have objects too, the times and the facts of targets, by the
-- numbers of their logs, and the baseline, if there is one. Nothing is known of a target past the end.
pub record Request : Type 0 where
  pub unchanged : Bool
  pub times : List Times
  pub facts : List RecipeFacts
  pub baseline : Option BaselineValue

abbrev pub request_of : BuildRequest → Request
request_of request = record {
  unchanged = request.unchanged;
  times = request.times.now;
  facts = request.facts.now;
  baseline = option_copied request.baseline;
}

-- The options with which the logs are shown. The logs of mentioned targets are opened too. `unchanged` says whether they are if a target
-- needed no rebuild.
abbrev pub json_options : Bool → Options
json_options unchanged = record { recursive = true; unchanged = unchanged; details = true; debug_locks = false; debug_pids = false }

abbrev pub options_of : Request → Options
options_of request = json_options request.unchanged

-- ---- what a log needs

abbrev pub mentioned_name : Entry → Option (List ℕ)
mentioned_name (Mention pid how name) = Some name
mentioned_name entry = None

-- The names that some entries mention, in order.
abbrev pub mentions_in : List Entry → List (List ℕ)
mentions_in entries = filter_map mentioned_name entries

abbrev pub name_if_new : List ℕ → List (List ℕ) → List (List ℕ)
name_if_new name before = if times_of name before == 0 then name ∷ [] else []

-- These names, each only where it occurs first. `before` are the names before these.
abbrev pub new_names : List (List ℕ) → List (List ℕ) → List (List ℕ)
new_names before [] = []
new_names before (name ∷ names) = name_if_new name before ++ new_names (before ++ name ∷ []) names

-- The other targets that the entries of a target's log mention, each once, in the order in which they are mentioned first.
abbrev pub needs_of : List ℕ → List Entry → List (List ℕ)
needs_of target entries = new_names (target ∷ []) (mentions_in entries)

-- ---- the values of a log

abbrev pub unknown_times : Times
unknown_times = record { began = None; ended = None; ran_others = false }

-- The processor time of a recipe, in milliseconds.
abbrev pub cpu_time : Usage → ℕ
cpu_time usage = saturated (usage.user_ms + usage.system_ms)

-- The commands that are known whole.
abbrev pub whole_commands : List RecipeCommand → List (List ℕ)
whole_commands commands =
    map (λ (command : RecipeCommand). command.text) (filter (λ (command : RecipeCommand). command.is_whole) commands)

-- What changed in the target of a log since the baseline, if there is one.
abbrev pub changes_in : Option BaselineValue → List Log → Node → Option ChangesValue
changes_in baseline logs node = option_map (λ (some : BaselineValue). target_changes some logs node) baseline

-- The values of a log, of which the outline has these facts. `parent` is the target in whose log it is opened.
abbrev pub log_values : Request → List Log → Option (List ℕ) → Node → LogValues
log_values request logs parent node =
    let number = node.number in
    let times = slice_index_or request.times number unknown_times in
    let facts = slice_index_or request.facts number nothing in
    record {
      target = target_at logs number;
      parent = parent;
      status = node.status;
      start_ms = times.began;
      end_ms = times.ended;
      cpu_ms = option_map cpu_time facts.usage;
      peak_kb = option_map (λ (usage : Usage). usage.peak_kb) facts.usage;
      directory = facts.directory;
      commands = whole_commands facts.commands;
      needs = needs_of (target_at logs number) (entries_at number logs);
      lines = texts_of (entries_at number logs);
      changes = changes_in request.baseline logs node;
    }

-- ---- the build

module _ (request : Request) (logs : List Log) where
  -- The values of the logs that are opened in some contents, in the order in which they are opened. `parent` is the target of the log
  -- that has these contents. The position of its facts in the outline doesn't matter.
  abbrev pub values_in : (ℕ → Option ℤ) → Option (List ℕ) → Contents → List LogValues
  values_in status parent Nothing = []
  values_in status parent (Shown event rest) = values_in status parent rest
  values_in status parent (Opened event number inside rest) =
      log_values request logs parent (node_of logs status None number inside rest)
      ∷ (values_in status (Some (target_at logs number)) inside ++ values_in status parent rest)

  module _ (requested : List (List ℕ)) where
    -- What is shown of the requested targets.
    abbrev pub build_events : List Event
    build_events = shown_events logs (options_of request) requested

    -- The values of all logs that are opened.
    abbrev pub build_values : List LogValues
    build_values = values_in (target_status logs build_events) None (contents_of build_events)

-- The object of a log, as it is written.
abbrev pub object_text : LogValues → List ℕ
object_text values = print (json_tokens (object_of values))

-- The JSON of a build: each object is a line.
abbrev pub build_json : Request → List Log → List (List ℕ) → List ℕ
build_json request logs requested = flat_map (λ values. with_line_feed (object_text values)) (build_values request logs requested)
