-- The values of a `LogObject` and of a node of the outline, and what is known of a recipe.
use Rattle.std.specs.Prelude.{◌≡◌, ℕ, List, Option, None, Some, map, option_copied, option_map, slice_get}
use Rattle.redo_facts.specs.Facts.{RecipeFacts}
use Rattle.redo_facts.specs.declared.statement.Usage.{Usage}
use Rattle.redo_logs.specs.Logs.{Log}
use Rattle.redo_outline.specs.Facts.{entries_at, target_at, texts_of}
use Rattle.redo_outline.specs.declared.node.Node.{Node}
use Rattle.redo_json.specs.Build.{Request, cpu_time, log_values}
use Rattle.redo_json.specs.Object.{LogValues}
use Rattle.redo_json.specs.declared.build.Recipe.{Recipe}
use Rattle.redo_json.specs.declared.object.LogObject.{LogObject}

abbrev pub values_of : LogObject → LogValues
values_of log = record {
  target = log.target.now;
  parent = option_copied log.parent;
  status = log.status;
  start_ms = log.start_ms;
  end_ms = log.end_ms;
  cpu_ms = log.cpu_ms;
  peak_kb = log.peak_kb;
  directory = option_copied log.directory;
  commands = map (λ bytes. bytes.now) log.commands.now;
  needs = map (λ bytes. bytes.now) log.needs.now;
  lines = texts_of (entries_at log.number log.table.now);
  changes = option_copied log.changes;
}

-- The target of the node at this position.
abbrev pub parent_name : List Log → List Node → Option ℕ → Option (List ℕ)
parent_name logs nodes None = None
parent_name logs nodes (Some position) = option_map (λ (node : Node). target_at logs node.number) (slice_get nodes position)

-- The values of the log of one of these nodes.
abbrev pub node_values : Request → List Log → List Node → Node → LogValues
node_values request logs nodes node = log_values request logs (parent_name logs nodes node.parent) node

-- What is known of a recipe is what these facts say.
pub record IsRecipeOf (facts : RecipeFacts) (recipe : Recipe) : Type 0 where
  pub cpu_ms : recipe.cpu_ms ≡ option_map cpu_time facts.usage
  pub peak_kb : recipe.peak_kb ≡ option_map (λ (usage : Usage). usage.peak_kb) facts.usage
  pub directory : option_copied recipe.directory ≡ facts.directory
  pub commands : recipe.commands.now ≡ facts.commands
