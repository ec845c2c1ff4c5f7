-- The nodes of an outline have the values of the logs that are opened.
use Rattle.std.proofs.Common.{◌≡◌, ℕ, zero, suc, ◌+◌, Bool, true, false, if◌then◌else◌, take, List, [], ◌∷◌, ◌++◌, Option, None, Some, Result, Ok, Err, ℤ, length, map, option_copied, option_map, slice_get, slice_index_or, refl, sym, ap, ap₂, ◌∙◌, append_assoc}
use Rattle.std.proofs.lemmas.List.{append-nil, map-append}
use Rattle.std.specs.Prelude.{filter}
use Rattle.std.specs.List.{flat_map}
use Rattle.std.specs.Result.{IsErrAnd}
use Rattle.redo_device.specs.Sink.{Output}
use Rattle.redo_device.proofs.WritesLemmas.{append_nothing}
use Rattle.redo_line.specs.Lines.{with_line_feed}
use Rattle.redo_logs.specs.Logs.{Log}
use Rattle.redo_options.specs.declared.options.Options.{Options}
use Rattle.redo_view.specs.Expansion.{shown_events}
use Rattle.redo_view.specs.Form.{FormWrites}
use Rattle.redo_view.specs.declared.form.FormFault.{FormFault}
use Rattle.redo_view.specs.declared.form.FormFault.TheVariants.{Write, OutOfMemory}
use Rattle.redo_view.specs.Event.{Event}
use Rattle.redo_outline.specs.declared.node.Node.{Node}
use Rattle.redo_outline.specs.Contents.{Contents, contents_of}
use Rattle.redo_outline.specs.Contents.Contents.{Nothing, Shown, Opened}
use Rattle.redo_outline.specs.Facts.{entries_at, target_at, target_status, texts_of}
use Rattle.redo_outline.specs.Outline.{log_count, node_of, outline_of, without_warnings}
use Rattle.redo_compare.specs.Baseline.{ChangesValue}
use Rattle.redo_facts.specs.Facts.{RecipeCommand, nothing}
use Rattle.redo_times.specs.declared.times.Times.{Times}
use Rattle.redo_json.specs.declared.build.Recipe.{Recipe}
use Rattle.redo_json.specs.Build.{Request, build_json, changes_in, log_values, needs_of, object_text, options_of, unknown_times, values_in, whole_commands}
use Rattle.redo_json.specs.Object.{LogValues}
use Rattle.redo_json.specs.Private.Values.{IsRecipeOf, node_values, parent_name}
use Rattle.redo_json.proofs.NodeLemmas.{both_count, first_count, node_here, nodes_in, split_both, split_first}

module _ (request : Request) (logs : List Log) (status : ℕ → Option ℤ) where
  abbrev nodes : Option ℕ → ℕ → Contents → List Node
  nodes parent position contents = nodes_in logs status parent position contents

  -- The nodes of some contents are within all nodes: `before` are the nodes before them, and `after` those after them.
  values_are : (all before after : List Node) (parent : Option ℕ) (position : ℕ) (contents : Contents)
      → all ≡ before ++ (nodes parent position contents ++ after) → length before ≡ position
      → map (node_values request logs all) (nodes parent position contents)
      ≡ values_in request logs status (parent_name logs all parent) contents
  values_are all before after parent position Nothing whole counted = refl
  values_are all before after parent position (Shown event rest) whole counted =
      values_are all before after parent position rest whole counted
  values_are all before after parent position (Opened event number inside rest) whole counted =
      let one = node_of logs status parent number inside rest in
      let inner = nodes (Some position) (suc position) inside in
      let outer = nodes parent (suc position + log_count inside) rest in
      let first : List Node = before ++ one ∷ [] in
      let both : List Node = first ++ inner in
      let in_log = split_first logs status all before after parent position number event inside rest whole counted in
      let in_rest = split_both logs status all before after parent position number event inside rest whole counted in
      let first_counted = first_count logs status all before after parent position number event inside rest whole counted in
      let both_counted = both_count logs status all before after parent position number event inside rest whole counted in
      let here = node_here logs status all before after parent position number event inside rest whole counted in
      ap (λ (l : List LogValues). node_values request logs all one ∷ l)
      (map-append (node_values request logs all) inner outer
      ∙ ap₂ (λ (a b : List LogValues). a ++ b)
      (values_are all first (outer ++ after) (Some position) (suc position) inside in_log first_counted
      ∙ ap (λ (p : Option (List ℕ)). values_in request logs status p inside)
      (ap (λ (n : Option Node). option_map (λ (node : Node). target_at logs node.number) n) here))
      (values_are all both after parent (suc position + log_count inside) rest in_rest both_counted))

-- The values of all nodes.
pub outline_values : (request : Request) (logs : List Log) (events : List Event)
    → map (node_values request logs (outline_of logs events)) (outline_of logs events)
    ≡ values_in request logs (target_status logs events) None (contents_of events)
outline_values request logs events =
    let all = outline_of logs events in
    values_are request logs (target_status logs events) all [] [] None 0 (contents_of events) (sym (append-nil all)) refl

-- ---- nodes without numbers of warnings

module _ (request : Request) (logs : List Log) where
  same_name : (nodes : List Node) (position : ℕ)
      → parent_name logs (map without_warnings nodes) (Some position) ≡ parent_name logs nodes (Some position)
  same_name [] position = refl
  same_name (node ∷ nodes) zero = refl
  same_name (node ∷ nodes) (suc position) = same_name nodes position

  same_parent : (nodes : List Node) (parent : Option ℕ)
      → parent_name logs (map without_warnings nodes) parent ≡ parent_name logs nodes parent
  same_parent nodes None = refl
  same_parent nodes (Some position) = same_name nodes position

  -- The values of a log don't depend on them.
  same_values : (nodes : List Node) (node : Node)
      → node_values request logs (map without_warnings nodes) (without_warnings node) ≡ node_values request logs nodes node
  same_values nodes node = ap (λ (parent : Option (List ℕ)). log_values request logs parent node) (same_parent nodes node.parent)

flat_map-map : {A B : Type 0} (f : B → List ℕ) (g : A → B) (xs : List A) → flat_map f (map g xs) ≡ flat_map (λ (x : A). f (g x)) xs
flat_map-map f g [] = refl
flat_map-map f g (x ∷ xs) = ap (λ (l : List ℕ). f (g x) ++ l) (flat_map-map f g xs)

-- The objects of all nodes.
pub build_text : (request : Request) (logs : List Log) (requested : List (List ℕ)) (options : Options) (nodes : List Node)
    → options ≡ options_of request → nodes ≡ map without_warnings (outline_of logs (shown_events logs options requested))
    → flat_map (λ (node : Node). with_line_feed (object_text (node_values request logs nodes node))) nodes
    ≡ build_json request logs requested
build_text request logs requested options nodes same is =
    let events = shown_events logs (options_of request) requested in
    let all = outline_of logs events in
    let text : LogValues → List ℕ = λ values. with_line_feed (object_text values) in
    ap (λ (ns : List Node). flat_map (λ (node : Node). text (node_values request logs ns node)) ns)
    (is ∙ ap (λ (o : Options). map without_warnings (outline_of logs (shown_events logs o requested))) same)
    ∙ flat_map-map (λ (node : Node). text (node_values request logs (map without_warnings all) node)) without_warnings all
    ∙ ap (λ (values : Node → LogValues). flat_map (λ (node : Node). text (values node)) all) (λ i node. same_values request logs all node i)
    ∙ sym (flat_map-map text (node_values request logs all) all)
    ∙ ap (λ (l : List LogValues). flat_map text l) (outline_values request logs events)

-- A command, if it is known whole.
abbrev pub if_whole : RecipeCommand → List (List ℕ)
if_whole command = if command.is_whole then command.text ∷ [] else []

whole_first : (command : RecipeCommand) (others : List RecipeCommand)
    → whole_commands (command ∷ others) ≡ if_whole command ++ whole_commands others
whole_first command others = by command.is_whole
  where
    by : (whole : Bool)
        → map (λ (one : RecipeCommand). one.text) (if whole then command ∷ filter (λ (one : RecipeCommand). one.is_whole) others
        else filter (λ (one : RecipeCommand). one.is_whole) others)
        ≡ (if whole then command.text ∷ [] else []) ++ whole_commands others
    by true = refl
    by false = refl

-- One more command is listed if it is known whole.
pub whole_next : (commands : List RecipeCommand) (at : ℕ) (command : RecipeCommand) → slice_get commands at ≡ Some command
    → whole_commands (take (suc at) commands) ≡ whole_commands (take at commands) ++ if_whole command
whole_next [] at command is = absurd (cc)
whole_next (first ∷ others) zero command is =
    let same : first ≡ command = cc in whole_first first [] ∙ append-nil (if_whole first) ∙ ap if_whole same
whole_next (first ∷ others) (suc at) command is =
    whole_first first (take (suc at) others)
    ∙ ap (λ (l : List (List ℕ)). if_whole first ++ l) (whole_next others at command is)
    ∙ sym (append_assoc (if_whole first) (whole_commands (take at others)) (if_whole command))
    ∙ ap (λ (l : List (List ℕ)). l ++ if_whole command) (sym (whole_first first (take at others)))

pub no_memory : (output : Option Output) (text : List ℕ) (result : Result (Unit {0}) FormFault)
    → IsErrAnd result (λ fault. fault ≡ OutOfMemory) → FormWrites output output text result
no_memory output text (Ok done) is = absurd is
no_memory output text (Err Write) is = absurd (cc)
no_memory output text (Err OutOfMemory) is = (0, append_nothing output)

-- The values that are written for a node.
pub values_path : (request : Request) (logs : List Log) (nodes : List Node) (node : Node) (target : List ℕ) (parent : Option (List ℕ))
    (times : Times) (recipe : Recipe) (commands needs : List (List ℕ)) (changes : Option ChangesValue)
    → target ≡ target_at logs node.number
    → parent ≡ parent_name logs nodes node.parent → times ≡ slice_index_or request.times node.number unknown_times
    → IsRecipeOf (slice_index_or request.facts node.number nothing) recipe
    → commands ≡ whole_commands recipe.commands.now
    → needs ≡ needs_of (target_at logs node.number) (entries_at node.number logs)
    → changes ≡ changes_in request.baseline logs node
    → ◌≡◌ {A = LogValues} (record {
      target = target;
      parent = parent;
      status = node.status;
      start_ms = times.began;
      end_ms = times.ended;
      cpu_ms = recipe.cpu_ms;
      peak_kb = recipe.peak_kb;
      directory = option_copied recipe.directory;
      commands = commands;
      needs = needs;
      lines = texts_of (entries_at node.number logs);
      changes = changes;
    }) (node_values request logs nodes node)
values_path request logs nodes node target parent times recipe commands needs changes target_is parent_is times_is recipe_is commands_are
    needs_are changes_are =
    λ i. record {
      target = target_is i;
      parent = parent_is i;
      status = node.status;
      start_ms = (times_is i).began;
      end_ms = (times_is i).ended;
      cpu_ms = recipe_is.cpu_ms i;
      peak_kb = recipe_is.peak_kb i;
      directory = recipe_is.directory i;
      commands = (commands_are ∙ ap whole_commands recipe_is.commands) i;
      needs = needs_are i;
      lines = texts_of (entries_at node.number logs);
      changes = changes_are i;
    }
