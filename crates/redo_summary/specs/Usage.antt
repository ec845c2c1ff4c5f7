-- What the recipes of a build used.
use Rattle.std.specs.Prelude.{ℕ, ◌+◌, ltb, List, [], ◌∷◌, Option, None, Some, filter, filter_map, map, option_and_then, slice_get, slice_index_or}
use Rattle.redo_facts.specs.declared.statement.Usage.{Usage}
use Rattle.redo_facts.specs.Facts.{RecipeFacts, nothing}
use Rattle.redo_outline.specs.declared.node.Node.{Node}
use Rattle.redo_timeline.specs.declared.span.Span.{Span}
use Rattle.redo_summary.specs.declared.rank.Rank.{Rank}
use Rattle.redo_summary.specs.Ranks.{first_ranks}
use Rattle.redo_summary.specs.Summary.{total}

-- What some recipes used: their processor time in milliseconds, if the usage of any is known, and the ten with the most memory, in
-- kilobytes of 1,024 bytes.
pub record UsageFacts : Type 0 where
  pub processor : Option ℕ
  pub memory : List Rank

-- What the recipe of the log with this number used. Nothing is known of a recipe past the end of the list.
abbrev pub usage_at : List RecipeFacts → ℕ → Option Usage
usage_at facts number = (slice_index_or facts number nothing).usage

-- The processor time that a recipe used.
abbrev pub processor_ms : Usage → ℕ
processor_ms usage = usage.user_ms + usage.system_ms

-- The processor time that some recipes used. It is unknown if there are none.
abbrev pub processor_of : List Usage → Option ℕ
processor_of [] = None
processor_of (usage ∷ usages) = Some (total processor_ms (usage ∷ usages))

-- The most memory that one process of a recipe had, or 0 if it is unknown.
abbrev pub peak_of : Option Usage → ℕ
peak_of None = 0
peak_of (Some usage) = usage.peak_kb

module _ (nodes : List Node) (facts : List RecipeFacts) where
  -- What the recipe of a span used, if it is known.
  abbrev pub used_by : Span → Option Usage
  used_by recipe = option_and_then (λ (node : Node). usage_at facts node.number) (slice_get nodes recipe.position)

  -- What recipes used, as far as it is known.
  abbrev pub known_usages : List Span → List Usage
  known_usages recipes = filter_map used_by recipes

  -- A recipe as a row of a table.
  abbrev pub memory_rank : Span → Rank
  memory_rank recipe = record { value = peak_of (used_by recipe); position = recipe.position }

  -- The recipes whose memory is known and isn't 0.
  abbrev pub memory_ranks : List Span → List Rank
  memory_ranks recipes = filter (λ (rank : Rank). ltb 0 rank.value) (map memory_rank recipes)

  -- The ten recipes with the most memory.
  abbrev pub most_memory : List Span → List Rank
  most_memory recipes = first_ranks (memory_ranks recipes)

  -- What some recipes used.
  abbrev pub usage_of : List Span → UsageFacts
  usage_of recipes = record { processor = processor_of (known_usages recipes); memory = most_memory recipes }
