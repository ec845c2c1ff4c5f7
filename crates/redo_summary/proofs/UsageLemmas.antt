-- What the recipes of a build used.
use Rattle.std.proofs.Common.{◌≡◌, ℕ, ◌+◌, ◌<◌, Bool, true, false, cond, ltb, List, [], ◌∷◌, ◌++◌, Option, None, Some, get_or, length, take, refl, sym, ap, ◌∙◌, arith}
use Rattle.std.specs.Prelude.{option_and_then, slice_get}
use Rattle.std.specs.List.{AllByRecursion, cons_option}
use Rattle.std.proofs.lemmas.List.{append-nil, take_more}
use Rattle.std.proofs.lemmas.List.Elements.{filter_map-append}
use Rattle.std.proofs.lemmas.List.Sums.{sum_by_push}
use Rattle.std.proofs.lemmas.Option.{slice_get_within}
use Rattle.redo_facts.specs.declared.statement.Usage.{Usage}
use Rattle.redo_facts.specs.Facts.{RecipeFacts}
use Rattle.redo_timeline.specs.declared.span.Span.{Span}
use Rattle.redo_timeline.specs.Order.{sort}
use Rattle.redo_outline.specs.declared.node.Node.{Node}
use Rattle.redo_summary.specs.declared.rank.Rank.{Rank}
use Rattle.redo_summary.specs.Laws.{AreRanksBelow, HasMemory, IsProcessorTime}
use Rattle.redo_summary.specs.Private.Sums.{plus}
use Rattle.redo_summary.specs.Ranks.{rank_cmp}
use Rattle.redo_summary.specs.Usage.{known_usages, memory_ranks, peak_of, processor_ms, processor_of, usage_at, usage_of, used_by}
use Rattle.redo_summary.proofs.LawLemmas.{all_sorted, all_taken}

-- ---- processor time

-- The sum with one more usage, if it is known.
added : (usages : List Usage) (usage : Option Usage) → plus (processor_of usages) usage ≡ processor_of (usages ++ cons_option usage [])
added usages None = ap processor_of (sym (append-nil usages))
added [] (Some usage) = refl
added (first ∷ usages) (Some usage) = ap Some (let sum = sum_by_push processor_ms (first ∷ usages) usage in omega (arith, sum))

pub processor_more : (nodes : List Node) (facts : List RecipeFacts) (recipes : List Span) (i : ℕ) (d : Span) → i < length recipes
    → plus (processor_of (known_usages nodes facts (take i recipes))) (used_by nodes facts (get_or recipes i d))
    ≡ processor_of (known_usages nodes facts (take (i + 1) recipes))
processor_more nodes facts recipes i d below =
    added (known_usages nodes facts (take i recipes)) (used_by nodes facts (get_or recipes i d))
    ∙ sym (ap (λ spans. processor_of (known_usages nodes facts spans)) (take_more recipes i d below)
    ∙ ap processor_of (filter_map-append (used_by nodes facts) (take i recipes) (get_or recipes i d ∷ [])))

pub processor_is : (nodes : List Node) (facts : List RecipeFacts) (recipes : List Span)
    → IsProcessorTime (known_usages nodes facts recipes) (usage_of nodes facts recipes).processor
processor_is nodes facts recipes = by (known_usages nodes facts recipes)
  where
    by : (usages : List Usage) → IsProcessorTime usages (processor_of usages)
    by [] = refl
    by (usage ∷ usages) = refl

-- ---- the memory of ranks

module _ (nodes : List Node) (facts : List RecipeFacts) where
  abbrev rows : List Span → List Rank
  rows recipes = memory_ranks nodes facts recipes

  abbrev with_usage : Option Usage → Span → Rank
  with_usage usage recipe = record { value = peak_of usage; position = recipe.position }

  rank_is : (recipe : Span) (node : Node) → slice_get nodes recipe.position ≡ Some node → (usage : Option Usage)
      → usage_at facts node.number ≡ usage → (ranks : List Rank) → AllByRecursion (HasMemory nodes facts) ranks
      → AllByRecursion (HasMemory nodes facts) (cond (ltb 0 (peak_of usage)) (with_usage usage recipe ∷ ranks) ranks)
  rank_is recipe node is None known ranks more = more
  rank_is recipe node is (Some usage) known ranks more = by (ltb 0 usage.peak_kb)
    where
      by : (b : Bool) → AllByRecursion (HasMemory nodes facts) (cond b (with_usage (Some usage) recipe ∷ ranks) ranks)
      by true = ((node, is, usage, known, refl), more)
      by false = more

  rows_have_memory : (recipes : List Span) → AllByRecursion (HasMemory nodes facts) (rows recipes)
  rows_have_memory [] = tt
  rows_have_memory (recipe ∷ recipes) = by (slice_get nodes recipe.position) refl (rows_have_memory recipes)
    where
      used : Option Node → Option Usage
      used found = option_and_then (λ (node : Node). usage_at facts node.number) found

      by : (found : Option Node) → slice_get nodes recipe.position ≡ found → AllByRecursion (HasMemory nodes facts) (rows recipes)
          → AllByRecursion (HasMemory nodes facts)
          (cond (ltb 0 (peak_of (used found))) (with_usage (used found) recipe ∷ rows recipes) (rows recipes))
      by None is more = more
      by (Some node) is more = rank_is recipe node is (usage_at facts node.number) refl (rows recipes) more

  pub memory_is_of_recipes : (recipes : List Span) → AllByRecursion (HasMemory nodes facts) (usage_of nodes facts recipes).memory
  memory_is_of_recipes recipes =
      all_taken (HasMemory nodes facts) 10 (sort rank_cmp (rows recipes))
      (all_sorted (HasMemory nodes facts) rank_cmp (rows recipes) (rows_have_memory recipes))

  pub memory_is_of_nodes : (recipes : List Span) → AreRanksBelow (length nodes) (usage_of nodes facts recipes).memory
  memory_is_of_nodes recipes = by (usage_of nodes facts recipes).memory (memory_is_of_recipes recipes)
    where
      by : (ranks : List Rank) → AllByRecursion (HasMemory nodes facts) ranks → AreRanksBelow (length nodes) ranks
      by [] have = tt
      by (rank ∷ ranks) have = (slice_get_within nodes rank.position have.0.0 have.0.1, by ranks have.1)
