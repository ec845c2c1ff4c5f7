-- A dependent failure contains a root failure.
use Rattle.std.proofs.Common.{◌≡◌, ℕ, zero, suc, Bool, List, [], ◌∷◌, map, take, refl, sym, ◌∙◌, ap}
use Rattle.std.specs.Prelude.{◌||◌}
use Rattle.std.specs.List.{list_any}
use Rattle.std.proofs.lemmas.Bool.{and_parts}
use Rattle.redo_outline.specs.declared.node.Node.{Node}
use Rattle.redo_outline.specs.declared.node.RunTimes.{RunTimes}
use Rattle.redo_outline.specs.Laws.{AllSumUp, fails_first}
use Rattle.redo_outline.specs.Outline.{with_times}
use Rattle.redo_page.specs.Laws.{ContainRoots}
use Rattle.redo_page.specs.Tree.{has_failed, is_root_failure}

any_timed : (times : List RunTimes) (count : ℕ) (nodes : List Node)
    → list_any is_root_failure (take count (map (with_times times) nodes)) ≡ list_any fails_first (take count nodes)
any_timed times zero nodes = refl
any_timed times (suc count) [] = refl
any_timed times (suc count) (node ∷ nodes) = ap (λ (any : Bool). is_root_failure node || any) (any_timed times count nodes)

pub contain_roots : (times : List RunTimes) (nodes : List Node) → AllSumUp nodes → ContainRoots (map (with_times times) nodes)
contain_roots times [] sums = tt
contain_roots times (node ∷ nodes) sums = (
  λ depends. any_timed times node.below nodes ∙ sym sums.0.first_failures ∙ (and_parts (has_failed node) node.fails_below depends).1,
  contain_roots times nodes sums.1,
)
