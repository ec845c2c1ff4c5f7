use Rattle.std.proofs.Common.{◌≡◌, ◌++◌, drop, sum_by, take}
use Rattle.redo_compare.specs.Baseline.{target_changes}
use Rattle.redo_outline.specs.declared.node.Node.{Node}
use Rattle.redo_outline.specs.Facts.{saturated}
use Rattle.redo_page.specs.Tree.{positions_where}
use Rattle.redo_page.specs.NewSection.{new_lines}
use Rattle.redo_page.proofs.news.compare.Given as goal

abbrev pub invariant-loop-position : goal.invariant-loop-position
invariant-loop-position l =
    (new_lines l.baseline l.table 0 l.nodes ≡ l.lines.items ++ new_lines l.baseline l.table l.position (drop l.position l.nodes))
    × (l.gone ≡ saturated (sum_by (λ (node : Node). (target_changes l.baseline l.table node).gone) (take l.position l.nodes)))
    × (positions_where (λ (node : Node). (target_changes l.baseline l.table node).newly_fails) 0 l.nodes
    ≡ l.failing.items
    ++ positions_where (λ (node : Node). (target_changes l.baseline l.table node).newly_fails) l.position (drop l.position l.nodes))
    × (positions_where (λ (node : Node). (target_changes l.baseline l.table node).is_fixed) 0 l.nodes
    ≡ l.fixed.items
    ++ positions_where (λ (node : Node). (target_changes l.baseline l.table node).is_fixed) l.position (drop l.position l.nodes))
