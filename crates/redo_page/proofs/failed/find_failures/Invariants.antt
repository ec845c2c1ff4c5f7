use Rattle.std.proofs.Common.{◌≡◌, ◌++◌, drop}
use Rattle.redo_page.specs.Failed.{is_dependent_failure, is_unclosed}
use Rattle.redo_page.specs.Tree.{positions_where, is_root_failure}
use Rattle.redo_page.proofs.failed.find_failures.Given as goal

abbrev pub invariant-loop-position : goal.invariant-loop-position
invariant-loop-position l =
    (positions_where is_root_failure 0 l.nodes ≡ l.roots.items ++ positions_where is_root_failure l.position (drop l.position l.nodes))
    × (positions_where is_dependent_failure 0 l.nodes
    ≡ l.dependents.items ++ positions_where is_dependent_failure l.position (drop l.position l.nodes))
    × (positions_where is_unclosed 0 l.nodes ≡ l.unclosed.items ++ positions_where is_unclosed l.position (drop l.position l.nodes))
