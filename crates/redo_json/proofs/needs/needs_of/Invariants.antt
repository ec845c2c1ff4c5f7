use Rattle.std.proofs.Common.{map, length, ◌-◌}
use Rattle.redo_outline.specs.Facts.{entries_at, target_at}
use Rattle.redo_json.specs.Private.Needing.{FoundNeeds}
use Rattle.redo_json.proofs.needs.needs_of.Given as goal

-- The needs of the entries so far were found.
abbrev pub invariant-entries : goal.invariant-entries
invariant-entries l =
    FoundNeeds (target_at l.table l.number) (entries_at l.number l.table) l.at (map (λ name. name.now) l.needs.items) l.names

abbrev pub decreases-entries : goal.decreases-entries
decreases-entries l = length (entries_at l.number l.table) - l.at
