use Rattle.std.proofs.Common.{◌≡◌, map, drop}
use Rattle.redo_json.specs.Fields.{exact_items}
use Rattle.redo_json.proofs.list.next_exact.Given as goal

-- No item so far has exact bytes.
abbrev pub invariant-items : goal.invariant-items
invariant-items l = exact_items l.from (drop l.from (map (λ bytes. bytes.now) l.list))
    ≡ exact_items l.at (drop l.at (map (λ bytes. bytes.now) l.list))
