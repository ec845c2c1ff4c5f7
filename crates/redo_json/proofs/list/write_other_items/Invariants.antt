use Rattle.std.proofs.Common.{◌≤◌, ◌-◌, length, map, drop}
use Rattle.redo_json.specs.Fields.{exact_items}
use Rattle.redo_json.specs.Private.Parts.{comma_fields}
use Rattle.redo_json.specs.Private.Writing.{WroteUpTo}
use Rattle.redo_json.proofs.list.write_other_items.Given as goal

-- Everything except the rest of the items was written.
abbrev pub invariant-items : goal.invariant-items
invariant-items g l = record {
  within : l.left ≤ length l.list;
  wrote : WroteUpTo (g.W.Sink.written l.initial.out) (g.W.Sink.written l.out)
      (comma_fields (exact_items l.fn.from (drop l.fn.from (map (λ bytes. bytes.now) l.list))))
      (comma_fields (exact_items l.left (drop l.left (map (λ bytes. bytes.now) l.list))));
}

abbrev pub decreases-items : goal.decreases-items
decreases-items g l = length l.list - l.left
