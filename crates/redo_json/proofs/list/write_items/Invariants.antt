use Rattle.std.proofs.Common.{true, map, drop}
use Rattle.std.specs.Prelude.{◌==◌}
use Rattle.redo_json.specs.Private.Parts.{items_text}
use Rattle.redo_json.specs.Private.Writing.{WroteUpTo}
use Rattle.redo_json.proofs.list.write_items.Given as goal

-- Everything except the rest of the items was written.
abbrev pub invariant-items : goal.invariant-items
invariant-items g l = WroteUpTo (g.W.Sink.written l.initial.out) (g.W.Sink.written l.out)
    (items_text true (map (λ bytes. bytes.now) l.list))
    (items_text (l.at == 0) (drop l.at (map (λ bytes. bytes.now) l.list)))
