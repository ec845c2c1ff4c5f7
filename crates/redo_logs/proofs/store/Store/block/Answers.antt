use Rattle.std.proofs.Common.{ap, ◌∙◌}
use Rattle.redo_logs.specs.Private.Store.{Parts}
use Rattle.redo_logs.proofs.Keeping.{block_taken}
use Rattle.redo_logs.proofs.store.Store.block.Goals as goal

pub returns-else-number-eq0 : goal.returns-else-number-eq0
returns-else-number-eq0 c =
    c.deref-else-number-eq0.ensures.value
    ∙ block_taken c.args.self.now c.self.inside.taken.items c.args.number c.index.result.now
    (ap (λ (p : Parts). p.taken) c.self.view_is) c.requires c.if-number-eq0.false c.index.ensures
