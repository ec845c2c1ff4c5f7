use Rattle.std.proofs.Common.{◌≡◌, true, false, sym, ◌∙◌}
use Rattle.redo_gather.proofs.RunningLemmas.{of_ended}
use Rattle.redo_gather.proofs.storing.store_item.Goals as goal

pub returns-clause-stored : goal.returns-clause-stored
returns-clause-stored c =
    of_ended c.args.item.stream c.args.item.what c.args.table.now
    (λ running. let no : false ≡ true = sym c.if-is_running.false ∙ c.is_running.ensures.1 running in absurd (cc))
