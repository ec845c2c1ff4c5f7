use Rattle.std.proofs.Common.{rules}
use Rattle.redo_gather.proofs.CollectedLemmas.{holds_more}
use Rattle.redo_gather.proofs.collector.LogCollector.store.Goals as goal

pub returns-clause-holds : goal.returns-clause-holds
returns-clause-holds c names before holds =
    holds_more names before c.args.item c.args.self.now.table c.store_item.new.table c.args.self.now.out_of_memory c.if-self.false holds
    c.in-Ok.ensures.stored c.in-Ok.ensures.had_memory

pub returns-in_default-clause-holds : goal.returns-in_default-clause-holds
returns-in_default-clause-holds c = search rules
