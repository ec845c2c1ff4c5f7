use Rattle.std.proofs.Common.{rules, sym, ap, ◌∙◌, subst}
use Rattle.redo_wire.specs.Mailbox.{TakeEndState}
use Rattle.redo_gather.specs.Private.Collecting.{StoresAllTaken}
use Rattle.redo_gather.proofs.collector.LogCollector.take.Goals as goal

pub loop-preserved : goal.loop-preserved
loop-preserved g c =
    let taken = ap (λ (m : TakeEndState). m.taken) (c.store_and_notify.ensures.unchanged ∙ c.in-Some-take.ensures.taken) in (
      search rules,
      search rules,
      search rules,
      search rules,
      λ names holds. subst (λ items. StoresAllTaken names items c.store_and_notify.new.self.table c.store_and_notify.new.self.out_of_memory)
          (sym taken) (c.store_and_notify.ensures.holds names c.loop.self.take_end.taken (c.loop.invariant.4 names holds)),
    )

pub returns-in_default-clause-holds : goal.returns-in_default-clause-holds
returns-in_default-clause-holds g c = search rules
