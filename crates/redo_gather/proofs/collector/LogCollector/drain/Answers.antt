use Rattle.std.proofs.Common.{refl, sym, ap, ◌∙◌, subst}
use Rattle.redo_wire.specs.Mailbox.{AreAllMet, TakeEndState}
use Rattle.redo_gather.specs.Private.Collecting.{StoresAllTaken}
use Rattle.redo_gather.proofs.collector.LogCollector.drain.Goals as goal

pub loop-init : goal.loop-init
loop-init g c = (tt, tt, c.requires, refl, refl, λ names holds. holds)

pub loop-preserved : goal.loop-preserved
loop-preserved g c =
    let kept = c.loop.invariant in
    let is = c.store_and_notify.ensures.unchanged ∙ c.in-Some-rest.ensures.taken in (
      tt,
      tt,
      subst AreAllMet (sym is) kept.2,
      ap (λ (m : TakeEndState). m.mailbox) is ∙ kept.3,
      ap (λ (m : TakeEndState). m.met) is ∙ kept.4,
      λ names holds.
          subst (λ items. StoresAllTaken names items c.store_and_notify.new.self.table c.store_and_notify.new.self.out_of_memory)
          (sym (ap (λ (m : TakeEndState). m.taken) is))
          (c.store_and_notify.ensures.holds names c.loop.self.take_end.taken (kept.5 names holds)),
    )

pub returns-in_default-clause-met : goal.returns-in_default-clause-met
returns-in_default-clause-met g c = subst AreAllMet (sym c.in_default.ensures.unchanged_if_none) c.loop.invariant.2
