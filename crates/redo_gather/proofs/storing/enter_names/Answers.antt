use Rattle.std.proofs.Common.{Err, [], sym, ap, arith}
use Rattle.redo_gather.proofs.EnteringLemmas.{all_entered, one_entered, not_twice}
use Rattle.redo_gather.proofs.storing.enter_names.Goals as goal

pub loop-name-preserved : goal.loop-name-preserved
loop-name-preserved c = one_entered _ _ _ c.loop-name.invariant c.in-Some.name _ c.in-Some.ensures.steps.0 c.enter.new.self
    c.in-Ok.ensures.entered

pub unreachable-requires : goal.unreachable-requires
unreachable-requires c =
    not_twice _ _ _ c.loop-name.invariant c.in-Some.name _ c.in-Some.ensures.steps.0 c.requires.distinct
    (c.in-Err-Twice.ensures.duplicate.0 (ap Err c.in-Err-Twice.field-0-is))

pub loop-name-init : goal.loop-name-init
loop-name-init c = record { first = []; names_are = sym c.into_iter-name-iterator.ensures.into_iter_gives.0; table_is = c.requires.begins }

pub returns-in-Err-OutOfMemory : goal.returns-in-Err-OutOfMemory
returns-in-Err-OutOfMemory c = tt

pub returns : goal.returns
returns c = all_entered _ _ _ c.loop-name.invariant (omega (arith, c.in-None.ensures.steps.0, c.loop-name.name-iterator.rest.ok))
