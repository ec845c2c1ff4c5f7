use Rattle.std.proofs.Common.{sym, ap}
use Rattle.redo_outline.specs.Private.Sweeping.{last_or_nothing, others_of}
use Rattle.redo_outline.proofs.SweepLemmas.{split_some}
use Rattle.redo_outline.proofs.sweep.pop_or_nothing.Goals as goal

pub returns-in-Some-clause-rest : goal.returns-in-Some-clause-rest
returns-in-Some-clause-rest c = ap last_or_nothing
    (sym (split_some c.args.outer.now.items c.pop.new.self.items c.in-Some.rest c.in-Some.ensures.items))

pub returns-in-Some-clause-outer : goal.returns-in-Some-clause-outer
returns-in-Some-clause-outer c = ap others_of
    (sym (split_some c.args.outer.now.items c.pop.new.self.items c.in-Some.rest c.in-Some.ensures.items))
