use Rattle.std.proofs.Common.{map}
use Rattle.redo_gather.specs.Private.Distribution.{AreEmpty}
use Rattle.redo_gather.proofs.gathering.empty_shares.Given as goal

abbrev pub invariant-loop : goal.invariant-loop
invariant-loop g l = AreEmpty l.counter (map (λ share. share.items) l.shares.items)
