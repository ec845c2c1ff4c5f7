use Rattle.std.proofs.Common.{◌≡◌, [], replicate}
use Rattle.redo_times.specs.Private.Tally.{tally_of}
use Rattle.redo_times.proofs.times.empty_tallies.Given as goal

abbrev pub invariant-loop : goal.invariant-loop
invariant-loop l = l.tallies.items ≡ replicate l.counter (tally_of [] [])
