-- Examples of numbers in range and out of range.
use Rattle.std.proofs.Common.{arith}
use Rattle.redo_options.specs.Limits.{IsSenderCount, IsCapacity}

one_sender : IsSenderCount 1
one_sender = (omega arith, omega arith)

max_senders : IsSenderCount 64
max_senders = (omega arith, omega arith)

no_sender : IsSenderCount 0 → ⊥
no_sender is = let within = is.0 in omega (arith, within)

too_many_senders : IsSenderCount 65 → ⊥
too_many_senders is = let within = is.1 in omega (arith, within)

min_capacity : IsCapacity 1
min_capacity = (omega arith, omega arith)

max_capacity : IsCapacity 65536
max_capacity = (omega arith, omega arith)

no_capacity : IsCapacity 0 → ⊥
no_capacity is = let within = is.0 in omega (arith, within)

too_great_a_capacity : IsCapacity 65537 → ⊥
too_great_a_capacity is = let within = is.1 in omega (arith, within)
