-- Examples of plans, computed.
use Rattle.std.proofs.Common.{ℕ, arith}
use Rattle.redo_options.specs.Plan.{IsPlan, PlanNumbers}

abbrev plan : ℕ → ℕ → ℕ → PlanNumbers
plan senders capacity max_bytes = record { senders = senders; capacity = capacity; max_bytes = max_bytes }

min_plan : IsPlan (plan 1 1 1)
min_plan = record {
  senders_are = (omega arith, omega arith);
  capacity_is = (omega arith, omega arith);
  max_bytes_is = (omega arith, omega arith);
}

max_plan : IsPlan (plan 64 65536 1099511627776)
max_plan = record {
  senders_are = (omega arith, omega arith);
  capacity_is = (omega arith, omega arith);
  max_bytes_is = (omega arith, omega arith);
}

no_sender : IsPlan (plan 0 1 1) → ⊥
no_sender is = let within = is.senders_are.0 in omega (arith, within)

too_many_senders : IsPlan (plan 65 1 1) → ⊥
too_many_senders is = let within = is.senders_are.1 in omega (arith, within)

no_capacity : IsPlan (plan 1 0 1) → ⊥
no_capacity is = let within = is.capacity_is.0 in omega (arith, within)

too_great_a_capacity : IsPlan (plan 1 65537 1) → ⊥
too_great_a_capacity is = let within = is.capacity_is.1 in omega (arith, within)

no_byte : IsPlan (plan 1 1 0) → ⊥
no_byte is = let within = is.max_bytes_is.0 in omega (arith, within)

too_many_bytes : IsPlan (plan 1 1 1099511627777) → ⊥
too_many_bytes is = let within = is.max_bytes_is.1 in omega (arith, within)
