-- The numbers of a plan, and their limits.
use Rattle.std.specs.Prelude.{ℕ, ◌^◌}
use Rattle.redo_options.specs.Limits.{IsSenderCount, IsCapacity, IsInRange}

pub record PlanNumbers : Type 0 where
  pub senders : ℕ
  pub capacity : ℕ
  pub max_bytes : ℕ

-- Whether `max_bytes` is allowed as the size limit of a stream.
abbrev pub IsByteLimit : ℕ → Type 0
IsByteLimit max_bytes = IsInRange 1 (2 ^ 40) max_bytes

pub record IsPlan (numbers : PlanNumbers) : Type 0 where
  pub senders_are : IsSenderCount numbers.senders
  pub capacity_is : IsCapacity numbers.capacity
  pub max_bytes_is : IsByteLimit numbers.max_bytes
