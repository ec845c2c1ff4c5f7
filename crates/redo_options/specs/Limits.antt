-- The limits of the number of senders and of the mailbox's capacity.
use Rattle.std.specs.Prelude.{ℕ, ◌≤◌}

-- Whether `number` is in the range from `least` to `greatest`, both included.
abbrev pub IsInRange : ℕ → ℕ → ℕ → Type 0
IsInRange min max number = (min ≤ number) × (number ≤ max)

abbrev pub IsSenderCount : ℕ → Type 0
IsSenderCount senders = IsInRange 1 64 senders

abbrev pub IsCapacity : ℕ → Type 0
IsCapacity capacity = IsInRange 1 65536 capacity
