-- The model of a writer in memory (`Taker`).
use Rattle.std.specs.Prelude.{ℕ, ◌-◌, List, length, min, Result, Ok, Err, nat_le, if◌then◌else◌}
use Rattle.redo_device.specs.declared.feed.Broken.{Broken}
use Rattle.redo_device.specs.Sink.{Output}

-- The bytes that it holds, how often it failed or took none, how many bytes it holds at most, and how many it takes in
-- one call at most.
pub record TakerState : Type 0 where
  pub bytes : List ℕ
  pub failures : ℕ
  pub room : ℕ
  pub per_call : ℕ

-- Its known output as a writer.
abbrev pub output_of : TakerState → Output
output_of held = record { bytes = held.bytes; failures = held.failures }

-- The result of a write of `count` bytes.
abbrev pub answer_of : TakerState → ℕ → Result ℕ Broken
answer_of held count =
    if nat_le held.room (length held.bytes) then Err (record {})
    else Ok (min count (min held.per_call (held.room - length held.bytes)))
