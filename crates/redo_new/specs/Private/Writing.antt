-- The postconditions of writers in parts.
use Rattle.std.specs.Prelude.{◌≡◌, ℕ, List, ◌++◌, Option}
use Rattle.redo_device.specs.Sink.{Output, append_output}

-- Of a text, everything except `rest` was written, and no write failed.
pub record WroteUpTo (before after : Option Output) (text rest : List ℕ) : Type 0 where
  pub prefix : List ℕ
  pub wrote : after ≡ append_output before prefix 0
  pub splits : prefix ++ rest ≡ text
