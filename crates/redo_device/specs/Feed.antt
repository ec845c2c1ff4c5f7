-- Readers: the stream that a reader gives, and the result of one read.
use Rattle.std.specs.Prelude.{◌≡◌, ℕ, ◌<◌, ◌≤◌, Bool, true, false, List, [], ◌∷◌, length, take, drop, Option, None, Some, Result, Ok, Err}
use Rattle.redo_device.specs.declared.feed.Broken.{Broken}

-- The bytes that a reader gives from here on, and whether a failed read ends them; otherwise the end of input does.
pub record Stream : Type 0 where
  pub bytes : List ℕ
  pub fails : Bool

-- The result of a read when no byte is left: 0 bytes, or a failure if a failed read ends the stream.
abbrev pub AtEnd : Bool → Result ℕ Broken → Type 0
AtEnd false answer = answer ≡ Ok 0
AtEnd true answer = answer ≡ Err (record {})

-- A read gave n bytes, at least one: the first n bytes of the buffer are the first n of the stream.
pub record FillsPrefix (bytes buffer : List ℕ) (n : ℕ) : Type 0 where
  pub some : 0 < n
  pub fits : n ≤ length buffer
  pub available : n ≤ length bytes
  pub front : take n buffer ≡ take n bytes

-- The result of a read while bytes are to come: it gives some of them and doesn't fail.
abbrev pub MidStream : Stream → Option Stream → Result ℕ Broken → List ℕ → Type 0
MidStream stream after (Ok n) buffer = FillsPrefix stream.bytes buffer n × (after ≡ Some (record { bytes = drop n stream.bytes; fails = stream.fails }))
MidStream stream after (Err broken) buffer = ⊥

abbrev pub PullsFrom : List ℕ → Bool → Option Stream → Result ℕ Broken → List ℕ → Type 0
PullsFrom [] fails after answer buffer = AtEnd fails answer × (after ≡ Some (record { bytes = []; fails = fails }))
PullsFrom (byte ∷ bytes) fails after answer buffer = MidStream (record { bytes = byte ∷ bytes; fails = fails }) after answer buffer

-- One read: the known stream of the reader before it and after it, its result, and the contents of the buffer after it. An opaque
-- reader stays opaque.
abbrev pub Pulls : Option Stream → Option Stream → Result ℕ Broken → List ℕ → Type 0
Pulls None after answer buffer = after ≡ None
Pulls (Some stream) after answer buffer = PullsFrom stream.bytes stream.fails after answer buffer

-- `P` holds of the reader's stream. For an opaque reader, `P` holds of some stream.
abbrev pub SomeStream : Option Stream → (Stream → Type 0) → Type 0
SomeStream None P = (stream : Stream) × P stream
SomeStream (Some stream) P = P stream
