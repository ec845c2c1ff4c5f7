-- The model of a reader in memory (`Pieces`).
use Rattle.std.specs.Prelude.{◌≡◌, ℕ, Bool, List, [], ◌∷◌, length, take, drop, min, Result, Ok}
use Rattle.std.specs.List.{flat_map}
use Rattle.redo_device.specs.declared.feed.Broken.{Broken}
use Rattle.redo_device.specs.Feed.{Stream, AtEnd}

-- The reads that are still to come, in order, and whether a failed read ends them.
pub record Reads : Type 0 where
  pub reads : List (List ℕ)
  pub fails : Bool

-- The stream that these reads give: the bytes of all of them.
abbrev pub stream_of : Reads → Stream
stream_of to_come = record { bytes = flat_map (λ read. read) to_come.reads; fails = to_come.fails }

-- The reads from the first one on that has a byte.
abbrev pub from_first_byte : List (List ℕ) → List (List ℕ)
from_first_byte [] = []
from_first_byte ([] ∷ reads) = from_first_byte reads
from_first_byte ((byte ∷ bytes) ∷ reads) = (byte ∷ bytes) ∷ reads

-- One call gives as much of the first of these reads as the buffer has room for. The next call gives the rest of it.
abbrev pub ReadsNext : List (List ℕ) → Bool → Reads → Result ℕ Broken → List ℕ → Type 0
ReadsNext [] fails after answer buffer = AtEnd fails answer × (after ≡ record { reads = []; fails = fails })
ReadsNext (read ∷ reads) fails after answer buffer =
    let n = min (length read) (length buffer) in
    (answer ≡ Ok n) × (take n buffer ≡ take n read) × (after ≡ record { reads = drop n read ∷ reads; fails = fails })
