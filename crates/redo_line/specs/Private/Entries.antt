-- The number of entries in a few buffers.
use Rattle.std.specs.Prelude.{◌≡◌, ℕ, ◌+◌, ◌≤◌, List, length}
use Rattle.redo_line.specs.declared.entries.EntryAt.{EntryAt}
use Rattle.redo_line.specs.Entries.{AreWithin, entries_at}

-- The places are valid and have `count` entries, at most one for each byte and each place.
pub record AreCounted (bytes names : List ℕ) (places : List EntryAt) (count : ℕ) : Type 0 where
  pub within : AreWithin bytes names places
  pub count_is : count ≡ length (entries_at bytes names places)
  pub few : count ≤ length bytes + length places
