-- The number of entries in `PackedEntries` values, and the checkpoints by which an entry is found.
use Rattle.std.specs.Prelude.{◌≡◌, ℕ, ◌+◌, ◌*◌, ◌^◌, ◌≤◌, ◌<◌, ◌⊎◌, List, [], ◌∷◌, ◌++◌, length, take, slice_index_or}
use Rattle.redo_logs.specs.declared.store.PackedEntries.{PackedEntries}
use Rattle.redo_logs.specs.Private.Store.{count_in}

abbrev pub count_of : List PackedEntries → ℕ
count_of [] = 0
count_of (one ∷ records) = count_in one + count_of records

-- Whether `count` entries precede the `PackedEntries` values from position `place` on.
pub record IsBefore (records : List PackedEntries) (place count : ℕ) : Type 0 where
  pub within : place ≤ length records
  pub is : count ≡ count_of (take place records)

-- Whether each checkpoint is correct: checkpoint n is the number of entries in the first 8n `PackedEntries` values.
abbrev pub AreCheckpoints : List PackedEntries → List ℕ → Type 0
AreCheckpoints records checkpoints = (number : ℕ) → number < length checkpoints → IsBefore records (number * 8) (slice_index_or checkpoints number 0)

-- Whether the checkpoints are unchanged, or one was appended, which is for the next `PackedEntries`.
abbrev pub AddsCheckpoint : List ℕ → List ℕ → ℕ → ℕ → Type 0
AddsCheckpoint before after records entries = (after ≡ before) ⊎ ((after ≡ before ++ entries ∷ []) × (records ≡ length before * 8))

-- The invariant of a log's `PackedEntries` values: the number of entries is correct and at most 2^62, and each checkpoint is correct.
pub record AreNumbered (records : List PackedEntries) (checkpoints : List ℕ) (entries : ℕ) : Type 0 where
  pub entries_are : entries ≡ count_of records
  pub few : entries ≤ 2 ^ 62
  pub checkpoints_are : AreCheckpoints records checkpoints

-- Whether entry `number` is the entry at position `place` of the `PackedEntries` `one`.
pub record IsLocated (records : List PackedEntries) (number : ℕ) (one : PackedEntries) (place : ℕ) : Type 0 where
  pub before : List PackedEntries
  pub behind : List PackedEntries
  pub are : records ≡ before ++ one ∷ behind
  pub number_is : number ≡ count_of before + place
  pub place_within : place < count_in one
