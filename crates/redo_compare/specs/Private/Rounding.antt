-- What holds during the rounds.
use Rattle.std.specs.Prelude.{◌≡◌, ℕ, Bool, List, length}
use Rattle.redo_compare.specs.Occurrences.{OccurrenceValue}
use Rattle.redo_compare.specs.Private.Remaining.{CountByKey, CountBySource}
use Rattle.redo_compare.specs.Rounds.{left_after, picked, same_key, same_source, unknown_in}

-- The first round over these diagnostics gave these flags, and took from the counts what it knew.
pub record RanFirst (old_source source old_key key : List ((List ℕ × List ℕ) × ℕ)) (done : List OccurrenceValue) (flags : List Bool)
    : Type 0 where
  pub count : length flags ≡ length done
  pub unknown : (earlier : List OccurrenceValue) → CountBySource old_source earlier → picked flags done ≡ unknown_in same_source earlier done
  pub source_left : (earlier : List OccurrenceValue) → CountBySource old_source earlier
      → CountBySource source (left_after same_source earlier done)
  pub key_left : (earlier : List OccurrenceValue) → CountBySource old_source earlier → CountByKey old_key earlier
      → CountByKey key (left_after same_source earlier done)

-- The second round over these diagnostics, of which some were unknown, gave these flags, and took from the counts what it knew.
pub record RanSecond (old_key key : List ((List ℕ × List ℕ) × ℕ)) (done : List OccurrenceValue) (unknown flags : List Bool)
    : Type 0 where
  pub count : length flags ≡ length done
  pub new : (left : List OccurrenceValue) → CountByKey old_key left → picked flags done ≡ unknown_in same_key left (picked unknown done)
  pub key_left : (left : List OccurrenceValue) → CountByKey old_key left → CountByKey key (left_after same_key left (picked unknown done))
