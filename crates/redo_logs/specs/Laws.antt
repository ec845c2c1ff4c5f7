-- The statements of the law `lowest_fault_is_first` about the first fault.
use Rattle.std.specs.Prelude.{◌≡◌, ℕ, ◌<◌, List, Option, None, Some, slice_get}
use Rattle.redo_line.specs.declared.stream_fault.StreamFault.{StreamFault}
use Rattle.redo_logs.specs.Logs.{lowest_fault}

module _ (faults : List (Option StreamFault)) where
  -- The position that is found has the fault that is found.
  abbrev pub IsAtIndex : Type 0
  IsAtIndex = (place : ℕ) (fault : StreamFault) → lowest_fault faults ≡ Some (place, fault) → slice_get faults place ≡ Some (Some fault)

  -- No position before it has a fault.
  abbrev pub NoneBefore : Type 0
  NoneBefore =
      (place : ℕ) (fault : StreamFault) (earlier : ℕ) → lowest_fault faults ≡ Some (place, fault) → earlier < place
      → slice_get faults earlier ≡ Some None

  -- If none is found, no position has a fault.
  abbrev pub NoFaultMissed : Type 0
  NoFaultMissed = (place : ℕ) (fault : StreamFault) → lowest_fault faults ≡ None → slice_get faults place ≡ Some (Some fault) → ⊥
