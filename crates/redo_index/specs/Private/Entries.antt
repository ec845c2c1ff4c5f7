-- The targets of an index, as the entries of a map, and its numbers, as the keys of a set.
use Rattle.std.specs.Prelude.{◌≡◌, ◌⊎◌, ℕ, List, [], ◌∷◌, ◌++◌, Some, None, length, map}
use Rattle.redo_index.specs.declared.index_fault.IndexFault.{IndexFault}
use Rattle.redo_index.specs.declared.index_fault.IndexFault.TheVariants.{OutOfMemory}
use Rattle.redo_index.specs.declared.index.TargetLog.{TargetLog}
use Rattle.redo_index.specs.declared.index_entry.IndexEntry.{IndexEntry}
use Rattle.redo_index.specs.Index.{IsIndex, fault_after, parse_line, numbers_of}

-- The target of a map's entry: the key is the target's name, and the value its log file.
abbrev pub entry_of_pair : List ℕ × TargetLog → IndexEntry
entry_of_pair entry = record { number = entry.1.number; target = entry.0; must_close = entry.1.must_close }

abbrev pub entries_of_pairs : List (List ℕ × TargetLog) → List IndexEntry
entries_of_pairs entries = map entry_of_pair entries

-- Whether these numbers and map entries store `index`, which satisfies the invariant of an index.
pub record Hold (numbers : List ℕ) (entries : List (List ℕ × TargetLog)) (index : List IndexEntry) : Type 0 where
  pub numbers_are : numbers ≡ numbers_of index
  pub entries_are : entries_of_pairs entries ≡ index
  pub fits : IsIndex index

-- Whether these numbers and map entries store `index` and after it the entry of `line`. The line isn't rejected.
pub record HoldMore (index : List IndexEntry) (line : List ℕ) (numbers : List ℕ) (entries : List (List ℕ × TargetLog)) : Type 0 where
  pub last : IndexEntry
  pub form : parse_line line ≡ Some last
  pub no_fault : fault_after (length index) index (Some last) ≡ None
  pub hold : Hold numbers entries (index ++ last ∷ [])

-- Whether `fault` is the fault of `line` after the lines that list `index`, or an allocation failed.
abbrev pub IsFaultAfter : List IndexEntry → List ℕ → IndexFault → Type 0
IsFaultAfter index line fault = (fault ≡ OutOfMemory) ⊎ (fault_after (length index) index (parse_line line) ≡ Some fault)
