-- A table in which targets were entered, and the readers of their streams, each with its must-close flag.
use Rattle.std.proofs.Common.{◌≡◌, ℕ, ◌≤◌, Bool, List, Option, Result, length, map, zip, sym, ap, ◌∙◌, subst}
use Rattle.std.proofs.lemmas.List.{length-map}
use Rattle.redo_device.specs.Feed.{Stream}
use Rattle.redo_logs.specs.Logs.{Log, max_logs, new_log, targets_of}
use Rattle.redo_gather.specs.declared.gather_fault.GatherFault.{GatherFault}
use Rattle.redo_gather.specs.Gathered.{IsGathered}
use Rattle.redo_gather.specs.Streams.{known_input, known_inputs}
use Rattle.redo_gather.proofs.EnteringLemmas.{targets-entered}
use Rattle.redo_gather.proofs.FlagLemmas.{count_zip}

module _ (names : List (List ℕ)) (table : List Log) (entered : table ≡ map new_log names) where
  targets_are : targets_of table ≡ names
  targets_are = ap targets_of entered ∙ targets-entered names

  count_is : length table ≡ length names
  count_is = ap length entered ∙ length-map names new_log

  pub begins_empty : table ≡ map new_log (targets_of table)
  begins_empty = entered ∙ ap (map new_log) (sym targets_are)

  pub has_room : length names ≤ max_logs → length table ≤ max_logs
  has_room few = subst (λ (n : ℕ). n ≤ max_logs) (sym count_is) few

  module _ (R : Type 0) (flags : List Bool) (readers : List R) (pairs : List (Bool × R)) (pairs_are : pairs ≡ zip flags readers) where
    -- There are as many readers as logs.
    pub one_for_each : length flags ≡ length names → length readers ≡ length names → length pairs ≡ length table
    one_for_each pairs read = ap length pairs_are ∙ count_zip flags readers (read ∙ sym pairs) ∙ read ∙ sym count_is

    -- A result gathered for the table is gathered for the names, the flags and the readers.
    pub gathered_of : (contents : R → Option Stream) (max_bytes : ℕ) (result : Result (List Log) GatherFault)
        → IsGathered max_bytes (targets_of table) (map (known_input contents) pairs) result
        → IsGathered max_bytes names (known_inputs contents flags readers) result
    gathered_of contents max_bytes result gathered =
        subst (λ own. IsGathered max_bytes own (known_inputs contents flags readers) result) targets_are
        (subst (λ given. IsGathered max_bytes (targets_of table) (map (known_input contents) given) result) pairs_are gathered)
