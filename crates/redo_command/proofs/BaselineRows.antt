-- Examples of failures of a baseline, computed: the exit status, the error message and the explanation.
use Rattle.std.proofs.Common.{◌≡◌, ℕ, List, [], ◌∷◌, None, refl}
use Rattle.std.specs.Prelude.{codes}
use Rattle.std.specs.Fmt.{digits}
use Rattle.std.specs.List.{AllByRecursion}
use Rattle.redo_index.specs.declared.index_fault.IndexFault.TheVariants as index_fault
use Rattle.redo_line.specs.declared.stream_fault.StreamFault.TheVariants as stream
use Rattle.redo_command.specs.declared.baseline_fault.BaselineFault.{BaselineFault}
use Rattle.redo_command.specs.declared.baseline_fault.BaselineFault.TheVariants.{Index, Log, NamesMissing, NamesRead}
use Rattle.redo_command.specs.declared.failure.Failure.TheVariants.{Baseline}
use Rattle.redo_command.specs.Explanation.{explanation_as}
use Rattle.redo_command.specs.Failure.{failure_message_as, status_of}

record Row : Type 0 where
  dir : List ℕ
  fault : BaselineFault
  status_is : ℕ
  message_is : List ℕ
  explanation_is : List ℕ

abbrev fails : List ℕ → BaselineFault → ℕ → List ℕ → List ℕ → Row
fails dir fault status message explanation =
    record { dir = dir; fault = fault; status_is = status; message_is = message; explanation_is = explanation }

-- Whether the failure of the baseline in a directory has this status, message and explanation. Its own index lists no target.
abbrev Fails : Row → Type 0
Fails row =
    (status_of (Baseline row.fault) ≡ row.status_is)
    × (failure_message_as (codes "redo-log-json") row.dir [] [] (Baseline row.fault) ≡ row.message_is)
    × (explanation_as (codes "redo-log-json") row.dir [] None [] [] (Baseline row.fault) ≡ row.explanation_is)

abbrev no_memory : List ℕ
no_memory = codes "redo-log-json: no memory or no thread was left; --senders 1 needs the least, and ulimit -v shows a limit on memory\n"

abbrev rows : List Row
rows =
    fails (codes "before") NamesMissing 5 (codes "redo-log-json: baseline before: names: cannot be read\n")
    (codes "redo-log-json: no file 'before/names'; --baseline takes the capture directory of an earlier build\n") ∷
    fails (codes "it's") NamesRead 5 (codes "redo-log-json: baseline it's: names: cannot be read\n")
    (codes "redo-log-json: not readable: 'it'\\''s/names'; it must be a file of at most 1073741824 bytes that you may read\n") ∷
    fails (codes "d/1") (Index (index_fault.BadLine 12)) 3 (codes "redo-log-json: baseline d/1: names: line 12: bad line\n")
    (codes "redo-log-json: leave this line out: sed -i 12d 'd/1/names'\n") ∷
    fails (codes "-") (Index index_fault.TooMany) 3 (codes "redo-log-json: baseline -: names: too many names\n")
    (codes "redo-log-json: at most 1048575 lines can be read: './-/names'\n") ∷
    fails (codes "d") (Index index_fault.OutOfMemory) 7 (codes "redo-log-json: baseline d: out of memory\n") no_memory ∷
    fails (codes "d") (Log 0 7 (stream.BadRecord 4)) 4 (codes "redo-log-json: baseline d: log.7: line 4: bad record\n")
    (codes "redo-log-json: leave this log out: sed -i '/^!*7 /d' 'd/names'\n") ∷
    fails (codes "d") (Log 2 30 stream.NotClosed) 4 (codes "redo-log-json: baseline d: log.30: not closed\n")
    (codes "redo-log-json: leave this log out: sed -i '/^!*30 /d' 'd/names'\n") ∷
    fails [] (Log 1 2 stream.Read) 5 (codes "redo-log-json: baseline : log.2: cannot be read\n")
    (codes "redo-log-json: not readable: '/log.2'; it must be a file that you may read\n") ∷
    []

these_rows : AllByRecursion Fails rows
unfolding digits
these_rows = (
  (refl, refl, refl),
  (
    (refl, refl, refl),
    (
      (refl, refl, refl),
      (
        (refl, refl, refl),
        (
          (refl, refl, refl),
          (
            (refl, refl, refl),
            (
              (refl, refl, refl),
              ((refl, refl, refl), tt),
            ),
          ),
        ),
      ),
    ),
  ),
)
