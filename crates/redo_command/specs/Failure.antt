-- The exit status and the error message of a failure.
use Rattle.std.specs.Prelude.{◌≡◌, ℕ, ◌<◌, true, nat_eq, List, [], ◌∷◌, ◌++◌, codes, get_or, decimal}
use Rattle.std.specs.List.{list_any}
use Rattle.redo_line.specs.declared.stream_fault.StreamFault.{StreamFault}
use Rattle.redo_line.specs.declared.stream_fault.StreamFault.TheVariants as stream
use Rattle.redo_line.specs.Lines.{with_line_feed}
use Rattle.redo_command.specs.declared.baseline_fault.BaselineFault.{BaselineFault}
use Rattle.redo_command.specs.declared.baseline_fault.BaselineFault.TheVariants as baseline
use Rattle.redo_command.specs.declared.failure.Failure.{Failure}
use Rattle.redo_command.specs.declared.failure.Failure.TheVariants.{Words, NamesMissing, NamesRead, Index, Run, Memory, Baseline}
use Rattle.redo_index.specs.declared.index_fault.IndexFault.{IndexFault}
use Rattle.redo_index.specs.declared.index_fault.IndexFault.TheVariants as index
use Rattle.redo_run.specs.declared.run_fault.RunFault.TheVariants as run
use Rattle.redo_args.specs.declared.words_fault.WordsFault.TheVariants as words

abbrev pub stream_status : StreamFault → ℕ
stream_status (stream.BadRecord line) = 4
stream_status (stream.AfterClose line) = 4
stream_status stream.TooLong = 4
stream_status stream.Read = 5
stream_status stream.OutOfMemory = 7
stream_status stream.NotClosed = 4

abbrev pub index_status : IndexFault → ℕ
index_status (index.BadLine line) = 3
index_status (index.FidTwice line) = 3
index_status (index.NameTwice line) = 3
index_status index.TooMany = 3
index_status index.OutOfMemory = 7

-- The exit status for a fault of the baseline: that for the same fault of the build's own capture.
abbrev pub baseline_status : BaselineFault → ℕ
baseline_status baseline.NamesMissing = 5
baseline_status baseline.NamesRead = 5
baseline_status (baseline.Index fault) = index_status fault
baseline_status (baseline.Log position number fault) = stream_status fault

-- The program's exit status.
abbrev pub status_of : Failure → ℕ
status_of (Words words.Help) = 0
status_of (Words words.Refused) = 2
status_of (Words words.OutOfMemory) = 7
status_of NamesMissing = 5
status_of NamesRead = 5
status_of (Index fault) = index_status fault
status_of (Run (run.Unknown place)) = 24
status_of (Run (run.Stream number fault)) = stream_status fault
status_of (Run run.OutOfMemory) = 7
status_of (Run run.Write) = 6
status_of Memory = 7
status_of (Baseline fault) = baseline_status fault

-- An error message of a program, with this text.
abbrev pub message_line : List ℕ → List ℕ → List ℕ
message_line program text = program ++ codes ": " ++ with_line_feed text

-- The text of a fault in a line: `line`, its number, and what is wrong with it.
abbrev pub with_line_number : ℕ → List ℕ → List ℕ
with_line_number number text = codes "line " ++ decimal number ++ codes ": " ++ text

-- The text of a fault in the stream of the target `name`.
abbrev pub stream_fault_text : List ℕ → StreamFault → List ℕ
stream_fault_text name (stream.BadRecord line) = name ++ codes ": " ++ with_line_number line (codes "bad record")
stream_fault_text name (stream.AfterClose line) = name ++ codes ": " ++ with_line_number line (codes "after the closing record")
stream_fault_text name stream.TooLong = name ++ codes ": too long"
stream_fault_text name stream.Read = name ++ codes ": cannot be read"
stream_fault_text name stream.OutOfMemory = codes "out of memory"
stream_fault_text name stream.NotClosed = name ++ codes ": not closed"

-- The error message of a program for a fault of the index.
abbrev pub index_message : List ℕ → IndexFault → List ℕ
index_message program (index.BadLine line) = message_line program (codes "names: " ++ with_line_number line (codes "bad line"))
index_message program (index.FidTwice line) = message_line program (codes "names: " ++ with_line_number line (codes "number listed twice"))
index_message program (index.NameTwice line) = message_line program (codes "names: " ++ with_line_number line (codes "name listed twice"))
index_message program index.TooMany = message_line program (codes "names: too many names")
index_message program index.OutOfMemory = message_line program (codes "out of memory")

-- The error message for a fault of a baseline. It begins with the program's name and the baseline's.
abbrev pub baseline_message : List ℕ → BaselineFault → List ℕ
baseline_message names baseline.NamesMissing = message_line names (codes "names: cannot be read")
baseline_message names baseline.NamesRead = message_line names (codes "names: cannot be read")
baseline_message names (baseline.Index fault) = index_message names fault
baseline_message names (baseline.Log position number fault) =
    message_line names (stream_fault_text (codes "log." ++ decimal number) fault)

-- The error message of a program for a failure. `dir` is the capture directory that the failure is about. `targets` are the targets
-- of the index, and `arguments` are the arguments that request some of them. Help is not a fault and has no error message.
abbrev pub failure_message_as : List ℕ → List ℕ → List (List ℕ) → List (List ℕ) → Failure → List ℕ
failure_message_as program dir targets arguments (Words words.Help) = []
failure_message_as program dir targets arguments (Words words.Refused) = message_line program (codes "bad command line")
failure_message_as program dir targets arguments (Words words.OutOfMemory) = message_line program (codes "out of memory")
failure_message_as program dir targets arguments NamesMissing = message_line program (codes "names: cannot be read")
failure_message_as program dir targets arguments NamesRead = message_line program (codes "names: cannot be read")
failure_message_as program dir targets arguments (Index fault) = index_message program fault
failure_message_as program dir targets arguments (Run (run.Unknown place)) = message_line program (get_or arguments place [] ++ codes ": not known")
failure_message_as program dir targets arguments (Run (run.Stream number fault)) = message_line program (stream_fault_text (get_or targets number []) fault)
failure_message_as program dir targets arguments (Run run.OutOfMemory) = message_line program (codes "out of memory")
failure_message_as program dir targets arguments (Run run.Write) = message_line program (codes "cannot write")
failure_message_as program dir targets arguments Memory = message_line program (codes "out of memory")
failure_message_as program dir targets arguments (Baseline fault) = baseline_message (program ++ codes ": baseline " ++ dir) fault

-- `P` holds of the number of the stream, if the failure is the fault of a stream.
abbrev pub IfStreamFailure : Failure → (ℕ → Type 0) → Type 0
IfStreamFailure (Run (run.Stream number fault)) P = P number
IfStreamFailure other P = Unit {0}

-- `P` holds of the position of the argument, if the failure is an unknown argument.
abbrev pub IfUnknownFailure : Failure → (ℕ → Type 0) → Type 0
IfUnknownFailure (Run (run.Unknown place)) P = P place
IfUnknownFailure other P = Unit {0}

-- Whether the error message of a failure can be written, for an index with this number of targets and for this number of arguments: the
-- stream and the argument that the failure names are among them.
abbrev pub IsReportable : ℕ → ℕ → Failure → Type 0
IsReportable targets arguments failure =
    IfStreamFailure failure (λ number. number < targets) × IfUnknownFailure failure (λ place. place < arguments)

-- Whether the failure is neither the fault of a stream nor an unknown argument, so that its message needs no index.
abbrev pub IsBeforeRun : Failure → Type 0
IsBeforeRun failure = IfStreamFailure failure (λ _. ⊥) × IfUnknownFailure failure (λ _. ⊥)

-- Whether the failure is one of reading the file `names`, or an allocation failed.
abbrev pub IsIndexFailure : Failure → Type 0
IsIndexFailure NamesMissing = Unit {0}
IsIndexFailure NamesRead = Unit {0}
IsIndexFailure (Index fault) = Unit {0}
IsIndexFailure Memory = Unit {0}
IsIndexFailure other = ⊥

-- Whether the program may exit with this status.
abbrev pub IsStatus : ℕ → Type 0
IsStatus status = list_any (nat_eq status) (0 ∷ 2 ∷ 3 ∷ 4 ∷ 5 ∷ 6 ∷ 7 ∷ 24 ∷ []) ≡ true
