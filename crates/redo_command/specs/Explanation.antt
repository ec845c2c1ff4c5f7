-- What to do about a failure: a line that may follow its error message.
use Rattle.std.specs.Prelude.{◌≡◌, ℕ, ◌==◌, nat_eq, leb, List, [], ◌∷◌, ◌++◌, Option, None, Some, Result, Ok, Err, take, length, codes, decimal, get_or, if◌then◌else◌}
use Rattle.std.specs.List.{ends_with, filter, flat_map, starts_with}
use Rattle.clap.specs.Simple.{App}
use Rattle.redo_args.specs.Rejection.{rejection}
use Rattle.redo_args.specs.declared.words_fault.WordsFault.{WordsFault}
use Rattle.redo_args.specs.declared.words_fault.WordsFault.TheVariants as words
use Rattle.redo_index.specs.declared.index_entry.IndexEntry.{IndexEntry}
use Rattle.redo_index.specs.declared.index_fault.IndexFault.{IndexFault}
use Rattle.redo_index.specs.declared.index_fault.IndexFault.TheVariants as index
use Rattle.redo_index.specs.Index.{listed_targets, numbers_of}
use Rattle.redo_line.specs.declared.stream_fault.StreamFault.{StreamFault}
use Rattle.redo_line.specs.declared.stream_fault.StreamFault.TheVariants as stream
use Rattle.redo_run.specs.declared.run_fault.RunFault.TheVariants as run
use Rattle.redo_command.specs.declared.baseline_fault.BaselineFault.{BaselineFault}
use Rattle.redo_command.specs.declared.baseline_fault.BaselineFault.TheVariants as baseline
use Rattle.redo_command.specs.declared.error_keeper.WriteError.{WriteError}
use Rattle.redo_command.specs.declared.error_keeper.WriteError.TheVariants.{ClosedPipe, NoSpace, Other, QuotaExceeded}
use Rattle.redo_command.specs.declared.failure.Failure.{Failure}
use Rattle.redo_command.specs.declared.failure.Failure.TheVariants.{Baseline, Index, Memory, NamesMissing, NamesRead, Run, Words}
use Rattle.redo_command.specs.Failure.{message_line}

-- ---- a path for a shell

abbrev pub quoted_byte : ℕ → List ℕ
quoted_byte byte = if byte == 39 then codes "'\\''" else byte ∷ []

-- The path of a file of a capture directory as a word of a shell. With `-` in front it would be an option.
abbrev pub file_word : List ℕ → List ℕ → List ℕ
file_word dir file =
    codes "'" ++ (if starts_with nat_eq dir (codes "-") then codes "./" else []) ++ flat_map quoted_byte dir ++ codes "/" ++ file ++ codes "'"

abbrev pub names_word : List ℕ → List ℕ
names_word dir = file_word dir (codes "names")

-- ---- an unknown target

-- The targets that end with a name.
abbrev pub ending_with : List ℕ → List (List ℕ) → List (List ℕ)
ending_with name targets = filter (λ target. ends_with nat_eq target name) targets

abbrev pub or_if_none : List (List ℕ) → List (List ℕ) → List (List ℕ)
or_if_none [] others = others
or_if_none (name ∷ names) others = name ∷ names

-- Up to five targets that a name may mean: those whose last segments it is. If there are none, those that end with it.
abbrev pub suggestions : List ℕ → List (List ℕ) → List (List ℕ)
suggestions name targets = or_if_none (take 5 (ending_with (codes "/" ++ name) targets)) (take 5 (ending_with name targets))

-- Whether a target ends with a name.
abbrev pub EndsWith : List ℕ → List ℕ → Type 0
EndsWith name target = (front : List ℕ) × (target ≡ front ++ name)

-- Names, each but the first after a comma.
abbrev pub listed : List (List ℕ) → List ℕ
listed [] = []
listed (name ∷ names) = name ++ flat_map (λ next. codes ", " ++ next) names

-- How many targets there are, and the command that shows them.
abbrev pub targets_remedy : List ℕ → ℕ → List ℕ
targets_remedy dir count = codes "targets: " ++ decimal count ++ codes "; list them: cut -d ' ' -f 2- " ++ names_word dir

-- The remedy for an unknown target: the suggestions for it, or otherwise the number of targets.
abbrev pub unknown_remedy : List ℕ → ℕ → List (List ℕ) → List ℕ
unknown_remedy dir count [] = targets_remedy dir count
unknown_remedy dir count (name ∷ names) = codes "did you mean " ++ listed (name ∷ names)

-- ---- memory

-- The remedy if memory ran out.
abbrev pub memory_remedy : List ℕ
memory_remedy = codes "no memory or no thread was left; --senders 1 needs the least, and ulimit -v shows a limit on memory"

-- ---- the output

-- The remedy if the file with this path can't be created or replaced.
abbrev pub unwritable : List ℕ → List ℕ
unwritable output =
    codes "not writable: '" ++ flat_map quoted_byte output
    ++ codes "'; it must be a file in a directory that exists, and you must be allowed to write there"

-- The remedy if the text wasn't written to the output with this path, by the error of the last failed write, if there was one.
abbrev pub write_remedy : List ℕ → Option WriteError → List ℕ
write_remedy output None = unwritable output
write_remedy output (Some NoSpace) = codes "no space is left where the output is written; df -h shows how full each disk is"
write_remedy output (Some QuotaExceeded) = codes "your disk quota is used up where the output is written; quota -s shows it"
write_remedy output (Some ClosedPipe) = codes "what reads the output ended early; sed -n 1,10p, unlike head, reads all of it"
write_remedy output (Some Other) = []

-- ---- the file `names`

-- The remedy if `names` can't be read.
abbrev pub unreadable_names : List ℕ → List ℕ
unreadable_names dir =
    codes "not readable: " ++ names_word dir ++ codes "; it must be a file of at most 1073741824 bytes that you may read"

-- The command that removes this line from `names`.
abbrev pub leave_line_out : List ℕ → ℕ → List ℕ
leave_line_out dir line = codes "leave this line out: sed -i " ++ decimal line ++ codes "d " ++ names_word dir

-- The remedy for a fault of `names`.
abbrev pub index_remedy : List ℕ → IndexFault → List ℕ
index_remedy dir (index.BadLine line) = leave_line_out dir line
index_remedy dir (index.FidTwice line) = leave_line_out dir line
index_remedy dir (index.NameTwice line) = leave_line_out dir line
index_remedy dir index.TooMany = codes "at most 1048575 lines can be read: " ++ names_word dir
index_remedy dir index.OutOfMemory = memory_remedy

-- ---- a log

-- The command that removes the log with this number from `names`.
abbrev pub leave_out : List ℕ → ℕ → List ℕ
leave_out dir number = codes "leave this log out: sed -i '/^!*" ++ decimal number ++ codes " /d' " ++ names_word dir

-- The remedy if the log with this number can't be read.
abbrev pub unreadable_log : List ℕ → ℕ → List ℕ
unreadable_log dir number =
    codes "not readable: " ++ file_word dir (codes "log." ++ decimal number) ++ codes "; it must be a file that you may read"

-- How many logs may be open when another one can't be read. Those that are missing aren't.
abbrev pub open_logs : ℕ → List ℕ
open_logs count = codes "; up to " ++ decimal count ++ codes " others are open, and ulimit -n shows how many files may be"

-- The remedy if a log can't be read. `position` is the number of the logs before it, which may be open. From 16 on, the limit on open files
-- may be met.
abbrev pub read_remedy : List ℕ → ℕ → ℕ → List ℕ
read_remedy dir position number = if leb 16 position then unreadable_log dir number ++ open_logs position else unreadable_log dir number

-- The remedy for the fault of a log with this number, at this position of the index.
abbrev pub stream_remedy : List ℕ → ℕ → ℕ → StreamFault → List ℕ
stream_remedy dir position number stream.Read = read_remedy dir position number
stream_remedy dir position number stream.OutOfMemory = memory_remedy
stream_remedy dir position number other = leave_out dir number

-- ---- a baseline

-- The remedy for a fault of the baseline with this directory.
abbrev pub baseline_remedy : List ℕ → BaselineFault → List ℕ
baseline_remedy dir baseline.NamesMissing =
    codes "no file " ++ names_word dir ++ codes "; --baseline takes the capture directory of an earlier build"
baseline_remedy dir baseline.NamesRead = unreadable_names dir
baseline_remedy dir (baseline.Index fault) = index_remedy dir fault
baseline_remedy dir (baseline.Log position number fault) = stream_remedy dir position number fault

-- ---- any failure

-- The remedy for a failure to show logs: empty if none is known. `dir` is the capture directory that the failure is about, and `output` the
-- path of the output. `write_error` is the error of the last failed write, if there was one.
abbrev pub remedy : List ℕ → List ℕ → Option WriteError → List IndexEntry → List (List ℕ) → Failure → List ℕ
remedy dir output write_error index arguments (Words fault) = []
remedy dir output write_error index arguments NamesMissing =
    codes "no file " ++ names_word dir ++ codes "; without --dir DIR, a capture is looked for here, in .redo-log and in capture"
remedy dir output write_error index arguments NamesRead = unreadable_names dir
remedy dir output write_error index arguments (Index fault) = index_remedy dir fault
remedy dir output write_error index arguments (Run (run.Unknown place)) =
    unknown_remedy dir (length index) (suggestions (get_or arguments place []) (listed_targets index))
remedy dir output write_error index arguments (Run (run.Stream position fault)) =
    stream_remedy dir position (get_or (numbers_of index) position 0) fault
remedy dir output write_error index arguments (Run run.OutOfMemory) = memory_remedy
remedy dir output write_error index arguments (Run run.Write) = write_remedy output write_error
remedy dir output write_error index arguments Memory = memory_remedy
remedy dir output write_error index arguments (Baseline fault) = baseline_remedy dir fault

-- A line with this text; nothing without one.
abbrev pub explanation_line : List ℕ → List ℕ → List ℕ
explanation_line program [] = []
explanation_line program (byte ∷ text) = message_line program (byte ∷ text)

-- The explanation of a program for a failure to show logs. `dir` is the capture directory that the failure is about, and `arguments`
-- request targets of the index.
abbrev pub explanation_as : List ℕ → List ℕ → List ℕ → Option WriteError → List IndexEntry → List (List ℕ) → Failure → List ℕ
explanation_as program dir output write_error index arguments failure =
    explanation_line program (remedy dir output write_error index arguments failure)

-- The explanation of an outcome: none if the whole text was written.
abbrev pub outcome_explanation_as :
    List ℕ → List ℕ → List ℕ → Option WriteError → List IndexEntry → List (List ℕ) → Result (Unit {0}) Failure → List ℕ
outcome_explanation_as program dir output write_error index arguments (Ok done) = []
outcome_explanation_as program dir output write_error index arguments (Err failure) =
    explanation_as program dir output write_error index arguments failure

-- ---- command-line arguments

-- The explanation of a program that its arguments are rejected for this reason.
abbrev pub arguments_explanation : List ℕ → List ℕ → List ℕ
arguments_explanation program reason = message_line program (reason ++ codes "; try --help")

-- Why arguments are rejected, if there are at most 1,000.
abbrev pub rejection_explanation : List ℕ → App → List (List ℕ) → List ℕ
rejection_explanation program app arguments =
    if leb (length arguments) 1000 then arguments_explanation program (rejection app arguments) else []

-- The explanation of a program for arguments that describe no job.
abbrev pub fault_explanation_as : List ℕ → App → List (List ℕ) → WordsFault → List ℕ
fault_explanation_as program app arguments words.Help = []
fault_explanation_as program app arguments words.Refused = rejection_explanation program app arguments
fault_explanation_as program app arguments words.OutOfMemory = message_line program memory_remedy
