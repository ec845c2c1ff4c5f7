-- The command-line arguments: the job that they describe, or why they describe none.
use Rattle.std.specs.Prelude.{List, [], ◌∷◌, Option, None, Some}
use Rattle.clap.specs.Faults.{fault_of}
use Rattle.clap.specs.Kinds.{Kinds}
use Rattle.clap.specs.Simple.{matches_of}
use Rattle.clap.specs.Walk.{Text}
use Rattle.clap.specs.declared.error.kind.ErrorKind.{ErrorKind}
use Rattle.clap.specs.declared.error.kind.ErrorKind.TheVariants as kind
use Rattle.redo_args.specs.declared.words_fault.WordsFault.{WordsFault}
use Rattle.redo_args.specs.declared.words_fault.WordsFault.TheVariants.{Help, Refused, OutOfMemory}
use Rattle.redo_args.specs.CommandLine.{redo_log}
use Rattle.redo_args.specs.Job.{JobParts, parts_of}

-- The job that the arguments describe, if none is rejected. `clap` finds the rows of the command line in them.
abbrev pub parse_parts : List Text → JobParts
parse_parts words = parts_of (matches_of redo_log words)

-- The fault as which an error of `clap` is reported.
abbrev pub fault_of_kind : ErrorKind → WordsFault
fault_of_kind kind.DisplayHelp = Help
fault_of_kind kind.OutOfMemory = OutOfMemory
fault_of_kind other = Refused

-- The fault as which the first of these kinds of errors is reported; none if there is no error.
abbrev pub fault_of_first : Kinds → Option WordsFault
fault_of_first [] = None
fault_of_first (kind ∷ kinds) = Some (fault_of_kind kind)

-- Why the arguments describe no job, unless memory runs out. The contract of `clap` lists the kinds of errors that it may
-- return; for this command line it is at most one.
abbrev pub fault_of_words : List Text → Option WordsFault
fault_of_words words = fault_of_first (fault_of redo_log words)
