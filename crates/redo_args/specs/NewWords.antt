-- The command-line arguments: the job that they describe, or why they describe none.
use Rattle.std.specs.Prelude.{List, Option}
use Rattle.clap.specs.Faults.{fault_of}
use Rattle.clap.specs.Simple.{matches_of}
use Rattle.clap.specs.Walk.{Text}
use Rattle.redo_args.specs.declared.words_fault.WordsFault.{WordsFault}
use Rattle.redo_args.specs.Words.{fault_of_first}
use Rattle.redo_args.specs.NewCommandLine.{redo_log_new}
use Rattle.redo_args.specs.NewJob.{NewParts, new_parts_of}

-- The job that the arguments describe, if none is rejected. `clap` finds the rows of the command line in them.
abbrev pub parse_new_parts : List Text → NewParts
parse_new_parts words = new_parts_of (matches_of redo_log_new words)

-- Why the arguments describe no job, unless memory runs out. The contract of `clap` lists the kinds of errors that it may
-- return; for this command line it is at most one.
abbrev pub new_fault_of_words : List Text → Option WordsFault
new_fault_of_words words = fault_of_first (fault_of redo_log_new words)
