-- The command-line arguments: the job that they describe, or why they describe none.
use Rattle.std.specs.Prelude.{List, Option}
use Rattle.clap.specs.Faults.{fault_of}
use Rattle.clap.specs.Simple.{matches_of}
use Rattle.clap.specs.Walk.{Text}
use Rattle.redo_args.specs.declared.words_fault.WordsFault.{WordsFault}
use Rattle.redo_args.specs.Words.{fault_of_first}
use Rattle.redo_args.specs.JsonCommandLine.{redo_log_json}
use Rattle.redo_args.specs.JsonJob.{JsonParts, json_parts_of}

-- The job that the arguments describe, if none is rejected. `clap` finds the rows of the command line in them.
abbrev pub parse_json_parts : List Text → JsonParts
parse_json_parts words = json_parts_of (matches_of redo_log_json words)

-- Why the arguments describe no job, unless memory runs out. The contract of `clap` lists the kinds of errors that it may
-- return; for this command line it is at most one.
abbrev pub json_fault_of_words : List Text → Option WordsFault
json_fault_of_words words = fault_of_first (fault_of redo_log_json words)
