-- The result of a run: the text of the requested targets, or the fault.
use Rattle.std.specs.Prelude.{ℕ, List, Option, None, Some, Result, Ok, Err, is_none, option_and_then, position, filter_map, if◌then◌else◌}
use Rattle.std.specs.Option.{option_map}
use Rattle.std.specs.Global.{Vec}
use Rattle.redo_device.specs.Feed.{Stream}
use Rattle.redo_line.specs.Source.{StreamInput}
use Rattle.redo_name.specs.Names.{normal}
use Rattle.redo_logs.specs.Logs.{Log}
use Rattle.redo_gather.specs.Streams.{logs_of, fault_among}
use Rattle.redo_options.specs.declared.options.Options.{Options}
use Rattle.redo_options.specs.Arguments.{argument_bytes}
use Rattle.redo_view.specs.Expansion.{is_among, expansion}
use Rattle.redo_run.specs.declared.run_fault.RunFault.{RunFault}
use Rattle.redo_run.specs.declared.run_fault.RunFault.TheVariants as fault
use Rattle.redo_index.specs.declared.index_entry.IndexEntry.{IndexEntry}
use Rattle.redo_index.specs.Index.{listed_targets}

-- The request of a run: all targets, the maximum number of bytes of a stream, the options of the text, and the arguments that name
-- the requested targets.
pub record Request : Type 0 where
  pub targets : List (List ℕ)
  pub max_bytes : ℕ
  pub options : Options
  pub arguments : List (List ℕ)

abbrev pub request : List IndexEntry → ℕ → Options → List (Vec ℕ) → Request
request index max_bytes options arguments = record { targets = listed_targets index; max_bytes = max_bytes; options = options; arguments = argument_bytes arguments }

-- The target that an argument names, if it is one of `targets`. An empty argument names none.
abbrev pub find_target : List (List ℕ) → List ℕ → Option (List ℕ)
find_target targets argument = option_and_then (λ (name : List ℕ). if is_among name targets then Some name else None) (normal None argument)

-- The position of the first argument that names none of `targets`; none if all name one.
abbrev pub unknown_argument : List (List ℕ) → List (List ℕ) → Option ℕ
unknown_argument targets arguments = position (λ argument. is_none (find_target targets argument)) arguments

-- The targets that the arguments name, in order.
abbrev pub find_targets : List (List ℕ) → List (List ℕ) → List (List ℕ)
find_targets targets arguments = filter_map (find_target targets) arguments

-- The fault, if there is one, as the result; otherwise the result `other`.
abbrev pub fault_or : Option RunFault → Option (Result (List ℕ) RunFault) → Option (Result (List ℕ) RunFault)
fault_or None other = other
fault_or (Some fault) other = Some (Err fault)

-- The result of a run with these streams of its targets. It is the first unknown argument, if there is one. Otherwise it is the
-- lowest-numbered stream that has a fault, with the fault. Otherwise it is the expansion of the streams' logs at the requested
-- targets.
abbrev pub result_of : Request → List (StreamInput Stream) → Option (Result (List ℕ) RunFault)
result_of request streams =
    fault_or (option_map fault.Unknown (unknown_argument request.targets request.arguments))
    (fault_or (option_map (λ found. fault.Stream found.0 found.1) (fault_among request.max_bytes request.targets streams))
    (option_map (λ (logs : List Log). Ok (expansion logs request.options (find_targets request.targets request.arguments)))
    (logs_of request.max_bytes request.targets streams)))
