use Rattle.std.proofs.Common.{map}
use Rattle.std.specs.String.{string_bytes}
use Rattle.redo_args.proofs.ErrorLemmas.{map_err_if_ok}
use Rattle.redo_args.proofs.ParseLemmas.{converted_entries, converted_fault, converted_no_fault, parsed_if_ok}
use Rattle.redo_args.proofs.parsing.parse.Goals as goal

pub returns-clause-no_fault : goal.returns-clause-no_fault
returns-clause-no_fault g c =
    let parse = c.try_get_matches_from_mut-found in
    converted_no_fault (g.C.CommandLine.app c.args.command_line.now) c.is_exact.ensures.exact c.in_ok-command.command
    c.in_ok-command.ensures (map string_bytes c.args.words.now) parse.result _ c.map_err.result c.map_err.ensures.cases parse.ensures.kinds

pub returns-clause-entries : goal.returns-clause-entries
returns-clause-entries g c =
    let parse = c.try_get_matches_from_mut-found in
    converted_entries (g.C.CommandLine.app c.args.command_line.now) c.is_exact.ensures.exact c.in_ok-command.command
    c.in_ok-command.ensures (map string_bytes c.args.words.now) parse.result _ c.map_err.result c.map_err.ensures.cases _ _
    parse.ensures.ok

pub returns-clause-parsed : goal.returns-clause-parsed
returns-clause-parsed g c =
    let parse = c.try_get_matches_from_mut-found in
    map_err_if_ok parse.result _ c.map_err.result c.map_err.ensures.cases _
    (parsed_if_ok (g.C.CommandLine.app c.args.command_line.now) parse.result c.in_ok-command.command parse.new.self _
    c.in_ok-command.ensures parse.ensures.after parse.ensures.fails parse.ensures.ok)

pub returns-clause-fault : goal.returns-clause-fault
returns-clause-fault g c =
    let parse = c.try_get_matches_from_mut-found in
    let words = map string_bytes c.args.words.now in
    converted_fault (g.C.CommandLine.app c.args.command_line.now) c.is_exact.ensures.exact c.in_ok-command.command
    c.in_ok-command.ensures words parse.result _ c.map_err.result c.map_err.ensures.cases parse.ensures.kinds
    (c.is_exact.ensures.one_kind words) (λ e fault is. is)
