use Rattle.std.proofs.Common.{◌≢◌, List, Ok, sym, ◌∙◌}
use Rattle.std.specs.Result.{result_and}
use Rattle.std.proofs.lemmas.Result.{err_from_is_err_and}
use Rattle.redo_line.specs.declared.stream_fault.StreamFault.TheVariants.{OutOfMemory}
use Rattle.redo_logs.specs.Logs.{Log}
use Rattle.redo_gather.proofs.EnteredLemmas.{begins_empty, gathered_of, has_room, one_for_each}
use Rattle.redo_gather.proofs.GatheredLemmas.{fault_of_and}
use Rattle.redo_gather.proofs.plain.gather_plain.Goals as goal

pub returns-in_err-buffer : goal.returns-in_err-buffer
returns-in_err-buffer g c =
    let given = err_from_is_err_and c.from_residual.result c.from_residual.ensures.1 in
    rw (given.1, given.2) (record {
      gathered = record { logs = tt; targets = tt; ended = tt; fault = tt; number = tt };
      never_out_of_memory = tt;
    })

pub new_table-requires : goal.new_table-requires
new_table-requires g c = record { distinct = c.requires.distinct; size = c.requires.size }

pub returns-in_err-table : goal.returns-in_err-table
returns-in_err-table g c =
    let given = err_from_is_err_and c.from_residual-in_err-table.result c.from_residual-in_err-table.ensures.1 in
    rw (given.1, given.2) (record {
      gathered = record { logs = tt; targets = tt; ended = tt; fault = tt; number = tt };
      never_out_of_memory = tt;
    })

pub gather_into-requires-clause-begins : goal.gather_into-requires-clause-begins
gather_into-requires-clause-begins g c = begins_empty c.args.names.items c.in_ok-table.table c.in_ok-table.ensures

pub gather_into-requires-clause-readers : goal.gather_into-requires-clause-readers
gather_into-requires-clause-readers g c =
    one_for_each c.args.names.items c.in_ok-table.table c.in_ok-table.ensures _ c.args.flags.items c.args.readers.items _
    c.in_ok-readers.ensures c.requires.flags c.requires.readers

pub zip_flags-requires : goal.zip_flags-requires
zip_flags-requires g c = c.requires.readers ∙ sym c.requires.flags

pub returns-in_err-readers : goal.returns-in_err-readers
returns-in_err-readers g c =
    let given = err_from_is_err_and c.from_residual-in_err-readers.result c.from_residual-in_err-readers.ensures.1 in
    rw (given.1, given.2) (record {
      gathered = record { logs = tt; targets = tt; ended = tt; fault = tt; number = tt };
      never_out_of_memory = tt;
    })

pub gather_into-requires-clause-size : goal.gather_into-requires-clause-size
gather_into-requires-clause-size g c = has_room c.args.names.items c.in_ok-table.table c.in_ok-table.ensures c.requires.size

pub returns : goal.returns
returns g c =
    let result = result_and c.gather_into.result (Ok c.gather_into.new.table) in
    let gathered = gathered_of c.args.names.items c.in_ok-table.table c.in_ok-table.ensures _ c.args.flags.items c.args.readers.items _
    c.in_ok-readers.ensures
    g.R.Feed.contents c.args.max_bytes result c.gather_into.ensures.gathered in
    rw c.and.ensures
    (record {
      gathered = gathered;
      never_out_of_memory = fault_of_and (Unit {0}) (List Log)
          (λ number fault. fault ≢ OutOfMemory) c.gather_into.result c.gather_into.new.table c.gather_into.ensures.never_out_of_memory;
    })
