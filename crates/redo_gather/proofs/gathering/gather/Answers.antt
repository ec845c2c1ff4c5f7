use Rattle.std.proofs.Common.{◌≡◌, length, zip, sym, ◌∙◌, arith}
use Rattle.std.proofs.lemmas.Result.{err_from_is_err_and}
use Rattle.redo_gather.specs.Streams.{known_input}
use Rattle.redo_gather.proofs.EnteredLemmas.{begins_empty, gathered_of, has_room, one_for_each}
use Rattle.redo_gather.proofs.GatheredLemmas.{none_requested}
use Rattle.redo_gather.proofs.FlagLemmas.{count_zip}
use Rattle.redo_gather.proofs.gathering.gather.Goals as goal

pub new_table-requires : goal.new_table-requires
new_table-requires g c = record { distinct = c.requires.distinct; size = c.requires.size }

pub returns-in_err-table : goal.returns-in_err-table
returns-in_err-table g c =
    let given = err_from_is_err_and c.from_residual.result c.from_residual.ensures.1 in
    rw (given.1, given.2) (record {
      gathered = record { logs = tt; targets = tt; ended = tt; fault = tt; number = tt };
      never_out_of_memory = tt;
    })

pub returns-then-senders-eq0 : goal.returns-then-senders-eq0
returns-then-senders-eq0 g c =
    let empty : length c.in_ok-table.table ≡ 0 =
    omega (arith, c.senders.ensures.limits, c.len.ensures.len, c.min-senders.ensures, c.if-senders-eq0.true) in
    let gathered = none_requested (known_input g.R.Feed.contents) c.args.plan.now.max_bytes c.args.names.items
    (zip c.args.flags.items c.args.readers.items) c.in_ok-table.table c.in_ok-table.ensures
    (count_zip c.args.flags.items c.args.readers.items (c.requires.readers ∙ sym c.requires.flags) ∙ c.requires.readers) empty in
    record { gathered = gathered; never_out_of_memory = tt }

pub zip_flags-requires : goal.zip_flags-requires
zip_flags-requires g c = c.requires.readers ∙ sym c.requires.flags

pub returns-in_err-readers : goal.returns-in_err-readers
returns-in_err-readers g c =
    let given = err_from_is_err_and c.from_residual-in_err-readers.result c.from_residual-in_err-readers.ensures.1 in
    rw (given.1, given.2) (record {
      gathered = record { logs = tt; targets = tt; ended = tt; fault = tt; number = tt };
      never_out_of_memory = tt;
    })

pub gather_by-requires-clause-begins : goal.gather_by-requires-clause-begins
gather_by-requires-clause-begins g c κs within = begins_empty c.args.names.items c.in_ok-table.table c.in_ok-table.ensures

pub gather_by-requires-clause-readers : goal.gather_by-requires-clause-readers
gather_by-requires-clause-readers g c κs within =
    one_for_each c.args.names.items c.in_ok-table.table c.in_ok-table.ensures _ c.args.flags.items c.args.readers.items _
    c.in_ok-readers.ensures c.requires.flags c.requires.readers

pub gather_by-requires-clause-size : goal.gather_by-requires-clause-size
gather_by-requires-clause-size g c κs within = has_room c.args.names.items c.in_ok-table.table c.in_ok-table.ensures c.requires.size

pub gather_by-requires-clause-senders : goal.gather_by-requires-clause-senders
gather_by-requires-clause-senders g c κs within =
    let limits = c.senders.ensures.limits in (
      omega (arith, c.if-senders-eq0.false),
      omega (arith, limits.1, c.min-senders.ensures),
    )

pub returns : goal.returns
returns g c = record {
  gathered =
      gathered_of c.args.names.items c.in_ok-table.table c.in_ok-table.ensures _ c.args.flags.items c.args.readers.items _
      c.in_ok-readers.ensures
      g.R.Feed.contents c.args.plan.now.max_bytes c.gather_by.result c.gather_by.ensures.gathered;
  never_out_of_memory = c.gather_by.ensures.never_out_of_memory;
}
