use Rattle.std.proofs.Common.{ℕ, List, Result, Err, subst}
use Rattle.redo_logs.specs.Logs.{Log}
use Rattle.redo_gather.specs.declared.gather_fault.GatherFault.{GatherFault}
use Rattle.redo_gather.specs.GatherFault.{IfStreamFault}
use Rattle.redo_gather.specs.Streams.{AreLogsOfReaders, IsLowestFault, known_inputs}
use Rattle.redo_command.specs.NamesFile.{byte_limit}
use Rattle.redo_command.proofs.BaselineLemmas.{of_listed}
use Rattle.redo_command.proofs.baseline.read_logs.Goals as goal

abbrev failed : GatherFault → Result (List Log) GatherFault
failed fault = Err fault

pub returns-in-Ok : goal.returns-in-Ok
returns-in-Ok g c =
    of_listed g.L.Log.Feed.contents (g.L.OpenLog.known c.args.logs.now) c.args.index.now c.in_ok-flags.flags.items
    c.in_ok-readers.readers.items _ c.in_ok-flags.ensures c.in_ok-readers.ensures.given
    (subst (λ (names : List (List ℕ)). AreLogsOfReaders byte_limit names
    (known_inputs g.L.Log.Feed.contents c.in_ok-flags.flags.items c.in_ok-readers.readers.items) c.in-Ok.table)
    c.in_ok-names.ensures.names c.in-Ok.ensures.gathered.logs)

pub returns-in-Err-Stream : goal.returns-in-Err-Stream
returns-in-Err-Stream g c =
    let inputs = known_inputs g.L.Log.Feed.contents c.in_ok-flags.flags.items c.in_ok-readers.readers.items in
    let lowest = subst (λ (fault : GatherFault). IfStreamFault (failed fault) (IsLowestFault byte_limit c.in_ok-names.names.items inputs))
    c.in-Err-Stream.field-0-is c.in-Err-Stream.ensures.gathered.fault in (
      of_listed g.L.Log.Feed.contents (g.L.OpenLog.known c.args.logs.now) c.args.index.now c.in_ok-flags.flags.items
          c.in_ok-readers.readers.items _ c.in_ok-flags.ensures c.in_ok-readers.ensures.given
          (subst (λ (names : List (List ℕ)). IsLowestFault byte_limit names inputs c.in-Err-Stream.number c.in-Err-Stream.fault)
          c.in_ok-names.ensures.names lowest),
      c.fid.ensures,
    )
