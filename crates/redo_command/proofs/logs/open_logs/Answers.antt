use Rattle.std.proofs.Common.{◌+◌, map, take, arith, sym, subst}
use Rattle.std.proofs.lemmas.List.{take_all, length-append}
use Rattle.redo_command.specs.Logs.{AllGive, known_logs}
use Rattle.redo_command.proofs.LogLemmas.{give_next, known_logs-length}
use Rattle.redo_command.proofs.logs.open_logs.Goals as goal

pub loop-i-preserved : goal.loop-i-preserved
loop-i-preserved g c =
    let holds = c.loop-i.invariant in
    let known = g.L.OpenLog.known c.args.logs.now in
    let more = give_next g.L.Log.Feed.contents known c.args.index.now c.loop-i.i c.fid.result c.loop-i.readers.items c.in_ok-open.field-0
    c.fid.ensures holds.2 c.in_ok-open.ensures in (
      search (arith, length-append),
      search arith,
      subst (λ items. AllGive (take (c.loop-i.i + 1) (known_logs known c.args.index.now)) (map g.L.Log.Feed.contents items))
          (sym c.in_ok-push.ensures.items) more,
    )

pub returns-clause-given : goal.returns-clause-given
returns-clause-given g c =
    let logs = known_logs (g.L.OpenLog.known c.args.logs.now) c.args.index.now in
    subst (λ known. AllGive known (map g.L.Log.Feed.contents c.loop-i.readers.items))
    (take_all c.loop-i.i logs (omega (arith, known_logs-length (g.L.OpenLog.known c.args.logs.now) c.args.index.now))) c.loop-i.invariant.2
