use Rattle.std.proofs.Common.{◌-◌, ◌≤◌, length, take, drop, arith, ap}
use Rattle.std.proofs.lemmas.List.{take_rest, length-drop}
use Rattle.redo_device.proofs.SinkLemmas.{pushed_more}
use Rattle.redo_device.proofs.sink.push_all.Goals as goal

pub loop-done-preserved : goal.loop-done-preserved
loop-done-preserved g c =
    let bytes = c.args.bytes.now in
    let left = take (length bytes - c.loop-done.done) (drop c.loop-done.done bytes) in
    let rest_is = take_rest bytes c.loop-done.done in
    let within : c.in_ok-n.n ≤ length left = c.in_ok-n.ensures.bound in (
      omega (arith, ap length rest_is, length-drop c.loop-done.done bytes),
      pushed_more (g.W.Sink.written c.args.out.now) (g.W.Sink.written c.loop-done.out)
          (g.W.Sink.written c.push.new.self) bytes left c.loop-done.done c.in_ok-n.n rest_is
          (λ none. omega arith) c.loop-done.invariant.1 c.in_ok-n.ensures.takes,
    )
