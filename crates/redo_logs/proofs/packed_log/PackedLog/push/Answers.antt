use Rattle.std.proofs.Common.{◌≡◌, length, rules}
use Rattle.redo_logs.proofs.Checkpoints.{checkpointed_next, pushed}
use Rattle.redo_logs.proofs.packed_log.PackedLog.push.Goals as goal

pub invariant_of-self-2 : goal.invariant_of-self-2
invariant_of-self-2 c =
    let items = c.self.inside.items.items in
    let size : c.len.result ≡ length items = search rules in
    let marked = checkpointed_next items c.self.inside.checkpoints.items c.add_checkpoint.new.checkpoints.items c.self.inside.entries
    c.self.invariant (rw size at c.add_checkpoint.ensures) in
    pushed items c.push.new.self.items c.add_checkpoint.new.checkpoints.items c.self.inside.entries c.count-count.result c.args.one marked
    c.in_ok-push.ensures.items c.count-count.ensures.is c.if-self-count.false
