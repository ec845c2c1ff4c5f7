use Rattle.std.proofs.Common.{map, sym, subst}
use Rattle.redo_gather.specs.Sending.{HasSent, numbered_source}
use Rattle.redo_gather.proofs.gathering.spawn_sender.Goals as goal

pub spawn_with-requires-clause-keeps : goal.spawn_with-requires-clause-keeps
spawn_with-requires-clause-keeps g c κs within end sent =
    subst (λ sender. HasSent sender.max_bytes (map (numbered_source g.R.Feed.contents) sender.share.items) sender.end end)
    (sym c.of.ensures) sent
