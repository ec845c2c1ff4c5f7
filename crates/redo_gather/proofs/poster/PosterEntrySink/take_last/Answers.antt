use Rattle.std.proofs.Common.{[], ◌∷◌}
use Rattle.redo_gather.proofs.PostedLemmas.{entries_posted}
use Rattle.redo_gather.proofs.poster.PosterEntrySink.take_last.Goals as goal

pub returns-clause-taken : goal.returns-clause-taken
returns-clause-taken g c before earlier taken = (
  taken.0,
  entries_posted before.stream c.args.self.now.stream before.end c.args.self.now.end c.post.new.end earlier
      (c.args.last ∷ []) taken.0 taken.1 c.post.ensures,
)
