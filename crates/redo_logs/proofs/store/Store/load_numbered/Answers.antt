use Rattle.std.proofs.Common.{rules}
use Rattle.redo_logs.proofs.TextLines.{no_mention}
use Rattle.redo_logs.proofs.store.Store.load_numbered.Goals as goal

pub returns-in-Mention-clause-numbered : goal.returns-in-Mention-clause-numbered
returns-in-Mention-clause-numbered c = search rules

pub returns-in_default : goal.returns-in_default
returns-in_default c = record {
  denotes = c.load.ensures;
  numbered = no_mention c.args.self.now c.args.packed c.args.place _
      (λ pid how name is. c.in_default.not-Mention pid how name is) c.load.ensures;
}
