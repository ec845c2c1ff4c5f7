use Rattle.std.proofs.Common.{[], ◌∷◌, ◌++◌, ap, sym, ◌∙◌}
use Rattle.redo_index.specs.Index.{must_close_flags}
use Rattle.redo_index.proofs.IndexEntries.{take-next}
use Rattle.redo_index.proofs.index.Index.must_close_flags.Goals as goal

pub loop-i-preserved : goal.loop-i-preserved
loop-i-preserved c =
    c.in_ok-push.ensures.items ∙ ap (λ flags. flags ++ c.must_close.result ∷ []) c.loop-i.invariant
    ∙ sym (take-next (must_close_flags c.args.self.now) c.loop-i.i c.must_close.result c.must_close.ensures)
