use Rattle.std.proofs.Common.{sym, ◌∙◌}
use Rattle.redo_page.specs.Errors.{begins_with}
use Rattle.redo_page.proofs.ErrorLemmas.{any_later}
use Rattle.redo_page.proofs.cause.begins_with_error.Goals as goal

pub loop-words-preserved : goal.loop-words-preserved
loop-words-preserved c = c.loop-words.invariant
    ∙ any_later (λ words. begins_with words.now c.args.bytes.now) _ c.loop-words.words-index _ c.loop-words-test.true
    (sym c.begins_with.ensures ∙ c.if-begins_with.false)
