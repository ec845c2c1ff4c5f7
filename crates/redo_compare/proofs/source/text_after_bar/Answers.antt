use Rattle.std.proofs.Common.{ap, ◌∙◌}
use Rattle.redo_compare.specs.Source.{before_spaces}
use Rattle.redo_compare.proofs.SourceLemmas.{bar-none, bar-some}
use Rattle.redo_compare.proofs.source.text_after_bar.Goals as goal

pub returns-in-Some : goal.returns-in-Some
returns-in-Some c =
    c.before_spaces.ensures ∙ ap before_spaces c.after_spaces.ensures
    ∙ bar-some c.args.bytes.now c.as_slice.result.now c.as_slice.ensures c.in-Some.text.now c.in-Some.ensures.cases.0
    c.in-Some.ensures.cases.1

pub returns-in-None : goal.returns-in-None
returns-in-None c = bar-none c.args.bytes.now c.as_slice.result.now c.as_slice.ensures c.in-None.ensures.cases
