use Rattle.std.proofs.Common.{◌++◌, ◌∙◌, ap, arith}
use Rattle.redo_html.specs.Shown.{number_text}
use Rattle.redo_page.specs.Verdict.{counted_text}
use Rattle.redo_page.proofs.JoinLemmas.{number_is, text_as}
use Rattle.redo_page.proofs.verdict.counted_text.Goals as goal

pub returns : goal.returns
returns c =
    let number = c.as_bytes.ensures.value ∙ c.format.ensures.text ∙ number_is c.args.number (omega (arith, c.ranges.number)) in
    text_as c.join.result (c.as_bytes.result.now ++ c.plural.result.now) (counted_text c.args.number c.args.one.now c.args.many.now)
    (ap (λ t. t ++ c.plural.result.now) number ∙ ap (λ t. number_text c.args.number ++ t) c.plural.ensures) c.join.ensures
