use Rattle.std.proofs.Common.{◌++◌, ◌∙◌, ap, arith}
use Rattle.redo_html.specs.Shown.{number_text}
use Rattle.redo_page.specs.declared.labels.TheConstants.{OF}
use Rattle.redo_page.specs.Verdict.{share_text}
use Rattle.redo_page.proofs.JoinLemmas.{number_is, text_as}
use Rattle.redo_page.proofs.verdict.share_text.Goals as goal

pub returns : goal.returns
returns c =
    let number = c.as_bytes.ensures.value ∙ c.format.ensures.text ∙ number_is c.args.part (omega (arith, c.ranges.part)) in
    let words = c.in_ok-of_targets.ensures ∙ ap (λ t. OF.now ++ t) (c.deref.ensures.value ∙ c.in_ok-targets.ensures) in
    text_as c.join-2.result (c.as_bytes.result.now ++ c.deref-2.result.now)
    (share_text c.args.part c.args.all c.args.one.now c.args.many.now)
    (ap (λ t. t ++ c.deref-2.result.now) number ∙ ap (λ t. number_text c.args.part ++ t) (c.deref-2.ensures.value ∙ words))
    c.join-2.ensures
