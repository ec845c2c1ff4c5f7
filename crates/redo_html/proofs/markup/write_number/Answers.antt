use Rattle.std.proofs.Common.{◌∙◌, arith}
use Rattle.redo_html.specs.Shown.{number_text}
use Rattle.redo_html.proofs.NotationLemmas.{number_is}
use Rattle.redo_html.proofs.WritingLemmas.{writes_as}
use Rattle.redo_html.proofs.markup.write_number.Goals as goal

pub returns : goal.returns
returns g c =
    writes_as _ _ c.as_bytes.result.now (number_text c.args.number) _
    (c.as_bytes.ensures.value ∙ c.format.ensures.text ∙ number_is c.args.number (omega (arith, c.ranges.number))) c.push_all.ensures
