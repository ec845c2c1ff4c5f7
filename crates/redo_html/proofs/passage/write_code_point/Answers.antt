use Rattle.std.proofs.Common.{sym, ◌∙◌}
use Rattle.std.specs.Prelude.{encode_utf8}
use Rattle.std.proofs.lemmas.Bool.{ne_eqb}
use Rattle.redo_html.specs.Passage.{escaped}
use Rattle.redo_html.proofs.TextReading.{encoded_escaped}
use Rattle.redo_html.proofs.WritingLemmas.{writes_as}
use Rattle.redo_html.proofs.passage.write_code_point.Goals as goal

pub returns-else-code_point-eq62 : goal.returns-else-code_point-eq62
returns-else-code_point-eq62 g c =
    writes_as _ _ c.args.bytes.now (escaped (encode_utf8 c.args.code_point)) _
    (c.requires ∙ sym (encoded_escaped c.args.code_point (ne_eqb c.args.code_point 38 c.if-code_point-eq38.false)
    (ne_eqb c.args.code_point 60 c.if-code_point-eq60.false) (ne_eqb c.args.code_point 62 c.if-code_point-eq62.false)))
    c.push_all-else-code_point-eq62.ensures
