use Rattle.std.proofs.Common.{ap, sym}
use Rattle.json.specs.Print.{escape}
use Rattle.redo_json.specs.Text.{text_of}
use Rattle.redo_json.proofs.PartLemmas.{text_is}
use Rattle.redo_json.proofs.WritingLemmas.{writes_as}
use Rattle.redo_json.proofs.lines.write_line.Goals as goal

pub returns-then-is_text : goal.returns-then-is_text
returns-then-is_text g c =
    writes_as _ _ _ (escape (text_of c.args.line.now)) _ (ap escape (sym (text_is c.args.line.now (c.requires c.if-is_text.true))))
    c.write_escaped.ensures
