use Rattle.std.proofs.Common.{sym, ap, ◌∙◌}
use Rattle.json.specs.Print.{escape}
use Rattle.redo_json.proofs.EscapeLemmas.{escape_plain}
use Rattle.redo_json.proofs.JoinLemmas.{appended_as}
use Rattle.redo_json.proofs.PartLemmas.{text_is}
use Rattle.redo_json.proofs.lines.join_line.Goals as goal

pub returns-then-has_no_escape : goal.returns-then-has_no_escape
returns-then-has_no_escape c =
    appended_as _ _ _ _ _
    (sym (ap escape (text_is c.args.line.now c.requires.text) ∙ escape_plain c.args.line.now (c.requires.plain c.if-has_no_escape.true)))
    c.join_bytes.ensures

pub returns : goal.returns
returns c = appended_as _ _ _ _ _ (ap escape (sym (text_is c.args.line.now c.requires.text))) c.join_escaped.ensures
