use Rattle.std.proofs.Common.{sym, ◌∙◌, ap, subst}
use Rattle.redo_html.specs.Shown.{is_unprintable}
use Rattle.redo_html.specs.Private.Writing.{IsVerbatim}
use Rattle.redo_html.proofs.VerbatimLemmas.{high_code_points}
use Rattle.redo_html.proofs.symbol.visible_len.Goals as goal

pub returns-else-is_unprintable_code_point : goal.returns-else-is_unprintable_code_point
returns-else-is_unprintable_code_point c =
    subst (IsVerbatim c.args.bytes.now) (sym c.decode.ensures.size)
    (high_code_points c.args.bytes.now c.in-Some-default.character c.requires c.if-bytes-lt128.false
    (sym c.decode.ensures.char ∙ c.in-Some-default.is-0)
    (sym (ap is_unprintable c.from.ensures) ∙ sym c.is_unprintable_code_point.ensures ∙ c.if-is_unprintable_code_point.false))
