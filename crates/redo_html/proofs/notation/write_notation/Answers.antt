use Rattle.std.proofs.Common.{[], ◌∷◌, ◌+◌, ◌-◌, sym, inl, inr}
use Rattle.std.specs.Prelude.{codes}
use Rattle.redo_html.specs.Shown.{byte_notation, code_point_notation, notation}
use Rattle.redo_html.proofs.NotationLemmas.{control_notation, delete_notation, notation_of_byte, notation_of_code}
use Rattle.redo_html.proofs.WritingLemmas.{writes_as}
use Rattle.redo_html.proofs.notation.write_notation.Goals.{else-code_point-ge56320-via-then-code_point-ge56320+else-code_point-le56575, else-code_point-ge56320-via-else-code_point-ge56320}
use Rattle.redo_html.proofs.notation.write_notation.Goals as goal

pub returns-then-code_point-lt32 : goal.returns-then-code_point-lt32
returns-then-code_point-lt32 g c = writes_as _ _ (94 ∷ (c.args.code_point + 64) ∷ []) (notation c.args.code_point) _
    (sym (control_notation c.args.code_point c.if-code_point-lt32.true)) c.push_all.ensures

pub returns-then-code_point-eq127 : goal.returns-then-code_point-eq127
returns-then-code_point-eq127 g c = writes_as _ _ (codes "^?") (notation c.args.code_point) _
    (sym (delete_notation c.args.code_point c.if-code_point-eq127.true)) c.push_all-then-code_point-eq127.ensures

pub returns-then-code_point-le56575 : goal.returns-then-code_point-le56575
returns-then-code_point-le56575 g c =
    writes_as _ _ (byte_notation (c.args.code_point - 0xDC00)) (notation c.args.code_point) _
    (sym (notation_of_byte c.args.code_point c.if-code_point-lt32.false c.if-code_point-eq127.false c.if-code_point-ge56320.true
    c.if-code_point-le56575.true)) c.write_byte.ensures

pub returns-else-code_point-ge56320 : goal.returns-else-code_point-ge56320
returns-else-code_point-ge56320 g c =
    writes_as _ _ (code_point_notation c.args.code_point) (notation c.args.code_point) _
    (sym (notation_of_code c.args.code_point c.if-code_point-lt32.false c.if-code_point-eq127.false
    (elim c.else-code_point-ge56320.branch [
      | else-code_point-ge56320-via-then-code_point-ge56320+else-code_point-le56575 w ↦ inr w.if-code_point-le56575.false
      | else-code_point-ge56320-via-else-code_point-ge56320 w ↦ inl w.if-code_point-ge56320.false
    ])))
    c.write_code.ensures
