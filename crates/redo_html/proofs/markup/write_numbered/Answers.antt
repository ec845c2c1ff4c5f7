use Rattle.std.proofs.Common.{◌++◌, sym, refl}
use Rattle.std.specs.Prelude.{codes}
use Rattle.std.proofs.lemmas.List.{append_assoc}
use Rattle.redo_html.specs.Shown.{number_text}
use Rattle.redo_device.proofs.WritesLemmas.{at_first, in_middle, at_last, one_more}
use Rattle.redo_html.proofs.markup.write_numbered.Goals as goal

pub returns-in_err-push_all : goal.returns-in_err-push_all
returns-in_err-push_all g c =
    let begin = c.args.begin.now in
    let number = number_text c.args.number in
    at_first _ (begin ++ number ++ codes "\">") _ begin (number ++ codes "\">") _ _ c.from_residual.ensures.0 c.in_err-push_all.ensures
    (sym (append_assoc begin number (codes "\">")))

pub returns-in_err-write_number : goal.returns-in_err-write_number
returns-in_err-write_number g c =
    let begin = c.args.begin.now in
    let number = number_text c.args.number in
    in_middle _ (begin ++ number ++ codes "\">") _ _ begin number
    (codes "\">") _ _ c.from_residual-in_err-write_number.ensures.0 c.in_ok-push_all.ensures c.in_err-write_number.ensures refl

pub returns : goal.returns
returns g c =
    let begin = c.args.begin.now in
    let number = number_text c.args.number in
    at_last _ (begin ++ number ++ codes "\">") _ _ (begin ++ number) (codes "\">") _
    (one_more _ _ _ begin number c.in_ok-push_all.ensures c.in_ok-write_number.ensures) c.push_all-2.ensures refl
