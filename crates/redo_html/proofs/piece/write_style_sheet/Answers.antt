use Rattle.std.proofs.Common.{◌++◌, sym, refl}
use Rattle.std.specs.Prelude.{codes}
use Rattle.std.proofs.lemmas.List.{append_assoc}
use Rattle.redo_html.specs.StyleSheet.{style_sheet}
use Rattle.redo_device.proofs.WritesLemmas.{at_first, in_middle, at_last, one_more}
use Rattle.redo_html.proofs.piece.write_style_sheet.Goals as goal

pub returns-in_err-push_all : goal.returns-in_err-push_all
returns-in_err-push_all g c =
    at_first _ (codes "<style>" ++ style_sheet ++ codes "</style>") _ (codes "<style>")
    (style_sheet ++ codes "</style>") _ _ c.from_residual.ensures.0 c.in_err-push_all.ensures
    (sym (append_assoc (codes "<style>") style_sheet (codes "</style>")))

pub returns-in_err-push_all-2 : goal.returns-in_err-push_all-2
unfolding style_sheet
returns-in_err-push_all-2 g c =
    in_middle _ (codes "<style>" ++ style_sheet ++ codes "</style>") _ _ (codes "<style>") style_sheet
    (codes "</style>") _ _ c.from_residual-in_err-push_all-2.ensures.0 c.in_ok-push_all.ensures c.in_err-push_all-2.ensures refl

pub returns : goal.returns
unfolding style_sheet
returns g c =
    at_last _ (codes "<style>" ++ style_sheet ++ codes "</style>") _ _ (codes "<style>" ++ style_sheet) (codes "</style>") _
    (one_more _ _ _ (codes "<style>") style_sheet c.in_ok-push_all.ensures c.in_ok-push_all-2.ensures) c.push_all-3.ensures refl
