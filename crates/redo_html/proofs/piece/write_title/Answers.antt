use Rattle.std.proofs.Common.{◌++◌, sym, refl}
use Rattle.std.specs.Prelude.{codes}
use Rattle.std.proofs.lemmas.List.{append_assoc}
use Rattle.redo_html.specs.declared.text_kind.TextKind.TheVariants.{Title}
use Rattle.redo_html.specs.Style.{plain_style}
use Rattle.redo_html.specs.Passage.{passage_html}
use Rattle.redo_device.proofs.WritesLemmas.{at_first, in_middle, at_last, one_more}
use Rattle.redo_html.proofs.piece.write_title.Goals as goal

pub returns-in_err-push_all : goal.returns-in_err-push_all
returns-in_err-push_all g c =
    let text = passage_html Title plain_style c.args.title.now in
    at_first _ (codes "<title>" ++ text ++ codes "</title>") _ (codes "<title>")
    (text ++ codes "</title>") _ _ c.from_residual.ensures.0 c.in_err-push_all.ensures
    (sym (append_assoc (codes "<title>") text (codes "</title>")))

pub returns-in_err-write_title_text : goal.returns-in_err-write_title_text
returns-in_err-write_title_text g c =
    let text = passage_html Title plain_style c.args.title.now in
    in_middle _ (codes "<title>" ++ text ++ codes "</title>") _ _ (codes "<title>") text
    (codes "</title>") _ _ c.from_residual-in_err-write_title_text.ensures.0 c.in_ok-push_all.ensures c.in_err-write_title_text.ensures refl

pub returns : goal.returns
returns g c =
    let text = passage_html Title plain_style c.args.title.now in
    at_last _ (codes "<title>" ++ text ++ codes "</title>") _ _ (codes "<title>" ++ text) (codes "</title>") _
    (one_more _ _ _ (codes "<title>") text c.in_ok-push_all.ensures c.in_ok-write_title_text.ensures) c.push_all-2.ensures refl
