use Rattle.std.proofs.Common.{[], ◌∷◌, ◌++◌, refl}
use Rattle.std.specs.Prelude.{codes}
use Rattle.redo_html.specs.Passage.{has_element, highlight_text}
use Rattle.redo_html.specs.Private.Highlighting.{html_from}
use Rattle.redo_html.specs.Passage.Inline.{StyleEnd}
use Rattle.redo_html.specs.Private.Writing.{optional_highlight}
use Rattle.redo_html.proofs.PassageLemmas.{end_written}
use Rattle.redo_device.proofs.WritesLemmas.{at_first, at_last}
use Rattle.redo_html.proofs.passage.write_end.Goals as goal

pub returns-in_err-write_highlight : goal.returns-in_err-write_highlight
returns-in_err-write_highlight g c =
    at_first _ (html_from c.args.kind c.args.look.now []) _ (optional_highlight c.args.kind c.args.look.now.unprintable (codes "</i>"))
    (optional_highlight c.args.kind (has_element c.args.look.now.current)
    (60 ∷ (highlight_text (StyleEnd c.args.look.now.current) ++ 62 ∷ []))) _ _ c.from_residual.ensures.0
    c.in_err-write_highlight.ensures
    (end_written c.args.kind c.args.look.now (has_element c.args.look.now.current) _ refl refl)

pub returns : goal.returns
returns g c =
    at_last _ (html_from c.args.kind c.args.look.now []) _ _ (optional_highlight c.args.kind c.args.look.now.unprintable (codes "</i>"))
    (optional_highlight c.args.kind (has_element c.args.look.now.current)
    (60 ∷ (highlight_text (StyleEnd c.args.look.now.current) ++ 62 ∷ []))) _
    c.in_ok-write_highlight.ensures c.write_style_end.ensures
    (end_written c.args.kind c.args.look.now (has_element c.args.look.now.current) _ refl refl)
