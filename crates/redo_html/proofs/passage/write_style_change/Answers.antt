use Rattle.std.proofs.Common.{◌++◌, ◌∷◌, [], false}
use Rattle.std.specs.List.{flat_map}
use Rattle.redo_device.proofs.WritesLemmas.{at_first, at_last}
use Rattle.redo_html.specs.Passage.Inline.{StyleStart, StyleEnd}
use Rattle.redo_html.specs.Passage.{has_element, highlight_text, inline_html}
use Rattle.redo_html.specs.Private.Highlighting.{highlights_between}
use Rattle.redo_html.specs.Private.Writing.{optional_highlight}
use Rattle.redo_html.proofs.PassageLemmas.{style_change_html}
use Rattle.redo_html.proofs.passage.write_style_change.Goals as goal

pub returns-in_err-write_style_end : goal.returns-in_err-write_style_end
returns-in_err-write_style_end g c =
    let kind = c.args.kind in
    let look = c.args.look.now in
    at_first _ (flat_map (inline_html kind) (highlights_between look false)) _
    (optional_highlight kind (has_element look.current) (60 ∷ (highlight_text (StyleEnd look.current) ++ 62 ∷ [])))
    (optional_highlight kind (has_element look.wanted) (60 ∷ (highlight_text (StyleStart look.wanted) ++ 62 ∷ []))) _ _
    c.from_residual.ensures.0 c.in_err-write_style_end.ensures (style_change_html kind look c.requires.visible c.requires.changes)

pub returns : goal.returns
returns g c =
    let kind = c.args.kind in
    let look = c.args.look.now in
    at_last _ (flat_map (inline_html kind) (highlights_between look false)) _ _
    (optional_highlight kind (has_element look.current) (60 ∷ (highlight_text (StyleEnd look.current) ++ 62 ∷ [])))
    (optional_highlight kind (has_element look.wanted) (60 ∷ (highlight_text (StyleStart look.wanted) ++ 62 ∷ []))) _
    c.in_ok-write_style_end.ensures c.write_style_start.ensures (style_change_html kind look c.requires.visible c.requires.changes)
