use Rattle.std.proofs.Common.{◌∷◌, ◌++◌, [], List, ℕ, sym, ◌∙◌, subst}
use Rattle.redo_html.specs.declared.text_kind.TextKind.TheVariants.{Log}
use Rattle.redo_html.specs.Passage.Inline.{StyleStart, StyleEnd}
use Rattle.redo_html.specs.Passage.{has_element, highlight_text}
use Rattle.redo_html.specs.Private.Buffering.{held}
use Rattle.redo_html.specs.Private.Writing.{WroteUpTo, optional_highlight}
use Rattle.redo_html.proofs.BufferLemmas.{puts_nothing, puts_more, puts_failed, puts_as, same_look, same_style_html}
use Rattle.redo_html.proofs.PassageLemmas.{style_change_html}
use Rattle.redo_html.proofs.styled.put_style_change.Goals as goal

pub returns-then-is_same-clause-put : goal.returns-then-is_same-clause-put
returns-then-is_same-clause-put g c =
    let look = c.args.look.now in
    let out = g.W.Sink.written c.args.out.now in
    let old = held c.args.buffer.now in
    subst (λ (t : List ℕ). WroteUpTo out out (old ++ t) old)
    (sym (same_style_html look c.requires (sym c.is_same.ensures ∙ c.if-is_same.true))) (puts_nothing out old)

pub returns-in_err-put_style_end-clause-put : goal.returns-in_err-put_style_end-clause-put
returns-in_err-put_style_end-clause-put g c =
    let look = c.args.look.now in
    let old = held c.args.buffer.now in
    let end = optional_highlight Log (has_element look.current) (60 ∷ (highlight_text (StyleEnd look.current) ++ 62 ∷ [])) in
    let start = optional_highlight Log (has_element look.wanted) (60 ∷ (highlight_text (StyleStart look.wanted) ++ 62 ∷ [])) in
    puts_as _ _ old (end ++ start) _ _ _ (style_change_html Log look c.requires (sym c.is_same.ensures ∙ c.if-is_same.false))
    (puts_failed _ _ old end start _ _ _ c.from_residual.ensures.0 c.in_err-put_style_end.ensures)

pub returns-clause-put : goal.returns-clause-put
returns-clause-put g c =
    let look = c.args.look.now in
    let old = held c.args.buffer.now in
    let end = optional_highlight Log (has_element look.current) (60 ∷ (highlight_text (StyleEnd look.current) ++ 62 ∷ [])) in
    let start = optional_highlight Log (has_element look.wanted) (60 ∷ (highlight_text (StyleStart look.wanted) ++ 62 ∷ [])) in
    puts_as _ _ old (end ++ start) _ _ _ (style_change_html Log look c.requires (sym c.is_same.ensures ∙ c.if-is_same.false))
    (puts_more _ _ _ old end _ start _ _ c.in_ok-put_style_end.ensures c.put_style_start-written.ensures)

pub returns-then-is_same-clause-look : goal.returns-then-is_same-clause-look
returns-then-is_same-clause-look g c = same_look c.args.look.now c.requires (sym c.is_same.ensures ∙ c.if-is_same.true)
