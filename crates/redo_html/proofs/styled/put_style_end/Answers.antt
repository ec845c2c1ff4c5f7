use Rattle.std.proofs.Common.{◌∷◌, ◌++◌, [], Bool, List, ℕ, sym, ◌∙◌, ap, subst}
use Rattle.redo_html.specs.declared.text_kind.TextKind.TheVariants.{Log}
use Rattle.redo_html.specs.Passage.Inline.{StyleEnd}
use Rattle.redo_html.specs.Passage.{highlight_text}
use Rattle.redo_html.specs.Private.Buffering.{held}
use Rattle.redo_html.specs.Private.Writing.{WroteUpTo, optional_highlight}
use Rattle.redo_html.proofs.BufferLemmas.{puts_nothing, puts_as}
use Rattle.redo_html.proofs.styled.put_style_end.Goals as goal

pub returns-then-has_own_element : goal.returns-then-has_own_element
returns-then-has_own_element g c =
    let tag = 60 ∷ (highlight_text (StyleEnd c.args.style) ++ 62 ∷ []) in
    puts_as _ _ (held c.args.buffer.now) _ _ _ _ (c.padded_end_tag-len.ensures.text_is
    ∙ sym (ap (λ (b : Bool). optional_highlight Log b tag) (sym c.has_own_element.ensures ∙ c.if-has_own_element.true))) c.put.ensures

pub returns-else-has_own_element : goal.returns-else-has_own_element
returns-else-has_own_element g c =
    let tag = 60 ∷ (highlight_text (StyleEnd c.args.style) ++ 62 ∷ []) in
    let out = g.W.Sink.written c.args.out.now in
    let old = held c.args.buffer.now in
    subst (λ (t : List ℕ). WroteUpTo out out (old ++ t) old)
    (sym (ap (λ (b : Bool). optional_highlight Log b tag) (sym c.has_own_element.ensures ∙ c.if-has_own_element.false)))
    (puts_nothing out old)
