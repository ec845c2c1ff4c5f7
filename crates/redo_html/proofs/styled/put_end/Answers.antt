use Rattle.std.proofs.Common.{[], ◌++◌, ◌∷◌, Bool, refl, sym, ◌∙◌, ap}
use Rattle.std.specs.Prelude.{codes}
use Rattle.redo_html.specs.declared.text_kind.TextKind.TheVariants.{Log}
use Rattle.redo_html.specs.Passage.Inline.{StyleEnd}
use Rattle.redo_html.specs.Passage.{has_element, highlight_text}
use Rattle.redo_html.specs.Private.Highlighting.{html_from}
use Rattle.redo_html.specs.Private.Buffering.{held}
use Rattle.redo_html.specs.Private.Writing.{optional_highlight}
use Rattle.redo_html.proofs.BufferLemmas.{flush_failed, flushed_before, puts_as}
use Rattle.redo_html.proofs.PassageLemmas.{end_written}
use Rattle.redo_html.proofs.styled.put_end.Goals as goal

pub returns-in_err-flush : goal.returns-in_err-flush
returns-in_err-flush g c =
    flush_failed _ _ (held c.args.buffer.now) (html_from Log c.args.look.now []) _ _ _ c.from_residual.ensures.0
    c.in_err-flush.ensures.written

pub returns-in_ok-flush : goal.returns-in_ok-flush
returns-in_ok-flush g c =
    flushed_before _ _ _ (held c.args.buffer.now) (html_from Log c.args.look.now []) _ _ c.in_ok-flush.ensures.written
    c.in_ok-flush.ensures.empty c.write_end.ensures

pub returns-else-look : goal.returns-else-look
returns-else-look g c =
    let look = c.args.look.now in
    let tag = 60 ∷ (highlight_text (StyleEnd look.current) ++ 62 ∷ []) in
    let end = optional_highlight Log (has_element look.current) tag in
    puts_as _ _ (held c.args.buffer.now) end _ _ _
    (sym (ap (λ (u : Bool). optional_highlight Log u (codes "</i>") ++ end) c.if-look.false)
    ∙ end_written Log look (has_element look.current) tag refl refl) c.put_style_end.ensures
