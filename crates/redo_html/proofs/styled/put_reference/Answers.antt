use Rattle.std.proofs.Common.{◌≡◌, ◌++◌, false, List, ℕ, drop, ap, subst, sym, ◌∙◌, arith}
use Rattle.std.specs.Prelude.{slice_index, ◌==◌, ◌||◌, true}
use Rattle.std.specs.List.{flat_map}
use Rattle.redo_html.specs.declared.text_kind.TextKind.TheVariants.{Log}
use Rattle.redo_html.specs.Passage.{inline_html, escaped_byte}
use Rattle.redo_html.specs.Private.Highlighting.{highlights_between, after_code_point, html_from}
use Rattle.redo_html.specs.Private.Buffering.{held}
use Rattle.redo_html.specs.Private.Writing.{style_in}
use Rattle.redo_html.proofs.BufferLemmas.{change_failed, part_failed, both_put}
use Rattle.redo_html.proofs.PassageLemmas.{reference_step}
use Rattle.redo_html.proofs.StyleLemmas.{code_point_style}
use Rattle.redo_html.proofs.SymbolLemmas.{reference_symbol}
use Rattle.redo_html.proofs.styled.put_reference.Goals as goal

is_reference : (first : ℕ) (bytes : List ℕ) → first ≡ slice_index bytes 0 → (first == 38 || first == 60 || first == 62) ≡ true
    → (slice_index bytes 0 == 38 || slice_index bytes 0 == 60 || slice_index bytes 0 == 62) ≡ true
is_reference first bytes same is = subst (λ (b : ℕ). (b == 38 || b == 60 || b == 62) ≡ true) same is

pub returns-in_err-put_style_change : goal.returns-in_err-put_style_change
returns-in_err-put_style_change g c = λ bytes some first.
    let look = c.args.look.now in
    change_failed _ (held c.args.buffer.now) look bytes (flat_map (inline_html Log) (highlights_between look false))
    (escaped_byte (slice_index bytes 0)) 1
    (reference_step Log look bytes some (is_reference c.args.first bytes first c.requires.reference))
    _ _ _ _ _ c.from_residual.ensures.0 c.in_err-put_style_change.ensures.put

pub returns-in_err-put : goal.returns-in_err-put
returns-in_err-put g c = λ bytes some first.
    let look = c.args.look.now in
    let html = flat_map (inline_html Log) (highlights_between look false) in
    let is = is_reference c.args.first bytes first c.requires.reference in
    part_failed _ (held c.args.buffer.now) look bytes html _ 1
    (ap (λ (t : List ℕ). html ++ (t ++ html_from Log (after_code_point look false) (drop 1 bytes)))
    (c.padded_reference-len.ensures.text_is ∙ ap escaped_byte first) ∙ reference_step Log look bytes some is)
    _ _ _ _ _ _ _ c.from_residual-in_err-put.ensures.0 c.in_ok-put_style_change.ensures.put c.in_err-put.ensures

pub returns : goal.returns
returns g c = λ bytes some first.
    let look = c.args.look.now in
    let html = flat_map (inline_html Log) (highlights_between look false) in
    let is = is_reference c.args.first bytes first c.requires.reference in
    let found = reference_symbol Log bytes some is in
    both_put _ (held c.args.buffer.now) look bytes html _ 1
    (ap (λ (t : List ℕ). html ++ (t ++ html_from Log (after_code_point look false) (drop 1 bytes)))
    (c.padded_reference-len.ensures.text_is ∙ ap escaped_byte first) ∙ reference_step Log look bytes some is)
    _ _ _ _ _ c.in_ok-put_style_change.ensures.look (ap (λ (n : ℕ). style_in Log look.wanted (drop n bytes)) (sym found.1)
    ∙ code_point_style Log look.wanted bytes some (slice_index bytes 0) found.0) (omega arith) some
    c.in_ok-put_style_change.ensures.put c.in_ok-put.ensures
