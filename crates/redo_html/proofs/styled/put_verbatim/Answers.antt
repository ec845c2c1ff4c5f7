use Rattle.std.proofs.Common.{◌++◌, false, List, ℕ, take, drop, ap, sym, ◌∙◌}
use Rattle.std.specs.List.{flat_map}
use Rattle.redo_html.specs.declared.text_kind.TextKind.TheVariants.{Log}
use Rattle.redo_html.specs.Passage.{inline_html}
use Rattle.redo_html.specs.Private.Highlighting.{highlights_between, after_code_point, html_from}
use Rattle.redo_html.specs.Private.Buffering.{held}
use Rattle.redo_html.proofs.BufferLemmas.{change_failed, part_failed, both_put}
use Rattle.redo_html.proofs.VerbatimLemmas.{verbatim_step, verbatim_style}
use Rattle.redo_html.proofs.styled.put_verbatim.Goals as goal

pub returns-in_err-put_style_change : goal.returns-in_err-put_style_change
returns-in_err-put_style_change g c = λ left verbatim same.
    let look = c.args.look.now in
    change_failed _ (held c.args.buffer.now) look left (flat_map (inline_html Log) (highlights_between look false)) (take c.args.len left)
    c.args.len (verbatim_step Log look left c.args.len c.requires.some verbatim)
    _ _ _ _ _ c.from_residual.ensures.0 c.in_err-put_style_change.ensures.put

pub returns-in_err-put : goal.returns-in_err-put
returns-in_err-put g c = λ left verbatim same.
    let look = c.args.look.now in
    let html = flat_map (inline_html Log) (highlights_between look false) in
    let part = take c.args.len (drop c.args.done c.args.bytes.now) in
    part_failed _ (held c.args.buffer.now) look left html part c.args.len
    (ap (λ (t : List ℕ). html ++ (t ++ html_from Log (after_code_point look false) (drop c.args.len left))) (sym same)
    ∙ verbatim_step Log look left c.args.len c.requires.some verbatim)
    _ _ _ _ _ _ _ c.from_residual-in_err-put.ensures.0 c.in_ok-put_style_change.ensures.put c.in_err-put.ensures

pub returns : goal.returns
returns g c = λ left verbatim same.
    let look = c.args.look.now in
    let html = flat_map (inline_html Log) (highlights_between look false) in
    let part = take c.args.len (drop c.args.done c.args.bytes.now) in
    both_put _ (held c.args.buffer.now) look left html part c.args.len
    (ap (λ (t : List ℕ). html ++ (t ++ html_from Log (after_code_point look false) (drop c.args.len left))) (sym same)
    ∙ verbatim_step Log look left c.args.len c.requires.some verbatim)
    _ _ _ _ _ c.in_ok-put_style_change.ensures.look (verbatim_style Log look.wanted left c.args.len verbatim) c.requires.some
    verbatim.within
    c.in_ok-put_style_change.ensures.put c.in_ok-put.ensures
