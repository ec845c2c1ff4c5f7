use Rattle.std.proofs.Common.{false, take}
use Rattle.std.specs.List.{flat_map}
use Rattle.redo_html.specs.Passage.{inline_html}
use Rattle.redo_html.specs.Private.Highlighting.{highlights_between}
use Rattle.redo_html.proofs.PassageWriting.{highlights_failed, part_failed, both_written}
use Rattle.redo_html.proofs.VerbatimLemmas.{verbatim_step, verbatim_style}
use Rattle.redo_html.proofs.passage.write_verbatim.Goals as goal

pub returns-in_err-write_highlights : goal.returns-in_err-write_highlights
returns-in_err-write_highlights g c =
    let bytes = c.args.bytes.now in
    let kind = c.args.kind in
    let look = c.args.look.now in
    highlights_failed _ kind look bytes (flat_map (inline_html kind) (highlights_between look false))
    (take c.args.len bytes) false c.args.len (verbatim_step kind look bytes c.args.len c.requires.some c.requires.verbatim)
    _ _ _ _ c.from_residual.ensures.0 c.in_err-write_highlights.ensures

pub returns-in_err-push_all : goal.returns-in_err-push_all
returns-in_err-push_all g c =
    let bytes = c.args.bytes.now in
    let kind = c.args.kind in
    let look = c.args.look.now in
    part_failed _ kind look bytes (flat_map (inline_html kind) (highlights_between look false)) (take c.args.len bytes) false c.args.len
    (verbatim_step kind look bytes c.args.len c.requires.some c.requires.verbatim)
    _ _ _ _ _ c.from_residual-in_err-push_all.ensures.0 c.in_ok-write_highlights.ensures c.in_err-push_all.ensures

pub returns : goal.returns
returns g c =
    let bytes = c.args.bytes.now in
    let kind = c.args.kind in
    let look = c.args.look.now in
    both_written _ kind look bytes (flat_map (inline_html kind) (highlights_between look false)) (take c.args.len bytes) false c.args.len
    (verbatim_step kind look bytes c.args.len c.requires.some c.requires.verbatim)
    _ _ _ c.pass_code_point.ensures (verbatim_style kind look.wanted bytes c.args.len c.requires.verbatim) c.requires.some
    c.requires.verbatim.within c.in_ok-write_highlights.ensures c.in_ok-push_all.ensures
