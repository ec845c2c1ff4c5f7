use Rattle.std.proofs.Common.{true}
use Rattle.std.specs.List.{flat_map}
use Rattle.redo_html.specs.Passage.{inline_html}
use Rattle.redo_html.specs.Private.Highlighting.{highlights_between}
use Rattle.redo_html.specs.Shown.{unprintable_text}
use Rattle.redo_html.proofs.PassageLemmas.{unprintable_written}
use Rattle.redo_html.proofs.PassageWriting.{highlights_failed, part_failed, both_written}
use Rattle.redo_html.proofs.StyleLemmas.{repeated_style}
use Rattle.redo_html.proofs.passage.write_unprintable_run.Goals as goal

pub returns-in_err-write_highlights : goal.returns-in_err-write_highlights
returns-in_err-write_highlights g c =
    let bytes = c.args.bytes.now in
    let kind = c.args.kind in
    let look = c.args.look.now in
    let found = c.repeats-count.result in
    highlights_failed _ kind look bytes (flat_map (inline_html kind) (highlights_between look true))
    (unprintable_text c.args.code_point found.0) true found.1
    (unprintable_written kind look bytes c.args.code_point found.0 found.1 c.requires.unprintable c.repeats-count.ensures) _ _ _ _
    c.from_residual.ensures.0 c.in_err-write_highlights.ensures

pub returns-in_err-write_unprintable : goal.returns-in_err-write_unprintable
returns-in_err-write_unprintable g c =
    let bytes = c.args.bytes.now in
    let kind = c.args.kind in
    let look = c.args.look.now in
    let found = c.repeats-count.result in
    part_failed _ kind look bytes (flat_map (inline_html kind) (highlights_between look true))
    (unprintable_text c.args.code_point found.0) true found.1
    (unprintable_written kind look bytes c.args.code_point found.0 found.1 c.requires.unprintable c.repeats-count.ensures) _ _ _ _ _
    c.from_residual-in_err-write_unprintable.ensures.0 c.in_ok-write_highlights.ensures c.in_err-write_unprintable.ensures

pub returns : goal.returns
returns g c =
    let bytes = c.args.bytes.now in
    let kind = c.args.kind in
    let look = c.args.look.now in
    let found = c.repeats-count.result in
    both_written _ kind look bytes (flat_map (inline_html kind) (highlights_between look true))
    (unprintable_text c.args.code_point found.0) true found.1
    (unprintable_written kind look bytes c.args.code_point found.0 found.1 c.requires.unprintable c.repeats-count.ensures)
    _ _ _ c.pass_code_point.ensures (repeated_style kind look.wanted bytes c.args.code_point found.0 found.1 c.repeats-count.ensures)
    c.repeats-count.ensures.bytes_taken c.repeats-count.ensures.within c.in_ok-write_highlights.ensures c.in_ok-write_unprintable.ensures
