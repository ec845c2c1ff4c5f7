use Rattle.std.specs.Prelude.{codes}
use Rattle.std.specs.List.{flat_map}
use Rattle.redo_html.specs.Passage.{inline_html}
use Rattle.redo_html.specs.Private.Highlighting.{highlights_between}
use Rattle.redo_html.specs.Private.Writing.{optional_highlight}
use Rattle.redo_html.proofs.PassageLemmas.{highlights_written}
use Rattle.redo_html.proofs.WritingLemmas.{first_failed, second_failed, third_failed, fourth_done}
use Rattle.redo_html.proofs.passage.write_changed_highlights.Goals as goal

pub returns-in_err-write_highlight : goal.returns-in_err-write_highlight
returns-in_err-write_highlight g c =
    first_failed _ (flat_map (inline_html c.args.kind) (highlights_between c.args.look.now c.args.unprintable))
    (optional_highlight c.args.kind c.ends_unprintable-unprintable_ends.result (codes "</i>"))
    (optional_highlight c.args.kind c.ends_style-style_ends.result c.style_end_tag-end_tag.result.now)
    (optional_highlight c.args.kind c.starts_style-style_starts.result c.style_start_tag-start_tag.result.now)
    (optional_highlight c.args.kind c.starts_unprintable-unprintable_starts.result (codes "<i>"))
    (highlights_written c.args.kind c.args.look.now c.args.unprintable c.ends_unprintable-unprintable_ends.result
    c.ends_style-style_ends.result
    c.starts_style-style_starts.result c.starts_unprintable-unprintable_starts.result c.style_end_tag-end_tag.result.now
    c.style_start_tag-start_tag.result.now
    c.ends_unprintable-unprintable_ends.ensures c.ends_style-style_ends.ensures c.starts_style-style_starts.ensures
    c.starts_unprintable-unprintable_starts.ensures c.style_end_tag-end_tag.ensures c.style_start_tag-start_tag.ensures)
    _ _ _ c.from_residual.ensures.0 c.in_err-write_highlight.ensures

pub returns-in_err-write_highlight-2 : goal.returns-in_err-write_highlight-2
returns-in_err-write_highlight-2 g c =
    second_failed _ (flat_map (inline_html c.args.kind) (highlights_between c.args.look.now c.args.unprintable))
    (optional_highlight c.args.kind c.ends_unprintable-unprintable_ends.result (codes "</i>"))
    (optional_highlight c.args.kind c.ends_style-style_ends.result c.style_end_tag-end_tag.result.now)
    (optional_highlight c.args.kind c.starts_style-style_starts.result c.style_start_tag-start_tag.result.now)
    (optional_highlight c.args.kind c.starts_unprintable-unprintable_starts.result (codes "<i>"))
    (highlights_written c.args.kind c.args.look.now c.args.unprintable c.ends_unprintable-unprintable_ends.result
    c.ends_style-style_ends.result
    c.starts_style-style_starts.result c.starts_unprintable-unprintable_starts.result c.style_end_tag-end_tag.result.now
    c.style_start_tag-start_tag.result.now
    c.ends_unprintable-unprintable_ends.ensures c.ends_style-style_ends.ensures c.starts_style-style_starts.ensures
    c.starts_unprintable-unprintable_starts.ensures c.style_end_tag-end_tag.ensures c.style_start_tag-start_tag.ensures)
    _ _ _ _ c.from_residual-in_err-write_highlight-2.ensures.0 c.in_ok-write_highlight.ensures c.in_err-write_highlight-2.ensures

pub returns-in_err-write_highlight-3 : goal.returns-in_err-write_highlight-3
returns-in_err-write_highlight-3 g c =
    third_failed _ (flat_map (inline_html c.args.kind) (highlights_between c.args.look.now c.args.unprintable))
    (optional_highlight c.args.kind c.ends_unprintable-unprintable_ends.result (codes "</i>"))
    (optional_highlight c.args.kind c.ends_style-style_ends.result c.style_end_tag-end_tag.result.now)
    (optional_highlight c.args.kind c.starts_style-style_starts.result c.style_start_tag-start_tag.result.now)
    (optional_highlight c.args.kind c.starts_unprintable-unprintable_starts.result (codes "<i>"))
    (highlights_written c.args.kind c.args.look.now c.args.unprintable c.ends_unprintable-unprintable_ends.result
    c.ends_style-style_ends.result
    c.starts_style-style_starts.result c.starts_unprintable-unprintable_starts.result c.style_end_tag-end_tag.result.now
    c.style_start_tag-start_tag.result.now
    c.ends_unprintable-unprintable_ends.ensures c.ends_style-style_ends.ensures c.starts_style-style_starts.ensures
    c.starts_unprintable-unprintable_starts.ensures c.style_end_tag-end_tag.ensures c.style_start_tag-start_tag.ensures)
    _ _ _ _ _ c.from_residual-in_err-write_highlight-3.ensures.0 c.in_ok-write_highlight.ensures c.in_ok-write_highlight-2.ensures
    c.in_err-write_highlight-3.ensures

pub returns : goal.returns
returns g c =
    fourth_done _ (flat_map (inline_html c.args.kind) (highlights_between c.args.look.now c.args.unprintable))
    (optional_highlight c.args.kind c.ends_unprintable-unprintable_ends.result (codes "</i>"))
    (optional_highlight c.args.kind c.ends_style-style_ends.result c.style_end_tag-end_tag.result.now)
    (optional_highlight c.args.kind c.starts_style-style_starts.result c.style_start_tag-start_tag.result.now)
    (optional_highlight c.args.kind c.starts_unprintable-unprintable_starts.result (codes "<i>"))
    (highlights_written c.args.kind c.args.look.now c.args.unprintable c.ends_unprintable-unprintable_ends.result
    c.ends_style-style_ends.result
    c.starts_style-style_starts.result c.starts_unprintable-unprintable_starts.result c.style_end_tag-end_tag.result.now
    c.style_start_tag-start_tag.result.now
    c.ends_unprintable-unprintable_ends.ensures c.ends_style-style_ends.ensures c.starts_style-style_starts.ensures
    c.starts_unprintable-unprintable_starts.ensures c.style_end_tag-end_tag.ensures c.style_start_tag-start_tag.ensures)
    _ _ _ _ _ c.in_ok-write_highlight.ensures c.in_ok-write_highlight-2.ensures c.in_ok-write_highlight-3.ensures
    c.write_highlight-4.ensures
