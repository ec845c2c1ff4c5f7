use Rattle.std.proofs.Common.{◌<◌, ◌≤◌, ◌++◌, false, ℕ, length, take, drop, ap, sym, ◌∙◌, subst, arith}
use Rattle.std.specs.Prelude.{encode_utf8}
use Rattle.std.specs.List.{flat_map}
use Rattle.std.proofs.lemmas.List.{length-take-le}
use Rattle.redo_html.specs.Passage.{inline_html, escaped}
use Rattle.redo_html.specs.Private.Highlighting.{highlights_between, after_code_point, html_from}
use Rattle.redo_html.specs.Symbols.{symbol_len}
use Rattle.redo_html.specs.Private.Writing.{style_in}
use Rattle.redo_html.proofs.PassageLemmas.{visible_step}
use Rattle.redo_html.proofs.PassageWriting.{highlights_failed, part_failed, both_written}
use Rattle.redo_html.proofs.StyleLemmas.{code_point_style}
use Rattle.redo_html.proofs.SymbolLemmas.{symbol_bounds, visible_bytes}
use Rattle.redo_html.proofs.passage.write_visible.Goals as goal

pub write_code_point-requires : goal.write_code_point-requires
write_code_point-requires g c =
    ap (λ (n : ℕ). take n c.args.bytes.now) c.requires.len
    ∙ visible_bytes c.args.kind c.args.bytes.now c.args.code_point c.requires.some
    (omega (arith, c.type_inv.bytes 0)) c.requires.code_point c.requires.visible

pub returns-in_err-write_highlights : goal.returns-in_err-write_highlights
returns-in_err-write_highlights g c =
    let bytes = c.args.bytes.now in
    let kind = c.args.kind in
    let look = c.args.look.now in
    highlights_failed _ kind look bytes (flat_map (inline_html kind) (highlights_between look false))
    (escaped (encode_utf8 c.args.code_point)) false (symbol_len kind bytes)
    (visible_step kind look bytes c.args.code_point c.requires.some c.requires.code_point c.requires.visible) _ _ _ _
    c.from_residual.ensures.0 c.in_err-write_highlights.ensures

pub returns-in_err-write_code_point : goal.returns-in_err-write_code_point
returns-in_err-write_code_point g c =
    let bytes = c.args.bytes.now in
    let kind = c.args.kind in
    let look = c.args.look.now in
    part_failed _ kind look bytes (flat_map (inline_html kind) (highlights_between look false))
    (escaped (encode_utf8 c.args.code_point)) false (symbol_len kind bytes)
    (visible_step kind look bytes c.args.code_point c.requires.some c.requires.code_point c.requires.visible) _ _ _ _ _
    c.from_residual-in_err-write_code_point.ensures.0 c.in_ok-write_highlights.ensures c.in_err-write_code_point.ensures

pub returns : goal.returns
returns g c =
    let bytes = c.args.bytes.now in
    let kind = c.args.kind in
    let look = c.args.look.now in
    let bounds = symbol_bounds kind bytes c.requires.some in
    let len_is = sym c.requires.len in
    let some = subst (λ (n : ℕ). 0 < n) len_is bounds.0 in
    let within = subst (λ (n : ℕ). n ≤ length bytes) len_is bounds.1 in
    both_written _ kind look bytes (flat_map (inline_html kind) (highlights_between look false))
    (escaped (encode_utf8 c.args.code_point)) false c.args.len
    (ap (λ (n : ℕ). flat_map (inline_html kind) (highlights_between look false)
    ++ (escaped (encode_utf8 c.args.code_point) ++ html_from kind (after_code_point look false) (drop n bytes))) c.requires.len
    ∙ visible_step kind look bytes c.args.code_point c.requires.some c.requires.code_point c.requires.visible)
    _ _ _ c.pass_code_point.ensures (ap (λ (n : ℕ). style_in kind look.wanted (drop n bytes)) c.requires.len
    ∙ code_point_style kind look.wanted bytes c.requires.some c.args.code_point c.requires.code_point) some within
    c.in_ok-write_highlights.ensures c.in_ok-write_code_point.ensures

pub slice_bounds-write_code_point-end : goal.slice_bounds-write_code_point-end
slice_bounds-write_code_point-end g c =
    let within : c.args.len ≤ length c.args.bytes.now =
    omega (arith, c.requires.len, (symbol_bounds c.args.kind c.args.bytes.now c.requires.some).1) in
    omega (arith, within, length-take-le c.args.len c.args.bytes.now within)
