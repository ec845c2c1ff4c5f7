use Rattle.std.proofs.Common.{◌≡◌, ◌++◌, false, List, ℕ, drop, ap, subst, sym, ◌∙◌, arith}
use Rattle.std.specs.Prelude.{slice_index, ◌==◌, ◌||◌, true}
use Rattle.std.specs.List.{flat_map}
use Rattle.redo_html.specs.Passage.{inline_html, escaped_byte}
use Rattle.redo_html.specs.Private.Highlighting.{highlights_between, after_code_point, html_from}
use Rattle.redo_html.specs.Private.Writing.{style_in}
use Rattle.redo_html.proofs.PassageLemmas.{reference_step}
use Rattle.redo_html.proofs.PassageWriting.{highlights_failed, part_failed, both_written}
use Rattle.redo_html.proofs.StyleLemmas.{code_point_style}
use Rattle.redo_html.proofs.SymbolLemmas.{reference_symbol}
use Rattle.redo_html.proofs.passage.write_reference.Goals as goal

is_reference : (first : ℕ) (bytes : List ℕ) → first ≡ slice_index bytes 0 → (first == 38 || first == 60 || first == 62) ≡ true
    → (slice_index bytes 0 == 38 || slice_index bytes 0 == 60 || slice_index bytes 0 == 62) ≡ true
is_reference first bytes same is = subst (λ (b : ℕ). (b == 38 || b == 60 || b == 62) ≡ true) same is

pub returns-in_err-write_highlights : goal.returns-in_err-write_highlights
returns-in_err-write_highlights g c =
    let bytes = c.args.bytes.now in
    let kind = c.args.kind in
    let look = c.args.look.now in
    highlights_failed _ kind look bytes (flat_map (inline_html kind) (highlights_between look false)) (escaped_byte (slice_index bytes 0))
    false 1 (reference_step kind look bytes c.requires.some (is_reference c.args.first bytes c.requires.first c.requires.reference))
    _ _ _ _ c.from_residual.ensures.0 c.in_err-write_highlights.ensures

pub returns-in_err-push_all : goal.returns-in_err-push_all
returns-in_err-push_all g c =
    let bytes = c.args.bytes.now in
    let kind = c.args.kind in
    let look = c.args.look.now in
    part_failed _ kind look bytes (flat_map (inline_html kind) (highlights_between look false)) (c.reference.result.now)
    false 1 (ap (λ (t : List ℕ). flat_map (inline_html kind) (highlights_between look false)
    ++ (t ++ html_from kind (after_code_point look false) (drop 1 bytes))) (c.reference.ensures ∙ ap escaped_byte c.requires.first)
    ∙ reference_step kind look bytes c.requires.some (is_reference c.args.first bytes c.requires.first c.requires.reference))
    _ _ _ _ _ c.from_residual-in_err-push_all.ensures.0 c.in_ok-write_highlights.ensures c.in_err-push_all.ensures

pub returns : goal.returns
returns g c =
    let bytes = c.args.bytes.now in
    let kind = c.args.kind in
    let look = c.args.look.now in
    let is = is_reference c.args.first bytes c.requires.first c.requires.reference in
    let found = reference_symbol kind bytes c.requires.some is in
    both_written _ kind look bytes (flat_map (inline_html kind) (highlights_between look false)) (c.reference.result.now)
    false 1 (ap (λ (t : List ℕ). flat_map (inline_html kind) (highlights_between look false)
    ++ (t ++ html_from kind (after_code_point look false) (drop 1 bytes))) (c.reference.ensures ∙ ap escaped_byte c.requires.first)
    ∙ reference_step kind look bytes c.requires.some is)
    _ _ _ c.pass_code_point.ensures (ap (λ (n : ℕ). style_in kind look.wanted (drop n bytes)) (sym found.1)
    ∙ code_point_style kind look.wanted bytes c.requires.some (slice_index bytes 0) found.0) (omega arith) c.requires.some
    c.in_ok-write_highlights.ensures c.in_ok-push_all.ensures
