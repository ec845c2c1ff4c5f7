use Rattle.std.proofs.Common.{ℕ, List, ◌++◌, ◌∙◌, ap}
use Rattle.std.specs.Prelude.{codes}
use Rattle.std.proofs.lemmas.List.{append_assoc}
use Rattle.redo_html.specs.Chart.{layer_of}
use Rattle.redo_html.specs.Private.Charting.{group_start_html, layer_html}
use Rattle.redo_html.proofs.ChartWriting.{layer_parts, shapes_html, wrote_as}
use Rattle.redo_device.proofs.WritesLemmas.{at_first, in_middle, at_last, one_more}
use Rattle.redo_html.proofs.chart.write_group.Goals as goal

pub returns-in_err-push_all : goal.returns-in_err-push_all
returns-in_err-push_all g c =
    let layer = layer_of c.args.group in
    let rest = shapes_html layer ++ codes "</g>" in
    at_first _ (layer_html layer) _ _ rest _ _ c.from_residual.ensures.0 c.in_err-push_all.ensures
    (ap (λ (t : List ℕ). t ++ rest) c.group_start.ensures ∙ layer_parts layer)

pub returns-in_err-write_items : goal.returns-in_err-write_items
returns-in_err-write_items g c =
    let layer = layer_of c.args.group in
    let start = group_start_html layer.kind in
    in_middle _ (layer_html layer) _ _ start (shapes_html layer) (codes "</g>") _ _ c.from_residual-in_err-write_items.ensures.0
    (wrote_as _ _ _ start c.group_start.ensures c.in_ok-push_all.ensures) c.in_err-write_items.ensures
    (append_assoc start (shapes_html layer) (codes "</g>") ∙ layer_parts layer)

pub returns : goal.returns
returns g c =
    let layer = layer_of c.args.group in
    let start = group_start_html layer.kind in
    at_last _ (layer_html layer) _ _ (start ++ shapes_html layer) (codes "</g>") _
    (one_more _ _ _ start (shapes_html layer)
    (wrote_as _ _ _ start c.group_start.ensures c.in_ok-push_all.ensures) c.in_ok-write_items.ensures) c.push_all-2.ensures
    (append_assoc start (shapes_html layer) (codes "</g>") ∙ layer_parts layer)
