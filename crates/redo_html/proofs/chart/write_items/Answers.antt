use Rattle.std.proofs.Common.{suc, map, take, drop}
use Rattle.std.specs.List.{flat_map}
use Rattle.redo_html.specs.Chart.{shape_of}
use Rattle.redo_html.specs.Private.Charting.{shape_html}
use Rattle.redo_device.proofs.WritesLemmas.{in_middle}
use Rattle.redo_html.proofs.WritingLemmas.{one_among}
use Rattle.redo_html.proofs.chart.write_items.Goals as goal

pub returns-in_err-write_item : goal.returns-in_err-write_item
returns-in_err-write_item g c =
    let items = c.args.items.now in
    let i = c.loop-item.item-index in
    in_middle _ (flat_map (shape_html c.args.kind) (map shape_of (items))) _ _
    (flat_map (shape_html c.args.kind) (map shape_of (take i items))) _
    (flat_map (shape_html c.args.kind) (map shape_of (drop (suc i) items))) _ _
    c.from_residual.ensures.0 c.loop-item.invariant c.in_err-write_item.ensures
    (one_among (shape_html c.args.kind) shape_of items i _ c.loop-item-test.true)
