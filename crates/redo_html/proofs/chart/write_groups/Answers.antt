use Rattle.std.proofs.Common.{suc, map, take, drop}
use Rattle.std.specs.List.{flat_map}
use Rattle.redo_html.specs.Chart.{layer_of}
use Rattle.redo_html.specs.Private.Charting.{layer_html}
use Rattle.redo_device.proofs.WritesLemmas.{in_middle}
use Rattle.redo_html.proofs.WritingLemmas.{one_among}
use Rattle.redo_html.proofs.chart.write_groups.Goals as goal

pub returns-in_err-write_group : goal.returns-in_err-write_group
returns-in_err-write_group g c =
    let groups = c.args.groups.now in
    let i = c.loop-group.group-index in
    in_middle _ (flat_map layer_html (map layer_of (groups))) _ _ (flat_map layer_html (map layer_of (take i groups))) _
    (flat_map layer_html (map layer_of (drop (suc i) groups))) _ _
    c.from_residual.ensures.0 c.loop-group.invariant c.in_err-write_group.ensures
    (one_among layer_html layer_of groups i _ c.loop-group-test.true)
