use Rattle.std.proofs.Common.{map, refl}
use Rattle.std.specs.Prelude.{Ok, Err}
use Rattle.redo_html.specs.Chart.{layer_of, shape_of}
use Rattle.redo_chart.proofs.ChartLemmas.{no_write, wrote_layers}
use Rattle.redo_chart.proofs.timeline.write_groups.Goals as goal

pub returns-in_err-write_chart : goal.returns-in_err-write_chart
returns-in_err-write_chart g c =
    no_write _ _ _ _ c.in_err-write_chart.field-0.0 c.from_residual.result c.from_residual.ensures.1 refl
    (wrote_layers _ _ c.args.height c.args.lanes (layer_of c.group.result) (layer_of c.group-2.result) (layer_of c.group-3.result)
    (layer_of c.group-4.result)
    (map shape_of c.args.axis.now) (map shape_of c.args.callers.now) (map shape_of c.args.recipes.now) (map shape_of c.args.marks.now)
    (Err c.in_err-write_chart.field-0.0)
    c.group.ensures c.group-2.ensures c.group-3.ensures c.group-4.ensures c.in_err-write_chart.ensures)

pub returns : goal.returns
returns g c =
    wrote_layers _ _ c.args.height c.args.lanes (layer_of c.group.result) (layer_of c.group-2.result) (layer_of c.group-3.result)
    (layer_of c.group-4.result)
    (map shape_of c.args.axis.now) (map shape_of c.args.callers.now) (map shape_of c.args.recipes.now)
    (map shape_of c.args.marks.now) (Ok tt)
    c.group.ensures c.group-2.ensures c.group-3.ensures c.group-4.ensures c.in_ok-write_chart.ensures
