use Rattle.std.proofs.Common.{suc, take, drop}
use Rattle.std.specs.List.{flat_map}
use Rattle.redo_html.specs.Private.Charting.{fragment_html}
use Rattle.redo_html.proofs.ChartWriting.{one_of}
use Rattle.redo_device.proofs.WritesLemmas.{in_middle}
use Rattle.redo_html.proofs.chart.write_fragments.Goals as goal

pub returns-in_err-write_fragment : goal.returns-in_err-write_fragment
returns-in_err-write_fragment g c =
    let fragments = c.args.fragments.now in
    let i = c.loop-fragment.fragment-index in
    in_middle _ (flat_map fragment_html fragments) _ _ (flat_map fragment_html (take i fragments)) _
    (flat_map fragment_html (drop (suc i) fragments)) _ _
    c.from_residual.ensures.0 c.loop-fragment.invariant c.in_err-write_fragment.ensures
    (one_of fragment_html fragments i _ c.loop-fragment-test.true)
