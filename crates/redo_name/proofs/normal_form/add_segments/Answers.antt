use Rattle.std.proofs.Common.{ℕ, List, [], subst}
use Rattle.redo_name.specs.Names.{segments}
use Rattle.redo_name.proofs.NameLemmas.{cut-free}
use Rattle.redo_name.proofs.PathLemmas.{Halfway, none_yet, one_more, all_added}
use Rattle.redo_name.proofs.normal_form.add_segments.Goals as goal

pub segments-init : goal.segments-init
segments-init c parts stands = none_yet c.args.absolute parts (segments c.args.name.now) c.args.path.now.items stands

pub segments-preserved : goal.segments-preserved
segments-preserved c parts stands =
    let found = c.in-Some.ensures in
    let half = subst (λ (rest : List (List ℕ)). Halfway c.args.absolute parts (segments c.args.name.now) rest c.segments.path.items)
    found.first (c.segments.invariant parts stands) in
    one_more c.args.absolute parts (segments c.args.name.now) _ _ c.segments.path.items c.add_segment.new.path.items found.free half
    c.in_ok-add_segment.ensures

pub returns : goal.returns
returns c each parts stands =
    let left = c.segments.left.now in
    let free = c.in_default.ensures.none in
    let last = subst (λ (rest : List (List ℕ)). Halfway c.args.absolute parts (segments c.args.name.now) rest c.segments.path.items)
    (cut-free left free) (c.segments.invariant parts stands) in
    all_added c.args.absolute parts (segments c.args.name.now) c.add_segment-2.new.path.items
    (one_more c.args.absolute parts (segments c.args.name.now) [] left c.segments.path.items c.add_segment-2.new.path.items free last
    c.in_ok-add_segment-2.ensures)
