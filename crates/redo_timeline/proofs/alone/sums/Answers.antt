use Rattle.std.proofs.Common.{◌≡◌, ◌+◌, get_or, map, ap, ◌∙◌, arith}
use Rattle.std.proofs.lemmas.List.{take_all}
use Rattle.redo_timeline.specs.Alone.{running_at}
use Rattle.redo_timeline.specs.Private.Summing.{alone_until}
use Rattle.redo_timeline.proofs.CountLemmas.{running_is}
use Rattle.redo_timeline.proofs.SumLemmas.{next_part, part_if_not_one, part_if_one, sums_first, sums_next, until_bounded}
use Rattle.redo_timeline.proofs.alone.sums.Goals.{then-running-eq1, else-running-eq1}
use Rattle.redo_timeline.proofs.alone.sums.Goals as goal

pub overflow_sub-running : goal.overflow_sub-running
overflow_sub-running c =
    let running =
    (running_is c.loop-point.last c.args.spans.now c.in_ok-begins.field-0.items c.in_order-begins.result.items c.deref.result.now
    c.in_ok-ends.field-0.items c.in_order-ends.result.items c.deref-in-loop-point.result.now c.count_until.result
    c.count_until-in-loop-point.result c.in_ok-begins.ensures c.in_order-begins.ensures c.deref.ensures.value c.count_until.ensures
    c.in_ok-ends.ensures c.in_order-ends.ensures c.deref-in-loop-point.ensures.value c.count_until-in-loop-point.ensures) in
    omega (arith, running)

pub overflow_add-sum : goal.overflow_add-sum
overflow_add-sum c =
    let so_far = c.loop-point.invariant.so_far_is in
    let bounded = until_bounded c.args.spans.now c.loop-point.last in
    let up = c.loop-point.invariant.after c.loop-point.point-index 0 (omega arith) c.loop-point-test.true in
    let fits = c.type_inv.points c.loop-point.point-index in omega (arith, so_far, bounded, up, fits)

pub loop-point-init : goal.loop-point-init
loop-point-init c = sums_first c.args.spans.now c.args.points.now c.new-sums.result.items c.new-sums.ensures.items

pub loop-point-preserved : goal.loop-point-preserved
loop-point-preserved c =
    let spans = c.args.spans.now in
    let points = c.args.points.now in
    let last = c.loop-point.last in
    let point = get_or points c.loop-point.point-index 0 in
    let running : c.count_until.result ≡ c.count_until-in-loop-point.result + running_at spans last =
    running_is last spans c.in_ok-begins.field-0.items c.in_order-begins.result.items c.deref.result.now
    c.in_ok-ends.field-0.items c.in_order-ends.result.items c.deref-in-loop-point.result.now c.count_until.result
    c.count_until-in-loop-point.result c.in_ok-begins.ensures c.in_order-begins.ensures c.deref.ensures.value c.count_until.ensures
    c.in_ok-ends.ensures c.in_order-ends.ensures c.deref-in-loop-point.ensures.value c.count_until-in-loop-point.ensures in
    let next : c.if-running-eq1.sum ≡ c.loop-point.sum + next_part spans last point =
    elim c.if-running-eq1.branch [
      | then-running-eq1 w ↦
          let is = w.sum-is in let one = w.if-running-eq1.true in
          let part = part_if_one spans last point (omega (arith, running, one)) in omega (arith, is, part)
      | else-running-eq1 w ↦
          let is = w.sum-is in let other = w.if-running-eq1.false in
          let part = part_if_not_one spans last point (λ one. other (omega (arith, running, one))) in omega (arith, is, part)
    ] in
    sums_next spans points c.loop-point.point-index c.requires c.loop-point-test.true c.loop-point.sums.items c.push.new.self.items
    c.loop-point.sum last c.if-running-eq1.sum next c.in_ok-push.ensures.items c.loop-point.invariant

pub returns : goal.returns
returns c = c.loop-point.invariant.sums_are
    ∙ ap (map (alone_until c.args.spans.now)) (take_all c.loop-point.point-index c.args.points.now c.loop-point-test.false)
