use Rattle.std.proofs.Common.{◌≡◌, ◌+◌, max, get_or, arith}
use Rattle.std.specs.List.{count_by}
use Rattle.redo_timeline.specs.Parallelism.{count_at, runs_at}
use Rattle.redo_timeline.proofs.CountLemmas.{counts_itself, counts_others, most_next, running_is}
use Rattle.redo_timeline.proofs.parallelism.most_at_once.Goals.{then-span, else-span, then-most-count, else-most-count}
use Rattle.redo_timeline.proofs.LaneLemmas.{no_span}
use Rattle.redo_timeline.proofs.parallelism.most_at_once.Goals as goal

pub overflow_sub-running : goal.overflow_sub-running
overflow_sub-running c =
    let running =
    (running_is _ c.args.spans.now c.in_ok-begins.field-0.items c.in_order-begins.result.items c.deref.result.now c.in_ok-ends.field-0.items
    c.in_order-ends.result.items c.deref-in-loop-span.result.now c.count_until.result c.count_until-in-loop-span.result
    c.in_ok-begins.ensures c.in_order-begins.ensures c.deref.ensures.value c.count_until.ensures c.in_ok-ends.ensures
    c.in_order-ends.ensures c.deref-in-loop-span.ensures.value c.count_until-in-loop-span.ensures) in
    omega (arith, running)

pub loop-span-preserved : goal.loop-span-preserved
loop-span-preserved c =
    let spans = c.args.spans.now in
    let span = get_or spans c.loop-span.span-index no_span in
    let running : c.count_until.result ≡ c.count_until-in-loop-span.result + count_by (runs_at span.began) spans =
    running_is _ c.args.spans.now c.in_ok-begins.field-0.items c.in_order-begins.result.items c.deref.result.now c.in_ok-ends.field-0.items
    c.in_order-ends.result.items c.deref-in-loop-span.result.now c.count_until.result c.count_until-in-loop-span.result
    c.in_ok-begins.ensures c.in_order-begins.ensures c.deref.ensures.value c.count_until.ensures c.in_ok-ends.ensures
    c.in_order-ends.ensures c.deref-in-loop-span.ensures.value c.count_until-in-loop-span.ensures in
    let count : c.if-span.count ≡ count_at spans span =
    elim c.if-span.branch [
      | then-span w ↦ let others = counts_others spans span w.if-span.true in let is = w.count-is in omega (arith, running, others, is)
      | else-span w ↦ let itself = counts_itself spans span w.if-span.false in let is = w.count-is in omega (arith, running, itself, is)
    ] in
    let most : c.if-most-count.most ≡ max c.loop-span.most (count_at spans span) =
    elim c.if-most-count.branch [
      | then-most-count w ↦ let is = w.most-is in let less = w.if-most-count.true in omega (arith, count, is, less)
      | else-most-count w ↦ let is = w.most-is in let le = w.if-most-count.false in omega (arith, count, is, le)
    ] in
    most_next spans c.loop-span.span-index c.loop-span.most c.if-most-count.most no_span c.loop-span-test.true most c.loop-span.invariant
