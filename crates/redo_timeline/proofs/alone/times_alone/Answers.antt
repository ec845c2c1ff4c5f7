use Rattle.std.proofs.Common.{◌≡◌, ℕ, ◌-◌, List, [], ◌∷◌, ◌++◌, map, get_or, take, Contains, sym, ap, ◌∙◌, subst, arith}
use Rattle.std.proofs.lemmas.List.{map_more}
use Rattle.redo_timeline.specs.Alone.{alone}
use Rattle.redo_timeline.specs.Private.Counting.{end_of}
use Rattle.redo_timeline.specs.Private.Summing.{alone_until}
use Rattle.redo_timeline.proofs.LaneLemmas.{no_span}
use Rattle.redo_timeline.proofs.SumLemmas.{begin_is_point, end_is_point, read_sums, until_end}
use Rattle.redo_timeline.proofs.alone.times_alone.Goals as goal

pub sum_at-until_end-requires-clause-contained : goal.sum_at-until_end-requires-clause-contained
sum_at-until_end-requires-clause-contained c =
    let spans = c.args.spans.now in
    let i = c.loop-span.span-index in
    subst (λ (time : ℕ). Contains c.deref-in-loop-span.result.now time) (sym c.end_of.ensures)
    (subst (λ (points : List ℕ). Contains points (end_of (get_or spans i no_span))) (sym c.deref-in-loop-span.ensures.value)
    (end_is_point spans c.in_ok-points.points.items c.in_ok-points.ensures i no_span c.loop-span-test.true))

pub sum_at-until_begin-requires-clause-contained : goal.sum_at-until_begin-requires-clause-contained
sum_at-until_begin-requires-clause-contained c =
    let spans = c.args.spans.now in
    let i = c.loop-span.span-index in
    subst (λ (points : List ℕ). Contains points (get_or spans i no_span).began) (sym c.deref-in-loop-span-3.ensures.value)
    (begin_is_point spans c.in_ok-points.points.items c.in_ok-points.ensures i no_span c.loop-span-test.true)

pub overflow_sub-until_end : goal.overflow_sub-until_end
overflow_sub-until_end c =
    let spans = c.args.spans.now in
    let span = get_or spans c.loop-span.span-index no_span in
    let points = c.in_ok-points.points.items in
    let at_end : c.sum_at-until_end.result ≡ alone_until spans (end_of span) =
    c.sum_at-until_end.ensures (alone_until spans) (read_sums spans points c.deref.result.now c.deref-in-loop-span.result.now
    c.in_ok-sums.sums.items c.deref-in-loop-span-2.result.now c.deref.ensures.value c.in_ok-sums.ensures
    c.deref-in-loop-span.ensures.value c.deref-in-loop-span-2.ensures.value) ∙ ap (alone_until spans) c.end_of.ensures in
    let at_begin : c.sum_at-until_begin.result ≡ alone_until spans span.began =
    c.sum_at-until_begin.ensures (alone_until spans) (read_sums spans points c.deref.result.now c.deref-in-loop-span-3.result.now
    c.in_ok-sums.sums.items c.deref-in-loop-span-4.result.now c.deref.ensures.value c.in_ok-sums.ensures
    c.deref-in-loop-span-3.ensures.value c.deref-in-loop-span-4.ensures.value) in
    let both = until_end spans span in omega (arith, at_end, at_begin, both)

pub loop-span-preserved : goal.loop-span-preserved
loop-span-preserved c =
    let spans = c.args.spans.now in
    let i = c.loop-span.span-index in
    let span = get_or spans i no_span in
    let points = c.in_ok-points.points.items in
    let at_end : c.sum_at-until_end.result ≡ alone_until spans (end_of span) =
    c.sum_at-until_end.ensures (alone_until spans) (read_sums spans points c.deref.result.now c.deref-in-loop-span.result.now
    c.in_ok-sums.sums.items c.deref-in-loop-span-2.result.now c.deref.ensures.value c.in_ok-sums.ensures
    c.deref-in-loop-span.ensures.value c.deref-in-loop-span-2.ensures.value) ∙ ap (alone_until spans) c.end_of.ensures in
    let at_begin : c.sum_at-until_begin.result ≡ alone_until spans span.began =
    c.sum_at-until_begin.ensures (alone_until spans) (read_sums spans points c.deref.result.now c.deref-in-loop-span-3.result.now
    c.in_ok-sums.sums.items c.deref-in-loop-span-4.result.now c.deref.ensures.value c.in_ok-sums.ensures
    c.deref-in-loop-span-3.ensures.value c.deref-in-loop-span-4.ensures.value) in
    let both = until_end spans span in
    let time : c.sum_at-until_end.result - c.sum_at-until_begin.result ≡ alone spans span = omega (arith, at_end, at_begin, both) in
    c.in_ok-push.ensures.items
    ∙ ap (λ (times : List ℕ). times ++ (c.sum_at-until_end.result - c.sum_at-until_begin.result) ∷ []) c.loop-span.invariant
    ∙ ap (λ (n : ℕ). map (alone spans) (take i spans) ++ n ∷ []) time ∙ sym (map_more (alone spans) spans i no_span c.loop-span-test.true)
