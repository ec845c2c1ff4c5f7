use Rattle.std.proofs.Common.{◌+◌, ◌∷◌, ◌++◌, [], List, take, sym, ap, ◌∙◌, subst, arith}
use Rattle.std.proofs.lemmas.List.{length-take-le, take_more}
use Rattle.redo_compare.specs.Occurrences.{OccurrenceValue}
use Rattle.redo_compare.specs.Private.Remaining.{CountByKey, count_in, one_if, same_kind}
use Rattle.redo_compare.proofs.KindLemmas.{has_key}
use Rattle.redo_compare.proofs.StepLemmas.{add-key, filter-low}
use Rattle.redo_compare.proofs.remaining.Remaining.by_key.Goals as goal

pub add-requires : goal.add-requires
add-requires c =
    let done = take c.loop-one.one-index c.args.occurrences.now in
    let counted = c.loop-one.invariant c.key.result.now in
    let low = filter-low (has_key c.key.result.now) done in
    let size = length-take-le c.loop-one.one-index c.args.occurrences.now c.loop-one.auto.one-index-end in
    record { few = omega (arith, counted, low, size) }

pub loop-one-preserved : goal.loop-one-preserved
loop-one-preserved c =
    let done = take c.loop-one.one-index c.args.occurrences.now in
    let one = c.one-item.result in
    let more = take_more c.args.occurrences.now c.loop-one.one-index one c.loop-one-test.true
    ∙ ap (λ (next : OccurrenceValue). done ++ next ∷ []) (sym c.one-item.is) in
    subst (λ (l : List OccurrenceValue). CountByKey c.add.new.self l) (sym more)
    (add-key c.loop-one.remaining c.add.new.self done one c.loop-one.invariant
    (λ kind. c.in_ok-add.ensures kind ∙ (λ i. count_in kind c.loop-one.remaining + one_if (same_kind (c.key.ensures i, []) kind))))
