use Rattle.std.proofs.Common.{◌≡◌, ◌-◌, Bool, not, List, ℕ, [], ◌∷◌, ◌++◌, take, sym, ap, ◌∙◌, subst}
use Rattle.std.specs.Prelude.{nat_lt}
use Rattle.std.proofs.lemmas.List.{take_all, take_more}
use Rattle.redo_compare.specs.Occurrences.{OccurrenceValue}
use Rattle.redo_compare.specs.Private.Remaining.{count_in, one_if, same_kind}
use Rattle.redo_compare.specs.Private.Rounding.{RanFirst}
use Rattle.redo_compare.proofs.StepLemmas.{first-begins, first-known, first-unknown}
use Rattle.redo_compare.proofs.rounds.first_round.Goals as goal
use Rattle.redo_compare.proofs.rounds.first_round.Goals.{then-is_known, else-is_known}

pub loop-one-init : goal.loop-one-init
loop-one-init c =
    subst (λ (flags : List Bool). RanFirst c.args.by_source.now c.args.by_source.now c.args.by_key.now c.args.by_key.now [] flags)
    (sym c.in_ok-unknown.ensures.items) (first-begins c.args.by_source.now c.args.by_key.now)

pub loop-one-preserved : goal.loop-one-preserved
loop-one-preserved c =
    let done = take c.loop-one.one-index c.args.now.now in
    let one = c.one-item.result in
    let flags = c.loop-one.unknown.items in
    let source = c.take-is_known.new.self in
    let more = take_more c.args.now.now c.loop-one.one-index one c.loop-one-test.true
    ∙ ap (λ (next : OccurrenceValue). done ++ next ∷ []) (sym c.one-item.is) in
    let known : c.take-is_known.result ≡ nat_lt 0 (count_in (one.key, one.source) c.loop-one.by_source) =
    c.take-is_known.ensures.taken ∙ (λ i. nat_lt 0 (count_in (c.key.ensures i, c.source.ensures i) c.loop-one.by_source)) in
    let taken : (kind : List ℕ × List ℕ) → count_in kind source ≡ count_in kind c.loop-one.by_source
    - one_if (same_kind (one.key, one.source) kind) =
    λ kind. c.take-is_known.ensures.left kind
    ∙ (λ i. count_in kind c.loop-one.by_source - one_if (same_kind (c.key.ensures i, c.source.ensures i) kind)) in
    let ran : RanFirst c.args.by_source.now source c.args.by_key.now c.if-is_known.by_key (done ++ one ∷ [])
    (flags ++ not c.take-is_known.result ∷ []) =
    elim c.if-is_known.branch [
      | then-is_known w ↦ first-known c.args.by_source.now c.loop-one.by_source source c.args.by_key.now c.loop-one.by_key
          c.if-is_known.by_key
          done flags one c.take-is_known.result c.loop-one.invariant known taken w.if-is_known.true
          (λ kind. ap (count_in kind) w.by_key-is ∙ w.take.ensures.left kind
          ∙ (λ i. count_in kind c.loop-one.by_key - one_if (same_kind (w.key-then-is_known.ensures i, []) kind)))
      | else-is_known w ↦ first-unknown c.args.by_source.now c.loop-one.by_source source c.args.by_key.now c.loop-one.by_key
          c.if-is_known.by_key done flags one c.take-is_known.result c.loop-one.invariant known taken w.if-is_known.false w.by_key-is
    ] in
    subst (λ (l : List OccurrenceValue). RanFirst c.args.by_source.now source c.args.by_key.now c.if-is_known.by_key l
    c.push.new.self.items)
    (sym more)
    (subst (λ (l : List Bool). RanFirst c.args.by_source.now source c.args.by_key.now c.if-is_known.by_key (done ++ one ∷ []) l)
    (sym c.in_ok-push.ensures.items) ran)

pub returns : goal.returns
returns c =
    let ran = subst (λ (l : List OccurrenceValue). RanFirst c.args.by_source.now c.loop-one.by_source c.args.by_key.now c.loop-one.by_key l
    c.loop-one.unknown.items) (take_all c.loop-one.one-index c.args.now.now c.loop-one-test.false) c.loop-one.invariant in
    record { count = ran.count; unknown = ran.unknown; left = ran.key_left }
