use Rattle.std.proofs.Common.{◌≡◌, ◌-◌, ◌<◌, ◌≤◌, Bool, false, true, not, List, [], ◌∷◌, ◌++◌, length, get_or, take, sym, ap, ◌∙◌, subst, refl, arith}
use Rattle.std.specs.Prelude.{nat_lt}
use Rattle.std.proofs.lemmas.List.{length-take-le, take_all, take_more}
use Rattle.redo_diagnostics.specs.declared.severity.Severity.TheVariants.{Warning}
use Rattle.redo_compare.specs.Occurrences.{OccurrenceValue}
use Rattle.redo_compare.specs.Private.Remaining.{count_in, one_if, same_kind}
use Rattle.redo_compare.specs.Private.Rounding.{RanSecond}
use Rattle.redo_compare.proofs.StepLemmas.{second-as, second-begins, second-known, second-unknown}
use Rattle.redo_compare.proofs.rounds.second_round.Goals as goal
use Rattle.redo_compare.proofs.rounds.second_round.Goals.{then-not-unknown-i, else-not-unknown-i}

pub loop-i-init : goal.loop-i-init
loop-i-init c = subst (λ (flags : List Bool). RanSecond c.args.by_key.now c.args.by_key.now [] [] flags) (sym c.in_ok-new.ensures.items)
    (second-begins c.args.by_key.now)

any : OccurrenceValue
any = record { line = 0; severity = Warning; key = []; source = [] }

pub loop-i-preserved : goal.loop-i-preserved
loop-i-preserved c =
    let i = c.loop-i.i in
    let now = c.args.now.now in
    let before = c.args.unknown.now in
    let flags = c.loop-i.new.items in
    let old = c.args.by_key.now in
    let key = c.loop-i.by_key in
    let new_key = c.if-not-unknown-i.by_key in
    let is_known = c.if-not-unknown-i.is_known in
    let within : i < length before = omega arith in
    let count = length-take-le i before (omega arith) ∙ sym (length-take-le i now c.loop-i.auto.i-end) in
    elim c.if-not-unknown-i.branch [
      | then-not-unknown-i w ↦
          let is : is_known ≡ true = w.is_known-is ∙ ap not w.if-not-unknown-i.true in
          second-as old new_key (take_more now i any c.loop-i-test.true)
          (take_more before i false within ∙ ap (λ (flag : Bool). take i before ++ flag ∷ []) w.if-not-unknown-i.true)
          (c.in_ok-push.ensures.items ∙ ap (λ (flag : Bool). flags ++ not flag ∷ []) is)
          (second-known old key new_key (take i now) (take i before) flags (get_or now i any) c.loop-i.invariant count w.by_key-is)
      | else-not-unknown-i w ↦
          let one = w.index-now-i.result in
          second-as old new_key (take_more now i one c.loop-i-test.true
          ∙ ap (λ (next : OccurrenceValue). take i now ++ next ∷ []) (sym w.index-now-i.is))
          (take_more before i false within ∙ ap (λ (flag : Bool). take i before ++ flag ∷ []) w.if-not-unknown-i.false)
          c.in_ok-push.ensures.items
          (second-unknown old key new_key (take i now) (take i before) flags one c.loop-i.invariant count is_known
          (w.is_known-is ∙ w.take-is_known.ensures.taken ∙ (λ j. nat_lt 0 (count_in (w.key.ensures j, []) key)))
          (λ kind. ap (count_in kind) w.by_key-is ∙ w.take-is_known.ensures.left kind
          ∙ (λ j. count_in kind key - one_if (same_kind (w.key.ensures j, []) kind))))
    ]

pub returns : goal.returns
returns c =
    let few : length c.args.unknown.now ≤ c.loop-i.i = omega arith in
    let ran = second-as c.args.by_key.now c.loop-i.by_key (sym (take_all c.loop-i.i c.args.now.now c.loop-i-test.false))
    (sym (take_all c.loop-i.i c.args.unknown.now few)) refl c.loop-i.invariant in
    record { count = ran.count; new = ran.new }
