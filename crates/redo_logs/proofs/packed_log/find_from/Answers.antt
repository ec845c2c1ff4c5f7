use Rattle.std.proofs.Common.{◌<◌, ◌-◌, ◌+◌, arith, sym, subst}
use Rattle.std.proofs.lemmas.Bool.{ltb-true}
use Rattle.redo_logs.specs.Private.PackedLog.{IsBefore}
use Rattle.redo_logs.proofs.Checkpoints.{fewer_before, found_here, next_before}
use Rattle.redo_logs.proofs.packed_log.find_from.Goals as goal

pub returns-then-number-before-clause-found : goal.returns-then-number-before-clause-found
returns-then-number-before-clause-found c =
    let kept = c.records.invariant in
    let look = c.in-Some.ensures.lookup in
    found_here c.args.records.now c.records.at c.records.before c.args.number c.in-Some.one.now kept.0
    (ltb-true _ _ (sym look.0)) look.1 kept.1
    (subst (λ n. c.args.number - c.records.before < n) c.count-count.ensures.is c.if-number-before.true)

pub returns-then-number-before-clause-no_overflow : goal.returns-then-number-before-clause-no_overflow
returns-then-number-before-clause-no_overflow c =
    let kept = c.records.invariant in
    let look = c.in-Some.ensures.lookup in
    let next = next_before c.args.records.now c.records.at c.records.before c.in-Some.one.now kept.0 (ltb-true _ _ (sym look.0)) look.1 in
    let few = fewer_before c.args.records.now _ _ next in
    omega (arith, few, c.requires.at_most, c.count-count.ensures.is, c.if-number-before.true, kept.1)

pub records-preserved : goal.records-preserved
records-preserved c =
    let kept = c.records.invariant in
    let look = c.in-Some.ensures.lookup in (
      subst (λ n. IsBefore c.args.records.now (c.records.at + 1) (c.records.before + n)) (sym c.count-count.ensures.is)
          (next_before c.args.records.now c.records.at c.records.before c.in-Some.one.now kept.0 (ltb-true _ _ (sym look.0)) look.1),
      omega (arith, kept.1, c.if-number-before.false),
    )
