use Rattle.std.proofs.Common.{◌≡◌, arith, subst, zero-le}
use Rattle.std.proofs.lemmas.Bool.{eq-eqb}
use Rattle.std.proofs.lemmas.List.{take_rest}
use Rattle.memchr.specs.Find.{Nowhere, Passes, is_byte}
use Rattle.redo_line.proofs.NearLemmas.{found_behind, none_behind, none_more}
use Rattle.redo_line.proofs.find.find_near.Goals as goal

pub loop-at-init : goal.loop-at-init
loop-at-init c k low below = absurd (omega (arith, below))

pub returns-then-bytes-at : goal.returns-then-bytes-at
returns-then-bytes-at c = (
  record { low = zero-le; high = omega (arith, c.loop-at-test.true, c.min-near.ensures); before = c.loop-at.invariant },
  eq-eqb _ _ c.if-bytes-at.true,
)

pub loop-at-preserved : goal.loop-at-preserved
loop-at-preserved c = none_more c.args.byte c.args.bytes.now c.loop-at.at c.loop-at.invariant c.if-bytes-at.false

pub returns-in-Some : goal.returns-in-Some
returns-in-Some c =
    let end : c.loop-at.at ≡ c.min-near.result = omega (arith, c.loop-at-test.false, c.loop-at.auto.at-end) in
    let none = subst (Nowhere (Passes (is_byte c.args.byte) c.args.bytes.now) 0) end c.loop-at.invariant in
    found_behind c.args.byte c.args.bytes.now _ c.min-near.result
    (take_rest c.args.bytes.now c.min-near.result) none c.in-Some.at c.in-Some.ensures

pub returns-in-None : goal.returns-in-None
returns-in-None c =
    let end : c.loop-at.at ≡ c.min-near.result = omega (arith, c.loop-at-test.false, c.loop-at.auto.at-end) in
    let none = subst (Nowhere (Passes (is_byte c.args.byte) c.args.bytes.now) 0) end c.loop-at.invariant in
    none_behind c.args.byte c.args.bytes.now _ c.min-near.result (take_rest c.args.bytes.now c.min-near.result) none
    (omega (arith, c.min-near.ensures)) c.in-None.ensures
