use Rattle.std.proofs.Common.{◌≡◌, ◌-◌, ◌∙◌, suc, map, ap, sym, arith}
use Rattle.std.specs.String.{string_bytes}
use Rattle.std.proofs.lemmas.List.{take-map}
use Rattle.clap.specs.Faults.{fault_of}
use Rattle.redo_args.specs.Rejection.{kinds_of}
use Rattle.redo_args.proofs.RejectionLemmas.{alike_is, within_all, within_earlier, within_none}
use Rattle.redo_args.proofs.rejection.rejected_count.Goals as goal

pub returns-then-not-is_same_kind-clause-count : goal.returns-then-not-is_same_kind-clause-count
returns-then-not-is_same_kind-clause-count g c =
    let app = g.C.CommandLine.app c.args.command_line.now in
    let words = map string_bytes c.args.words.now in
    let n = c.loop-count.count - 1 in
    let next : c.loop-count.count ≡ suc n = omega (arith, c.loop-count-test.true) in
    let earlier = c.in_ok-before.ensures ∙ ap (fault_of app) (sym (take-map string_bytes n c.args.words.now)) in
    let differs = sym (alike_is app words n (kinds_of c.in_ok-before.before) (kinds_of c.args.kind) c.is_same_kind.result
    c.is_same_kind.ensures earlier c.requires) ∙ c.if-not-is_same_kind.true in
    sym (within_all app words c.loop-count.count n next differs) ∙ c.loop-count.invariant.1

pub loop-count-preserved : goal.loop-count-preserved
loop-count-preserved g c =
    let app = g.C.CommandLine.app c.args.command_line.now in
    let words = map string_bytes c.args.words.now in
    let n = c.loop-count.count - 1 in
    let next : c.loop-count.count ≡ suc n = omega (arith, c.loop-count-test.true) in
    let earlier = c.in_ok-before.ensures ∙ ap (fault_of app) (sym (take-map string_bytes n c.args.words.now)) in
    let alike = sym (alike_is app words n (kinds_of c.in_ok-before.before) (kinds_of c.args.kind) c.is_same_kind.result
    c.is_same_kind.ensures earlier c.requires) ∙ c.if-not-is_same_kind.false in (
      omega (arith, c.loop-count.invariant.0),
      sym (within_earlier app words c.loop-count.count n next alike) ∙ c.loop-count.invariant.1,
    )

pub returns-clause-count : goal.returns-clause-count
returns-clause-count g c =
    let app = g.C.CommandLine.app c.args.command_line.now in
    let words = map string_bytes c.args.words.now in
    let none : c.loop-count.count ≡ 0 = omega (arith, c.loop-count-test.false) in
    sym (within_none app words c.loop-count.count none) ∙ c.loop-count.invariant.1
