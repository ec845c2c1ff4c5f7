use Rattle.std.proofs.Common.{◌-◌, ℕ, List, subst}
use Rattle.std.specs.List.{repeat}
use Rattle.redo_html.specs.Shown.{notation}
use Rattle.redo_html.specs.Private.Writing.{WroteUpTo}
use Rattle.redo_html.proofs.NotationLemmas.{next_notation}
use Rattle.redo_html.proofs.WritingLemmas.{wrote_more, failed_part}
use Rattle.redo_html.proofs.notation.write_notations.Goals as goal

pub returns-in_err-write_notation : goal.returns-in_err-write_notation
returns-in_err-write_notation g c =
    let one = notation c.args.code_point in
    let left = c.loop-left.left in
    let all = repeat c.args.count one in
    failed_part _ (g.W.Sink.written c.loop-left.out) _ all one (repeat (left - 1) one) _ _ c.from_residual.ensures.0
    (subst (λ (t : List ℕ). WroteUpTo (g.W.Sink.written c.args.out.now) (g.W.Sink.written c.loop-left.out) all t)
    (next_notation left one c.loop-left-test.true) c.loop-left.invariant) c.in_err-write_notation.ensures

pub loop-left-preserved : goal.loop-left-preserved
loop-left-preserved g c =
    let one = notation c.args.code_point in
    let left = c.loop-left.left in
    let all = repeat c.args.count one in
    wrote_more _ (g.W.Sink.written c.loop-left.out) _ all one (repeat (left - 1) one)
    (subst (λ (t : List ℕ). WroteUpTo (g.W.Sink.written c.args.out.now) (g.W.Sink.written c.loop-left.out) all t)
    (next_notation left one c.loop-left-test.true) c.loop-left.invariant) c.in_ok-write_notation.ensures
