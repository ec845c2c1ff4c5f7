use Rattle.std.proofs.Common.{◌≡◌, drop, length, arith, ap, ◌∙◌}
use Rattle.std.proofs.lemmas.List.{length-drop, take_rest}
use Rattle.redo_line.specs.Lines.{ended, rest}
use Rattle.redo_logs.proofs.FirstLines.{next_ended, next_rest, no_line}
use Rattle.redo_logs.proofs.lines.skip_lines.Goals as goal

pub unreachable-requires : goal.unreachable-requires
unreachable-requires c =
    let kept = c.loop.invariant in
    let left = take_rest c.args.bytes.now c.loop.upto in
    let lines = ap (λ bytes. length (ended bytes)) left ∙ ap length kept.1 ∙ length-drop c.loop.counter (ended c.args.bytes.now) in
    no_line _ c.in_default.ensures (let more = c.loop-test.true in omega (arith, lines, more, c.requires))

pub loop-preserved : goal.loop-preserved
loop-preserved c =
    let kept = c.loop.invariant in
    let found = c.in-Some.ensures in
    let left = take_rest c.args.bytes.now c.loop.upto in (
      (let size = length-drop c.loop.upto c.args.bytes.now in let high = found.0.high in let all = ap length left in
          omega (arith, kept.0, size, high, all)),
      next_ended c.args.bytes.now _ c.loop.upto c.in-Some.at c.loop.counter left found kept.1,
      next_rest c.args.bytes.now _ c.loop.upto c.in-Some.at left found ∙ kept.2,
    )

pub returns-clause-lines : goal.returns-clause-lines
returns-clause-lines c =
    let all : c.loop.counter ≡ c.args.count = omega (arith, c.loop.auto.counter-end, c.loop-test.false) in
    ap ended (take_rest c.args.bytes.now c.loop.upto) ∙ c.loop.invariant.1 ∙ ap (λ n. drop n (ended c.args.bytes.now)) all

pub returns-clause-last : goal.returns-clause-last
returns-clause-last c = ap rest (take_rest c.args.bytes.now c.loop.upto) ∙ c.loop.invariant.2
