use Rattle.std.proofs.Common.{length, arith, zero-le, sym, ap, ◌∙◌}
use Rattle.std.proofs.lemmas.List.{length-drop, take_rest}
use Rattle.redo_line.proofs.TextLemmas.{next_text, none_yet}
use Rattle.redo_line.proofs.leading_text.text_lines.Goals as goal

pub lines-init : goal.lines-init
lines-init c = (zero-le, zero-le, none_yet c.args.bytes.now)

pub lines-preserved : goal.lines-preserved
lines-preserved c =
    let kept = c.lines.invariant in
    let found = c.in-Some.ensures in
    let left = take_rest c.args.bytes.now c.lines.length in (
      (let size = length-drop c.lines.length c.args.bytes.now in let high = found.0.high in let all = ap length left in
          omega (arith, kept.0, size, high, all)),
      (let more = c.lines-test.true in omega (arith, more)),
      next_text c.args.bytes.now _ c.lines.length c.lines.count c.in-Some.at kept.2 left found
          (sym c.has_record_prefix.ensures ∙ c.if-has_record_prefix.false),
    )
