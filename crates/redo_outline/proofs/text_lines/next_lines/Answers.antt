use Rattle.std.proofs.Common.{◌+◌, [], length, sym, ap, ◌∙◌, arith}
use Rattle.redo_line.proofs.LineLemmas.{ended-free}
use Rattle.redo_outline.proofs.TextLineLemmas.{count_of, later_lines, next_texts, no_lines, no_text}
use Rattle.redo_outline.proofs.LogEntries.{within}
use Rattle.redo_outline.proofs.text_lines.next_lines.Goals as goal

pub returns-then-count-gt0-clause-lines : goal.returns-then-count-gt0-clause-lines
returns-then-count-gt0-clause-lines c =
    let logs = c.args.logs.now.logs in
    let at = c.entries.at in
    let count = c.lines-count.result.1 in
    later_lines logs c.args.number c.args.next at c.lines-count.result.0.now (at + count) c.entries.invariant.after c.entries.invariant.same
    (next_texts logs c.args.number at c.lines-count.result.0.now count c.if-count-gt0.true c.lines-count.ensures.lines)

pub returns-then-count-gt0-clause-count : goal.returns-then-count-gt0-clause-count
returns-then-count-gt0-clause-count c =
    count_of c.args.logs.now.logs c.args.number c.entries.at c.lines-count.result.0.now c.lines-count.result.1 c.lines-count.ensures.lines

pub returns-in-None-clause-count : goal.returns-in-None-clause-count
returns-in-None-clause-count c = sym (ap length (ended-free [] tt))

pub returns-in-None-clause-lines : goal.returns-in-None-clause-lines
returns-in-None-clause-lines c =
    later_lines c.args.logs.now.logs c.args.number c.args.next c.entries.at _ c.entries.at c.entries.invariant.after
    c.entries.invariant.same
    (no_lines c.args.logs.now.logs c.args.number c.entries.at (sym c.in-None.ensures.entry))

pub entries-smaller : goal.entries-smaller
entries-smaller c = let low = within c.args.logs.now.logs c.args.number _ c.entries.at (sym c.in-Some.ensures.entry) in omega (arith, low)

pub entries-preserved : goal.entries-preserved
entries-preserved c = record {
  after = omega arith;
  same = c.entries.invariant.same ∙ no_text c.args.logs.now.logs c.args.number _ c.entries.at (sym c.in-Some.ensures.entry)
      (λ text. let some = c.lines-count.ensures.nonempty text in omega (arith, some));
}
