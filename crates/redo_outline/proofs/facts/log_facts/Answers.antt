use Rattle.std.proofs.Common.{◌<◌, List, sym, subst}
use Rattle.redo_logs.specs.Logs.{Log}
use Rattle.redo_logs.specs.EntryRef.{entry_value}
use Rattle.redo_logs.specs.Numbering.{AreLinesAt, HasText}
use Rattle.redo_outline.proofs.FactsLemmas.{entry_smaller, gathered_all, gathered_entry, gathered_lines, lines_smaller, no_rest}
use Rattle.redo_outline.proofs.facts.log_facts.Goals as goal

pub warnings_if-requires : goal.warnings_if-requires
warnings_if-requires c =
    let lines = subst (λ (logs : List Log).
    AreLinesAt logs c.args.number c.entries.next_entry c.lines-count.result.0.now c.lines-count.result.1) c.numbered-logs.ensures
    c.lines-count.ensures.lines in
    no_rest c.args.table.now c.args.number c.entries.next_entry c.entries.facts c.entries.invariant c.lines-count.result.0.now
    c.lines-count.result.1 lines

pub entries-smaller-then-count-gt0 : goal.entries-smaller-then-count-gt0
entries-smaller-then-count-gt0 c =
    let lines = subst (λ (logs : List Log).
    AreLinesAt logs c.args.number c.entries.next_entry c.lines-count.result.0.now c.lines-count.result.1) c.numbered-logs.ensures
    c.lines-count.ensures.lines in
    lines_smaller c.args.table.now c.args.number c.entries.next_entry c.entries.facts c.entries.invariant c.lines-count.result.0.now
    c.lines-count.result.1 lines c.if-count-gt0.true

pub entries-preserved-then-count-gt0 : goal.entries-preserved-then-count-gt0
entries-preserved-then-count-gt0 c =
    let lines = subst (λ (logs : List Log).
    AreLinesAt logs c.args.number c.entries.next_entry c.lines-count.result.0.now c.lines-count.result.1) c.numbered-logs.ensures
    c.lines-count.ensures.lines in
    rw (
      c.saturating_add.ensures,
      c.saturating_add-then-count-gt0.ensures,
      c.saturating_add-then-count-gt0-2.ensures,
      c.warnings_if.ensures,
    )
    (gathered_lines c.args.table.now c.args.number c.entries.next_entry c.entries.facts c.entries.invariant c.lines-count.result.0.now
    c.lines-count.result.1 lines)

pub entries-smaller : goal.entries-smaller
entries-smaller c =
    entry_smaller c.args.table.now c.args.number c.entries.next_entry c.entries.facts c.entries.invariant c.lines-count.result.1
    (subst (λ (logs : List Log). HasText logs c.args.number c.entries.next_entry → 0 < c.lines-count.result.1) c.numbered-logs.ensures
    c.lines-count.ensures.nonempty) c.if-count-gt0.false
    (entry_value c.in-Some.entry) (sym c.in-Some.ensures.entry)

pub entries-preserved : goal.entries-preserved
entries-preserved c =
    rw (c.or-facts.ensures, c.closing_status.ensures)
    (gathered_entry c.args.table.now c.args.number c.entries.next_entry c.entries.facts c.entries.invariant c.lines-count.result.1
    (subst (λ (logs : List Log). HasText logs c.args.number c.entries.next_entry → 0 < c.lines-count.result.1) c.numbered-logs.ensures
    c.lines-count.ensures.nonempty) c.if-count-gt0.false
    (entry_value c.in-Some.entry) (sym c.in-Some.ensures.entry))

pub returns-in_default : goal.returns-in_default
returns-in_default c = gathered_all c.args.table.now c.args.number c.entries.next_entry c.entries.facts c.entries.invariant
    (sym c.in_default.ensures.entry)
