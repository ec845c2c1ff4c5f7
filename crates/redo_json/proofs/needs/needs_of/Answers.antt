use Rattle.std.proofs.Common.{ℕ, Bor, List, [], ap, map, sym, subst, arith}
use Rattle.redo_logs.specs.Logs.{Log}
use Rattle.redo_logs.specs.Numbering.{AreLinesAt}
use Rattle.redo_outline.proofs.LogEntries.{within}
use Rattle.redo_json.proofs.NeedLemmas.{after_entry, after_texts, all_needs, begin_needs, lines_within}
use Rattle.redo_json.proofs.needs.needs_of.Goals as goal

pub entries-init : goal.entries-init
entries-init c =
    begin_needs _ _ _ _ _ (ap (λ (l : List (Bor (List ℕ))). map (λ (name : Bor (List ℕ)). name.now) l) c.new-needs.ensures.items)
    c.target_at.ensures (c.in_ok-add.ensures.known [] c.new-names.ensures)

pub entries-smaller-then-count-gt0 : goal.entries-smaller-then-count-gt0
entries-smaller-then-count-gt0 c =
    let lines = subst (λ (logs : List Log). AreLinesAt logs c.args.number c.entries.at c.lines-count.result.0.now c.lines-count.result.1)
    c.numbered-logs.ensures c.lines-count.ensures.lines in
    let low = lines_within c.args.table.now c.args.number c.entries.at _ _ lines c.if-count-gt0.true in
    omega (arith, low, c.if-count-gt0.true)

pub entries-preserved-then-count-gt0 : goal.entries-preserved-then-count-gt0
entries-preserved-then-count-gt0 c =
    let lines = subst (λ (logs : List Log). AreLinesAt logs c.args.number c.entries.at c.lines-count.result.0.now c.lines-count.result.1)
    c.numbered-logs.ensures c.lines-count.ensures.lines in
    after_texts c.args.table.now c.args.number c.entries.at _ _ _ _ lines c.entries.invariant

pub entries-smaller : goal.entries-smaller
entries-smaller c = let low = within c.args.table.now c.args.number _ c.entries.at (sym c.in-Some.ensures.entry) in omega (arith, low)

pub entries-preserved : goal.entries-preserved
entries-preserved c =
    after_entry c.args.table.now c.args.number c.entries.at _ _ _ _ _ (sym c.in-Some.ensures.entry) c.entries.invariant
    (c.in_ok-add_entry.ensures.known c.entries.invariant.before c.entries.invariant.known)
    (c.in_ok-add_entry.ensures.added c.entries.invariant.before c.entries.invariant.known)

pub returns-in_default : goal.returns-in_default
returns-in_default c = all_needs c.args.table.now c.args.number c.entries.at _ _ (sym c.in_default.ensures.entry) c.entries.invariant
