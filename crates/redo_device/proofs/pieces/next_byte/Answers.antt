use Rattle.std.proofs.Common.{◌<◌, ◌≤◌, [], length, get_or, map, arith, sym, ap, ◌∙◌}
use Rattle.std.proofs.lemmas.List.{get_or-map, length-map}
use Rattle.redo_device.proofs.PieceLemmas.{here, next}
use Rattle.redo_device.proofs.pieces.next_byte.Goals as goal

pub returns-then-from-len-clause-reads : goal.returns-then-from-len-clause-reads
returns-then-from-len-clause-reads c =
    let reads = map (λ read. read.items) c.args.reads.now in
    let below : c.loop-at.at < length c.args.reads.now = c.loop-at-test.true in
    let read = get_or-map (λ read. read.items) c.args.reads.now c.loop-at.at c.index-reads-at.result [] below
    ∙ ap (λ v. v.items) (sym c.index-reads-at.is) in
    let left : c.loop-at.from < length (get_or reads c.loop-at.at []) = rw read (omega (arith, c.index-reads-at.result.ok.0)) in
    sym (here reads c.loop-at.at c.loop-at.from [] (rw length-map below) left) ∙ c.loop-at.invariant.1

pub loop-at-preserved : goal.loop-at-preserved
loop-at-preserved c =
    let reads = map (λ read. read.items) c.args.reads.now in
    let below : c.loop-at.at < length c.args.reads.now = c.loop-at-test.true in
    let read = get_or-map (λ read. read.items) c.args.reads.now c.loop-at.at c.index-reads-at.result [] below
    ∙ ap (λ v. v.items) (sym c.index-reads-at.is) in
    let over : length (get_or reads c.loop-at.at []) ≤ c.loop-at.from = rw read (omega (arith, c.index-reads-at.result.ok.0)) in
    (omega arith, next reads c.loop-at.at c.loop-at.from [] (rw length-map below) over ∙ c.loop-at.invariant.1)
