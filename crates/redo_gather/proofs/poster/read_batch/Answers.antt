use Rattle.std.proofs.Common.{◌≤◌, ◌++◌, length, arith, sym, ap, ◌∙◌, subst}
use Rattle.std.proofs.lemmas.List.{append_assoc, length-append}
use Rattle.std.proofs.Math.Seq.{take-length}
use Rattle.std.proofs.lemmas.Result.{err_from_is_err_and}
use Rattle.redo_line.specs.Scan.{consume}
use Rattle.redo_gather.specs.Private.Reading.{IsRead, IsRefused}
use Rattle.redo_gather.proofs.ReadingLemmas.{lines_read, no_line, refused_after, took_rest, took_to}
use Rattle.redo_gather.proofs.poster.read_batch.Goals as goal

pub returns-then-len-eq-MAX_BATCH_ENTRIES-clause-read : goal.returns-then-len-eq-MAX_BATCH_ENTRIES-clause-read
returns-then-len-eq-MAX_BATCH_ENTRIES-clause-read c initial earlier read =
    let was = c.lines.invariant.3 initial earlier read in
    let range = rw c.in-Some.is at c.in_ok-end_offset.ensures.range in
    let found = rw c.in-Some.is at c.in_ok-end_offset.ensures.found in
    let forward : c.lines.offset ≤ c.in-Some.end_offset = omega (arith, range.0) in (
      took_to initial c.args.chunk.now c.lines.scan c.lines.offset was.0 c.step_into.new.self c.in-Some.end_offset forward found.taken,
      lines_read c.lines.scan c.step_into.new.self _ _ _ _ (earlier ++ c.lines.batch) (earlier ++ c.step_into.new.entries) found was.1
          (ap (λ es. earlier ++ es) found.put ∙ sym (append_assoc earlier c.lines.batch found.more)),
    )

pub lines-preserved : goal.lines-preserved
lines-preserved c =
    let kept = c.lines.invariant in
    let range = rw c.in-Some.is at c.in_ok-end_offset.ensures.range in
    let found = rw c.in-Some.is at c.in_ok-end_offset.ensures.found in
    let forward : c.lines.offset ≤ c.in-Some.end_offset = omega (arith, range.0) in
    let one_more = ap length found.put ∙ length-append c.lines.batch found.more in
    let fewer = c.if-len-eq-MAX_BATCH_ENTRIES.false in (
      omega (arith, kept.0, range.0),
      range.1,
      omega (arith, kept.2, one_more, fewer, c.len.ensures),
      λ initial earlier read.
          let was = kept.3 initial earlier read in (
            took_to initial c.args.chunk.now c.lines.scan c.lines.offset was.0 c.step_into.new.self c.in-Some.end_offset forward
                found.taken,
            lines_read c.lines.scan c.step_into.new.self _ _ _ _ (earlier ++ c.lines.batch) (earlier ++ c.step_into.new.entries) found was.1
                (ap (λ es. earlier ++ es) found.put ∙ sym (append_assoc earlier c.lines.batch found.more)),
          ),
    )

pub returns-in_err-end_offset-clause-refused : goal.returns-in_err-end_offset-clause-refused
returns-in_err-end_offset-clause-refused c initial earlier read =
    let was = c.lines.invariant.3 initial earlier read in
    let given = err_from_is_err_and c.from_residual.result c.from_residual.ensures.1 in
    let known = c.in_err-end_offset.ensures in
    rw (given.1, given.2)
    (subst (λ es. IsRefused initial c.args.chunk.now (earlier ++ es) c.in_err-end_offset.field-0.0) (sym known.unchanged_on_err)
    (refused_after initial c.args.chunk.now c.lines.scan c.lines.offset was.0 (earlier ++ c.lines.batch) was.1 c.in_err-end_offset.field-0.0
    (known.fault was.1.fault_free.not_failed)))

pub returns-in-None-clause-read : goal.returns-in-None-clause-read
returns-in-None-clause-read c initial earlier read =
    let was = c.lines.invariant.3 initial earlier read in
    let more = rw c.in-None.is at c.in_ok-end_offset.ensures.rest_consumed in
    let same = rw c.in-None.is at c.in_ok-end_offset.ensures.entries_unchanged in (
      took_rest initial c.args.chunk.now c.lines.scan c.lines.offset was.0 c.step_into.new.self more.0
          ∙ ap (λ p. consume p initial) (sym (take-length c.args.chunk.now)),
      subst (λ es. IsRead c.step_into.new.self (earlier ++ es)) (sym same)
          (no_line c.lines.scan c.step_into.new.self _ (earlier ++ c.lines.batch) more was.1),
    )
