use Rattle.std.proofs.Common.{◌≤◌, arith, refl, sym, subst, zero-le}
use Rattle.std.proofs.lemmas.Result.{err_from_is_err_and}
use Rattle.redo_gather.specs.Private.Reading.{IsRead, IsRefused}
use Rattle.redo_gather.proofs.ReadingLemmas.{if_none, lines_read, no_line, refused_after, took_nothing, took_rest, took_to}
use Rattle.redo_gather.proofs.one_stream.EntriesEntrySink.take_chunk.Goals as goal

pub lines-init : goal.lines-init
lines-init c = (zero-le, λ read. (took_nothing c.args.scan.now c.args.chunk.now read.fault_free.not_failed, read))

pub lines-preserved : goal.lines-preserved
lines-preserved c =
    let range = rw c.in-Some.is at c.in_ok-end_offset.ensures.range in
    let found = rw c.in-Some.is at c.in_ok-end_offset.ensures.found in
    let forward : c.lines.offset ≤ c.in-Some.end_offset = omega (arith, range.0) in (
      range.1,
      λ read.
          let was = c.lines.invariant.1 read in (
            took_to c.args.scan.now c.args.chunk.now c.lines.scan c.lines.offset was.0 c.step_into.new.self c.in-Some.end_offset forward
                found.taken,
            lines_read c.lines.scan c.step_into.new.self _ _ _ _ c.lines.self c.step_into.new.entries found was.1 found.put,
          ),
    )

pub returns-in_err-end_offset-clause-taken : goal.returns-in_err-end_offset-clause-taken
returns-in_err-end_offset-clause-taken c before earlier taken read =
    let was = c.lines.invariant.1 (subst (IsRead c.args.scan.now) (sym taken) read) in
    let given = err_from_is_err_and c.from_residual.result c.from_residual.ensures.1 in
    let known = c.in_err-end_offset.ensures in
    rw (given.1, given.2)
    (record {
      entries = c.step_into.new.entries;
      taken = refl;
      consumed = tt;
      read = tt;
      refused =
          subst (λ es. IsRefused c.args.scan.now c.args.chunk.now es c.in_err-end_offset.field-0.0) (sym known.unchanged_on_err)
          (refused_after c.args.scan.now c.args.chunk.now c.lines.scan c.lines.offset was.0 c.lines.self was.1 c.in_err-end_offset.field-0.0
          (known.fault was.1.fault_free.not_failed));
    })

pub returns-clause-taken : goal.returns-clause-taken
returns-clause-taken c before earlier taken read =
    let was = c.lines.invariant.1 (subst (IsRead c.args.scan.now) (sym taken) read) in
    let more = if_none c.in_ok-end_offset.field-0 _ c.in_default.not-Some c.in_ok-end_offset.ensures.rest_consumed in
    let same = if_none c.in_ok-end_offset.field-0 _ c.in_default.not-Some c.in_ok-end_offset.ensures.entries_unchanged in
    record {
      entries = c.step_into.new.entries;
      taken = refl;
      consumed = took_rest c.args.scan.now c.args.chunk.now c.lines.scan c.lines.offset was.0 c.step_into.new.self more.0;
      read = subst (IsRead c.step_into.new.self) (sym same) (no_line c.lines.scan c.step_into.new.self _ c.lines.self more was.1);
      refused = tt;
    }
