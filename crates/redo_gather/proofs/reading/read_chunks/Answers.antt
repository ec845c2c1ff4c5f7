use Rattle.std.proofs.Common.{◌<◌, [], length, take, arith, refl, ap, ◌∙◌, zero-le}
use Rattle.std.proofs.lemmas.List.{length-append, length-take}
use Rattle.std.proofs.lemmas.Result.{err_from_is_err_and}
use Rattle.redo_gather.proofs.ReadingLemmas.{all_taken, at_failure, at_refusal, no_memory_left, none_read, one_chunk, within}
use Rattle.redo_gather.proofs.reading.read_chunks.Goals as goal

pub returns-then-is_empty : goal.returns-then-is_empty
returns-then-is_empty g c = record {
  entries = [];
  taken = c.requires.none_taken;
  ended = tt;
  expected =
      no_memory_left c.args.scan.now.target c.args.scan.now.max_bytes c.args.scan.now.must_close _ _
      (g.R.Feed.contents c.args.reader.now) c.args.scan.now []
      (none_read _ c.args.scan.now [] c.requires.begins c.requires.read) (record { target_is = refl; limit_is = refl; flag_is = refl });
}

pub reads-init : goal.reads-init
reads-init g c = (
  c.requires.callable,
  refl,
  record { target_is = refl; limit_is = refl; flag_is = refl },
  zero-le,
  ([], c.requires.none_taken, none_read _ c.args.scan.now [] c.requires.begins c.requires.read),
)

pub returns-in-Err : goal.returns-in-Err
returns-in-Err g c =
    let kept = c.reads.invariant in
    record {
      entries = kept.4.0;
      taken = kept.4.1;
      ended = tt;
      expected = at_failure c.args.scan.now.target c.args.scan.now.max_bytes c.args.scan.now.must_close _ _ _ c.reads.scan kept.4.0 kept.4.2
          kept.2 _ _ c.in-Err.ensures.gives;
    }

pub returns-in-Ok-eq0 : goal.returns-in-Ok-eq0
returns-in-Ok-eq0 g c =
    let kept = c.reads.invariant in
    record {
      entries = kept.4.0;
      taken = kept.4.1;
      ended = record {
        target_is = kept.2.target_is;
        limit_is = kept.2.limit_is;
        flag_is = kept.2.flag_is;
        read = kept.4.2.read;
        all =
            all_taken c.args.scan.now.target c.args.scan.now.max_bytes c.args.scan.now.must_close _ _ _ c.reads.scan kept.4.0 kept.4.2
            kept.2 c.pull.new.buf
            (rw c.in-Ok-eq0.field-0-test at c.in-Ok-eq0.ensures.gives);
      };
      expected = tt;
    }

pub reads-smaller : goal.reads-smaller
reads-smaller g c =
    let kept = c.reads.invariant in
    let chunk = c.in_ok-take_chunk-in-Ok.ensures.taken c.args.sink.now kept.4.0 kept.4.1 kept.4.2.read in
    let some : 0 < c.in-Ok.n = let nonzero = c.in-Ok.n-test.1 in omega (arith, nonzero) in
    let limit = within c.args.scan.now.target c.args.scan.now.max_bytes c.args.scan.now.must_close _ _
    (g.R.Feed.contents c.reads.reader) c.reads.scan kept.4.0 kept.4.2 kept.2 in
    let taken = ap (λ s. length s.bytes) chunk.consumed ∙ length-append c.reads.scan.bytes (take c.in-Ok.n c.pull.new.buf) in
    let size = length-take c.in-Ok.n c.pull.new.buf in
    omega (arith, some, limit, taken, size, c.in-Ok.ensures.bound)

pub reads-preserved : goal.reads-preserved
reads-preserved g c =
    let kept = c.reads.invariant in
    let chunk = c.in_ok-take_chunk-in-Ok.ensures.taken c.args.sink.now kept.4.0 kept.4.1 kept.4.2.read in
    let is = chunk.consumed in
    let some : 0 < c.in-Ok.n = let nonzero = c.in-Ok.n-test.1 in omega (arith, nonzero) in
    let buf = c.pull.new.buf in
    let taken = ap (λ s. length s.bytes) is ∙ length-append c.reads.scan.bytes (take c.in-Ok.n buf) in (
      c.requires.callable,
      c.pull.auto.buf ∙ kept.1,
      record {
        target_is = ap (λ s. s.target) is ∙ kept.2.target_is;
        limit_is = ap (λ s. s.max_bytes) is ∙ kept.2.limit_is;
        flag_is = ap (λ s. s.must_close) is ∙ kept.2.flag_is;
      },
      (let reads = kept.3 in let size = length-take c.in-Ok.n buf in omega (arith, reads, some, taken, size, c.in-Ok.ensures.bound)),
      (
        chunk.entries,
        chunk.taken,
        one_chunk c.args.scan.now.target c.args.scan.now.max_bytes c.args.scan.now.must_close _ _ _ c.reads.scan kept.4.0 kept.4.2 kept.2
            c.in-Ok.n buf some c.in-Ok.ensures.gives c.take_chunk.new.scan chunk.entries is chunk.read,
      ),
    )

pub returns-in_err-take_chunk-in-Ok : goal.returns-in_err-take_chunk-in-Ok
returns-in_err-take_chunk-in-Ok g c =
    let kept = c.reads.invariant in
    let chunk = c.in_err-take_chunk-in-Ok.ensures.taken c.args.sink.now kept.4.0 kept.4.1 kept.4.2.read in
    let some : 0 < c.in-Ok.n = let nonzero = c.in-Ok.n-test.1 in omega (arith, nonzero) in
    let given = err_from_is_err_and c.from_residual.result c.from_residual.ensures.1 in
    rw (given.1, given.2)
    (record {
      entries = chunk.entries;
      taken = chunk.taken;
      ended = tt;
      expected =
          at_refusal c.args.scan.now.target c.args.scan.now.max_bytes c.args.scan.now.must_close _ _ _ c.reads.scan kept.4.0 kept.4.2 kept.2
          c.in-Ok.n c.pull.new.buf some c.in-Ok.ensures.gives chunk.entries
          c.in_err-take_chunk-in-Ok.field-0.0 c.in_err-take_chunk-in-Ok.ensures.never_read_fault chunk.refused;
    })
