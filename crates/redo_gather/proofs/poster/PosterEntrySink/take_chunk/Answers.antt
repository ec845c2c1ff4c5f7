use Rattle.std.proofs.Common.{◌≡◌, ◌++◌, length, map, take, arith, inr, refl, sym, ap, ◌∙◌, subst}
use Rattle.std.proofs.lemmas.List.{append_assoc}
use Rattle.std.proofs.lemmas.Result.{err_from_is_err_and}
use Rattle.std.proofs.Math.Seq.{take-length}
use Rattle.redo_line.specs.Scan.{consume}
use Rattle.redo_gather.specs.Private.Reading.{IsRead, IsRefused}
use Rattle.redo_gather.specs.Private.Posting.{HasPosted}
use Rattle.redo_gather.specs.Sending.{entry_item}
use Rattle.redo_gather.proofs.PostedLemmas.{entries_posted}
use Rattle.redo_gather.proofs.ReadingLemmas.{cut_in}
use Rattle.redo_gather.proofs.poster.PosterEntrySink.take_chunk.Goals as goal

pub batches-preserved : goal.batches-preserved
batches-preserved g c =
    let kept = c.batches.invariant in
    let so_far = kept.2 in
    let batch = c.read_batch-outcome.new.batch in
    let entries = so_far.0 ++ batch in (
      c.in_ok-end_offset.ensures.range.1,
      kept.1,
      (
        entries,
        entries_posted c.args.self.now.stream c.batches.self.stream c.args.self.now.end c.batches.self.end c.post_batch.new.end so_far.0
            batch kept.1 so_far.1 c.in_ok-post_batch.ensures.posted,
        λ earlier read.
            let now = c.in_ok-end_offset.ensures.read c.args.scan.now (earlier ++ so_far.0) (so_far.2 earlier read) in
            (now.0, subst (IsRead c.read_batch-outcome.new.scan) (append_assoc earlier so_far.0 batch) now.1),
      ),
    )

pub returns-in_err-end_offset-clause-taken : goal.returns-in_err-end_offset-clause-taken
returns-in_err-end_offset-clause-taken g c before earlier taken read =
    let kept = c.batches.invariant in
    let so_far = kept.2 in
    let batch = c.read_batch-outcome.new.batch in
    let given = err_from_is_err_and c.from_residual-in_err-end_offset.result c.from_residual-in_err-end_offset.ensures.1 in
    rw (given.1, given.2)
    (record {
      entries = earlier ++ (so_far.0 ++ batch);
      taken = (
        kept.1 ∙ taken.0,
        entries_posted before.stream c.args.self.now.stream before.end c.args.self.now.end c.post_batch.new.end earlier
            (so_far.0 ++ batch) taken.0 taken.1
            (entries_posted c.args.self.now.stream c.batches.self.stream c.args.self.now.end c.batches.self.end c.post_batch.new.end
            so_far.0 batch kept.1 so_far.1 c.in_ok-post_batch.ensures.posted),
      );
      consumed = tt;
      read = tt;
      refused =
          subst (λ es. IsRefused c.args.scan.now c.args.chunk.now es c.in_err-end_offset.field-0.0) (append_assoc earlier so_far.0 batch)
          (c.in_err-end_offset.ensures.refused c.args.scan.now (earlier ++ so_far.0) (so_far.2 earlier read));
    })

pub returns-in_err-batch-clause-taken : goal.returns-in_err-batch-clause-taken
returns-in_err-batch-clause-taken g c before earlier taken read =
    let kept = c.batches.invariant in
    let so_far = kept.2 in
    let now = so_far.2 earlier read in
    let given = err_from_is_err_and c.from_residual.result c.from_residual.ensures.1 in
    rw (given.1, given.2)
    (record {
      entries = earlier ++ so_far.0;
      taken = (
        kept.1 ∙ taken.0,
        entries_posted before.stream c.args.self.now.stream before.end c.args.self.now.end c.batches.self.end earlier so_far.0 taken.0
            taken.1 so_far.1,
      );
      consumed = tt;
      read = tt;
      refused = inr (cut_in c.args.scan.now c.args.chunk.now c.batches.scan c.batches.offset now.0 (earlier ++ so_far.0) now.1, refl);
    })

pub returns-in_err-post_batch-clause-taken : goal.returns-in_err-post_batch-clause-taken
returns-in_err-post_batch-clause-taken g c before earlier taken read =
    let kept = c.batches.invariant in
    let so_far = kept.2 in
    let now = so_far.2 earlier read in
    let given = err_from_is_err_and c.from_residual-in_err-post_batch.result c.from_residual-in_err-post_batch.ensures.1 in
    rw (given.1, given.2, c.in_err-post_batch.ensures.only_out_of_memory)
    (record {
      entries = earlier ++ so_far.0;
      taken = (
        kept.1 ∙ taken.0,
        subst (λ end. HasPosted before.end end (map (entry_item before.end.number before.stream) (earlier ++ so_far.0)))
            (sym c.in_err-post_batch.ensures.unchanged_on_err)
            (entries_posted before.stream c.args.self.now.stream before.end c.args.self.now.end c.batches.self.end earlier so_far.0 taken.0
            taken.1 so_far.1),
      );
      consumed = tt;
      read = tt;
      refused = inr (cut_in c.args.scan.now c.args.chunk.now c.batches.scan c.batches.offset now.0 (earlier ++ so_far.0) now.1, refl);
    })

pub returns-clause-taken : goal.returns-clause-taken
returns-clause-taken g c before earlier taken read =
    let kept = c.batches.invariant in
    let so_far = kept.2 in
    let now = so_far.2 earlier read in
    let all : c.batches.offset ≡ length c.args.chunk.now = omega (arith, kept.0, c.batches-test.false) in
    record {
      entries = earlier ++ so_far.0;
      taken = (
        kept.1 ∙ taken.0,
        entries_posted before.stream c.args.self.now.stream before.end c.args.self.now.end c.batches.self.end earlier so_far.0 taken.0
            taken.1 so_far.1,
      );
      consumed = now.0 ∙ ap (λ p. consume p c.args.scan.now) (ap (λ n. take n c.args.chunk.now) all ∙ take-length c.args.chunk.now);
      read = now.1;
      refused = tt;
    }
