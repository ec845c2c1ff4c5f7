use Rattle.std.proofs.Common.{◌≡◌, ℕ, Bool, List, ◌∷◌, [], ◌++◌, length, map, refl, sym, ap, ◌∙◌, subst, arith}
use Rattle.std.proofs.lemmas.List.{append_assoc, map_push}
use Rattle.redo_line.specs.Scan.{Scanned}
use Rattle.redo_line.specs.Source.{source}
use Rattle.redo_gather.specs.Private.Posting.{IsSharePosted, IsStreamPosted}
use Rattle.redo_gather.specs.Sending.{numbered_source}
use Rattle.redo_gather.proofs.DistributionLemmas.{all_distributed}
use Rattle.redo_gather.proofs.PostedLemmas.{all_sent, nothing_posted, one_sent}
use Rattle.redo_gather.proofs.sending.send.Goals as goal

pub loop-stream-preserved : goal.loop-stream-preserved
loop-stream-preserved g c =
    let kept = c.loop-stream.invariant in
    let contents = g.R.Feed.contents in
    let yielded = c.loop-stream.yielded in
    let item : ℕ × List ℕ × Bool × g.row.R.Denot = (c.in-Some.stream, c.in-Some.target, c.in-Some.must_close, c.in-Some.reader) in (
      kept.0 ∙ ap (λ left. yielded ++ left) c.in-Some.ensures.steps.0 ∙ sym (append_assoc yielded (item ∷ []) c.next.new.self.rest.items),
      subst (λ share. IsSharePosted c.args.max_bytes share c.args.end c.send_stream-end.result)
          (sym (map_push (numbered_source contents) yielded item))
          (one_sent c.args.max_bytes (map (numbered_source contents) yielded) c.in-Some.stream
          (source c.in-Some.target c.in-Some.must_close (contents c.in-Some.reader)) c.args.end c.loop-stream.end
          c.send_stream-end.result kept.1
          (subst (λ (scan : Scanned). IsStreamPosted scan.max_bytes c.in-Some.stream
          (source scan.target scan.must_close (contents c.in-Some.reader)) c.loop-stream.end c.send_stream-end.result)
          c.new-scan.ensures.scan c.send_stream-end.ensures)),
    )

pub loop-stream-init : goal.loop-stream-init
loop-stream-init g c = (sym c.into_iter-stream-iterator.ensures.into_iter_gives.0, ([], nothing_posted c.args.end, refl))

pub returns : goal.returns
returns g c =
    let kept = c.loop-stream.invariant in
    let left = c.loop-stream.stream-iterator.rest in
    let none : length left.items ≡ 0 = omega (arith, c.in-None.ensures.steps.0, left.ok) in
    let sent =
    all_sent c.args.max_bytes _ c.args.end c.loop-stream.end
    (subst (λ share. IsSharePosted c.args.max_bytes (map (numbered_source g.R.Feed.contents) share) c.args.end c.loop-stream.end)
    (all_distributed c.args.share.items c.loop-stream.yielded left.items kept.0 none) kept.1) in
    record { unchanged = sent.unchanged; posted = sent.posted; expected = sent.expected; well_sized = sent.well_sized }
