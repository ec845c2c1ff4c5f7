use Rattle.std.proofs.Common.{◌≡◌, ◌<◌, [], ◌∷◌, ◌++◌, Some, length, slice_get, refl, sym, ap, ◌∙◌, arith}
use Rattle.std.proofs.lemmas.List.{append_assoc, length-append}
use Rattle.std.proofs.lemmas.Option.{slice_get_read}
use Rattle.redo_gather.proofs.FlagLemmas.{zip-none, zip-push}
use Rattle.redo_gather.proofs.flags.zip_flags.Goals as goal

pub loop-reader-init : goal.loop-reader-init
loop-reader-init g c = (
  ap length c.in_ok-pairs.ensures.items,
  sym c.into_iter-reader-iterator.ensures.into_iter_gives.0,
  c.in_ok-pairs.ensures.items ∙ sym (zip-none {B = g.row.R.Denot} c.args.flags.items [] refl),
)

pub loop-reader-preserved : goal.loop-reader-preserved
loop-reader-preserved g c =
    let kept = c.loop-reader.invariant in
    let flags = c.args.flags.items in
    let yielded = c.loop-reader.yielded in
    let reader = c.in-Some.reader in
    let flag = c.index-must_close.result.now in
    let within : length yielded < length flags =
    omega (
      arith,
      ap length kept.1,
      ap length c.in-Some.ensures.steps.0,
      length-append yielded c.loop-reader.reader-iterator.rest.items,
      c.requires,
    ) in
    let index_is : c.len-in-loop-reader.result ≡ length yielded =
    omega (arith, c.len-in-loop-reader.ensures, c.loop-reader.pairs.ok, kept.0) in
    let here : slice_get flags (length yielded) ≡ Some flag =
    ap (slice_get flags) (sym index_is)
    ∙ slice_get_read flags _ c.len-in-loop-reader.result flag refl (omega (arith, within, index_is)) c.index-must_close.ensures in (
      omega (
        arith,
        ap length c.in_ok-push.ensures.items,
        length-append c.loop-reader.pairs.items ((flag, reader) ∷ []),
        length-append yielded (reader ∷ []),
        kept.0,
      ),
      kept.1 ∙ ap (λ left. yielded ++ left) c.in-Some.ensures.steps.0 ∙ sym (append_assoc yielded (reader ∷ []) c.next.new.self.rest.items),
      c.in_ok-push.ensures.items ∙ ap (λ pairs. pairs ++ (flag, reader) ∷ []) kept.2 ∙ sym (zip-push flags yielded flag reader here),
    )
