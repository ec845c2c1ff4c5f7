use Rattle.std.proofs.Common.{◌+◌, ◌-◌, ℕ, subst, sym, arith}
use Rattle.redo_html.specs.Private.Writing.{IsVerbatim}
use Rattle.redo_html.proofs.StrideLemmas.{stride_verbatim}
use Rattle.redo_html.proofs.stride.strides_len.Goals as goal

pub loop-end-preserved : goal.loop-end-preserved
loop-end-preserved c =
    let bytes = c.args.bytes.now in
    let end = c.loop-end.end in
    let so_far = c.loop-end.invariant.1 in
    let within = so_far.within in
    let low = c.loop-end.invariant.0 in (
      omega (arith, low),
      subst (λ (n : ℕ). IsVerbatim bytes (end + (32 - n))) (sym c.open_len.ensures)
          (stride_verbatim bytes end c.loop-end-test.true (let room = c.if-bytes-end-ge-STRIDE.true in omega (arith, room, within))
          (λ (i : ℕ). let fits = c.type_inv.bytes i in omega (arith, fits)) so_far (c.are_letters.ensures c.if-not-are_letters.false)),
    )
