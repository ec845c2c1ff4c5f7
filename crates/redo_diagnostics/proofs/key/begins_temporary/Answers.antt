use Rattle.std.proofs.Common.{sym, arith}
use Rattle.redo_diagnostics.proofs.KeyLemmas.{all_hold, short_is_none}
use Rattle.redo_diagnostics.proofs.key.begins_temporary.Goals.{then-eq, else-eq}
use Rattle.redo_diagnostics.proofs.key.begins_temporary.Goals as goal

pub returns-then-bytes-lt9 : goal.returns-then-bytes-lt9
returns-then-bytes-lt9 c = sym (short_is_none c.args.bytes.now (omega (arith, c.if-bytes-lt9.true)))

pub returns-then-are_alphanumeric : goal.returns-then-are_alphanumeric
returns-then-are_alphanumeric c = elim c.if-eq.branch [
  | then-eq w ↦
      all_hold c.args.bytes.now (cc (c.eq.ensures, w.if-eq.true, c.as_slice.ensures))
      (cc (w.are_alphanumeric.ensures, w.value-is, c.if-are_alphanumeric.true))
  | else-eq w ↦ absurd (cc (w.value-is, c.if-are_alphanumeric.true))
]
