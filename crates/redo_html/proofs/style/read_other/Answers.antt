use Rattle.std.proofs.Common.{sym, arith, subst}
use Rattle.redo_html.specs.Private.Writing.{IsSequence}
use Rattle.redo_html.proofs.SymbolLemmas.{sequence_parts}
use Rattle.redo_html.proofs.style.read_other.Goals as goal

pub after_sequence-requires : goal.after_sequence-requires
after_sequence-requires c =
    let other = c.if-len-eq0.false in
    let same = c.sequence_size-len.ensures in
    subst (IsSequence c.args.bytes.now) (sym same) (sequence_parts c.args.bytes.now (omega (arith, other, same)))
