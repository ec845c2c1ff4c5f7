use Rattle.std.proofs.Common.{sym, ap, arith}
use Rattle.redo_line.proofs.PartLemmas.{parted_free}
use Rattle.redo_line.specs.Record.{colon}
use Rattle.redo_diagnostics.specs.Diagnostic.{origin_from}
use Rattle.redo_diagnostics.proofs.TextLemmas.{text_parts}
use Rattle.redo_diagnostics.proofs.place.origin_of.Goals as goal

pub returns-then-colon-head : goal.returns-then-colon-head
returns-then-colon-head c =
    ap origin_from (sym (parted_free colon c.args.head.now (c.requires.none (omega (arith, c.if-colon-head.true)))))

pub returns-else-colon-head : goal.returns-else-colon-head
returns-else-colon-head c =
    ap origin_from (sym (text_parts colon c.args.head.now c.args.colon (c.requires.within (omega (arith, c.if-colon-head.false)))))
