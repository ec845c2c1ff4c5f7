use Rattle.std.proofs.Common.{refl, arith}
use Rattle.redo_line.proofs.PartLemmas.{parted_free}
use Rattle.redo_line.specs.Record.{colon}
use Rattle.redo_diagnostics.specs.Diagnostic.{place_of}
use Rattle.redo_diagnostics.proofs.TextLemmas.{text_parts}
use Rattle.redo_diagnostics.proofs.place.place_of.Goals as goal

pub returns-then-colon-head : goal.returns-then-colon-head
unfolding place_of
returns-then-colon-head c = rw (parted_free colon c.args.head.now (c.requires.none (omega (arith, c.if-colon-head.true)))) refl

pub returns : goal.returns
unfolding place_of
returns c =
    rw (text_parts colon c.args.head.now c.args.colon (c.requires.within (omega (arith, c.if-colon-head.false)))) c.place_in.ensures
