use Rattle.std.proofs.Common.{◌-◌, length}
use Rattle.redo_page.specs.Private.Texts.{GoInto}
use Rattle.redo_page.proofs.TextLemmas.{AreFirst}
use Rattle.redo_page.proofs.texts.next_chunk.Given as goal

abbrev pub invariant-lines : goal.invariant-lines
invariant-lines l = AreFirst l.lines l.first l.len l.count × GoInto l.block l.len l.count

abbrev pub decreases-lines : goal.decreases-lines
decreases-lines l = length l.lines - l.len
