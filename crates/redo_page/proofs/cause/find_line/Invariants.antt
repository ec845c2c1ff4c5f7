use Rattle.std.proofs.Common.{◌≡◌, length}
use Rattle.std.specs.Prelude.{slice_get}
use Rattle.redo_outline.specs.Facts.{entries_at, texts_of}
use Rattle.redo_page.proofs.cause.find_line.Given as goal

abbrev pub invariant-lines : goal.invariant-lines
invariant-lines l = slice_get (texts_of (entries_at l.number l.table)) l.position ≡ slice_get l.printed.left l.before

abbrev pub decreases-lines : goal.decreases-lines
decreases-lines l = length l.printed.left
