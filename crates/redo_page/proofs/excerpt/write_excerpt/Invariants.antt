use Rattle.std.proofs.Common.{◌≡◌, ◌≤◌, length}
use Rattle.redo_outline.specs.Facts.{entries_at, texts_of}
use Rattle.redo_page.specs.Excerpt.{excerpt_parts, is_kept}
use Rattle.redo_page.specs.Private.Excerpting.{open_count, parts_from}
use Rattle.redo_page.specs.Private.Writing.{WrotePartsUpTo}
use Rattle.redo_page.proofs.excerpt.write_excerpt.Given as goal

abbrev pub invariant-lines : goal.invariant-lines
invariant-lines g l = record {
  counted : l.at ≡ l.printed.done;
  small : open_count l.current ≤ l.at;
  wrote : WrotePartsUpTo g.W.Sink.written l.initial.page l.page (excerpt_parts l.position (texts_of (entries_at l.number l.table)))
      (parts_from l.position (is_kept l.extent.count l.extent.error) l.current l.at l.printed.left);
}

abbrev pub decreases-lines : goal.decreases-lines
decreases-lines g l = length l.printed.left
