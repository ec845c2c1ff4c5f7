use Rattle.std.proofs.Common.{◌≡◌, ◌+◌, length}
use Rattle.redo_outline.specs.Facts.{entries_at, texts_of}
use Rattle.redo_page.specs.Excerpt.{error_position}
use Rattle.redo_page.proofs.ExcerptLemmas.{error_from}
use Rattle.redo_page.proofs.excerpt.Extent.of.Given as goal

abbrev pub invariant-lines : goal.invariant-lines
invariant-lines l = record {
  counted : l.count ≡ l.printed.done;
  count : length (texts_of (entries_at l.number l.table)) ≡ l.count + length l.printed.left;
  error : error_position (texts_of (entries_at l.number l.table)) ≡ error_from l.error l.count l.printed.left;
}

abbrev pub decreases-lines : goal.decreases-lines
decreases-lines l = length l.printed.left
