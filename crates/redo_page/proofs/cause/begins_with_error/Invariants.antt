use Rattle.std.proofs.Common.{◌≡◌, drop}
use Rattle.std.specs.List.{list_any}
use Rattle.redo_page.specs.Errors.{begins_with, begins_with_error}
use Rattle.redo_page.proofs.cause.begins_with_error.Given as goal

abbrev pub invariant-loop-words : goal.invariant-loop-words
invariant-loop-words l = begins_with_error l.bytes ≡ list_any (λ words. begins_with words.now l.bytes) (drop l.words-index l.words-items)
