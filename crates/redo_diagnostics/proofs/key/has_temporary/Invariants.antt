use Rattle.std.proofs.Common.{◌≡◌, length}
use Rattle.redo_diagnostics.specs.Diagnostic.{masked}
use Rattle.redo_diagnostics.proofs.key.has_temporary.Given as goal

-- If nothing is replaced in `left`, nothing is replaced in the text.
abbrev pub invariant-slashes : goal.invariant-slashes
invariant-slashes l = masked l.left ≡ l.left → masked l.text ≡ l.text

abbrev pub decreases-slashes : goal.decreases-slashes
decreases-slashes l = length l.left
