use Rattle.std.proofs.Common.{◌≡◌, ◌++◌, length}
use Rattle.redo_diagnostics.specs.Diagnostic.{masked}
use Rattle.redo_diagnostics.proofs.key.masked.Given as goal

-- The text before `left` was masked.
abbrev pub invariant-slashes : goal.invariant-slashes
invariant-slashes l = l.key.items ++ masked l.left ≡ masked l.text

abbrev pub decreases-slashes : goal.decreases-slashes
decreases-slashes l = length l.left
