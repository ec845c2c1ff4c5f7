-- Lines that are skipped because they are no diagnostics.
use Rattle.std.specs.Prelude.{◌≡◌, ℕ, ◌+◌, List, ◌++◌, None, length}
use Rattle.std.specs.List.{AllByRecursion}
use Rattle.redo_diagnostics.specs.Diagnostic.{diagnostic_of}
use Rattle.redo_outline.specs.TextLines.{LinesLeft}

-- Of the lines left in `before`, some that are no diagnostics were skipped. The others are left in `after`.
pub record AreSkipped (before after : LinesLeft) : Type 0 where
  pub lines : List (List ℕ)
  pub left : before.left ≡ lines ++ after.left
  pub done : after.done ≡ before.done + length lines
  pub others : AllByRecursion (λ line. diagnostic_of line ≡ None) lines
