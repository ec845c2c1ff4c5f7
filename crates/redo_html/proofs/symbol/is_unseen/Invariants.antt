use Rattle.std.proofs.Common.{◌≡◌, false, take}
use Rattle.std.specs.List.{list_any}
use Rattle.redo_html.specs.Shown.{is_between, unseen_ranges}
use Rattle.redo_html.proofs.symbol.is_unseen.Given as goal

-- The code point is in none of the ranges so far.
abbrev pub invariant-loop-range : goal.invariant-loop-range
invariant-loop-range l = list_any (is_between l.code_point) (take l.range-index unseen_ranges) ≡ false
