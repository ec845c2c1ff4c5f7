use Rattle.std.proofs.Common.{◌≡◌, ◌-◌, ◌≤◌, length, drop}
use Rattle.redo_html.specs.Shown.{is_printable}
use Rattle.redo_html.proofs.printable.is_printable.Given as goal

-- The symbols so far are visible.
abbrev pub invariant-symbols : goal.invariant-symbols
invariant-symbols l = record {
  within : l.at ≤ length l.name;
  visible : is_printable l.name ≡ is_printable (drop l.at l.name);
}

abbrev pub decreases-symbols : goal.decreases-symbols
decreases-symbols l = length l.name - l.at
