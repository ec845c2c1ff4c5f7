use Rattle.std.proofs.Common.{◌≡◌, ◌-◌, ◌≤◌, true, length}
use Rattle.redo_html.specs.Cut.{may_cut}
use Rattle.redo_html.proofs.cut.cut_len.Given as goal

abbrev pub invariant-symbols : goal.invariant-symbols
invariant-symbols l = record {
  boundary : may_cut l.bytes l.at ≡ true;
  low : l.at ≤ l.limit;
  within : l.at ≤ length l.bytes;
}

abbrev pub decreases-symbols : goal.decreases-symbols
decreases-symbols l = length l.bytes - l.at
