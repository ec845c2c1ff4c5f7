use Rattle.std.proofs.Common.{◌≡◌, ◌≤◌, drop, length}
use Rattle.redo_page.specs.Errors.{begins_with}
use Rattle.redo_page.proofs.cause.begins_with.Given as goal

abbrev pub invariant-loop-at : goal.invariant-loop-at
invariant-loop-at l = record {
  within : l.at ≤ length l.bytes;
  same : begins_with l.words l.bytes ≡ begins_with (drop l.at l.words) (drop l.at l.bytes);
}
