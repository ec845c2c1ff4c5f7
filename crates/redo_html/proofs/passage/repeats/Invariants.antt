use Rattle.std.proofs.Common.{◌≡◌, ◌-◌, ◌≤◌, ◌++◌, length, drop, replicate}
use Rattle.redo_html.specs.Symbols.{symbols}
use Rattle.redo_html.specs.Symbols.Symbol.{CodePoint}
use Rattle.redo_html.proofs.passage.repeats.Given as goal

-- The code point occurred `count` times so far, in `len` bytes.
abbrev pub invariant-loop-len : goal.invariant-loop-len
invariant-loop-len l = record {
  within : l.len ≤ length l.bytes;
  bytes_taken : l.count ≤ l.len;
  none : l.count ≡ 0 → l.len ≡ 0;
  repeated : symbols l.kind l.bytes ≡ replicate l.count (CodePoint l.code_point) ++ symbols l.kind (drop l.len l.bytes);
}

abbrev pub decreases-loop-len : goal.decreases-loop-len
decreases-loop-len l = length l.bytes - l.len
