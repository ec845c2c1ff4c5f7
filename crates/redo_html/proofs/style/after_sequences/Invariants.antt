use Rattle.std.proofs.Common.{◌≡◌, ◌≤◌, ℕ, List, [], ◌∷◌, ◌++◌, drop, length, ◌-◌}
use Rattle.redo_html.specs.Private.Writing.{SkipsSequences}
use Rattle.redo_html.proofs.style.after_sequences.Given as goal

-- The bytes so far are sequences, and before the first line feed.
abbrev pub invariant-loop-at : goal.invariant-loop-at
invariant-loop-at l = record {
  after : l.fn.from ≤ l.at;
  all : SkipsSequences l.fn.style (drop l.fn.from l.bytes) l.current (l.at - l.fn.from);
  line : (line more : List ℕ) → drop l.fn.from l.bytes ≡ line ++ 10 ∷ more
      → SkipsSequences l.fn.style (line ++ 10 ∷ []) l.current (l.at - l.fn.from) × (l.at - l.fn.from ≤ length line);
}

abbrev pub decreases-loop-at : goal.decreases-loop-at
decreases-loop-at l = length l.bytes - l.at
