use Rattle.std.proofs.Common.{◌≡◌, ◌-◌, ◌≤◌}
use Rattle.redo_html.specs.Private.Writing.{IsVerbatim}
use Rattle.redo_html.proofs.LetterSteps.{State, number, Pending}
use Rattle.redo_html.proofs.symbol.letters_len.Given as goal

-- The bytes up to `len` are code points that are written as they are, and the state says what the next bytes may be.
abbrev pub invariant-loop-at : goal.invariant-loop-at
invariant-loop-at l = record {
  few : (l.len ≤ l.at) × (l.at ≤ l.end);
  verbatim : IsVerbatim l.bytes l.len;
  state : (s : State) × (l.state ≡ number s) × Pending l.bytes l.at s;
}

abbrev pub decreases-loop-at : goal.decreases-loop-at
decreases-loop-at l = l.end - l.at
