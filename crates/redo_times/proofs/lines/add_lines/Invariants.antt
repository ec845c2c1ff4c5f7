use Rattle.std.proofs.Common.{◌≡◌, ◌-◌, ◌≤◌, List, [], length, take}
use Rattle.redo_index.specs.Index.{listed_targets}
use Rattle.redo_line.specs.Lines.{rest}
use Rattle.redo_times.specs.declared.report.Report.{Report}
use Rattle.redo_times.specs.Private.Tally.{AreTallies, AreTalliesAfter}
use Rattle.redo_times.proofs.lines.add_lines.Given as goal

-- The bytes before `upto` end with a line feed, and the tallies have the reports of their lines.
abbrev pub invariant-lines : goal.invariant-lines
invariant-lines l = record {
  range : l.upto ≤ length l.bytes;
  no_rest : rest (take l.upto l.bytes) ≡ [];
  count : length l.tallies ≡ length l.initial.tallies;
  tallies : (reports : List Report) → AreTallies (listed_targets l.index) reports l.initial.tallies
      → AreTalliesAfter (listed_targets l.index) l.log.target.now reports (take l.upto l.bytes) l.tallies;
}

abbrev pub decreases-lines : goal.decreases-lines
decreases-lines l = length l.bytes - l.upto
