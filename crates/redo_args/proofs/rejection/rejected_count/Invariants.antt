use Rattle.std.proofs.Common.{◌≡◌, ◌≤◌, length, map}
use Rattle.std.specs.String.{string_bytes}
use Rattle.redo_args.specs.Rejection.{rejected_count, rejected_within}
use Rattle.redo_args.proofs.rejection.rejected_count.Given as goal

-- The rejected argument is among the first `count`.
abbrev pub invariant-loop-count : goal.invariant-loop-count
invariant-loop-count g l =
    let app = g.C.CommandLine.app l.command_line in
    let words = map string_bytes l.words in
    (l.count ≤ length l.words) × (rejected_within app words l.count ≡ rejected_count app words)

abbrev pub decreases-loop-count : goal.decreases-loop-count
decreases-loop-count g l = l.count
