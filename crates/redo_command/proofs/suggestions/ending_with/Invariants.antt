use Rattle.std.proofs.Common.{◌≡◌, ◌≤◌, length}
use Rattle.redo_index.specs.Index.{listed_targets}
use Rattle.redo_options.specs.Arguments.{argument_bytes}
use Rattle.redo_command.proofs.SuggestionLemmas.{found_in}
use Rattle.redo_command.proofs.suggestions.ending_with.Given as goal

-- At most five targets were found, and these are all so far.
abbrev pub invariant-loop-i : goal.invariant-loop-i
invariant-loop-i l =
    (length (argument_bytes l.names.items) ≤ 5) × (argument_bytes l.names.items ≡ found_in l.name (listed_targets l.index) l.i)
