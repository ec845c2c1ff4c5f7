use Rattle.std.proofs.Common.{◌≡◌, ◌+◌, drop}
use Rattle.std.specs.List.{prefix_len}
use Rattle.redo_html.specs.Symbols.{is_parameter}
use Rattle.redo_html.proofs.symbol.parameters_len.Given as goal

-- The bytes so far are parameters.
abbrev pub invariant-loop-at : goal.invariant-loop-at
invariant-loop-at l = prefix_len is_parameter l.bytes ≡ l.at + prefix_len is_parameter (drop l.at l.bytes)
