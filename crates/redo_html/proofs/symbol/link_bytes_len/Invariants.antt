use Rattle.std.proofs.Common.{◌≡◌, ◌+◌, drop}
use Rattle.std.specs.List.{prefix_len}
use Rattle.redo_html.specs.Symbols.{is_link_byte}
use Rattle.redo_html.proofs.symbol.link_bytes_len.Given as goal

-- The bytes so far may be in a link.
abbrev pub invariant-loop-at : goal.invariant-loop-at
invariant-loop-at l = prefix_len is_link_byte l.bytes ≡ l.at + prefix_len is_link_byte (drop l.at l.bytes)
