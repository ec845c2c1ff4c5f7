use Rattle.std.proofs.Common.{◌≡◌, ◌++◌, take}
use Rattle.std.specs.List.{flat_map}
use Rattle.redo_page.specs.Command.{format_byte}
use Rattle.redo_page.proofs.command.push_format.Given as goal

-- Everything so far was appended.
abbrev pub invariant-loop-byte : goal.invariant-loop-byte
invariant-loop-byte l = l.command.items ≡ l.initial.command.items ++ flat_map format_byte (take l.byte-index l.word)
