use Rattle.std.proofs.Common.{◌≡◌, ◌++◌, take}
use Rattle.std.specs.List.{flat_map}
use Rattle.redo_page.specs.Command.{argument}
use Rattle.redo_page.proofs.command.push_arguments.Given as goal

-- Everything so far was appended.
abbrev pub invariant-loop-name : goal.invariant-loop-name
invariant-loop-name l = l.command.items ≡ l.initial.command.items ++ flat_map (argument l.ascii) (take l.name-index l.names)
