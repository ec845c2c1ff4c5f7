use Rattle.std.proofs.Common.{◌≡◌, ◌++◌, take}
use Rattle.std.specs.List.{flat_map}
use Rattle.redo_command.specs.Private.Suggested.{after_comma}
use Rattle.redo_command.proofs.suggestions.push_after_commas.Given as goal

-- Everything so far was appended.
abbrev pub invariant-loop-name : goal.invariant-loop-name
invariant-loop-name l = l.text.items ≡ l.initial.text.items ++ flat_map after_comma (take l.name-index l.names)
