use Rattle.std.proofs.Common.{◌≡◌, ◌++◌, take}
use Rattle.redo_json.proofs.every.push_names.Given as goal

-- The names so far were appended.
abbrev pub invariant-loop-name : goal.invariant-loop-name
invariant-loop-name l = l.names.items ≡ l.initial.names.items ++ take l.name-index l.more
