use Rattle.std.proofs.Common.{◌≡◌, map, take}
use Rattle.redo_json.specs.Build.{whole_commands}
use Rattle.redo_json.proofs.build.whole_commands.Given as goal

-- The whole ones of the commands so far.
abbrev pub invariant-loop-command : goal.invariant-loop-command
invariant-loop-command l = map (λ text. text.now) l.texts.items ≡ whole_commands (take l.command-index l.commands)
