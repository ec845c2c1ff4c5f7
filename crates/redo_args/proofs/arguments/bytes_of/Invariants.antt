use Rattle.std.proofs.Common.{◌≡◌, ◌≤◌, map, take}
use Rattle.redo_options.specs.Arguments.{argument_bytes}
use Rattle.redo_args.proofs.arguments.bytes_of.Given as goal

-- The first `word-index` arguments are copied.
abbrev pub invariant-loop-word : goal.invariant-loop-word
invariant-loop-word l = (l.word-index ≤ l.word-index-end)
    × (argument_bytes l.copies.items ≡ map (λ word. word.now) (take l.word-index l.words))
