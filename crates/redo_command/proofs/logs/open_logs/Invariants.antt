use Rattle.std.proofs.Common.{◌≡◌, ◌≤◌, length, map, take}
use Rattle.redo_command.specs.Logs.{AllGive, known_logs}
use Rattle.redo_command.proofs.logs.open_logs.Given as goal

-- There is a reader for each log so far, and it gives the log's stream.
abbrev pub invariant-loop-i : goal.invariant-loop-i
invariant-loop-i g l = (length l.readers.items ≡ l.i) × (l.i ≤ length l.index)
    × AllGive (take l.i (known_logs (g.L.OpenLog.known l.logs) l.index)) (map g.L.Log.Feed.contents l.readers.items)
