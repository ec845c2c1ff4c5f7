use Rattle.std.proofs.Common.{◌≡◌, ◌++◌, length, map, take}
use Rattle.redo_command.specs.Logs.{AllGive, known_logs}
use Rattle.redo_command.proofs.first_reading.rewind_all.Given as goal

-- The logs of the first readings are at their starts.
abbrev pub invariant-loop-reading : goal.invariant-loop-reading
invariant-loop-reading g l = record {
  readings : l.yielded ++ l.reading-iterator.rest.items ≡ l.fn.readings.items;
  number : l.i ≡ length l.yielded;
  count : length l.logs.items ≡ l.i;
  give : AllGive (take l.i (known_logs (g.L.OpenLog.known l.files) l.index)) (map g.L.Log.Feed.contents l.logs.items);
}
