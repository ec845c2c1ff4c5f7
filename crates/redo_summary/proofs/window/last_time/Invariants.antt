use Rattle.std.proofs.Common.{◌≡◌, take}
use Rattle.redo_times.specs.Times.{last_time}
use Rattle.redo_summary.specs.Window.{known_times}
use Rattle.redo_summary.proofs.window.last_time.Given as goal

abbrev pub invariant-loop-target : goal.invariant-loop-target
invariant-loop-target l = l.last ≡ last_time (known_times (take l.target-index l.targets))
