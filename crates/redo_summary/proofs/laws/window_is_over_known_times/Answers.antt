use Rattle.redo_summary.proofs.WindowLemmas.{no_window, window_is}
use Rattle.redo_summary.proofs.laws.window_is_over_known_times.Goals as goal

pub returns-clause-window : goal.returns-clause-window
returns-clause-window c = window_is

pub returns-clause-none : goal.returns-clause-none
returns-clause-none c = no_window
