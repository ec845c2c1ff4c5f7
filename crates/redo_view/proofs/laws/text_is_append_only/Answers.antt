use Rattle.redo_view.proofs.Shifting.{show_log-shift, text-shift}
use Rattle.redo_view.proofs.laws.text_is_append_only.Goals as goal

pub returns-clause-events : goal.returns-clause-events
returns-clause-events c = show_log-shift

pub returns-clause-text : goal.returns-clause-text
returns-clause-text c = text-shift
