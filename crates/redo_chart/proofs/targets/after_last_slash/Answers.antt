use Rattle.redo_chart.proofs.ChartLemmas.{after_slash, no_slash}
use Rattle.redo_chart.proofs.targets.after_last_slash.Goals as goal

pub returns-in-Some : goal.returns-in-Some
returns-in-Some c = after_slash c.args.name.now c.in-Some.at c.in-Some.ensures

pub returns-in-None : goal.returns-in-None
returns-in-None c = no_slash c.args.name.now c.in-None.ensures
