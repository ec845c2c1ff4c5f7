use Rattle.redo_units.proofs.DurationLemmas.{in_hundredths, in_minutes, in_seconds, in_tenths}
use Rattle.redo_units.proofs.laws.durations_are_in_units.Goals as goal

pub returns-clause-hundredths : goal.returns-clause-hundredths
returns-clause-hundredths c = in_hundredths

pub returns-clause-tenths : goal.returns-clause-tenths
returns-clause-tenths c = in_tenths

pub returns-clause-seconds : goal.returns-clause-seconds
returns-clause-seconds c = in_seconds

pub returns-clause-minutes : goal.returns-clause-minutes
returns-clause-minutes c = in_minutes
