use Rattle.std.proofs.Common.{refl}
use Rattle.redo_summary.proofs.UsageLemmas.{processor_is}
use Rattle.redo_summary.proofs.laws.totals_are_over_all.Goals as goal

pub returns-clause-times : goal.returns-clause-times
returns-clause-times c = λ nodes times. record { sum = refl; most = refl; warnings = refl; bytes = refl }

pub returns-clause-processor : goal.returns-clause-processor
returns-clause-processor c = processor_is
