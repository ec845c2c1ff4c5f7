use Rattle.std.proofs.Common.{◌+◌, ◌*◌, ◌∙◌}
use Rattle.redo_times.proofs.TimeLemmas.{decimals}
use Rattle.redo_times.proofs.time.milliseconds.Goals as goal

pub returns-clause-value : goal.returns-clause-value
returns-clause-value c =
    (λ i. c.decimal.ensures.value i * 100 + c.decimal-2.ensures.value i * 10 + c.decimal-3.ensures.value i) ∙ decimals c.args.fraction.now
