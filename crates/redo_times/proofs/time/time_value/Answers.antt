use Rattle.std.proofs.Common.{ap, sym, ◌∙◌}
use Rattle.redo_times.specs.Time.{seconds_and_fraction, time_value, value_of_parts}
use Rattle.redo_times.proofs.time.time_value.Goals as goal

pub returns-in-Some : goal.returns-in-Some
unfolding time_value
returns-in-Some c = c.value_of_parts.ensures
    ∙ ap (λ parts. value_of_parts (seconds_and_fraction c.args.time.now parts)) (sym c.in-Some.ensures.some)

pub returns-in-None : goal.returns-in-None
unfolding time_value
returns-in-None c = c.value_of_parts-in-None.ensures
    ∙ ap (λ parts. value_of_parts (seconds_and_fraction c.args.time.now parts)) (sym c.in-None.ensures.none)
