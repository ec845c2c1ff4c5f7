use Rattle.std.proofs.Common.{ℕ, ◌-◌, ◌∙◌, ap, arith, reverse}
use Rattle.std.proofs.Math.ListN.{set}
use Rattle.redo_trim.specs.declared.limit.Gauge.{Gauge}
use Rattle.redo_trim.specs.Trim.{with_bytes, with_text}
use Rattle.redo_trim.proofs.GaugeLemmas.{last_text}
use Rattle.redo_trim.proofs.gauges.Gauges.add_text.Goals as goal

pub returns-then-count-gt0 : goal.returns-then-count-gt0
returns-then-count-gt0 c =
    let at = c.len-count.result - 1 in
    let gauge = c.index_mut-gauge.result.now in
    let items = c.self.inside.logs.items in
    let seen = c.saturating_add-gauge.ensures in
    let count = c.len-count.ensures in
    ap (λ (n : ℕ). reverse (set items at (record { limit = gauge.limit; seen = n }))) seen
    ∙ ap (λ (g : Gauge). reverse (set items at (with_bytes c.args.size g))) c.index_mut-gauge.ensures.value
    ∙ last_text items at c.args.size gauge (omega (arith, count)) ∙ ap (with_text c.args.size) c.self.view_is
