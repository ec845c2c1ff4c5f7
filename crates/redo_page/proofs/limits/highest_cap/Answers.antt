use Rattle.std.proofs.Common.{◌-◌, ◌/◌, ◌<◌, ◌≤◌, sym, arith, ◌∙◌}
use Rattle.redo_page.proofs.LimitLemmas.{lower_counts}
use Rattle.redo_page.proofs.limits.highest_cap.Goals as goal

pub caps-preserved : goal.caps-preserved
caps-preserved c =
    let budget = c.args.budget in
    let cap = c.caps.above - (c.caps.above - c.caps.fitting) / 2 in
    let some : c.caps.fitting < cap = omega (arith, c.caps-test.true) in
    let below : cap ≤ c.caps.above = omega arith in
    record {
      same = c.caps.invariant.same ∙ lower_counts budget c.args.nodes.now cap c.caps.above (sym c.fit_in.ensures ∙ c.if-fit_in.false)
          (omega (arith, some)) below;
      fits_in = c.caps.invariant.fits_in;
      ordered = omega (arith, some);
    }
