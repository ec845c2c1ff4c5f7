use Rattle.std.proofs.Common.{◌∙◌, ap}
use Rattle.redo_compare.specs.Baseline.{ChangesValue, target_changes}
use Rattle.redo_outline.specs.declared.node.Node.{Node}
use Rattle.redo_page.proofs.NewsLemmas.{gone_step, lines_step, where_step}
use Rattle.redo_page.proofs.news.compare.Goals as goal

pub loop-position-preserved : goal.loop-position-preserved
loop-position-preserved c =
    let baseline = c.args.baseline.now in
    let logs = c.args.table.now in
    let nodes = c.args.nodes.now in
    let position = c.loop-position.position in
    let within = c.loop-position-test.true in
    let is = c.in_ok-changes.ensures in (
      lines_step nodes position _ within baseline logs c.new.result.now
          (c.new.ensures ∙ ap (λ (value : ChangesValue). value.new) is)
          c.loop-position.lines.items c.push_new.new.lines.items c.in_ok-push_new.ensures c.loop-position.invariant.0,
      gone_step nodes position _ within (λ (node : Node). (target_changes baseline logs node).gone) c.loop-position.gone c.gone.result
          c.saturating_add-gone.result (c.gone.ensures ∙ ap (λ (value : ChangesValue). value.gone) is) c.saturating_add-gone.ensures
          c.loop-position.invariant.1,
      where_step nodes position _ within (λ (node : Node). (target_changes baseline logs node).newly_fails) c.newly_fails.result
          (c.newly_fails.ensures ∙ ap (λ (value : ChangesValue). value.newly_fails) is) c.loop-position.failing.items
          c.push_position_if.new.positions.items c.in_ok-push_position_if.ensures c.loop-position.invariant.2,
      where_step nodes position _ within (λ (node : Node). (target_changes baseline logs node).is_fixed) c.is_fixed.result
          (c.is_fixed.ensures ∙ ap (λ (value : ChangesValue). value.is_fixed) is) c.loop-position.fixed.items
          c.push_position_if-in-loop-position.new.positions.items c.in_ok-push_position_if-2.ensures c.loop-position.invariant.3,
    )
