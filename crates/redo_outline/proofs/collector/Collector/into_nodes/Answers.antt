use Rattle.std.proofs.Common.{sym, ap, ◌∙◌}
use Rattle.redo_outline.specs.Private.Sweeping.{brackets_added}
use Rattle.redo_outline.proofs.SweepLemmas.{added-last}
use Rattle.redo_outline.proofs.collector.Collector.into_nodes.Goals as goal

pub brackets-preserved : goal.brackets-preserved
brackets-preserved c =
    ap (brackets_added c.pop.new.self.items) c.in_ok-add.ensures ∙ sym (added-last c.pop.new.self.items c.in-Some.bracket c.brackets.sweep)
    ∙ ap (λ brackets. brackets_added brackets c.brackets.sweep) (sym c.in-Some.ensures.items) ∙ c.brackets.invariant
