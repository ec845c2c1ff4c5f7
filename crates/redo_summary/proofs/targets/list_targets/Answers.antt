use Rattle.std.proofs.Common.{◌++◌, ◌∷◌, [], take, ap, ◌∙◌}
use Rattle.redo_summary.specs.Spans.{targets_of}
use Rattle.redo_outline.proofs.Nodes.{no_node}
use Rattle.redo_summary.proofs.TargetLemmas.{targets_more}
use Rattle.redo_summary.proofs.targets.list_targets.Goals as goal

pub loop-position-preserved : goal.loop-position-preserved
loop-position-preserved c =
    c.in_ok-push.ensures.items
    ∙ ap (λ targets. targets ++ c.target_of.result ∷ []) c.loop-position.invariant
    ∙ ap (λ target. targets_of (take c.loop-position.position c.args.nodes.now) c.args.times.now ++ target ∷ []) c.target_of.ensures
    ∙ targets_more c.args.times.now c.args.nodes.now c.loop-position.position no_node c.loop-position-test.true
