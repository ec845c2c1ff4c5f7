use Rattle.redo_view.proofs.Targets.{HasShownTargets}
use Rattle.redo_view.proofs.viewer.Viewer.show_targets.Given as goal

-- The first `name-index` targets were shown.
abbrev pub invariant-loop-name : goal.invariant-loop-name
invariant-loop-name g l = HasShownTargets g.F.Form.bytes g.F.Form.after g.W.Sink.written l.requested l.name-index l.fn.self l.self
