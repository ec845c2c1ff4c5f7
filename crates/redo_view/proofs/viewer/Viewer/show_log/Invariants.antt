use Rattle.redo_view.proofs.Walking.{Stands, work}
use Rattle.redo_view.proofs.viewer.Viewer.show_log.Given as goal

-- The events shown so far, and the rest of the frames.
abbrev pub invariant-entries : goal.invariant-entries
invariant-entries g l = Stands g.F.Form.bytes g.F.Form.after g.W.Sink.written l.number l.fn.self l.self l.outer.items l.frame

-- Each step shows an entry, opens a log or leaves a log.
abbrev pub decreases-entries : goal.decreases-entries
decreases-entries g l = work l.self.logs.now.logs l.self.visited.now.opened.items l.outer.items l.frame
