use Rattle.std.proofs.Common.{true≢false, is_some, refl, sym, ap, ◌∙◌, subst}
use Rattle.std.proofs.lemmas.Result.{err_from_is_err_and}
use Rattle.redo_view.specs.Expansion.{append_event, request_event}
use Rattle.redo_view.specs.Private.Branches.{show_target_unless}
use Rattle.redo_view.specs.Private.Progress.{ShowedOrFailed}
use Rattle.redo_view.specs.Private.Viewing.{rendering_of}
use Rattle.redo_view.proofs.Targets.{target_again, line_stopped, line_written}
use Rattle.redo_view.proofs.Flags.{flag_is}
use Rattle.redo_view.proofs.Openings.{looked_up-listed}
use Rattle.redo_view.proofs.Walking.{context_then, same_context}
use Rattle.redo_view.proofs.viewer.Viewer.show_target.Goals as goal

pub unreachable-requires : goal.unreachable-requires
unreachable-requires g c =
    true≢false (sym c.requires.known ∙ sym (looked_up-listed c.args.name.now c.args.self.now.logs.now.logs)
    ∙ ap is_some (sym c.find.ensures ∙ c.in_default.is))

pub returns-then-index : goal.returns-then-index
returns-then-index g c = record {
  context = same_context refl refl refl refl;
  shows = λ first state has.
      let looked_up = sym c.find.ensures ∙ c.in-Some.is in
      let was = flag_is c.args.self.now.logs.now c.args.self.now.visited.now state has.flags c.args.name.now c.in-Some.number
      c.index.result.now c.requires.fits looked_up c.index.ensures in
      target_again g.F.Form.bytes g.F.Form.after c.args.self.now.logs.now c.args.self.now.options c.args.name.now first _
      c.args.self.now.visited.now state has (sym was ∙ c.if-index.true);
}

pub returns-in_err-show_event : goal.returns-in_err-show_event
returns-in_err-show_event g c =
    let given = err_from_is_err_and c.from_residual.result c.from_residual.ensures.1 in
    let stopped = c.in_err-show_event.ensures in
    rw (given.1, given.2) record {
      context = stopped.context;
      shows = λ first state has.
          let looked_up = sym c.find.ensures ∙ c.in-Some.is in
          let was = flag_is c.args.self.now.logs.now c.args.self.now.visited.now state has.flags c.args.name.now c.in-Some.number
          c.index.result.now c.requires.fits looked_up c.index.ensures in
          line_stopped g.F.Form.bytes g.F.Form.after c.args.self.now.logs.now c.args.self.now.options c.args.name.now first _
          c.args.self.now.visited.now state has c.in-Some.number looked_up (sym was ∙ c.if-index.false)
          (rendering_of g.W.Sink.written c.show_event.new.self) c.show_event.new.self.visited.now c.in_err-show_event.field-0.0
          stopped.event;
    }

pub returns : goal.returns
returns g c =
    let line = c.in_ok-show_event.ensures in
    let logs = line.context.logs in
    let options = line.context.options in record {
      context = context_then line.context c.show_log.ensures.context;
      shows = λ first state has.
          let looked_up = sym c.find.ensures ∙ c.in-Some.is in
          let was = flag_is c.args.self.now.logs.now c.args.self.now.visited.now state has.flags c.args.name.now c.in-Some.number
          c.index.result.now c.requires.fits looked_up c.index.ensures in
          let written = line_written g.F.Form.bytes g.F.Form.after c.args.self.now.logs.now c.args.self.now.options c.args.name.now first _
          c.args.self.now.visited.now state has c.in-Some.number looked_up _ line.event in
          let requested = append_event (request_event c.show_event.new.self.logs.now.logs c.args.name.now) state in
          subst (λ opened. ShowedOrFailed g.F.Form.bytes g.F.Form.after c.args.self.now.logs.now first
          (rendering_of g.W.Sink.written c.show_log.new.self) c.show_log.new.self.visited.now
          (show_target_unless c.args.self.now.logs.now.logs c.args.self.now.options opened c.args.name.now state) c.show_log.result)
          (sym c.if-index.false ∙ was)
          (rw (sym logs, sym options) (c.show_log.ensures.shows c.args.name.now first requested (rw logs looked_up)
          (rw (logs, line.visited) written)));
    }
