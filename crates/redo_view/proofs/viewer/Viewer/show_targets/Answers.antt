use Rattle.std.proofs.Common.{rules, refl, sym}
use Rattle.std.proofs.lemmas.Result.{err_from_is_err_and}
use Rattle.redo_view.proofs.Targets.{all_shown, fits_still, known_still, one_more_shown, one_stopped}
use Rattle.redo_view.proofs.Rendered.{rendered-nothing}
use Rattle.redo_view.proofs.Walking.{same_context, context_then}
use Rattle.redo_view.proofs.viewer.Viewer.show_targets.Goals as goal

pub loop-name-init : goal.loop-name-init
loop-name-init g c = record {
  context = same_context refl refl refl refl;
  names_differ = c.requires.fits.names_differ;
  table = c.requires.fits.table;
  has = record { flags = c.requires.initial; rendering = rendered-nothing g.F.Form.bytes g.F.Form.after _ };
}

pub show_target-requires-clause-known : goal.show_target-requires-clause-known
show_target-requires-clause-known g c =
    known_still c.loop-name.invariant c.name-item.result c.loop-name-test.true (sym c.name-item.is) c.requires.known

pub show_target-requires-clause-fits : goal.show_target-requires-clause-fits
show_target-requires-clause-fits g c = fits_still c.loop-name.invariant

pub returns-in_err-show_target : goal.returns-in_err-show_target
returns-in_err-show_target g c =
    let given = err_from_is_err_and c.from_residual.result c.from_residual.ensures.1 in
    let stopped = c.in_err-show_target.ensures in
    rw (given.1, given.2) record {
      context = context_then c.loop-name.invariant.context stopped.context;
      events = one_stopped c.loop-name.invariant c.name-item.result c.loop-name-test.true (sym c.name-item.is) stopped;
    }

pub loop-name-preserved : goal.loop-name-preserved
loop-name-preserved g c = one_more_shown c.loop-name.invariant c.name-item.result c.loop-name-test.true
    (sym c.name-item.is) c.in_ok-show_target.ensures

pub returns : goal.returns
returns g c = record { context = c.loop-name.invariant.context; events = all_shown c.loop-name.invariant (search rules) }
