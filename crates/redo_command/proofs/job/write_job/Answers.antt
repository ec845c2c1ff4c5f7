use Rattle.std.proofs.Common.{inl, inr, refl}
use Rattle.redo_command.proofs.job.write_job.Goals as goal

pub returns-in_err-read-clause-written : goal.returns-in_err-read-clause-written
returns-in_err-read-clause-written g c = inl (c.from_residual.ensures.1, refl)

pub returns-in_err-facts-clause-written : goal.returns-in_err-facts-clause-written
returns-in_err-facts-clause-written g c = inl (c.from_residual-in_err-facts.ensures.1, refl)

pub returns-clause-written : goal.returns-clause-written
returns-clause-written g c =
    inr (
      _,
      c.in_ok-facts.ensures.facts,
      c.in_ok-read.read,
      c.in_ok-read.ensures,
      c.write_with.ensures.written (g.F.OpenLog.known c.args.files.now) c.in_ok-facts.ensures.given,
    )
