use Rattle.redo_command.proofs.job.write_text.Goals as goal

pub returns-clause-written : goal.returns-clause-written
returns-clause-written g c = c.write_rendered.ensures.written

pub returns-clause-reportable : goal.returns-clause-reportable
returns-clause-reportable g c = c.write_rendered.ensures.reportable

pub returns-clause-nonzero_status : goal.returns-clause-nonzero_status
returns-clause-nonzero_status g c = c.write_rendered.ensures.nonzero_status
