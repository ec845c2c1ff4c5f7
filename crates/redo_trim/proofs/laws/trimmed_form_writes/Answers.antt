use Rattle.redo_trim.proofs.FormLemmas.{trimmed_bytes, trimmed_state}
use Rattle.redo_trim.proofs.laws.trimmed_form_writes.Goals as goal

pub returns-clause-bytes : goal.returns-clause-bytes
returns-clause-bytes g c = trimmed_bytes g.F.Form.bytes g.F.Form.after

pub returns-clause-state : goal.returns-clause-state
returns-clause-state g c = trimmed_state g.F.Form.bytes g.F.Form.after
