use Rattle.redo_json.proofs.DiagnosticLemmas.{error_text, fatal_text, warning_text}
use Rattle.redo_json.proofs.WritingLemmas.{writes_as}
use Rattle.redo_json.proofs.diagnostics.write_severity.Goals as goal

pub returns-in-Warning : goal.returns-in-Warning
returns-in-Warning g c = writes_as _ _ _ _ _ (warning_text c.args.severity c.in-Warning.is) c.push_all.ensures

pub returns-in-Error : goal.returns-in-Error
returns-in-Error g c = writes_as _ _ _ _ _ (error_text c.args.severity c.in-Error.is) c.push_all-in-Error.ensures

pub returns-in-FatalError : goal.returns-in-FatalError
returns-in-FatalError g c = writes_as _ _ _ _ _ (fatal_text c.args.severity c.in-FatalError.is) c.push_all-in-FatalError.ensures
