use Rattle.std.proofs.Common.{[]}
use Rattle.redo_json.specs.Diagnostics.{placed_from}
use Rattle.redo_json.proofs.DiagnosticLaws.{all_are, ids_are, places_are}
use Rattle.redo_json.proofs.laws.diagnostics_are_of_lines.Goals as goal

pub returns-clause-all : goal.returns-clause-all
returns-clause-all c = λ lines. all_are [] 0 lines

pub returns-clause-positions : goal.returns-clause-positions
returns-clause-positions c = places_are

pub returns-clause-ids : goal.returns-clause-ids
returns-clause-ids c = λ lines. ids_are [] (placed_from 0 lines)
