use Rattle.redo_line.proofs.LogLemmas.{if_some}
use Rattle.redo_facts.specs.Statement.{IsStatement, statement_of}
use Rattle.redo_facts.proofs.StatementLemmas.{statement_found, statement_is}
use Rattle.redo_facts.proofs.laws.line_has_one_statement.Goals as goal

pub returns-clause-is : goal.returns-clause-is
returns-clause-is c line = if_some (statement_of line) (IsStatement line) (statement_is line)

pub returns-clause-only : goal.returns-clause-only
returns-clause-only c = statement_found
