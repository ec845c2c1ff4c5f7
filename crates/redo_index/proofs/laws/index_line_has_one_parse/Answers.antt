use Rattle.redo_line.proofs.LogLemmas.{if_some}
use Rattle.redo_index.specs.Index.{IsIndexLine, parse_line}
use Rattle.redo_index.proofs.LineForm.{parse_line_is_sound, parse_line_is_complete}
use Rattle.redo_index.proofs.laws.index_line_has_one_parse.Goals as goal

pub returns-clause-is : goal.returns-clause-is
returns-clause-is c line = if_some (parse_line line) (IsIndexLine line) (parse_line_is_sound line)

pub returns-clause-only : goal.returns-clause-only
returns-clause-only c = parse_line_is_complete
