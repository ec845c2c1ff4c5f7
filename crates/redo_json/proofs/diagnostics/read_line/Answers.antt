use Rattle.redo_json.proofs.SimpleLineLemmas.{no_escape}
use Rattle.redo_json.proofs.diagnostics.read_line.Goals as goal

pub read_simple_diagnostic-requires-clause-plain : goal.read_simple_diagnostic-requires-clause-plain
read_simple_diagnostic-requires-clause-plain c = no_escape c.args.line.now (c.requires c.if-is_simple.true).plain

pub read_simple_diagnostic-requires-clause-simple : goal.read_simple_diagnostic-requires-clause-simple
read_simple_diagnostic-requires-clause-simple c = (c.requires c.if-is_simple.true).no_temporary
