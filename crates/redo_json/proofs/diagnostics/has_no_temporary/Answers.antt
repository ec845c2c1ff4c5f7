use Rattle.std.proofs.Common.{ap, ◌∙◌}
use Rattle.std.specs.Prelude.{not}
use Rattle.redo_json.proofs.SimpleLineLemmas.{never_found}
use Rattle.redo_json.proofs.diagnostics.has_no_temporary.Goals as goal

pub returns : goal.returns
returns c = λ is. never_found c.args.line.now c.find.result c.find.ensures (c.is_none.ensures ∙ ap not is)
