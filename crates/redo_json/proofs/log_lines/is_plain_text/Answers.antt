use Rattle.std.proofs.Common.{sym, ◌∙◌}
use Rattle.redo_json.proofs.LineLemmas.{text_lines}
use Rattle.redo_json.proofs.StretchLemmas.{plain_stretch}
use Rattle.redo_json.proofs.VerbatimLineLemmas.{ascii_lines}
use Rattle.redo_json.proofs.log_lines.is_plain_text.Goals as goal

pub returns-then-are_verbatim_lines : goal.returns-then-are_verbatim_lines
returns-then-are_verbatim_lines c = λ _. ascii_lines c.args.lines.now (c.are_verbatim_lines.ensures c.if-are_verbatim_lines.true)

pub returns-then-is_text : goal.returns-then-is_text
returns-then-is_text c = λ is. (
  text_lines c.args.lines.now c.requires.complete (sym c.is_text.ensures ∙ c.if-is_text.true),
  plain_stretch c.args.lines.now (c.are_plain_lines.ensures is),
)
