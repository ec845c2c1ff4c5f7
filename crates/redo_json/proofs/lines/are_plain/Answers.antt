use Rattle.redo_line.specs.Lines.{ended}
use Rattle.redo_json.proofs.StretchLemmas.{plain_stretch}
use Rattle.redo_json.proofs.lines.are_plain.Goals as goal

pub returns-then-is_plain : goal.returns-then-is_plain
returns-then-is_plain c = λ _. c.is_plain.ensures c.if-is_plain.true (ended c.args.lines.now) c.requires

pub returns : goal.returns
returns c = λ is. plain_stretch c.args.lines.now (c.are_plain_lines.ensures is)
