use Rattle.redo_line.proofs.CutLemmas.{holds_none}
use Rattle.redo_line.proofs.LineLemmas.{ended-free}
use Rattle.redo_outline.proofs.FirstLines.{after_shorter, first_line}
use Rattle.redo_json.proofs.lines.split_line.Goals as goal

pub returns-in-Some-clause-some : goal.returns-in-Some-clause-some
returns-in-Some-clause-some c = record {
  lines = first_line c.args.lines.now c.in-Some.end c.in-Some.ensures;
  fewer = after_shorter c.args.lines.now c.in-Some.end c.in-Some.ensures;
}

pub returns-in-None-clause-none : goal.returns-in-None-clause-none
returns-in-None-clause-none c = ended-free c.args.lines.now (holds_none c.args.lines.now c.in-None.ensures)
